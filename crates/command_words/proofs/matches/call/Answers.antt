use Rattle.std.proofs.Common.{◌∙◌, codes, refl}
use Rattle.clap.specs.Words.{found_of}
use Rattle.clap.proofs.WalkLemmas.{first_value-rows}
use Rattle.command_words.proofs.Calls.{found_is, not_lost, number_is, order_is}
use Rattle.command_words.proofs.matches.call.Goals as goal

pub returns-in_err-get_str : goal.returns-in_err-get_str
returns-in_err-get_str c ask tells =
    absurd (not_lost (found_of c.args.words.now) (codes "T") ask.table c.in_err-get_str.ensures tells.table)

pub returns-in_err-get_str-2 : goal.returns-in_err-get_str-2
returns-in_err-get_str-2 c ask tells =
    absurd (not_lost (found_of c.args.words.now) (codes "IOR") ask.reference c.in_err-get_str-2.ensures tells.reference)

pub returns-in_err-get_str-3 : goal.returns-in_err-get_str-3
returns-in_err-get_str-3 c ask tells =
    absurd (not_lost (found_of c.args.words.now) (codes "OP") ask.operation c.in_err-get_str-3.ensures tells.operation)

pub returns : goal.returns
returns c ask tells =
    let found = found_of c.args.words.now in
    let table = found_is found (codes "T") _ ask.table c.in_ok-get_str.ensures tells.table in
    let reference = found_is found (codes "IOR") _ ask.reference c.in_ok-get_str-2.ensures tells.reference in
    let operation = found_is found (codes "OP") _ ask.operation c.in_ok-get_str-3.ensures tells.operation in
    let value = c.get_str-4.ensures ∙ first_value-rows found (codes "VALUE") ∙ tells.value in
    let order = order_is found ask.order c.order_in-order.result tells.order c.order_in-order.ensures in
    let wait = number_is found (codes "wait") 30 ask.wait c.number_in-wait.result tells.wait
    c.number_in-wait.ensures.some c.number_in-wait.ensures.none in
    let repeat = number_is found (codes "repeat") 1 ask.repeat c.number_in-repeat.result tells.repeat
    c.number_in-repeat.ensures.some c.number_in-repeat.ensures.none in
    rw (table, reference, operation, value, order, wait, repeat) refl
