use Rattle.std.proofs.Common.{ap, codes, sym, ◌∙◌, Some}
use Rattle.clap.specs.Words.{found_of, rows_of}
use Rattle.command_words.specs.Ask.{Asked, Call}
use Rattle.command_words.proofs.ByCommand.{by_call, named}
use Rattle.command_words.proofs.matches.said_in.Goals as goal

pub returns-in_err-call-in-call-clause-asked : goal.returns-in_err-call-in-call-clause-asked
returns-in_err-call-in-call-clause-asked c asked name_is tells =
    by_call (rows_of (found_of c.args.words.now)) asked (named (codes "call") asked (sym c.in-call.is ∙ name_is)) tells
    (λ ask is told. absurd (c.in_err-call-in-call.ensures ask told))

pub returns-in_ok-call-in-call-clause-asked : goal.returns-in_ok-call-in-call-clause-asked
returns-in_ok-call-in-call-clause-asked c asked name_is tells =
    by_call (rows_of (found_of c.args.words.now)) asked (named (codes "call") asked (sym c.in-call.is ∙ name_is)) tells
    (λ ask is told. ap (λ (a : Asked). Some a) (ap Call (c.in_ok-call-in-call.ensures ask told) ∙ sym is))
