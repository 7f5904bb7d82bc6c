use Rattle.std.proofs.Common.{rules, sym, subst, IfErr, string_bytes}
use Rattle.command_words.specs.Requests.{ask_of}
use Rattle.command_tables.specs.Lines.{HasNoTape}
use Rattle.command_words.specs.declared.requests.value.Way.{Way}
use Rattle.command_words.specs.declared.requests.value.Way.TheVariants.{Decode}
use Rattle.command_texts.specs.Lines.{IsRefusalAt}
use Rattle.command_texts.proofs.Facts.{run_refused}
use Rattle.command_texts.proofs.marshal.answer.Goals as goal

pub returns-in_ok-octets-in-Decode-clause-err : goal.returns-in_ok-octets-in-Decode-clause-err
returns-in_ok-octets-in-Decode-clause-err c =
    let graph = c.args.table.now.model.graph in
    subst (λ (way : Way). IfErr c.decode.result
    (IsRefusalAt way c.args.names.now graph c.args.node (ask_of c.args.request.now c.args.input.now)))
    (sym c.in-Decode.is)
    (run_refused string_bytes Decode c.args.names.now graph c.args.node (ask_of c.args.request.now c.args.input.now)
    (HasNoTape graph c.args.request.now.order c.args.node c.args.request.now.pos c.as_slice.result.now)
    (λ none. record { octets = c.as_slice.result.now; digits_are = search rules; none = none }) c.decode.result
    c.decode.ensures.err)
