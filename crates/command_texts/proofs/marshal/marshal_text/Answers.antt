use Rattle.std.proofs.Common.{refl, string_bytes}
use Rattle.command_words.specs.Requests.{ask_of}
use Rattle.command_texts.proofs.Facts.{line_of, refusal_of}
use Rattle.command_texts.proofs.marshal.marshal_text.Goals as goal

pub returns-clause-line : goal.returns-clause-line
returns-clause-line c =
    line_of string_bytes c.args.table.now c.args.names.now (ask_of c.args.request.now c.args.input.now) c.in-Some.node
    ((c.in-Some.ensures.found c.in-Some.node).0 refl) c.answer.result c.answer.ensures.ok

pub returns-clause-refused : goal.returns-clause-refused
returns-clause-refused c =
    refusal_of string_bytes c.args.table.now c.args.names.now (ask_of c.args.request.now c.args.input.now)
    c.in-Some.node
    ((c.in-Some.ensures.found c.in-Some.node).0 refl) c.answer.result c.answer.ensures.err
