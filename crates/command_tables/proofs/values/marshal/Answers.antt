use Rattle.std.proofs.Common.{◌∙◌, List, ℕ, Ok, ap, sym, refl, string_bytes}
use Rattle.command_words.specs.Requests.{ask_of}
use Rattle.command_tables.proofs.AnswerLaws.{bad_digits, line_of, refusal_of}
use Rattle.command_tables.proofs.values.marshal.Goals as goal

pub returns-in-Err-clause-refused : goal.returns-in-Err-clause-refused
returns-in-Err-clause-refused c =
    bad_digits c.args.table.now (ask_of c.args.request.now c.args.hex.now) c.in-Some.node
    ((c.in-Some.ensures.found c.in-Some.node).0 refl) c.in-Err.refusal c.in-Err.ensures.err

pub returns-in-Ok-clause-line : goal.returns-in-Ok-clause-line
returns-in-Ok-clause-line c =
    line_of c.args.table.now (ask_of c.args.request.now c.args.hex.now) c.in-Some.node
    ((c.in-Some.ensures.found c.in-Some.node).0 refl) c.as_slice.result.now
    (c.in-Ok.ensures.ok ∙ ap (λ (xs : List ℕ). Ok xs) (sym c.as_slice.ensures.value)) string_bytes c.answer.result
    c.answer.ensures.ok

pub returns-in-Ok-clause-refused : goal.returns-in-Ok-clause-refused
returns-in-Ok-clause-refused c =
    refusal_of c.args.table.now (ask_of c.args.request.now c.args.hex.now) c.in-Some.node
    ((c.in-Some.ensures.found c.in-Some.node).0 refl) c.as_slice.result.now
    (c.in-Ok.ensures.ok ∙ ap (λ (xs : List ℕ). Ok xs) (sym c.as_slice.ensures.value)) c.answer.result
    c.answer.ensures.err
