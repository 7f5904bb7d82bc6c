use Rattle.std.proofs.Common.{List, ℕ, sym, subst}
use Rattle.giop_messages.specs.Messages.{Answers, Content, Says}
use Rattle.giop_types.proofs.Found.{none_then}
use Rattle.call_client.proofs.answer.read_answer.Goals as goal

pub returns-in-None-clause-refused : goal.returns-in-None-clause-refused
returns-in-None-clause-refused c = λ answered s e.
    none_then c.in_ok-message.field-0 ((content : Content) → Says c.octets.result.now content → ⊥) c.in-None.is
    c.in_ok-message.ensures.refused (Answers answered)
    (subst (λ (l : List ℕ). Says l (Answers answered)) (sym c.octets.ensures) s)
