-- What is told of a reply.
use Rattle.std.specs.Prelude.{◌≡◌, ℕ, List, Result, Ok, Err}
use Rattle.giop_messages.specs.Messages.{Answered, Answers, Says}
use Rattle.call_client.specs.declared.answer.ReplyBody.{ReplyBody}
use Rattle.call_client.specs.declared.fault.CallFault.{CallFault}
use Rattle.call_client.specs.declared.fault.CallFault.TheVariants as faults
use Rattle.call_client.specs.Answers.{answer_of}

-- the answer that it says; that it says none with the number; or memory was wanted
abbrev pub IsAnswerIn : ℕ → List ℕ → Result ReplyBody CallFault → Type 0
IsAnswerIn id reply (Ok answer) = Says reply (Answers (answer_of answer)) × (answer.id ≡ id)
IsAnswerIn id reply (Err faults.BadReply) =
    (answered : Answered) → Says reply (Answers answered) → answered.id ≡ id → ⊥
IsAnswerIn id reply (Err faults.NoMemory) = Unit {0}
IsAnswerIn id reply (Err fault) = ⊥
