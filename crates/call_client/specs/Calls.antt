-- A request that is sent, and its answer.
use Rattle.std.specs.Prelude.{◌≡◌, ◌≢◌, ◌⊎◌, ℕ, List, ◌++◌, Option, Some, None, Result, Ok, Err}
use Rattle.giop_messages.specs.Written.{Given}
use Rattle.iiop_broker.specs.Ends.{Gives}
use Rattle.iiop_broker.specs.Outcomes.{Ends as StreamEnds}
use Rattle.call_client.specs.declared.answer.ReplyBody.{ReplyBody}
use Rattle.call_client.specs.declared.request.Request.{Request}
use Rattle.call_client.specs.declared.fault.CallFault.{CallFault}
use Rattle.call_client.specs.Answers.{IsAnswered, answer_of}
use Rattle.call_client.specs.Outcomes.{IsBrought, IsOutcome}
use Rattle.call_client.specs.Requests.{IsSending, Sent}

-- It wants an answer, was sent, and this became of awaiting its reply.
pub record IsAwaited (request : Request) (body : Option Given) (reads : ℕ) (before : StreamEnds)
    (outcome : Result ReplyBody CallFault) (after : StreamEnds) : Type 0 where
  pub wants : request.flags ≢ 0
  pub sent : Sent request body before.written after.written
  pub awaited : IsOutcome request.id reads before.left outcome after.left after.unread

-- It wants none and was sent, and nothing was read.
pub record IsSentAlone (request : Request) (body : Option Given) (before after : StreamEnds) : Type 0 where
  pub wants_none : request.flags ≡ 0
  pub sent : Sent request body before.written after.written
  pub unread : after.left ≡ before.left

-- It wasn't sent, and nothing was read.
pub record IsUnsaid (request : Request) (body : Option Given) (before : StreamEnds) (fault : CallFault)
    (after : StreamEnds) : Type 0 where
  pub sending : IsSending request body before.written (Err fault) after.written after.unwritten
  pub unread : after.left ≡ before.left

-- By what the reader and the writer tell before and after. A fault tells which it was: sending ends with faults of its
-- own, and awaiting with others.
abbrev pub IsCalled : Request → Option Given → ℕ → StreamEnds → Result (Option ReplyBody) CallFault → StreamEnds
    → Type 0
IsCalled request body reads before (Ok (Some answer)) after = IsAwaited request body reads before (Ok answer) after
IsCalled request body reads before (Ok None) after = IsSentAlone request body before after
IsCalled request body reads before (Err fault) after =
    IsUnsaid request body before fault after ⊎ IsAwaited request body reads before (Err fault) after

-- These octets answer the first request, no front of them does, and those behind answer the second in the same way.
pub record AreNeighbours (first : ℕ) (a : ReplyBody) (second : ℕ) (b : ReplyBody) (before after : Option (List ℕ))
    : Type 0 where
  pub octets : List ℕ
  pub more : List ℕ
  pub read : Gives before (octets ++ more) after
  pub answers : IsBrought first (λ all. IsAnswered first all (answer_of a)) octets
  pub next : IsBrought second (λ all. IsAnswered second all (answer_of b)) more
