-- How it ends to await a reply.
use Rattle.std.specs.Prelude.{◌≡◌, ◌<◌, ◌≤◌, ℕ, Bool, true, List, ◌++◌, length, Option, Result, Ok, Err}
use Rattle.iiop_broker.specs.Ends.{Gives, IsEmpty}
use Rattle.giop_messages.specs.Heard.{Breaks, Ends, Refuses, Waits, heard}
use Rattle.call_client.specs.declared.answer.ReplyBody.{ReplyBody}
use Rattle.call_client.specs.declared.fault.CallFault.{CallFault}
use Rattle.call_client.specs.declared.fault.CallFault.TheVariants as faults
use Rattle.call_client.specs.Answers.{IsAnswered, IsUnreadable, answer_of}

-- these octets were read, of which this holds
pub record AreRead (before : Option (List ℕ)) (So : List ℕ → Type 0) (after : Option (List ℕ)) : Type 0 where
  pub octets : List ℕ
  pub read : Gives before octets after
  pub so : So octets

-- no answer has come
pub record IsUnanswered (id : ℕ) (octets : List ℕ) : Type 0 where
  pub run : Option (List ℕ)
  pub rest : List ℕ
  pub waits : heard id octets ≡ Waits run rest

-- It is so of the octets, and no front of them had an answer: what came with the last of them made it so.
pub record IsBrought (id : ℕ) (So : List ℕ → Type 0) (octets : List ℕ) : Type 0 where
  pub so : So octets
  pub last : (front more : List ℕ) → octets ≡ front ++ more → 0 < length more → IsUnanswered id front

-- no answer came, and then this
pub record IsGivenUp (id : ℕ) (cause : Type 0) (octets : List ℕ) : Type 0 where
  pub unanswered : IsUnanswered id octets
  pub cause_is : cause

-- By what the reader tells before and after: the octets that are left, and whether a read has failed.
abbrev pub IsOutcome : ℕ → ℕ → Option (List ℕ) → Result ReplyBody CallFault → Option (List ℕ) → Bool → Type 0
IsOutcome id reads before (Ok answer) after failure =
    AreRead before (IsBrought id (λ octets. IsAnswered id octets (answer_of answer))) after
IsOutcome id reads before (Err (faults.BadMessage fault)) after failure =
    AreRead before (IsBrought id (λ octets. heard id octets ≡ Breaks fault)) after
IsOutcome id reads before (Err faults.BadReply) after failure = AreRead before (IsBrought id (IsUnreadable id)) after
IsOutcome id reads before (Err faults.MessageError) after failure =
    AreRead before (IsBrought id (λ octets. heard id octets ≡ Refuses)) after
IsOutcome id reads before (Err faults.CloseConnection) after failure =
    AreRead before (IsBrought id (λ octets. heard id octets ≡ Ends)) after
IsOutcome id reads before (Err faults.ReadFailed) after failure =
    AreRead before (IsGivenUp id (failure ≡ true)) after
IsOutcome id reads before (Err faults.EndOfStream) after failure =
    AreRead before (IsGivenUp id (IsEmpty after)) after
IsOutcome id reads before (Err faults.ReadLimit) after failure =
    AreRead before (λ octets. IsUnanswered id octets × (reads ≤ length octets)) after
IsOutcome id reads before (Err faults.NoMemory) after failure = Unit {0}
IsOutcome id reads before (Err fault) after failure = ⊥
