-- What a servant is asked, and what it says.
use Rattle.std.specs.Prelude.{ℕ, List}
use Rattle.broker_answers.specs.declared.servant.Outcome.{Outcome}
use Rattle.broker_answers.specs.declared.servant.Outcome.TheVariants as outcomes

-- the call of an operation of an object: their places, among the objects and in the model, and the tape of the
-- arguments
pub record Call : Type 0 where
  pub object : ℕ
  pub operation : ℕ
  pub arguments : List ℕ

abbrev pub call_of : ℕ → ℕ → List ℕ → Call
call_of object operation arguments = record { object = object; operation = operation; arguments = arguments }

-- the result with its tape; one of the exceptions of the operation, counted from 0, with the tape of its members; or
-- that nothing serves the operation
pub data Said : Type 0 where
  Done : List ℕ → Said
  Raised : ℕ → List ℕ → Said
  NoImplement : Said

abbrev pub said_of : Outcome → Said
said_of (outcomes.Done tape) = Done tape.items
said_of (outcomes.Raised place tape) = Raised place tape.items
said_of outcomes.NoImplement = NoImplement

-- How a servant acts: what it says to a call in a state, and the state after the call.
pub record Acting (S : Type 0) : Type 0 where
  pub says : S → Call → Said
  pub after : S → Call → S

abbrev pub acts : {S : Type 0} → (S → Call → Said) → (S → Call → S) → Acting S
acts says after = record { says = says; after = after }
