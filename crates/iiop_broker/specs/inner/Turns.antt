-- One piece or message at the front of a stream.
use Rattle.std.specs.Prelude.{◌≡◌, ℕ, ◌<◌, ◌≤◌, true, false, List, [], length, drop, Option, Some}
use Rattle.broker_answers.specs.Streams.{cut, cut_of, Open}
use Rattle.broker_answers.specs.declared.serving.Answer.{Answer}
use Rattle.broker_answers.specs.Servants.{Acting}
use Rattle.broker_answers.specs.Objects.{Served}
use Rattle.broker_answers.specs.Serving.{ServesRaw}
use Rattle.iiop_broker.specs.declared.front.Turn.{Turn}
use Rattle.iiop_broker.specs.declared.front.Turn.TheVariants as turns
use Rattle.iiop_broker.specs.inner.Progress.{Progress, Ended}

-- a part of the stream
pub record IsPart (octets : List ℕ) (len : ℕ) : Type 0 where
  pub some : 0 < len
  pub within : len ≤ length octets

-- what an answer leads to
abbrev pub IsTurnOf : Answer → Option (List ℕ) → ℕ → Turn → Type 0
IsTurnOf answer kept len (turns.Waits run) = ⊥
IsTurnOf answer kept len (turns.Goes run n octets) =
    (answer.closes ≡ false) × (run ≡ kept) × (n ≡ len) × (octets.items ≡ answer.octets.items)
IsTurnOf answer kept len (turns.Ends octets) = (answer.closes ≡ true) × (octets.items ≡ answer.octets.items)

-- what becomes of it by the answer to a whole message, behind which this run is open
abbrev pub IsServedTurn : {S : Type 0} → Acting S → Served → List ℕ → Option (List ℕ) → ℕ → S → Turn → S → Type 0
IsServedTurn acting served message kept len before (turns.Waits run) after = ⊥
IsServedTurn acting served message kept len before (turns.Goes run n answer) after =
    (run ≡ kept) × (n ≡ len) × ServesRaw acting served (Some message) before answer.items false after
IsServedTurn acting served message kept len before (turns.Ends answer) after =
    ServesRaw acting served (Some message) before answer.items true after

-- what becomes of a stream by it
abbrev pub IsTurned : {S : Type 0} → Acting S → Served → Option (List ℕ) → List ℕ → S → Turn → S → Type 0
IsTurned acting served run octets before (turns.Waits kept) after =
    (cut run octets ≡ cut_of [] (Open kept octets)) × (after ≡ before)
IsTurned acting served run octets before (turns.Goes kept len answer) after =
    IsPart octets len × Progress acting served (cut run octets) (cut kept (drop len octets)) before answer.items after
IsTurned acting served run octets before (turns.Ends answer) after =
    Ended acting served (cut run octets).raws before answer.items after
