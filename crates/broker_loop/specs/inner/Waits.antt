-- Since when a connection waits.
use Rattle.std.specs.Prelude.{◌≡◌, ℕ, ◌+◌, ◌≤◌, Bool, true, false, List, Option, Some, None}
use Rattle.broker_loop.specs.declared.limits.Standing.{Standing}
use Rattle.broker_loop.specs.declared.limits.Waits.{Waits}
use Rattle.broker_loop.specs.declared.listener.Limit.{Limit}
use Rattle.broker_loop.specs.declared.listener.Limit.TheVariants.{Silence, Message, Answer}
use Rattle.broker_loop.specs.Limits.{Deed, IsSince}

-- since when it holds that held since then
abbrev pub since_of : Option ℕ → Bool → ℕ → Option ℕ
since_of before false now = None
since_of (Some time) true now = Some time
since_of None true now = Some now

abbrev pub IsOver : ℕ → ℕ → Option ℕ → Type 0
IsOver idle now (Some time) = time + idle ≤ now
IsOver idle now None = ⊥

abbrev pub unwaited : Waits
unwaited = record { silent = None; begun = None; untaken = None }

abbrev pub later : Waits → Standing → ℕ → Waits
later waits standing now = record {
  silent = since_of waits.silent standing.silent now;
  begun = since_of waits.begun standing.begun now;
  untaken = since_of waits.untaken standing.untaken now;
}

abbrev pub IsPassed : ℕ → ℕ → Waits → Limit → Type 0
IsPassed idle now waits Silence = IsOver idle now waits.silent
IsPassed idle now waits Message = (waits.untaken ≡ None) × IsOver idle now waits.begun
IsPassed idle now waits Answer = IsOver idle now waits.untaken

-- it tells since when it holds, or that it doesn't
abbrev pub Tells : (List Deed → Type 0) → List Deed → Option ℕ → Type 0
Tells Holds deeds None = (time : ℕ) → IsSince Holds time deeds → ⊥
Tells Holds deeds (Some time) = IsSince Holds time deeds
