-- Calls that are forwarded.
use Rattle.std.specs.Prelude.{◌≡◌, ◌≤◌, ◌⊎◌, ℕ, List, [], ◌∷◌, ◌++◌, length, Option, Some, Result, Ok, Err}
use Rattle.iiop_broker.specs.Outcomes.{Ends}
use Rattle.call_client.specs.declared.fault.CallFault.{CallFault}
use Rattle.call_client.specs.declared.fault.CallFault.TheVariants.{TooManyForwards}
use Rattle.reference_texts.specs.References.{Reference, reference_of}
use Rattle.reference_texts.specs.declared.reference.Ior.{Ior}
use Rattle.command_texts.specs.Outcomes.{Called}
use Rattle.command_texts.specs.declared.call_texts.outcome.Outcome.{Outcome}
use Rattle.command_texts.specs.declared.call_texts.outcome.Outcome.TheVariants.{Forwarded}
use Rattle.call_client.specs.Lines.{Line}
use Rattle.call_client.specs.Talks.{Asking, Telling}
use Rattle.call_commands.specs.Heeded.{IsHeeded}

-- what stands between two calls: where the object is, and what was dialled and handed back so far
pub record At : Type 0 where
  pub reference : Reference
  pub lines : List Line
  pub tos : List Ends

-- the call at one was answered with where the object is next
pub record IsForwarded (ask : Asking) (called : Called) (from to : At) : Type 0 where
  pub ior : Ior
  pub next : to.reference ≡ reference_of ior
  pub tos : List Ends
  pub tos_are : to.tos ≡ from.tos ++ tos
  pub heeded : IsHeeded ask called from.reference from.lines (Ok (Some (Forwarded ior))) to.lines tos

-- one after the other
abbrev pub AreForwarded : Asking → Called → At → List At → At → Type 0
AreForwarded ask called from [] last = from ≡ last
AreForwarded ask called from (to ∷ more) last = IsForwarded ask called from to × AreForwarded ask called to more last

abbrev pub start : Reference → List Line → At
start reference lines = record { reference = reference; lines = lines; tos = [] }

-- it was elsewhere for the ninth time, and isn't called there
pub record IsTooFar (count : ℕ) (last : At) (result : Result (Option Outcome) CallFault) (lines' : List Line)
    (tos : List Ends) : Type 0 where
  pub result_is : result ≡ Err TooManyForwards
  pub count_is : count ≡ 9
  pub lines_are : lines' ≡ last.lines
  pub tos_are : tos ≡ []

-- how it ends behind so many forwards
abbrev pub IsLast : Asking → Called → ℕ → At → Result (Option Outcome) CallFault → List Line → List Ends → Type 0
IsLast ask called count last (Ok (Some (Forwarded ior))) lines' tos = ⊥
IsLast ask called count last result lines' tos =
    ((count ≤ 8) × IsHeeded ask called last.reference last.lines result lines' tos)
    ⊎ IsTooFar count last result lines' tos

-- The object was called where its reference says; where it was said to be elsewhere there, at most 8 times; and this is
-- what was answered at last.
pub record IsFollowed (Told Told' : Telling) (ask : Asking) (called : Called) (reference : Reference)
    (lines : List Line) (result : Result (Option Outcome) CallFault) (lines' : List Line) : Type 0 where
  pub hops : List At
  pub last : At
  pub forwarded : AreForwarded ask called (start reference lines) hops last
  pub tos : List Ends
  pub gone : (all : List Ends) → Told all → Told' (all ++ (last.tos ++ tos))
  pub ends : IsLast ask called (length hops) last result lines' tos
