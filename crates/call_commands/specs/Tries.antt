-- Calls that are made once more (ISO/IEC 19500-2, Connection Management): behind CloseConnection a client may take it
-- that the requests that have no reply weren't processed.
use Rattle.std.specs.Prelude.{◌≡◌, ◌⊎◌, Bool, true, false, List, ◌++◌, Option, Result, Err}
use Rattle.iiop_broker.specs.Outcomes.{Ends}
use Rattle.call_client.specs.declared.fault.CallFault.{CallFault}
use Rattle.call_client.specs.declared.fault.CallFault.TheVariants.{CloseConnection}
use Rattle.reference_texts.specs.References.{Reference}
use Rattle.command_texts.specs.Outcomes.{Called}
use Rattle.command_texts.specs.declared.call_texts.outcome.Outcome.{Outcome}
use Rattle.call_client.specs.Lines.{Line}
use Rattle.call_client.specs.Talks.{Telling}
use Rattle.call_commands.specs.Hops.{InForm, IsHop, IsOnce}

-- the server closed the connection by CloseConnection before it answered
abbrev pub closes : Result (Option Outcome) CallFault → Bool
closes (Err CloseConnection) = true
closes result = false

-- one call was made, and it wasn't so
pub record IsUnclosed (ask : InForm) (called : Called) (reference : Reference) (lines : List Line)
    (result : Result (Option Outcome) CallFault) (lines' : List Line) (tos : List Ends) : Type 0 where
  pub unclosed : closes result ≡ false
  pub once : IsOnce ask called reference lines result lines' tos

-- the first was closed so, and this is how the second ended
pub record IsOnceMore (ask : InForm) (called : Called) (reference : Reference) (lines : List Line)
    (result : Result (Option Outcome) CallFault) (lines' : List Line) (tos : List Ends) : Type 0 where
  pub mid : List Line
  pub first : List Ends
  pub second : List Ends
  pub tos_are : tos ≡ first ++ second
  pub closed : IsHop ask reference lines (Err CloseConnection) mid first
  pub again : IsOnce ask called reference mid result lines' second

abbrev pub IsTried : InForm → Called → Reference → List Line → Result (Option Outcome) CallFault → List Line
    → List Ends → Type 0
IsTried ask called reference lines result lines' tos =
    IsUnclosed ask called reference lines result lines' tos ⊎ IsOnceMore ask called reference lines result lines' tos

-- By what is told before and after.
pub record IsCalledTwice (Told Told' : Telling) (ask : InForm) (called : Called) (reference : Reference)
    (lines : List Line) (result : Result (Option Outcome) CallFault) (lines' : List Line) : Type 0 where
  pub tos : List Ends
  pub gone : (all : List Ends) → Told all → Told' (all ++ tos)
  pub tried : IsTried ask called reference lines result lines' tos
