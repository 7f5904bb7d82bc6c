-- One call of the object that a reference names, and what its reply says.
use Rattle.std.specs.Prelude.{◌≡◌, ◌⊎◌, List, [], ◌++◌, Option, Some, None, Result, Ok, Err}
use Rattle.giop_messages.specs.Messages.{Answered}
use Rattle.iiop_broker.specs.Outcomes.{Ends}
use Rattle.call_client.specs.declared.answer.ReplyBody.{ReplyBody}
use Rattle.call_client.specs.declared.fault.CallFault.{CallFault}
use Rattle.call_client.specs.declared.fault.CallFault.TheVariants.{NoMemory, NotARequest, OtherBody}
use Rattle.giop_messages.specs.declared.fault.GiopFault.TheVariants as messages
use Rattle.call_client.specs.Answers.{answer_of}
use Rattle.reference_texts.specs.References.{Reference}
use Rattle.reference_listing.specs.Listings.{AreRows, Row}
use Rattle.command_texts.specs.Outcomes.{Called, HasNoOutcome, IsOutcome}
use Rattle.command_texts.specs.declared.call_texts.outcome.Outcome.{Outcome}
use Rattle.call_client.specs.Lines.{Line}
use Rattle.call_client.specs.Forms.{naming}
use Rattle.call_client.specs.Talks.{Asking, IsCalledBy, Telling}
use Rattle.call_client.specs.declared.object_calls.form.Form.{Form}

-- what a call asks for, and the form in which its object is named
pub record InForm : Type 0 where
  pub asking : Asking
  pub form : Form

abbrev pub in_form : Form → Asking → InForm
in_form form asking = record { asking = asking; form = form }

-- these were handed back, and no others
abbrev pub just : List Ends → Telling
just tos = λ all. all ≡ tos

-- the call by the profiles of the reference; behind these lines came those, and these connections were handed back
pub record IsHop (ask : InForm) (reference : Reference) (lines : List Line)
    (result : Result (Option ReplyBody) CallFault) (lines' : List Line) (tos : List Ends) : Type 0 where
  pub rows : List Row
  pub rows_are : AreRows reference.profiles rows
  pub called : IsCalledBy (just []) (just tos) ask.asking (naming ask.form reference) rows lines result lines'

-- what an answer says; memory may be wanted to read it
abbrev pub IsOutcomeIn : Called → Answered → Result (Option Outcome) CallFault → Type 0
IsOutcomeIn called answered (Ok (Some outcome)) = IsOutcome called answered outcome
IsOutcomeIn called answered (Ok None) = ⊥
IsOutcomeIn called answered (Err OtherBody) = HasNoOutcome called answered
IsOutcomeIn called answered (Err NoMemory) = Unit {0}
IsOutcomeIn called answered (Err fault) = ⊥

-- it was answered, and the answer says this
pub record IsAnswered (ask : InForm) (called : Called) (reference : Reference) (lines : List Line)
    (result : Result (Option Outcome) CallFault) (lines' : List Line) (tos : List Ends) : Type 0 where
  pub answer : ReplyBody
  pub hop : IsHop ask reference lines (Ok (Some answer)) lines' tos
  pub outcome_is : IsOutcomeIn called (answer_of answer) result

-- memory was wanted for the profiles, and nothing was dialled
pub record IsUntried (fault : CallFault) (lines lines' : List Line) (tos : List Ends) : Type 0 where
  pub fault_is : fault ≡ NotARequest messages.NoMemory
  pub lines_are : lines' ≡ lines
  pub tos_are : tos ≡ []

-- how it ends; none is the outcome of a call that wants no answer
abbrev pub IsOnce : InForm → Called → Reference → List Line → Result (Option Outcome) CallFault → List Line
    → List Ends → Type 0
IsOnce ask called reference lines (Ok (Some outcome)) lines' tos =
    IsAnswered ask called reference lines (Ok (Some outcome)) lines' tos
IsOnce ask called reference lines (Ok None) lines' tos = IsHop ask reference lines (Ok None) lines' tos
IsOnce ask called reference lines (Err fault) lines' tos =
    IsUntried fault lines lines' tos ⊎ IsHop ask reference lines (Err fault) lines' tos
    ⊎ IsAnswered ask called reference lines (Err fault) lines' tos

-- By what is told before and after.
pub record IsCalledOnce (Told Told' : Telling) (ask : InForm) (called : Called) (reference : Reference)
    (lines : List Line) (result : Result (Option Outcome) CallFault) (lines' : List Line) : Type 0 where
  pub tos : List Ends
  pub gone : (all : List Ends) → Told all → Told' (all ++ tos)
  pub once : IsOnce ask called reference lines result lines' tos
