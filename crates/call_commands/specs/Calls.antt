-- A call with its arguments as text, and how it ends.
use Rattle.std.specs.Prelude.{◌≡◌, ◌⊎◌, ℕ, Bool, true, false, List, Option, Some, None, Result, Ok, Err}
use Rattle.giop.specs.Made.{given}
use Rattle.call_client.specs.declared.fault.CallFault.{CallFault}
use Rattle.call_client.specs.declared.fault.CallFault.TheVariants.{NotARequest}
use Rattle.giop_messages.specs.declared.fault.GiopFault.TheVariants.{NoMemory}
use Rattle.call_client.specs.declared.request.Request.{Request}
use Rattle.reference_texts.specs.References.{Reference}
use Rattle.command_texts.specs.Bodies.{IsTapeOfText, SaysNone}
use Rattle.command_texts.specs.Outcomes.{called}
use Rattle.command_texts.specs.declared.call_texts.outcome.Outcome.{Outcome}
use Rattle.command_texts.specs.declared.call_texts.outcome.Outcome.TheVariants as outcomes
use Rattle.call_client.specs.Lines.{Line}
use Rattle.call_client.specs.Talks.{Telling, asking}
use Rattle.call_commands.specs.Followed.{IsFollowed}
use Rattle.call_commands.specs.Choices.{Choice, chosen}
use Rattle.call_commands.specs.declared.ask.TextCall.{TextCall}
use Rattle.call_commands.specs.declared.ask.CallTypes.{CallTypes}
use Rattle.call_commands.specs.declared.ending.Ending.{Ending}
use Rattle.call_commands.specs.declared.ending.Ending.TheVariants.{Returned, Raised, Failed, Sent}
use Rattle.call_commands.specs.declared.fault.CallRefusal.{CallRefusal}
use Rattle.call_commands.specs.declared.fault.CallRefusal.TheVariants.{NoOperation, Unsaid, Unanswered, Readdressed}

-- which answers a request wants: none of a oneway operation, else all (response_flags)
abbrev pub flags : Bool → ℕ
flags true = 0
flags false = 3

-- the request of an operation as it is asked for; of which object, its profile says
pub record IsRequestOf (choice : Choice) (ask : TextCall) (request : Request) : Type 0 where
  pub order_is : request.order ≡ ask.order
  pub id_is : request.id ≡ ask.id
  pub flags_is : request.flags ≡ flags choice.oneway
  pub operation_is : request.operation.now ≡ choice.name

-- It was sent with the arguments that the text says, and followed to where the object is.
pub record IsSaid (Told Told' : Telling) (choice : Choice) (ask : TextCall) (reference : Reference) (lines : List Line)
    (result : Result (Option Outcome) CallFault) (lines' : List Line) : Type 0 where
  pub tape : List ℕ
  pub arguments : IsTapeOfText choice.labels choice.model.graph choice.request ask.value.now tape
  pub request : Request
  pub request_is : IsRequestOf choice ask request
  pub followed : IsFollowed Told Told' (asking request (Some (given choice.model.graph choice.request tape)) ask.reads)
      (called choice.model choice.labels choice.reply choice.exceptions) reference lines result lines'

abbrev pub outcome_of : Ending → Option Outcome
outcome_of (Returned text) = Some (outcomes.Returned text)
outcome_of (Raised text) = Some (outcomes.Raised text)
outcome_of (Failed exception) = Some (outcomes.Failed exception)
outcome_of Sent = None

abbrev pub IsLastOutcome : Outcome → Type 0
IsLastOutcome (outcomes.Forwarded ior) = ⊥
IsLastOutcome outcome = Unit {0}

-- the ending of an outcome
abbrev pub IsEnding : Outcome → Result Ending CallRefusal → Type 0
IsEnding outcome (Ok ending) = outcome_of ending ≡ Some outcome
IsEnding outcome (Err Readdressed) = (disposition : ℕ) × (outcome ≡ outcomes.Readdressed disposition)
IsEnding outcome (Err refusal) = ⊥

-- memory was wanted for the arguments, and nothing was dialled
pub record IsUnstarted (fault : CallFault) (lines lines' : List Line) : Type 0 where
  pub fault_is : fault ≡ NotARequest NoMemory
  pub lines_are : lines' ≡ lines

-- how the call of an operation ends; where it isn't sent, nothing was dialled
abbrev pub IsCarriedOut : Telling → Telling → Choice → TextCall → Reference → List Line → Result Ending CallRefusal
    → List Line → Type 0
IsCarriedOut Told Told' choice ask reference lines (Ok ending) lines' =
    IsSaid Told Told' choice ask reference lines (Ok (outcome_of ending)) lines'
IsCarriedOut Told Told' choice ask reference lines (Err NoOperation) lines' = ⊥
IsCarriedOut Told Told' choice ask reference lines (Err (Unsaid fault)) lines' =
    SaysNone choice.labels choice.model.graph choice.request ask.value.now × (lines' ≡ lines)
IsCarriedOut Told Told' choice ask reference lines (Err (Unanswered fault)) lines' =
    IsUnstarted fault lines lines' ⊎ IsSaid Told Told' choice ask reference lines (Err fault) lines'
IsCarriedOut Told Told' choice ask reference lines (Err Readdressed) lines' =
    (disposition : ℕ)
    × IsSaid Told Told' choice ask reference lines (Ok (Some (outcomes.Readdressed disposition))) lines'

-- the operation that the word names was called
pub record IsCalledBy (Told Told' : Telling) (types : CallTypes) (ask : TextCall) (reference : Reference)
    (lines : List Line) (result : Result Ending CallRefusal) (lines' : List Line) : Type 0 where
  pub choice : Choice
  pub chosen_is : chosen types.table.now.model types.names.now reference.type_id ask.operation.now ≡ Some choice
  pub is : IsCarriedOut Told Told' choice ask reference lines result lines'

-- the word names none, and nothing was dialled
pub record IsNameless (types : CallTypes) (ask : TextCall) (reference : Reference)
    (lines lines' : List Line) : Type 0 where
  pub none : chosen types.table.now.model types.names.now reference.type_id ask.operation.now ≡ None
  pub lines_are : lines' ≡ lines

abbrev pub IsTextCalled : Telling → Telling → CallTypes → TextCall → Reference → List Line → Result Ending CallRefusal
    → List Line → Type 0
IsTextCalled Told Told' types ask reference lines (Err NoOperation) lines' = IsNameless types ask reference lines lines'
IsTextCalled Told Told' types ask reference lines result lines' =
    IsCalledBy Told Told' types ask reference lines result lines'
