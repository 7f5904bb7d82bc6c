-- How calls end, by their outcomes.
use Rattle.std.proofs.Common.{◌≡◌, List, sym, subst, Option, Some, Result, Ok, Err}
use Rattle.reference_texts.specs.References.{Reference}
use Rattle.command_texts.specs.declared.call_texts.outcome.Outcome.{Outcome}
use Rattle.command_texts.specs.declared.call_texts.outcome.Outcome.TheVariants as outcomes
use Rattle.call_client.specs.Lines.{Line}
use Rattle.call_client.specs.Talks.{Telling}
use Rattle.call_commands.specs.Calls.{IsCarriedOut, IsEnding, IsLastOutcome, IsSaid, IsTextCalled}
use Rattle.call_commands.specs.Choices.{Choice, chosen}
use Rattle.call_commands.specs.declared.ask.TextCall.{TextCall}
use Rattle.call_commands.specs.declared.ask.CallTypes.{CallTypes}
use Rattle.call_commands.specs.declared.ending.Ending.{Ending}
use Rattle.call_commands.specs.declared.fault.CallRefusal.{CallRefusal}
use Rattle.call_commands.specs.declared.fault.CallRefusal.TheVariants.{NoOperation, Unsaid, Unanswered, Readdressed}

module _ (Told Told' : Telling) (choice : Choice) (ask : TextCall) (reference : Reference) (lines lines' : List Line)
  where
    -- the last reply doesn't say that the object is elsewhere
    pub last : (outcome : Outcome) → IsSaid Told Told' choice ask reference lines (Ok (Some outcome)) lines'
        → IsLastOutcome outcome
    last (outcomes.Forwarded ior) said = said.followed.ends
    last (outcomes.Returned text) said = tt
    last (outcomes.Raised text) said = tt
    last (outcomes.Failed exception) said = tt
    last (outcomes.Readdressed disposition) said = tt

    pub ended : (outcome : Outcome) (result : Result Ending CallRefusal) → IsEnding outcome result
        → IsSaid Told Told' choice ask reference lines (Ok (Some outcome)) lines'
        → IsCarriedOut Told Told' choice ask reference lines result lines'
    ended outcome (Ok ending) is said =
        subst (λ (o : Option Outcome). IsSaid Told Told' choice ask reference lines (Ok o) lines') (sym is) said
    ended outcome (Err Readdressed) is said =
        (is.0, subst (λ (o : Outcome). IsSaid Told Told' choice ask reference lines (Ok (Some o)) lines') is.1 said)
    ended outcome (Err refusal) is said = absurd is

    -- the operation is the one that the word names
    pub text_called : (types : CallTypes) (result : Result Ending CallRefusal)
        → chosen types.table.now.model types.names.now reference.type_id ask.operation.now ≡ Some choice
        → IsCarriedOut Told Told' choice ask reference lines result lines'
        → IsTextCalled Told Told' types ask reference lines result lines'
    text_called types (Ok ending) is carried = record { choice = choice; chosen_is = is; is = carried }
    text_called types (Err NoOperation) is carried = absurd carried
    text_called types (Err (Unsaid fault)) is carried = record { choice = choice; chosen_is = is; is = carried }
    text_called types (Err (Unanswered fault)) is carried = record { choice = choice; chosen_is = is; is = carried }
    text_called types (Err Readdressed) is carried = record { choice = choice; chosen_is = is; is = carried }
