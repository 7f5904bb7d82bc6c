-- Calls that are made once more since the server asked for another form of address (ISO/IEC 19500-2, GIOP message
-- formats: NEEDS_ADDRESSING_MODE).
use Rattle.std.specs.Prelude.{◌≡◌, ◌⊎◌, ℕ, zero, suc, List, ◌++◌, Option, Some, None, Result, Ok}
use Rattle.iiop_broker.specs.Outcomes.{Ends}
use Rattle.call_client.specs.declared.fault.CallFault.{CallFault}
use Rattle.reference_texts.specs.References.{Reference}
use Rattle.command_texts.specs.Outcomes.{Called}
use Rattle.command_texts.specs.declared.call_texts.outcome.Outcome.{Outcome}
use Rattle.command_texts.specs.declared.call_texts.outcome.Outcome.TheVariants.{Readdressed}
use Rattle.call_client.specs.Lines.{Line}
use Rattle.call_client.specs.Talks.{Asking, Telling}
use Rattle.call_client.specs.declared.object_calls.form.Form.{Form}
use Rattle.call_client.specs.declared.object_calls.form.Form.TheVariants as forms
use Rattle.call_commands.specs.Hops.{in_form}
use Rattle.call_commands.specs.Tries.{IsTried}

-- KeyAddr, ProfileAddr, ReferenceAddr (AddressingDisposition)
abbrev pub form_of : ℕ → Option Form
form_of zero = Some forms.Key
form_of (suc zero) = Some forms.Profile
form_of (suc (suc zero)) = Some forms.Reference
form_of disposition = None

-- the form that an answer asks for
abbrev pub asked_in : Result (Option Outcome) CallFault → Option Form
asked_in (Ok (Some (Readdressed disposition))) = form_of disposition
asked_in result = None

-- the object was called by its key, and no form was asked for
pub record IsUnasked (ask : Asking) (called : Called) (reference : Reference) (lines : List Line)
    (result : Result (Option Outcome) CallFault) (lines' : List Line) (tos : List Ends) : Type 0 where
  pub unasked : asked_in result ≡ None
  pub tried : IsTried (in_form forms.Key ask) called reference lines result lines' tos

-- one was, and this is how the call in this form ended
pub record IsInOtherForm (ask : Asking) (called : Called) (reference : Reference) (lines : List Line)
    (result : Result (Option Outcome) CallFault) (lines' : List Line) (tos : List Ends) : Type 0 where
  pub mid : List Line
  pub first : List Ends
  pub second : List Ends
  pub tos_are : tos ≡ first ++ second
  pub answered : Result (Option Outcome) CallFault
  pub form : Form
  pub asked : asked_in answered ≡ Some form
  pub tried : IsTried (in_form forms.Key ask) called reference lines answered mid first
  pub again : IsTried (in_form form ask) called reference mid result lines' second

abbrev pub IsHeeded : Asking → Called → Reference → List Line → Result (Option Outcome) CallFault → List Line
    → List Ends → Type 0
IsHeeded ask called reference lines result lines' tos =
    IsUnasked ask called reference lines result lines' tos ⊎ IsInOtherForm ask called reference lines result lines' tos

-- By what is told before and after.
pub record IsCalledHeeding (Told Told' : Telling) (ask : Asking) (called : Called) (reference : Reference)
    (lines : List Line) (result : Result (Option Outcome) CallFault) (lines' : List Line) : Type 0 where
  pub tos : List Ends
  pub gone : (all : List Ends) → Told all → Told' (all ++ tos)
  pub heeded : IsHeeded ask called reference lines result lines' tos
