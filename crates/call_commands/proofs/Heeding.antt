-- Calls that are made once more in another form of address.
use Rattle.std.proofs.Common.{◌≡◌, List, ◌++◌, refl, subst, append_assoc, inl, inr, Option, Some, None, Result}
use Rattle.iiop_broker.specs.Outcomes.{Ends}
use Rattle.call_client.specs.declared.fault.CallFault.{CallFault}
use Rattle.reference_texts.specs.References.{Reference}
use Rattle.command_texts.specs.Outcomes.{Called}
use Rattle.command_texts.specs.declared.call_texts.outcome.Outcome.{Outcome}
use Rattle.call_client.specs.Lines.{Line}
use Rattle.call_client.specs.Talks.{Asking}
use Rattle.call_client.specs.declared.object_calls.form.Form.{Form}
use Rattle.call_client.specs.declared.object_calls.form.Form.TheVariants as forms
use Rattle.call_commands.specs.Hops.{in_form}
use Rattle.call_commands.specs.Tries.{IsCalledTwice}
use Rattle.call_commands.specs.Heeded.{IsCalledHeeding, asked_in}

module _ (Told Mid Told' : List Ends → Type 0) (ask : Asking) (called : Called) (reference : Reference)
    (lines mid lines' : List Line) (result : Result (Option Outcome) CallFault) where
  pub unasked : asked_in result ≡ None
      → IsCalledTwice Told Told' (in_form forms.Key ask) called reference lines result lines'
      → IsCalledHeeding Told Told' ask called reference lines result lines'
  unasked none twice =
      record { tos = twice.tos; gone = twice.gone; heeded = inl (record { unasked = none; tried = twice.tried }) }

  pub heeded : (answered : Result (Option Outcome) CallFault) (form : Form) → asked_in answered ≡ Some form
      → IsCalledTwice Told Mid (in_form forms.Key ask) called reference lines answered mid
      → IsCalledTwice Mid Told' (in_form form ask) called reference mid result lines'
      → IsCalledHeeding Told Told' ask called reference lines result lines'
  heeded answered form asked first second = record {
    tos = first.tos ++ second.tos;
    gone = λ all told. subst Told' (append_assoc all first.tos second.tos)
        (second.gone (all ++ first.tos) (first.gone all told));
    heeded = inr (record {
      mid = mid;
      first = first.tos;
      second = second.tos;
      tos_are = refl;
      answered = answered;
      form = form;
      asked = asked;
      tried = first.tried;
      again = second.tried;
    });
  }
