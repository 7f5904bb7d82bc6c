-- Calls that are made once more.
use Rattle.std.proofs.Common.{◌≡◌, true, false, List, ◌++◌, refl, subst, append_assoc, inl, inr, Option, Result, Err}
use Rattle.iiop_broker.specs.Outcomes.{Ends}
use Rattle.call_client.specs.declared.fault.CallFault.{CallFault}
use Rattle.call_client.specs.declared.fault.CallFault.TheVariants.{CloseConnection, NotARequest}
use Rattle.giop_messages.specs.declared.fault.GiopFault.TheVariants.{NoMemory}
use Rattle.reference_texts.specs.References.{Reference}
use Rattle.command_texts.specs.Outcomes.{Called}
use Rattle.command_texts.specs.declared.call_texts.outcome.Outcome.{Outcome}
use Rattle.call_client.specs.Lines.{Line}
use Rattle.call_commands.specs.Hops.{InForm, IsCalledOnce, IsHop, IsOnce}
use Rattle.call_commands.specs.Tries.{IsCalledTwice, closes}

-- it is this fault alone
closing : (result : Result (Option Outcome) CallFault) → closes result ≡ true → result ≡ Err CloseConnection
closing (Err CloseConnection) is = refl
closing result is = absurd cc

other_faults : CloseConnection ≡ NotARequest NoMemory → ⊥
other_faults e = cc

-- the call was made, and not answered
closed_hop : (ask : InForm) (called : Called) (reference : Reference) (lines lines' : List Line) (tos : List Ends)
    → IsOnce ask called reference lines (Err CloseConnection) lines' tos
    → IsHop ask reference lines (Err CloseConnection) lines' tos
closed_hop ask called reference lines lines' tos (inl untried) = absurd (other_faults untried.fault_is)
closed_hop ask called reference lines lines' tos (inr (inl hop)) = hop
closed_hop ask called reference lines lines' tos (inr (inr answered)) = absurd answered.outcome_is

module _ (Told Mid Told' : List Ends → Type 0) (ask : InForm) (called : Called) (reference : Reference)
    (lines mid lines' : List Line) (result : Result (Option Outcome) CallFault) where
  -- once was enough
  pub enough : closes result ≡ false → IsCalledOnce Told Told' ask called reference lines result lines'
      → IsCalledTwice Told Told' ask called reference lines result lines'
  enough unclosed once =
      record { tos = once.tos; gone = once.gone; tried = inl (record { unclosed = unclosed; once = once.once }) }

  -- it was closed first
  pub again : (before : Result (Option Outcome) CallFault) → closes before ≡ true
      → IsCalledOnce Told Mid ask called reference lines before mid
      → IsCalledOnce Mid Told' ask called reference mid result lines'
      → IsCalledTwice Told Told' ask called reference lines result lines'
  again before closed first second =
      let one = subst (λ (r : Result (Option Outcome) CallFault). IsCalledOnce Told Mid ask called reference lines r
      mid)
      (closing before closed) first in
      record {
        tos = one.tos ++ second.tos;
        gone = λ all told. subst Told' (append_assoc all one.tos second.tos)
            (second.gone (all ++ one.tos) (one.gone all told));
        tried = inr (record {
          mid = mid;
          first = one.tos;
          second = second.tos;
          tos_are = refl;
          closed = closed_hop ask called reference lines mid one.tos one.once;
          again = second.once;
        });
      }
