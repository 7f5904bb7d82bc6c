-- Calls that were forwarded one after the other.
use Rattle.std.proofs.Common.{◌≡◌, ℕ, ◌+◌, ◌≤◌, List, [], ◌∷◌, ◌++◌, length, refl, sym, ap, ◌∙◌, subst, append_assoc, append-nil, length-append, inl, inr, Option, Some, None, Result, Ok, Err}
use Rattle.iiop_broker.specs.Outcomes.{Ends}
use Rattle.call_client.specs.declared.fault.CallFault.{CallFault}
use Rattle.call_client.specs.declared.fault.CallFault.TheVariants.{TooManyForwards}
use Rattle.reference_texts.specs.References.{Reference, reference_of}
use Rattle.reference_texts.specs.declared.reference.Ior.{Ior}
use Rattle.command_texts.specs.Outcomes.{Called}
use Rattle.command_texts.specs.declared.call_texts.outcome.Outcome.{Outcome}
use Rattle.command_texts.specs.declared.call_texts.outcome.Outcome.TheVariants.{Returned, Raised, Failed, Forwarded, Readdressed}
use Rattle.call_client.specs.Lines.{Line}
use Rattle.call_client.specs.Talks.{Asking}
use Rattle.call_commands.specs.Heeded.{IsCalledHeeding, IsHeeded}
use Rattle.call_commands.specs.Followed.{AreForwarded, At, IsFollowed, IsForwarded, IsLast, start}
use Rattle.call_commands.specs.inner.Underway.{IsUnderway}

-- the call wasn't forwarded
abbrev pub IsOther : Result (Option Outcome) CallFault → Type 0
IsOther (Ok (Some (Forwarded ior))) = ⊥
IsOther result = Unit {0}

pub isnt_forwarded : (outcome : Outcome) → ((ior : Ior) → outcome ≡ Forwarded ior → ⊥) → IsOther (Ok (Some outcome))
isnt_forwarded (Forwarded ior) other = absurd (other ior refl)
isnt_forwarded outcome other = tt

one_more : (ask : Asking) (called : Called) (from : At) (hops : List At) (last to : At)
    → AreForwarded ask called from hops last → IsForwarded ask called last to
    → AreForwarded ask called from (hops ++ to ∷ []) to
one_more ask called from [] last to same step = (subst (λ (a : At). IsForwarded ask called a to) (sym same) step, refl)
one_more ask called from (hop ∷ hops) last to chain step = (chain.0, one_more ask called hop hops last to chain.1 step)

module _ (Told : List Ends → Type 0) (ask : Asking) (called : Called) (reference : Reference) (lines : List Line) where
  pub begun : IsUnderway Told Told ask called reference lines 0 reference lines
  begun = record {
    hops = [];
    last = start reference lines;
    forwarded = refl;
    reference_is = refl;
    lines_are = refl;
    count_is = refl;
    gone = λ all told. subst Told (sym (append-nil all)) told;
  }

  module _ (Mid Told' : List Ends → Type 0) (count : ℕ) (at : Reference) (mid lines' : List Line)
      (under : IsUnderway Told Mid ask called reference lines count at mid) where
    all_gone : (tos : List Ends) → ((all : List Ends) → Mid all → Told' (all ++ tos)) → (all : List Ends) → Told all
        → Told' (all ++ (under.last.tos ++ tos))
    all_gone tos gone all told =
        subst Told' (append_assoc all under.last.tos tos) (gone (all ++ under.last.tos) (under.gone all told))

    here : (tos : List Ends) (result : Result (Option Outcome) CallFault) → IsHeeded ask called at mid result lines' tos
        → IsHeeded ask called under.last.reference under.last.lines result lines' tos
    here tos result tried =
        subst (λ (r : Reference). IsHeeded ask called r under.last.lines result lines' tos) (sym under.reference_is)
        (subst (λ (l : List Line). IsHeeded ask called at l result lines' tos) (sym under.lines_are) tried)

    pub further : (ior : Ior) → IsCalledHeeding Mid Told' ask called at mid (Ok (Some (Forwarded ior))) lines'
        → IsUnderway Told Told' ask called reference lines (count + 1) (reference_of ior) lines'
    further ior step =
        let to : At = record { reference = reference_of ior; lines = lines'; tos = under.last.tos ++ step.tos } in
        record {
          hops = under.hops ++ to ∷ [];
          last = to;
          forwarded = one_more ask called (start reference lines) under.hops under.last to under.forwarded
              (record {
                ior = ior;
                next = refl;
                tos = step.tos;
                tos_are = refl;
                heeded = here step.tos (Ok (Some (Forwarded ior))) step.heeded;
              });
          reference_is = refl;
          lines_are = refl;
          count_is = length-append under.hops (to ∷ []) ∙ ap (λ n. n + 1) under.count_is;
          gone = all_gone step.tos step.gone;
        }

    -- it ends here
    pub ended : (result : Result (Option Outcome) CallFault) → count ≤ 8 → IsOther result
        → IsCalledHeeding Mid Told' ask called at mid result lines'
        → IsFollowed Told Told' ask called reference lines result lines'
    ended result few other step = record {
      hops = under.hops;
      last = under.last;
      forwarded = under.forwarded;
      tos = step.tos;
      gone = all_gone step.tos step.gone;
      ends = by_result result other (here step.tos result step.heeded);
    }
      where
        small : length under.hops ≤ 8
        small = subst (λ n. n ≤ 8) (sym under.count_is) few

        by_result : (r : Result (Option Outcome) CallFault) → IsOther r
            → IsHeeded ask called under.last.reference under.last.lines r lines' step.tos
            → IsLast ask called (length under.hops) under.last r lines' step.tos
        by_result (Ok (Some (Forwarded ior))) other tried = absurd other
        by_result (Ok (Some (Returned text))) other tried = inl (small, tried)
        by_result (Ok (Some (Raised text))) other tried = inl (small, tried)
        by_result (Ok (Some (Failed exception))) other tried = inl (small, tried)
        by_result (Ok (Some (Readdressed disposition))) other tried = inl (small, tried)
        by_result (Ok None) other tried = inl (small, tried)
        by_result (Err fault) other tried = inl (small, tried)

  pub too_many : (Mid : List Ends → Type 0) (at : Reference) (mid : List Line)
      → IsUnderway Told Mid ask called reference lines 9 at mid
      → IsFollowed Told Mid ask called reference lines (Err TooManyForwards) mid
  too_many Mid at mid under = record {
    hops = under.hops;
    last = under.last;
    forwarded = under.forwarded;
    tos = [];
    gone = λ all told. subst (λ (l : List Ends). Mid (all ++ l)) (sym (append-nil under.last.tos))
        (under.gone all told);
    ends = inr (record {
      result_is = refl;
      count_is = under.count_is;
      lines_are = sym under.lines_are;
      tos_are = refl;
    });
  }
