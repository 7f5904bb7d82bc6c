-- Calls by the profiles of references.
use Rattle.std.proofs.Common.{◌≡◌, ℕ, suc, ◌+◌, ◌<◌, List, [], ◌∷◌, ◌++◌, length, take, drop, get_or, sym, ap, ◌∙◌, subst, append_assoc, append-nil, true, false, inl, inr, Option, Result, Ok, Err}
use Rattle.std.specs.declared.vec.Vec.{Vec}
use Rattle.std.specs.declared.alloc.Global.{Global}
use Rattle.iiop_broker.specs.Outcomes.{Ends}
use Rattle.call_client.specs.declared.answer.ReplyBody.{ReplyBody}
use Rattle.call_client.specs.declared.fault.CallFault.{CallFault}
use Rattle.call_client.specs.declared.fault.CallFault.TheVariants.{NeedsAddressingMode, NotARequest, NotReached}
use Rattle.giop_messages.specs.declared.fault.GiopFault.TheVariants.{NoMemory}
use Rattle.reference_listing.specs.declared.listing.IiopProfile.{IiopProfile}
use Rattle.reference_listing.specs.declared.listing.ListedProfile.{ListedProfile}
use Rattle.reference_listing.specs.declared.listing.ListedProfile.TheVariants as listed
use Rattle.reference_listing.specs.Listings.{iiop_of, row_of, rows_of}
use Rattle.call_client.specs.Forms.{IsTarget, Naming}
use Rattle.call_client.specs.Lines.{Line, all_missed, made, missed}
use Rattle.type_graph.specs.Value.{Tree}
use Rattle.call_client.specs.Talks.{Asking, IsBefore, IsCalledBy, IsCalledTo, IsGivenUp, IsTalkBy, IsTalkTo, IsTo, IsUnnamed, IsUnnamedBy, IsUnreached, misses}
use Rattle.call_client.proofs.Rows.{missed_next, rows_before, rows_split}

other_faults : NotReached ≡ NeedsAddressingMode → ⊥
other_faults e = cc

module _ (Told Mid Told' : List Ends → Type 0) (ps : List ListedProfile) (i : ℕ) (p : ListedProfile)
    (within : i < length ps) (is : p ≡ get_or ps i p) (lines mid lines' : List Line)
    (vain : IsUnreached Told Mid (all_missed (rows_of (take i ps))) lines mid) where
  pub talked : (ask : Asking) (naming : Naming) (place : ℕ) → place ≡ i → (profile : IiopProfile)
      → p ≡ listed.Iiop profile
      → (result : Result (Option ReplyBody) CallFault)
      → IsTalkTo Mid Told' ask (IsTarget naming place (iiop_of profile)) (iiop_of profile) mid result lines'
      → IsTalkBy Told Told' ask naming (rows_of ps) lines result lines'
  talked ask naming place place_is profile iiop result to = record {
    before = rows_of (take i ps);
    iiop = iiop_of profile;
    behind = rows_of (drop (suc i) ps);
    rows_are = rows_split ps i p within is
        ∙ ap (λ (q : ListedProfile). rows_of (take i ps) ++ row_of q ∷ rows_of (drop (suc i) ps)) iiop;
    talk = record {
      request = to.request;
      to_object = subst (λ (n : ℕ). IsTo (IsTarget naming n (iiop_of profile)) ask.request to.request)
          (place_is ∙ sym (rows_before ps i within)) to.to_object;
      talk = record {
        from = to.talk.from;
        to = to.talk.to;
        lines_are = to.talk.lines_are
            ∙ ap (λ (l : List Line). l ++ made profile.body.host.items profile.body.port to.talk.from ∷ [])
            vain.lines_are;
        gone = λ all told. to.talk.gone all (vain.gone all told);
        called = to.talk.called;
      };
    };
  }

  unnamed : (naming : Naming) (place : ℕ) → place ≡ i → (profile : IiopProfile) → p ≡ listed.Iiop profile
      → (fault : CallFault) → IsUnnamed Mid Told' (IsTarget naming place (iiop_of profile)) [] fault mid lines'
      → IsUnnamedBy Told Told' naming (rows_of ps) fault lines lines'
  unnamed naming place place_is profile iiop fault none = record {
    before = rows_of (take i ps);
    iiop = iiop_of profile;
    behind = rows_of (drop (suc i) ps);
    rows_are = rows_split ps i p within is
        ∙ ap (λ (q : ListedProfile). rows_of (take i ps) ++ row_of q ∷ rows_of (drop (suc i) ps)) iiop;
    unnamed = record {
      fault_is = none.fault_is;
      none = subst (λ (n : ℕ). (target : Tree) → IsTarget naming n (iiop_of profile) target → ⊥)
          (place_is ∙ sym (rows_before ps i within)) none.none;
      unreached = record {
        lines_are = none.unreached.lines_are ∙ append-nil mid ∙ vain.lines_are;
        gone = λ all told. none.unreached.gone all (vain.gone all told);
      };
    };
  }

  given_up : (fault : CallFault) (some : List Line) → misses fault ≡ false → IsBefore Mid Told' fault some [] mid lines'
      → IsGivenUp Told Told' (rows_of ps) fault lines lines'
  given_up NotReached some other more = absurd (cc)
  given_up (NotARequest NoMemory) some other more = record {
    some = all_missed (rows_of (take i ps));
    before = record {
      lines_are = more.lines_are ∙ append-nil mid ∙ vain.lines_are;
      gone = λ all told. more.gone all (vain.gone all told);
    };
  }
  given_up fault some other more = absurd more

  -- it ends with the call by this profile
  pub faulted : (ask : Asking) (naming : Naming) (place : ℕ) → place ≡ i → (profile : IiopProfile)
      → p ≡ listed.Iiop profile
      → (fault : CallFault) → misses fault ≡ false
      → IsCalledTo Mid Told' ask (IsTarget naming place (iiop_of profile)) (iiop_of profile) mid (Err fault) lines'
      → IsCalledBy Told Told' ask naming (rows_of ps) lines (Err fault) lines'
  faulted ask naming place place_is profile iiop fault other (inl before) =
      inl (given_up fault (missed profile.body.host.items profile.body.port ∷ []) other before)
  faulted ask naming place place_is profile iiop fault other (inr (inl none)) =
      inr (inl (unnamed naming place place_is profile iiop fault none))
  faulted ask naming place place_is profile iiop fault other (inr (inr to)) =
      inr (inr (talked ask naming place place_is profile iiop (Err fault) to))

  not_called : (ask : Asking) (Target : Tree → Type 0) (profile : IiopProfile)
      → IsTalkTo Mid Told' ask Target (iiop_of profile) mid (Err NotReached) lines' → ⊥
  not_called ask Target profile to = elim to.talk.called [ inl unsaid ↦ unsaid.sending | inr awaited ↦ awaited.awaited ]

  missed_more : (profile : IiopProfile) → p ≡ listed.Iiop profile
      → IsUnreached Mid Told' (missed profile.body.host.items profile.body.port ∷ []) mid lines'
      → IsUnreached Told Told' (all_missed (rows_of (take (i + 1) ps))) lines lines'
  missed_more profile iiop more = record {
    lines_are = more.lines_are
        ∙ ap (λ (l : List Line). l ++ missed profile.body.host.items profile.body.port ∷ []) vain.lines_are
        ∙ append_assoc lines (all_missed (rows_of (take i ps))) (missed profile.body.host.items profile.body.port ∷ [])
        ∙ ap (λ (l : List Line). lines ++ l)
        (sym (missed_next ps i p within is
        ∙ ap (λ (q : ListedProfile). all_missed (rows_of (take i ps)) ++ all_missed (row_of q ∷ [])) iiop));
    gone = λ all told. more.gone all (vain.gone all told);
  }

  pub missed_one : (ask : Asking) (Target : Tree → Type 0) (profile : IiopProfile) → p ≡ listed.Iiop profile
      → (fault : CallFault) → misses fault ≡ true
      → IsCalledTo Mid Told' ask Target (iiop_of profile) mid (Err fault) lines'
      → IsUnreached Told Told' (all_missed (rows_of (take (i + 1) ps))) lines lines'
  missed_one ask Target profile iiop NotReached other (inl before) = missed_more profile iiop before
  missed_one ask Target profile iiop NotReached other (inr (inl none)) = absurd (other_faults none.fault_is)
  missed_one ask Target profile iiop NotReached other (inr (inr to)) =
      absurd (not_called ask Target profile to)
  missed_one ask Target profile iiop fault other to = absurd (cc)

  pub passed : (tag : ℕ) (octets : Vec ℕ Global) → p ≡ listed.Other tag octets
      → IsUnreached Told Mid (all_missed (rows_of (take (i + 1) ps))) lines mid
  passed tag octets other = record {
    lines_are = vain.lines_are
        ∙ ap (λ (l : List Line). lines ++ l)
        (sym (missed_next ps i p within is
        ∙ ap (λ (q : ListedProfile). all_missed (rows_of (take i ps)) ++ all_missed (row_of q ∷ [])) other
        ∙ append-nil (all_missed (rows_of (take i ps)))));
    gone = vain.gone;
  }
