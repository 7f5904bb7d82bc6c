-- What one call says, whatever was handed back before.
use Rattle.std.proofs.Common.{List, [], ◌∷◌, ◌++◌, refl, sym, ap, subst, append-nil, inl, inr, Option, Some, None, Result, Ok, Err}
use Rattle.iiop_broker.specs.Outcomes.{Ends}
use Rattle.call_client.specs.declared.answer.ReplyBody.{ReplyBody}
use Rattle.call_client.specs.declared.fault.CallFault.{CallFault}
use Rattle.call_client.specs.declared.fault.CallFault.TheVariants.{NotARequest, NotReached}
use Rattle.giop_messages.specs.declared.fault.GiopFault.TheVariants.{NoMemory}
use Rattle.call_client.specs.Answers.{answer_of}
use Rattle.reference_texts.specs.References.{Reference}
use Rattle.reference_listing.specs.Listings.{AreRows, Row}
use Rattle.command_texts.specs.Outcomes.{Called}
use Rattle.command_texts.specs.declared.call_texts.outcome.Outcome.{Outcome}
use Rattle.call_client.specs.Forms.{Naming, naming}
use Rattle.call_client.specs.Lines.{Line}
use Rattle.call_client.specs.Talks.{Asking, IsCalledBy, IsGivenUp, IsTalkBy}
use Rattle.call_commands.specs.Hops.{InForm, IsCalledOnce, IsHop, IsOnce, IsOutcomeIn, just}

-- what was handed back in a call, and the call as if nothing had been before
record IsFreed (Told Told' : List Ends → Type 0) (ask : Asking) (by_name : Naming) (rows : List Row)
    (lines : List Line) (result : Result (Option ReplyBody) CallFault) (lines' : List Line) : Type 0 where
  tos : List Ends
  gone : (all : List Ends) → Told all → Told' (all ++ tos)
  called : IsCalledBy (just []) (just tos) ask by_name rows lines result lines'

module _ (Told Told' : List Ends → Type 0) (ask : Asking) (by_name : Naming) (rows : List Row)
    (lines lines' : List Line) where
  talked : (result : Result (Option ReplyBody) CallFault) (by : IsTalkBy Told Told' ask by_name rows lines result lines')
      → IsTalkBy (just []) (just (by.talk.talk.to ∷ [])) ask by_name rows lines result lines'
  talked result by = record {
    before = by.before;
    iiop = by.iiop;
    behind = by.behind;
    rows_are = by.rows_are;
    talk = record {
      request = by.talk.request;
      to_object = by.talk.to_object;
      talk = record {
        from = by.talk.talk.from;
        to = by.talk.talk.to;
        lines_are = by.talk.talk.lines_are;
        gone = λ all none. ap (λ (l : List Ends). l ++ by.talk.talk.to ∷ []) none;
        called = by.talk.talk.called;
      };
    };
  }

  nothing_gone : ((all : List Ends) → Told all → Told' all) → (all : List Ends) → Told all → Told' (all ++ [])
  nothing_gone gone all told = subst Told' (sym (append-nil all)) (gone all told)

  given_up : (fault : CallFault) (up : IsGivenUp Told Told' rows fault lines lines')
      → IsFreed Told Told' ask by_name rows lines (Err fault) lines'
  given_up NotReached up = record {
    tos = [];
    gone = nothing_gone up.before.gone;
    called = inl (record {
      some = up.some;
      before = record { lines_are = up.before.lines_are; gone = λ all none. none };
    });
  }
  given_up (NotARequest NoMemory) up = record {
    tos = [];
    gone = nothing_gone up.before.gone;
    called = inl (record {
      some = up.some;
      before = record { lines_are = up.before.lines_are; gone = λ all none. none };
    });
  }
  given_up fault up = absurd up.before

  freed : (result : Result (Option ReplyBody) CallFault) → IsCalledBy Told Told' ask by_name rows lines result lines'
      → IsFreed Told Told' ask by_name rows lines result lines'
  freed (Ok answer) by =
      record { tos = by.talk.talk.to ∷ []; gone = by.talk.talk.gone; called = talked (Ok answer) by }
  freed (Err fault) (inl up) = given_up fault up
  freed (Err fault) (inr (inl by)) = record {
    tos = [];
    gone = nothing_gone by.unnamed.unreached.gone;
    called = inr (inl (record {
      before = by.before;
      iiop = by.iiop;
      behind = by.behind;
      rows_are = by.rows_are;
      unnamed = record {
        fault_is = by.unnamed.fault_is;
        none = by.unnamed.none;
        unreached = record { lines_are = by.unnamed.unreached.lines_are; gone = λ all none. none };
      };
    }));
  }
  freed (Err fault) (inr (inr by)) =
      record { tos = by.talk.talk.to ∷ []; gone = by.talk.talk.gone; called = inr (inr (talked (Err fault) by)) }

-- nothing was done
pub undone : (Told : List Ends → Type 0) (ask : InForm) (called : Called) (reference : Reference) (lines : List Line)
    → IsCalledOnce Told Told ask called reference lines (Err (NotARequest NoMemory)) lines
undone Told ask called reference lines = record {
  tos = [];
  gone = λ all told. subst Told (sym (append-nil all)) told;
  once = inl (record { fault_is = refl; lines_are = refl; tos_are = refl });
}

-- there was no answer
pub unanswered : (Told Told' : List Ends → Type 0) (ask : InForm) (called : Called) (reference : Reference)
    (rows : List Row)
    (lines lines' : List Line) (fault : CallFault) → AreRows reference.profiles rows
    → IsCalledBy Told Told' ask.asking (naming ask.form reference) rows lines (Err fault) lines'
    → IsCalledOnce Told Told' ask called reference lines (Err fault) lines'
unanswered Told Told' ask called reference rows lines lines' fault are by =
    let f = freed Told Told' ask.asking (naming ask.form reference) rows lines lines' (Err fault) by in
    record { tos = f.tos; gone = f.gone; once = inr (inl (record { rows = rows; rows_are = are; called = f.called })) }

-- none was wanted
pub sent : (Told Told' : List Ends → Type 0) (ask : InForm) (called : Called) (reference : Reference) (rows : List Row)
    (lines lines' : List Line) → AreRows reference.profiles rows
    → IsCalledBy Told Told' ask.asking (naming ask.form reference) rows lines (Ok None) lines'
    → IsCalledOnce Told Told' ask called reference lines (Ok None) lines'
sent Told Told' ask called reference rows lines lines' are by =
    let f = freed Told Told' ask.asking (naming ask.form reference) rows lines lines' (Ok None) by in
    record { tos = f.tos; gone = f.gone; once = record { rows = rows; rows_are = are; called = f.called } }

-- there was one
pub answered : (Told Told' : List Ends → Type 0) (ask : InForm) (called : Called) (reference : Reference)
    (rows : List Row)
    (lines lines' : List Line) (answer : ReplyBody) (result : Result (Option Outcome) CallFault)
    → AreRows reference.profiles rows
    → IsCalledBy Told Told' ask.asking (naming ask.form reference) rows lines (Ok (Some answer)) lines'
    → IsOutcomeIn called (answer_of answer) result
    → IsCalledOnce Told Told' ask called reference lines result lines'
answered Told Told' ask called reference rows lines lines' answer result are by says =
    let f = freed Told Told' ask.asking (naming ask.form reference) rows lines lines' (Ok (Some answer)) by in
    let hop : IsHop ask reference lines (Ok (Some answer)) lines' f.tos =
    record { rows = rows; rows_are = are; called = f.called } in
    record { tos = f.tos; gone = f.gone; once = by_result f.tos hop result says }
  where
    by_result : (tos : List Ends) → IsHop ask reference lines (Ok (Some answer)) lines' tos
        → (r : Result (Option Outcome) CallFault)
        → IsOutcomeIn called (answer_of answer) r → IsOnce ask called reference lines r lines' tos
    by_result tos hop (Ok None) none = absurd none
    by_result tos hop (Ok (Some outcome)) is = record { answer = answer; hop = hop; outcome_is = is }
    by_result tos hop (Err fault) is = inr (inr (record { answer = answer; hop = hop; outcome_is = is }))
