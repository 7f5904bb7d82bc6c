-- What becomes of a stream by what stands at its front.
use Rattle.std.proofs.Common.{◌≡◌, inl, inr, ℕ, Bool, true, false, List, [], ◌∷◌, ◌++◌, take, drop, Option, Some, None, Ok, Err, refl, sym, ap, subst, ◌∙◌, arith}
use Rattle.std.specs.Prelude.{if◌then◌else◌}
use Rattle.std.proofs.lemmas.List.{length-take-le}
use Rattle.giop_messages.specs.declared.fault.FramingFault.{FramingFault}
use Rattle.giop_messages.specs.declared.frame.Frame.{Frame}
use Rattle.giop_messages.specs.Framing.{More, Broken, Piece, Whole, front, added, begun, joined, is_fragment, run_behind}
use Rattle.giop_messages.specs.Runs.{IsFrame, IsFront}
use Rattle.giop.proofs.Frames.{fragment_placed, message_placed, whole_is}
use Rattle.broker_answers.specs.declared.serving.Answer.{Answer}
use Rattle.broker_answers.specs.Streams.{Raw, Cut, cut}
use Rattle.broker_answers.proofs.Cuts.{cut_broken, cut_piece, cut_whole}
use Rattle.broker_answers.specs.Servants.{Acting}
use Rattle.broker_answers.specs.Objects.{Served}
use Rattle.broker_answers.specs.Serving.{ServesRaw}
use Rattle.broker_answers.specs.Answering.{MayMoveRaw}
use Rattle.broker_answers.proofs.ServedLists.{serves_alone, moves_alone}
use Rattle.iiop_broker.specs.declared.front.Turn.{Turn}
use Rattle.iiop_broker.specs.declared.front.Turn.TheVariants as turns
use Rattle.iiop_broker.specs.inner.Progress.{Progress, Ended, Stopped, behind}
use Rattle.iiop_broker.specs.inner.Turns.{IsPart, IsServedTurn, IsTurnOf, IsTurned}

pub piece_turned : {S : Type 0} (acting : Acting S) (served : Served) (run : Option (List ℕ))
    (octets begun rest : List ℕ)
    (before : S) (answer : List ℕ) → front run octets ≡ Piece begun rest → answer ≡ []
    → Progress acting served (cut run octets) (cut (Some begun) rest) before answer before
piece_turned acting served run octets begun rest before answer e none = record {
  done = [];
  cut_is = cut_piece run octets begun rest e;
  serves = (none, refl, refl);
}

pub broken_turned : {S : Type 0} (acting : Acting S) (served : Served) (run : Option (List ℕ)) (octets : List ℕ)
    (fault : FramingFault) (before : S) (answer : List ℕ) → front run octets ≡ Broken fault
    → ServesRaw acting served None before answer true before
    → Ended acting served (cut run octets).raws before answer before
broken_turned acting served run octets fault before answer e one = record {
  done = None ∷ [];
  left = [];
  raws_are = ap (λ (c : Cut). c.raws) (cut_broken run octets fault e);
  serves = serves_alone acting served None before before answer true one;
}

whole_raws : (run : Option (List ℕ)) (octets message : List ℕ) (kept : Option (List ℕ)) (rest : List ℕ)
    → front run octets ≡ Whole message kept rest → (cut run octets).raws ≡ (Some message ∷ []) ++ (cut kept rest).raws
whole_raws run octets message kept rest e = ap (λ (c : Cut). c.raws) (cut_whole run octets message kept rest e)

pub message_turned : {S : Type 0} (acting : Acting S) (served : Served) (run : Option (List ℕ))
    (octets message : List ℕ)
    (kept : Option (List ℕ)) (len : ℕ) (before : S) (turn : Turn) (after : S)
    → front run octets ≡ Whole message kept (drop len octets) → IsPart octets len
    → IsServedTurn acting served message kept len before turn after
    → IsTurned acting served run octets before turn after
message_turned acting served run octets message kept len before (turns.Waits left) after e part h = absurd h
message_turned acting served run octets message kept len before (turns.Goes left n answer) after e part (a, b, one) = (
  subst (IsPart octets) (sym b) part,
  record {
    done = Some message ∷ [];
    cut_is = cut_whole run octets message kept (drop len octets) e
        ∙ ap (λ (r : Option (List ℕ)). behind (Some message ∷ []) (cut r (drop len octets))) (sym a)
        ∙ ap (λ (k : ℕ). behind (Some message ∷ []) (cut left (drop k octets))) (sym b);
    serves = serves_alone acting served (Some message) before after answer.items false one;
  },
)
message_turned acting served run octets message kept len before (turns.Ends answer) after e part one = record {
  done = Some message ∷ [];
  left = (cut kept (drop len octets)).raws;
  raws_are = whole_raws run octets message kept (drop len octets) e;
  serves = serves_alone acting served (Some message) before after answer.items true one;
}

pub stopped_at_once : {S : Type 0} (acting : Acting S) (served : Served) (raws : List Raw) (before after : S)
    → after ≡ before → Stopped acting served raws before after
stopped_at_once acting served raws before after same = record { done = []; left = raws; raws_are = refl; moves = same }

pub message_stopped : {S : Type 0} (acting : Acting S) (served : Served) (run : Option (List ℕ))
    (octets message : List ℕ)
    (kept : Option (List ℕ)) (rest : List ℕ) (before after : S) → front run octets ≡ Whole message kept rest
    → MayMoveRaw acting served (Some message) before after → Stopped acting served (cut run octets).raws before after
message_stopped acting served run octets message kept rest before after e (inl same) =
    stopped_at_once acting served (cut run octets).raws before after same
message_stopped acting served run octets message kept rest before after e (inr moved) = record {
  done = Some message ∷ [];
  left = (cut kept rest).raws;
  raws_are = whole_raws run octets message kept rest e;
  moves = moves_alone acting served (Some message) moved.0 before after moved.1;
}

-- ---- from what is told of the front

pub frame_told : (seen run : Option (List ℕ)) (octets : List ℕ) (told : Option Frame) (frame : Frame) → seen ≡ run
    → told ≡ Some frame → IsFront seen octets (Ok told) → IsFrame run octets frame
frame_told seen run octets told frame s t h =
    subst (λ (r : Option (List ℕ)). IsFrame r octets frame) s
    (subst (λ (o : Option Frame). IsFront seen octets (Ok o)) t h)

pub more_told : (seen run : Option (List ℕ)) (octets : List ℕ) (told : Option Frame) → seen ≡ run → told ≡ None
    → IsFront seen octets (Ok told) → front run octets ≡ More
more_told seen run octets told s t h =
    subst (λ (r : Option (List ℕ)). front r octets ≡ More) s
    (subst (λ (o : Option Frame). IsFront seen octets (Ok o)) t h)

pub broken_told : (seen run : Option (List ℕ)) (octets : List ℕ) (fault : FramingFault) → seen ≡ run
    → IsFront seen octets (Err fault) → front run octets ≡ Broken fault
broken_told seen run octets fault s h = subst (λ (r : Option (List ℕ)). front r octets ≡ Broken fault) s h

pub frame_part : (run : Option (List ℕ)) (octets : List ℕ) (frame : Frame) → IsFrame run octets frame
    → IsPart octets frame.len
frame_part run octets frame f = record {
  some = let whole = f.is.whole in omega (arith, whole, length-take-le frame.len octets f.within);
  within = f.within;
}

-- a piece of the run that is open; with the last one the run is a message
pub fragment_front : (run : Option (List ℕ)) (there octets piece grown : List ℕ) (frame : Frame) (goes_on : Bool)
    → IsFrame run octets frame → is_fragment frame.head.kind ≡ true → run ≡ Some there → piece ≡ take frame.len octets
    → grown ≡ added there piece → frame.head.goes_on ≡ goes_on
    → front run octets ≡ (if goes_on then Piece grown (drop frame.len octets)
    else Whole grown None (drop frame.len octets))
fragment_front run there octets piece grown frame goes_on f e now is more g =
    let rest = drop frame.len octets in
    let message = take frame.len octets in
    let same : added there message ≡ grown = ap (added there) (sym is) ∙ sym more in
    f.front_is
    ∙ fragment_placed run frame.head message rest e
    ∙ ap (λ (r : Option (List ℕ)). joined r frame.head message rest) now
    ∙ ap (λ (b : Bool). if b then Piece (added there message) rest else Whole (added there message) None rest) g
    ∙ ap (λ (l : List ℕ). if goes_on then Piece l rest else Whole l None rest) same

-- the first piece of a run
pub first_front : (run : Option (List ℕ)) (octets piece made : List ℕ) (frame : Frame) → IsFrame run octets frame
    → is_fragment frame.head.kind ≡ false → frame.head.goes_on ≡ true → piece ≡ take frame.len octets
    → made ≡ begun piece
    → front run octets ≡ Piece made (drop frame.len octets)
first_front run octets piece made frame f e g is m =
    f.front_is
    ∙ message_placed run frame.head (take frame.len octets) (drop frame.len octets) true e g
    ∙ ap (λ (l : List ℕ). Piece l (drop frame.len octets)) (ap begun (sym is) ∙ sym m)

-- a message, and the run that is open behind it
pub whole_front : (run : Option (List ℕ)) (octets piece : List ℕ) (kept : Option (List ℕ)) (frame : Frame)
    → IsFrame run octets frame → is_fragment frame.head.kind ≡ false → frame.head.goes_on ≡ false
    → piece ≡ take frame.len octets → kept ≡ run_behind run piece
    → front run octets ≡ Whole piece kept (drop frame.len octets)
whole_front run octets piece kept frame f e g is k =
    whole_is run octets frame f e g
    ∙ ap (λ (l : List ℕ). Whole l (run_behind run l) (drop frame.len octets)) (sym is)
    ∙ ap (λ (r : Option (List ℕ)). Whole piece r (drop frame.len octets)) (sym k)

-- what the answer to a message leads to
pub turn_served : {S : Type 0} (acting : Acting S) (served : Served) (message : List ℕ) (kept : Option (List ℕ))
    (len : ℕ)
    (before after : S) (answer : Answer) (turn : Turn)
    → ServesRaw acting served (Some message) before answer.octets.items answer.closes after
    → IsTurnOf answer kept len turn → IsServedTurn acting served message kept len before turn after
turn_served acting served message kept len before after answer (turns.Waits run) s h = absurd h
turn_served acting served message kept len before after answer (turns.Goes run n octets) s (on, a, b, e) = (
  a,
  b,
  subst (λ (o : List ℕ). ServesRaw acting served (Some message) before o false after) (sym e)
      (subst (λ (k : Bool). ServesRaw acting served (Some message) before answer.octets.items k after) on s),
)
turn_served acting served message kept len before after answer (turns.Ends octets) s (shut, e) =
    subst (λ (o : List ℕ). ServesRaw acting served (Some message) before o true after) (sym e)
    (subst (λ (k : Bool). ServesRaw acting served (Some message) before answer.octets.items k after) shut s)

-- the same for the service and the octets at hand
pub turned_here : {S : Type 0} (acting : Acting S) (served other : Served) (run : Option (List ℕ))
    (octets lent : List ℕ)
    (before : S) (told turn : Turn) (after : S) → other ≡ served → lent ≡ octets → told ≡ turn
    → IsTurned acting other run lent before told after → IsTurned acting served run octets before turn after
turned_here acting served other run octets lent before told turn after s o t h =
    subst (λ (x : Served). IsTurned acting x run octets before turn after) s
    (subst (λ (l : List ℕ). IsTurned acting other run l before turn after) o
    (subst (λ (x : Turn). IsTurned acting other run lent before x after) t h))
