-- Frames as pieces of runs and as whole messages.
use Rattle.std.proofs.Common.{◌≡◌, ◌⊎◌, inl, inr, ℕ, Bool, true, false, not, List, take, drop, Option, Some, None, IsSomeAnd, refl, sym, ap, ◌∙◌, subst}
use Rattle.std.specs.Prelude.{if◌then◌else◌}
use Rattle.giop_messages.specs.declared.head.Head.{Head}
use Rattle.giop_messages.specs.declared.frame.Frame.{Frame}
use Rattle.giop_messages.specs.Framing.{Piece, Whole, front, placed, joined, begun, added, run_behind, is_fragment, id_in}
use Rattle.giop_messages.specs.Runs.{IsNext, IsFrame}
use Rattle.giop_messages.specs.declared.message.Message.{Message}
use Rattle.giop_messages.specs.Messages.{Content, Says, content_of}
use Rattle.giop.specs.Fronts.{IsPart, IsWhole, IsSilent, with_piece}

-- what stands at the front with a fragment
joined_is : (run : Option (List ℕ)) (head : Head) (piece rest : List ℕ) (goes_on : Bool) → head.goes_on ≡ goes_on
    → IsSomeAnd run (λ there. IsNext there piece)
    → joined run head piece rest ≡ with_piece false (not goes_on) run piece rest
joined_is None head piece rest goes_on e next = absurd next
joined_is (Some there) head piece rest true e next =
    ap (λ (b : Bool). if b then Piece (added there piece) rest else Whole (added there piece) None rest) e
joined_is (Some there) head piece rest false e next =
    ap (λ (b : Bool). if b then Piece (added there piece) rest else Whole (added there piece) None rest) e

pub fragment_placed : (run : Option (List ℕ)) (head : Head) (piece rest : List ℕ) → is_fragment head.kind ≡ true
    → placed run head piece rest ≡ joined run head piece rest
fragment_placed run head piece rest e =
    ap
    (λ (b : Bool). if b then joined run head piece rest
    else if head.goes_on then Piece (begun piece) rest else Whole piece (run_behind run piece) rest)
    e

pub message_placed : (run : Option (List ℕ)) (head : Head) (piece rest : List ℕ) (goes_on : Bool)
    → is_fragment head.kind ≡ false → head.goes_on ≡ goes_on
    → placed run head piece rest
    ≡ (if goes_on then Piece (begun piece) rest else Whole piece (run_behind run piece) rest)
message_placed run head piece rest goes_on e g =
    ap
    (λ (b : Bool). if b then joined run head piece rest
    else if head.goes_on then Piece (begun piece) rest else Whole piece (run_behind run piece) rest)
    e
    ∙ ap (λ (b : Bool). if b then Piece (begun piece) rest else Whole piece (run_behind run piece) rest) g

fragment_found : (run : Option (List ℕ)) (octets : List ℕ) (frame : Frame) (id : ℕ) (goes_on : Bool)
    → IsFrame run octets frame → is_fragment frame.head.kind ≡ true → frame.head.goes_on ≡ goes_on
    → id ≡ id_in (take frame.len octets) → IsPart run octets id false (not goes_on) frame.len
fragment_found run octets frame id goes_on f e g n = record {
  within = f.within;
  id_is = n;
  begins = λ wrong. absurd (cc);
  goes_on = λ wrong. absurd (cc);
  adds = λ _. f.next e;
  front_is = f.front_is ∙ fragment_placed run frame.head (take frame.len octets) (drop frame.len octets) e
      ∙ joined_is run frame.head (take frame.len octets) (drop frame.len octets) goes_on g (f.next e);
}

first_found : (run : Option (List ℕ)) (octets : List ℕ) (frame : Frame) (id : ℕ) → IsFrame run octets frame
    → is_fragment frame.head.kind ≡ false → frame.head.goes_on ≡ true → id ≡ id_in (take frame.len octets)
    → IsPart run octets id true false frame.len
first_found run octets frame id f e g n = record {
  within = f.within;
  id_is = n;
  begins = λ _. f.first e g;
  goes_on = λ _. refl;
  adds = λ wrong. absurd (cc);
  front_is = f.front_is ∙ message_placed run frame.head (take frame.len octets) (drop frame.len octets) true e g;
}

part_told : (run : Option (List ℕ)) (octets : List ℕ) (frame : Frame) (id : ℕ) (fragment goes_on : Bool)
    → IsFrame run octets frame → is_fragment frame.head.kind ≡ fragment → frame.head.goes_on ≡ goes_on
    → (fragment ≡ true) ⊎ (goes_on ≡ true) → id ≡ id_in (take frame.len octets)
    → IsPart run octets id (not fragment) (not goes_on) frame.len
part_told run octets frame id true goes_on f e g b n = fragment_found run octets frame id goes_on f e g n
part_told run octets frame id false true f e g b n = first_found run octets frame id f e g n
part_told run octets frame id false false f e g (inl wrong) n = absurd (cc)
part_told run octets frame id false false f e g (inr wrong) n = absurd (cc)

pub part_found : (run : Option (List ℕ)) (octets lent : List ℕ) (frame : Frame) (id : ℕ) (fragment : Bool)
    → IsFrame run octets frame → fragment ≡ is_fragment frame.head.kind
    → (fragment ≡ true) ⊎ (frame.head.goes_on ≡ true) → lent ≡ take frame.len octets
    → id ≡ id_in lent → IsPart run octets id (not fragment) (not frame.head.goes_on) frame.len
part_found run octets lent frame id fragment f e b l n =
    part_told run octets frame id fragment frame.head.goes_on f (sym e) refl b (n ∙ ap id_in l)

-- ---- whole messages

pub whole_is : (run : Option (List ℕ)) (octets : List ℕ) (frame : Frame) → IsFrame run octets frame
    → is_fragment frame.head.kind ≡ false → frame.head.goes_on ≡ false
    → front run octets
    ≡ Whole (take frame.len octets) (run_behind run (take frame.len octets)) (drop frame.len octets)
whole_is run octets frame f e g =
    f.front_is ∙ message_placed run frame.head (take frame.len octets) (drop frame.len octets) false e g

pub whole_found : (run : Option (List ℕ)) (octets lent : List ℕ) (frame : Frame) (message : Message)
    → IsFrame run octets frame → is_fragment frame.head.kind ≡ false → frame.head.goes_on ≡ false
    → lent ≡ take frame.len octets → Says lent (content_of message) → IsWhole run octets message frame.len
whole_found run octets lent frame message f e g l said = record {
  within = f.within;
  says = subst (λ (m : List ℕ). Says m (content_of message)) l said;
  run_behind = run_behind run (take frame.len octets);
  front_is = whole_is run octets frame f e g;
}

pub silent : (run : Option (List ℕ)) (octets lent : List ℕ) (frame : Frame) → IsFrame run octets frame
    → is_fragment frame.head.kind ≡ false → frame.head.goes_on ≡ false → lent ≡ take frame.len octets
    → ((content : Content) → Says lent content → ⊥) → IsSilent run octets
silent run octets lent frame f e g l none = record {
  taken = frame.len;
  within = f.within;
  run_behind = run_behind run (take frame.len octets);
  front_is = whole_is run octets frame f e g;
  says_nothing = subst (λ (m : List ℕ). (content : Content) → Says m content → ⊥) l none;
}
