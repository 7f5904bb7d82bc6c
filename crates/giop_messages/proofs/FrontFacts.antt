-- The front of a stream, step by step.
use Rattle.std.proofs.Common.{◌≡◌, ℕ, ◌+◌, ◌-◌, ◌%◌, ◌≤◌, Bool, true, false, not, ◌&&◌, ◌||◌, List, [], length, take, drop, refl, sym, ap, ap₂, ◌∙◌, arith}
use Rattle.std.proofs.Common.{Option, Some, None, IsSomeAnd, Ok, nat_eq, nat_lt, if◌then◌else◌}
use Rattle.std.proofs.lemmas.List.{drop_all, take_all}
use Rattle.std.proofs.lemmas.Bool.{eqb-true, le-ltb, ltb-false, not-false, or_parts}
use Rattle.giop_messages.specs.declared.fault.FramingFault.TheVariants.{BadFragment}
use Rattle.giop_messages.specs.declared.head.Head.{Head}
use Rattle.giop_messages.specs.Heads.{head_in, max_size}
use Rattle.giop_messages.specs.Framing.{More, Broken, Piece, Whole, front, front_behind, placed, joined, begun, breaks, is_other, is_fragment, is_cut, breaks_run, same_order, id_in, order_in}
use Rattle.giop_messages.specs.Runs.{IsMessage, IsFirst, IsNext, IsFrame}
use Rattle.giop_messages.proofs.HeadFacts.{message_at}

-- which branch of a test is taken
taken : {A : Type 0} (b : Bool) (x y : A) → b ≡ true → (if b then x else y) ≡ x
taken true x y e = refl
taken false x y e = absurd (cc)

left_out : {A : Type 0} (b : Bool) (x y : A) → b ≡ false → (if b then x else y) ≡ y
left_out true x y e = absurd (cc)
left_out false x y e = refl

true_is_false : true ≡ false → ⊥
true_is_false e = absurd (cc)

not_false : (m n : ℕ) → not (nat_eq m n) ≡ false → m ≡ n
not_false m n e = eqb-true m n (not-false (nat_eq m n) e)

-- 12 octets are there
pub front_of : (run : Option (List ℕ)) (octets : List ℕ) → 12 ≤ length octets
    → front run octets ≡ front_behind run octets (head_in octets)
front_of run octets le =
    left_out (nat_lt (length octets) 12) More (front_behind run octets (head_in octets))
    (le-ltb (length octets) 12 le)

-- what a fragment keeps where it breaks no rule of the run
pub run_kept : (run : List ℕ) (head : Head) → breaks_run run head ≡ false
    → (4 ≤ head.size) × (length run - 12 + (head.size - 4) ≤ max_size)
run_kept run head kept =
    let order = not (same_order (order_in run) head.order) in
    let size = nat_lt max_size (length run - 12 + (head.size - 4)) in
    let p = or_parts (order || is_cut head) size kept in
    let q = or_parts order (is_cut head) p.0 in
    let r = or_parts (nat_lt head.size 4) (head.goes_on && not (nat_eq ((12 + head.size) % 8) 0)) q.1 in
    (ltb-false head.size 4 r.0, ltb-false max_size (length run - 12 + (head.size - 4)) p.1)

pub fragment_kept : (run : Option (List ℕ)) (there : List ℕ) (head : Head) → run ≡ Some there
    → is_fragment head.kind ≡ true → breaks run head ≡ false → breaks_run there head ≡ false
fragment_kept run there head e fragment kept =
    sym (taken (is_fragment head.kind) (breaks_run there head) head.goes_on fragment)
    ∙ sym (ap (λ r. breaks r head) e) ∙ kept

-- it holds the number of its request
pub numbered : (run : Option (List ℕ)) (there : List ℕ) (head : Head) (message : List ℕ) → run ≡ Some there
    → is_fragment head.kind ≡ true → breaks run head ≡ false
    → IsMessage head message → 16 ≤ length message
numbered run there head message e fragment kept is =
    omega (arith, (run_kept there head (fragment_kept run there head e fragment kept)).0, is.whole)

-- a request that fragments follow begins a run
first_piece : (run : Option (List ℕ)) (head : Head) (message : List ℕ) → breaks run head ≡ false
    → IsMessage head message
    → is_fragment head.kind ≡ false → head.goes_on ≡ true → IsFirst message
first_piece None head message kept is request on =
    let p = or_parts (is_fragment head.kind) (head.goes_on && is_cut head) kept in
    record { head = head; is = is; request = request; goes_on = on; uncut = sym (ap (λ b. b && is_cut head) on) ∙ p.1 }
first_piece (Some there) head message kept is request on =
    absurd (true_is_false
    (sym on ∙ sym (left_out (is_fragment head.kind) (breaks_run there head) head.goes_on request) ∙ kept))

-- a fragment is the next piece of the run
next_piece : (run : Option (List ℕ)) (head : Head) (message : List ℕ) → breaks run head ≡ false → IsMessage head message
    → is_other run head message ≡ false → is_fragment head.kind ≡ true → IsSomeAnd run (λ there. IsNext there message)
next_piece None head message kept is same fragment =
    absurd (true_is_false (sym fragment ∙ (or_parts (is_fragment head.kind) (head.goes_on && is_cut head) kept).0))
next_piece (Some there) head message kept is same fragment =
    record {
      head = head;
      is = is;
      fragment = fragment;
      kept = fragment_kept (Some there) there head refl fragment kept;
      same = not_false (id_in message) (id_in there)
          (sym (ap (λ b. b && not (nat_eq (id_in message) (id_in there))) fragment) ∙ same);
    }

-- a whole message that breaks no rule
pub whole_front : (run : Option (List ℕ)) (octets : List ℕ) (head : Head) → 12 ≤ length octets
    → head_in octets ≡ Ok head → breaks run head ≡ false
    → 12 + head.size ≤ length octets → is_other run head (take (12 + head.size) octets) ≡ false
    → IsFrame run octets record { head = head; len = 12 + head.size }
whole_front run octets head le e kept within same =
    let message = take (12 + head.size) octets in
    let is = message_at head octets e within in
    let here = placed run head message (drop (12 + head.size) octets) in
    let told = if is_other run head message then Broken BadFragment else here in
    record {
      within = within;
      is = is;
      first = first_piece run head message kept is;
      next = next_piece run head message kept is same;
      front_is = front_of run octets le ∙ ap (front_behind run octets) e
          ∙ left_out (breaks run head) (Broken BadFragment)
          (if nat_lt (length octets) (12 + head.size) then More else told) kept
          ∙ left_out (nat_lt (length octets) (12 + head.size)) More told
          (le-ltb (length octets) (12 + head.size) within)
          ∙ left_out (is_other run head message) (Broken BadFragment) here same;
    }

-- A message that is whole, and no fragment, and that no fragments follow stands at its own front.
pub own_front : (head : Head) (message : List ℕ) → IsMessage head message → is_fragment head.kind ≡ false
    → head.goes_on ≡ false → front None message ≡ Whole message None []
own_front head message is plain off =
    let n = 12 + head.size in
    let all : take n message ≡ message = take_all n message (omega (arith, is.whole)) in
    let none : drop n message ≡ [] = drop_all n message (omega (arith, is.whole)) in
    let here = placed None head (take n message) (drop n message) in
    front_of None message (omega (arith, is.whole)) ∙ ap (front_behind None message) is.head_is
    ∙ left_out (breaks None head) (Broken BadFragment) (if nat_lt (length message) n then More else here)
    (ap (λ b. b || (head.goes_on && is_cut head)) plain ∙ ap (λ b. b && is_cut head) off)
    ∙ left_out (nat_lt (length message) n) More here (le-ltb (length message) n (omega (arith, is.whole)))
    ∙ left_out (is_fragment head.kind) (joined None head (take n message) (drop n message))
    (if head.goes_on then Piece (begun (take n message)) (drop n message)
    else Whole (take n message) None (drop n message)) plain
    ∙ left_out head.goes_on (Piece (begun (take n message)) (drop n message))
    (Whole (take n message) None (drop n message)) off
    ∙ ap₂ (λ m r. Whole m None r) all none
