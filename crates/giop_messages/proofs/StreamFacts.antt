-- More octets behind a stream leave its front as it is.
use Rattle.std.proofs.Common.{◌≡◌, ℕ, ◌+◌, ◌≤◌, Bool, true, false, List, ◌++◌, length, take, drop, refl, sym, subst, arith}
use Rattle.std.proofs.Common.{Option, Some, None, Result, Ok, Err, nat_lt, if◌then◌else◌}
use Rattle.std.proofs.lemmas.List.{length-append, take-append-le, drop-append-le}
use Rattle.std.proofs.lemmas.Bool.{le-ltb, ltb-false}
use Rattle.giop_messages.specs.declared.fault.FramingFault.{FramingFault}
use Rattle.giop_messages.specs.declared.fault.FramingFault.TheVariants.{BadFragment}
use Rattle.giop_messages.specs.declared.head.Head.{Head}
use Rattle.giop_messages.specs.Heads.{head_in}
use Rattle.giop_messages.specs.Framing.{Front, More, Broken, Piece, Whole, front, front_behind, placed, joined, begun, added, breaks, is_other, is_fragment, run_behind}
use Rattle.giop_messages.specs.Streams.{IsLonger}
use Rattle.giop_messages.proofs.HeadFacts.{head_longer}

-- both branches of a test
longer_if : (more : List ℕ) (b : Bool) (f g p q : Front) → IsLonger more f p → IsLonger more g q
    → IsLonger more (if b then f else g) (if b then p else q)
longer_if more true f g p q a b = a
longer_if more false f g p q a b = b

joined_longer : (run : Option (List ℕ)) (head : Head) (fragment rest more : List ℕ)
    → IsLonger more (joined run head fragment rest) (joined run head fragment (rest ++ more))
joined_longer None head fragment rest more = refl
joined_longer (Some run) head fragment rest more =
    longer_if more head.goes_on (Piece (added run fragment) rest) (Whole (added run fragment) None rest)
    (Piece (added run fragment) (rest ++ more)) (Whole (added run fragment) None (rest ++ more)) refl refl

placed_longer : (run : Option (List ℕ)) (head : Head) (message rest more : List ℕ)
    → IsLonger more (placed run head message rest) (placed run head message (rest ++ more))
placed_longer run head message rest more =
    let plain = if head.goes_on then Piece (begun message) rest else Whole message (run_behind run message) rest in
    let longer =
    if head.goes_on then Piece (begun message) (rest ++ more) else Whole message (run_behind run message)
    (rest ++ more) in
    longer_if more (is_fragment head.kind) (joined run head message rest) plain
    (joined run head message (rest ++ more)) longer
    (joined_longer run head message rest more)
    (longer_if more head.goes_on (Piece (begun message) rest) (Whole message (run_behind run message) rest)
    (Piece (begun message) (rest ++ more)) (Whole message (run_behind run message) (rest ++ more)) refl refl)

-- a stream that is too short for its message says nothing yet
longer_whole : (more : List ℕ) (b c : Bool) (f g : Front) → (b ≡ false → c ≡ false)
    → (b ≡ false → IsLonger more f g) → IsLonger more (if b then More else f) (if c then More else g)
longer_whole more true c f g still longer = tt
longer_whole more false c f g still longer =
    subst (λ (t : Bool). IsLonger more f (if t then More else g)) (sym (still refl)) (longer refl)

still_long : (n : ℕ) (octets more : List ℕ) → nat_lt (length octets) n ≡ false
    → nat_lt (length (octets ++ more)) n ≡ false
still_long n octets more e =
    le-ltb (length (octets ++ more)) n (omega (arith, ltb-false (length octets) n e, length-append octets more))

taken_longer : (run : Option (List ℕ)) (head : Head) (n : ℕ) (octets more : List ℕ) → n ≤ length octets
    → IsLonger more
    (if is_other run head (take n octets) then Broken BadFragment else placed run head (take n octets)
    (drop n octets))
    (if is_other run head (take n (octets ++ more)) then Broken BadFragment else placed run head
    (take n (octets ++ more)) (drop n (octets ++ more)))
taken_longer run head n octets more le =
    let front_same = sym (take-append-le n octets more le) in
    let rest_same = sym (drop-append-le n octets more le) in
    subst (λ (m : List ℕ). IsLonger more
    (if is_other run head (take n octets) then Broken BadFragment else placed run head (take n octets)
    (drop n octets))
    (if is_other run head m then Broken BadFragment else placed run head m (drop n (octets ++ more)))) front_same
    (subst (λ (r : List ℕ). IsLonger more
    (if is_other run head (take n octets) then Broken BadFragment else placed run head (take n octets)
    (drop n octets))
    (if is_other run head (take n octets) then Broken BadFragment else placed run head (take n octets) r)) rest_same
    (longer_if more (is_other run head (take n octets)) (Broken BadFragment)
    (placed run head (take n octets) (drop n octets)) (Broken BadFragment)
    (placed run head (take n octets) (drop n octets ++ more))
    refl (placed_longer run head (take n octets) (drop n octets) more)))

behind_longer : (run : Option (List ℕ)) (octets more : List ℕ) (said : Result Head FramingFault)
    → IsLonger more (front_behind run octets said) (front_behind run (octets ++ more) said)
behind_longer run octets more (Err fault) = refl
behind_longer run octets more (Ok head) =
    let n = 12 + head.size in
    let told = if is_other run head (take n octets) then Broken BadFragment else placed run head (take n octets)
    (drop n octets) in
    let longer =
    if is_other run head (take n (octets ++ more)) then Broken BadFragment else placed run head
    (take n (octets ++ more)) (drop n (octets ++ more)) in
    longer_if more (breaks run head) (Broken BadFragment) (if nat_lt (length octets) n then More else told)
    (Broken BadFragment) (if nat_lt (length (octets ++ more)) n then More else longer) refl
    (longer_whole more (nat_lt (length octets) n) (nat_lt (length (octets ++ more)) n) told longer
    (still_long n octets more)
    (λ e. taken_longer run head n octets more (ltb-false (length octets) n e)))

pub front_longer : (run : Option (List ℕ)) (octets more : List ℕ)
    → IsLonger more (front run octets) (front run (octets ++ more))
front_longer run octets more =
    longer_whole more (nat_lt (length octets) 12) (nat_lt (length (octets ++ more)) 12)
    (front_behind run octets (head_in octets)) (front_behind run (octets ++ more) (head_in (octets ++ more)))
    (still_long 12 octets more)
    (λ e. subst
    (λ (said : Result Head FramingFault). IsLonger more (front_behind run octets (head_in octets))
    (front_behind run (octets ++ more) said))
    (sym (head_longer octets more (ltb-false (length octets) 12 e))) (behind_longer run octets more (head_in octets)))
