-- Octets that were read by what the message at the front wants complete that one at most.
use Rattle.std.proofs.Common.{◌≡◌, ℕ, zero, suc, ◌+◌, ◌-◌, ◌<◌, ◌≤◌, min, max, Bool, true, false, List, [], ◌∷◌, ◌++◌, length, take, drop, refl, sym, ap, subst, ◌∙◌, arith}
use Rattle.std.proofs.Common.{Option, Some, None, Result, Ok, Err, nat_lt, if◌then◌else◌}
use Rattle.std.proofs.lemmas.List.{length-append, length-drop}
use Rattle.std.proofs.lemmas.Bool.{ltb-false, ltb-true}
use Rattle.giop_messages.specs.declared.fault.FramingFault.{FramingFault}
use Rattle.giop_messages.specs.declared.fault.FramingFault.TheVariants.{BadFragment}
use Rattle.giop_messages.specs.declared.head.Head.{Head}
use Rattle.giop_messages.specs.Heads.{head_in}
use Rattle.giop_messages.specs.Framing.{Front, More, Broken, Piece, Whole, front, front_behind, placed, joined, begun, added, breaks, is_other, is_fragment, run_behind}
use Rattle.giop_messages.proofs.HeadFacts.{head_longer}
use Rattle.broker_answers.specs.Streams.{Open, cut_front, cut_within, cut}
use Rattle.giop_messages.specs.Room.{wanted_by}
use Rattle.iiop_broker.specs.Room.{room_of, wanted}

-- nothing is behind the front
abbrev IsLast : Front → Type 0
IsLast More = Unit {0}
IsLast (Broken fault) = Unit {0}
IsLast (Piece run rest) = length rest ≤ 0
IsLast (Whole message run rest) = length rest ≤ 0

last_if : (b : Bool) (f g : Front) → IsLast f → IsLast g → IsLast (if b then f else g)
last_if true f g one other = one
last_if false f g one other = other

last_joined : (run : Option (List ℕ)) (head : Head) (fragment rest : List ℕ) → length rest ≤ 0
    → IsLast (joined run head fragment rest)
last_joined None head fragment rest le = tt
last_joined (Some run) head fragment rest le =
    last_if head.goes_on (Piece (added run fragment) rest) (Whole (added run fragment) None rest) le le

last_placed : (run : Option (List ℕ)) (head : Head) (message rest : List ℕ) → length rest ≤ 0
    → IsLast (placed run head message rest)
last_placed run head message rest le =
    last_if (is_fragment head.kind) (joined run head message rest)
    (if head.goes_on then Piece (begun message) rest else Whole message (run_behind run message) rest)
    (last_joined run head message rest le)
    (last_if head.goes_on (Piece (begun message) rest) (Whole message (run_behind run message) rest) le le)

last_behind : (run : Option (List ℕ)) (octets : List ℕ) (head : Head) → length octets ≤ 12 + head.size
    → IsLast (front_behind run octets (Ok head))
last_behind run octets head le =
    let n = 12 + head.size in
    let none : length (drop n octets) ≤ 0 = omega (arith, le, length-drop n octets) in
    let there =
    if is_other run head (take n octets) then Broken BadFragment
    else placed run head (take n octets) (drop n octets) in
    last_if (breaks run head) (Broken BadFragment) (if nat_lt (length octets) n then More else there) tt
    (last_if (nat_lt (length octets) n) More there tt
    (last_if (is_other run head (take n octets)) (Broken BadFragment) (placed run head (take n octets) (drop n octets))
    tt
    (last_placed run head (take n octets) (drop n octets) none)))

none_cut : (n : ℕ) (run : Option (List ℕ)) (octets : List ℕ) → length octets ≤ 0 → (cut_within n run octets).raws ≡ []
none_cut zero run octets le = refl
none_cut (suc n) run [] le = refl
none_cut (suc n) run (octet ∷ more) le = absurd (omega (arith, le))

few_at : (n : ℕ) (run : Option (List ℕ)) (octets : List ℕ) (f : Front) → IsLast f
    → length (cut_front (cut_within n) run octets f).raws ≤ 1
few_at n run octets More last = omega arith
few_at n run octets (Broken fault) last = omega arith
few_at n run octets (Piece begun rest) last =
    let e = ap length (none_cut n (Some begun) rest last) in omega (arith, e)
few_at n run octets (Whole message kept rest) last =
    let e = ap length (none_cut n kept rest last) in omega (arith, e)

few_within : (n : ℕ) (run : Option (List ℕ)) (octets : List ℕ) → IsLast (front run octets)
    → length (cut_within n run octets).raws ≤ 1
few_within zero run octets last = omega arith
few_within (suc n) run octets last = few_at n run octets (front run octets) last

-- it is more than nothing
abbrev IsSome : Front → Type 0
IsSome More = ⊥
IsSome f = Unit {0}

some_if : (b : Bool) (f g : Front) → IsSome f → IsSome g → IsSome (if b then f else g)
some_if true f g one other = one
some_if false f g one other = other

some_joined : (run : Option (List ℕ)) (head : Head) (fragment rest : List ℕ) → IsSome (joined run head fragment rest)
some_joined None head fragment rest = tt
some_joined (Some run) head fragment rest =
    some_if head.goes_on (Piece (added run fragment) rest) (Whole (added run fragment) None rest) tt tt

some_placed : (run : Option (List ℕ)) (head : Head) (message rest : List ℕ) → IsSome (placed run head message rest)
some_placed run head message rest =
    some_if (is_fragment head.kind) (joined run head message rest)
    (if head.goes_on then Piece (begun message) rest else Whole message (run_behind run message) rest)
    (some_joined run head message rest)
    (some_if head.goes_on (Piece (begun message) rest) (Whole message (run_behind run message) rest) tt tt)

-- no whole message is there
short_if : (n m : ℕ) (b c : Bool) (there : Front) → nat_lt n m ≡ c → IsSome there
    → (if b then Broken BadFragment else if c then More else there) ≡ More → n < m
short_if n m true c there e some is = absurd (subst IsSome is tt)
short_if n m false true there e some is = ltb-true n m e
short_if n m false false there e some is = absurd (subst IsSome is some)

short_of : (run : Option (List ℕ)) (rest : List ℕ) (head : Head) → front_behind run rest (Ok head) ≡ More
    → length rest < 12 + head.size
short_of run rest head is =
    let n = 12 + head.size in
    let there =
    if is_other run head (take n rest) then Broken BadFragment
    else placed run head (take n rest) (drop n rest) in
    short_if (length rest) n (breaks run head) (nat_lt (length rest) n) there refl
    (some_if (is_other run head (take n rest)) (Broken BadFragment) (placed run head (take n rest) (drop n rest)) tt
    (some_placed run head (take n rest) (drop n rest))) is

-- the head, or a part of it
last_head : (run : Option (List ℕ)) (octets : List ℕ) (said : Result Head FramingFault) → length octets ≤ 12
    → IsLast (front_behind run octets said)
last_head run octets (Err fault) le = tt
last_head run octets (Ok head) le = last_behind run octets head (omega (arith, le))

last_rest : (run : Option (List ℕ)) (rest more : List ℕ) (said : Result Head FramingFault)
    → front_behind run rest said ≡ More
    → length more ≤ max (min (wanted_by said (length rest)) 65536) 1
    → IsLast (front_behind run (rest ++ more) said)
last_rest run rest more (Err fault) is le = tt
last_rest run rest more (Ok head) is le =
    let short = short_of run rest head is in
    last_behind run (rest ++ more) head (omega (arith, le, short, length-append rest more))

last_by : (run : Option (List ℕ)) (rest more : List ℕ) (b : Bool) → nat_lt (length rest) 12 ≡ b
    → (if b then More else front_behind run rest (head_in rest)) ≡ More
    → length more ≤ max (min (if b then 12 - length rest else wanted_by (head_in rest) (length rest)) 65536) 1
    → IsLast (front run (rest ++ more))
last_by run rest more true e is le =
    let short = ltb-true (length rest) 12 e in
    last_if (nat_lt (length (rest ++ more)) 12) More (front_behind run (rest ++ more) (head_in (rest ++ more))) tt
    (last_head run (rest ++ more) (head_in (rest ++ more)) (omega (arith, le, short, length-append rest more)))
last_by run rest more false e is le =
    let same = head_longer rest more (ltb-false (length rest) 12 e) in
    last_if (nat_lt (length (rest ++ more)) 12) More (front_behind run (rest ++ more) (head_in (rest ++ more))) tt
    (subst (λ said. IsLast (front_behind run (rest ++ more) said)) (sym same)
    (last_rest run rest more (head_in rest) is le))

pub one_at_a_time : (run : Option (List ℕ)) (rest more : List ℕ) → front run rest ≡ More
    → length more ≤ room_of (Some (Open run rest)) → length (cut run (rest ++ more)).raws ≤ 1
one_at_a_time run rest more is le =
    few_within (length (rest ++ more)) run (rest ++ more) (last_by run rest more (nat_lt (length rest) 12) refl is le)
