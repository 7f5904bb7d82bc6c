-- Streams are cut in the same way whether they come at once or in pieces.
use Rattle.std.proofs.Common.{◌≡◌, ℕ, zero, suc, ◌+◌, ◌<◌, ◌≤◌, Bool, true, false, List, [], ◌∷◌, ◌++◌, length, take, drop, refl, sym, ap, subst, ◌∙◌, arith}
use Rattle.std.proofs.Common.{Option, Some, None, Result, Ok, Err, nat_lt, if◌then◌else◌}
use Rattle.std.proofs.lemmas.List.{length-append, length-drop}
use Rattle.std.proofs.lemmas.Bool.{ltb-false}
use Rattle.giop_messages.specs.declared.fault.FramingFault.{FramingFault}
use Rattle.giop_messages.specs.declared.fault.FramingFault.TheVariants.{BadFragment}
use Rattle.giop_messages.specs.declared.head.Head.{Head}
use Rattle.giop_messages.specs.Heads.{head_in}
use Rattle.giop_messages.specs.Framing.{Front, More, Broken, Piece, Whole, front, front_behind, placed, joined as joined_run, begun, added, breaks, is_other, is_fragment, run_behind}
use Rattle.giop_messages.specs.Streams.{IsLonger}
use Rattle.giop_messages.proofs.StreamFacts.{front_longer}
use Rattle.broker_answers.specs.Streams.{Open, Closed, cut_of, with_message, cut_front, cut_within, cut, cut_behind, joined}

-- what is behind the front is shorter
abbrev pub IsShorter : List ℕ → Front → Type 0
IsShorter octets More = Unit {0}
IsShorter octets (Broken fault) = Unit {0}
IsShorter octets (Piece run rest) = length rest < length octets
IsShorter octets (Whole message run rest) = length rest < length octets

shorter_if : (octets : List ℕ) (b : Bool) (f g : Front) → IsShorter octets f → (b ≡ false → IsShorter octets g)
    → IsShorter octets (if b then f else g)
shorter_if octets true f g one other = one
shorter_if octets false f g one other = other refl

shorter_joined : (octets : List ℕ) (run : Option (List ℕ)) (head : Head) (fragment rest : List ℕ)
    → length rest < length octets → IsShorter octets (joined_run run head fragment rest)
shorter_joined octets None head fragment rest less = tt
shorter_joined octets (Some run) head fragment rest less =
    shorter_if octets head.goes_on (Piece (added run fragment) rest) (Whole (added run fragment) None rest) less
    (λ e. less)

shorter_placed : (octets : List ℕ) (run : Option (List ℕ)) (head : Head) (message rest : List ℕ)
    → length rest < length octets → IsShorter octets (placed run head message rest)
shorter_placed octets run head message rest less =
    shorter_if octets (is_fragment head.kind) (joined_run run head message rest)
    (if head.goes_on then Piece (begun message) rest else Whole message (run_behind run message) rest)
    (shorter_joined octets run head message rest less)
    (λ e. shorter_if octets head.goes_on (Piece (begun message) rest)
    (Whole message (run_behind run message) rest) less (λ f. less))

shorter_behind : (run : Option (List ℕ)) (octets : List ℕ) (said : Result Head FramingFault) → 12 ≤ length octets
    → IsShorter octets (front_behind run octets said)
shorter_behind run octets (Err fault) long = tt
shorter_behind run octets (Ok head) long =
    let n = 12 + head.size in
    let less : length (drop n octets) < length octets = omega (arith, long, length-drop n octets) in
    let there =
    if is_other run head (take n octets) then Broken BadFragment
    else placed run head (take n octets) (drop n octets) in
    shorter_if octets (breaks run head) (Broken BadFragment)
    (if nat_lt (length octets) n then More else there) tt
    (λ e. shorter_if octets (nat_lt (length octets) n) More there tt
    (λ f. shorter_if octets (is_other run head (take n octets))
    (Broken BadFragment)
    (placed run head (take n octets) (drop n octets)) tt
    (λ g. shorter_placed octets run head (take n octets) (drop n octets) less)))

pub front_shorter : (run : Option (List ℕ)) (octets : List ℕ) → IsShorter octets (front run octets)
front_shorter run octets =
    shorter_if octets (nat_lt (length octets) 12) More (front_behind run octets (head_in octets)) tt
    (λ e. shorter_behind run octets (head_in octets) (ltb-false (length octets) 12 e))

-- more levels than octets change nothing
enough_front : (n m : ℕ) (run : Option (List ℕ)) (octets : List ℕ) (f : Front) → IsShorter octets f
    → ((run' : Option (List ℕ)) (rest : List ℕ) → length rest < length octets
    → cut_within n run' rest ≡ cut_within m run' rest)
    → cut_front (cut_within n) run octets f ≡ cut_front (cut_within m) run octets f
enough_front n m run octets More short same = refl
enough_front n m run octets (Broken fault) short same = refl
enough_front n m run octets (Piece begun rest) short same = same (Some begun) rest short
enough_front n m run octets (Whole message kept rest) short same = ap (with_message message) (same kept rest short)

-- nothing stands in no octets
front_of_none : (run : Option (List ℕ)) (octets : List ℕ) → length octets ≤ 0 → front run octets ≡ More
front_of_none run [] le = refl
front_of_none run (octet ∷ more) le = absurd (omega (arith, le))

cut_of_none : (n : ℕ) (run : Option (List ℕ)) (octets : List ℕ) → length octets ≤ 0
    → cut_within n run octets ≡ cut_of [] (Open run octets)
cut_of_none zero run octets le = refl
cut_of_none (suc n) run octets le = ap (cut_front (cut_within n) run octets) (front_of_none run octets le)

enough : (n m : ℕ) (run : Option (List ℕ)) (octets : List ℕ) → length octets ≤ n → length octets ≤ m
    → cut_within n run octets ≡ cut_within m run octets
enough zero m run octets le le' = sym (cut_of_none m run octets le)
enough (suc n) zero run octets le le' = cut_of_none (suc n) run octets le'
enough (suc n) (suc m) run octets le le' =
    enough_front n m run octets (front run octets) (front_shorter run octets)
    (λ run' rest less. enough n m run' rest (omega (arith, less, le)) (omega (arith, less, le')))

-- one level of it
pub cut_opened : (run : Option (List ℕ)) (octets : List ℕ)
    → cut run octets ≡ cut_front (cut_within (length octets)) run octets (front run octets)
cut_opened run octets = enough (length octets) (suc (length octets)) run octets (omega arith) (omega arith)

-- the same, by what stands at the front
pub cut_more : (run : Option (List ℕ)) (octets : List ℕ) → front run octets ≡ More
    → cut run octets ≡ cut_of [] (Open run octets)
cut_more run octets e = cut_opened run octets ∙ ap (cut_front (cut_within (length octets)) run octets) e

pub cut_broken : (run : Option (List ℕ)) (octets : List ℕ) (fault : FramingFault) → front run octets ≡ Broken fault
    → cut run octets ≡ cut_of (None ∷ []) Closed
cut_broken run octets fault e = cut_opened run octets ∙ ap (cut_front (cut_within (length octets)) run octets) e

pub cut_piece : (run : Option (List ℕ)) (octets begun rest : List ℕ) → front run octets ≡ Piece begun rest
    → cut run octets ≡ cut (Some begun) rest
cut_piece run octets begun rest e =
    let less : length rest < length octets = subst (IsShorter octets) e (front_shorter run octets) in
    cut_opened run octets
    ∙ ap (cut_front (cut_within (length octets)) run octets) e
    ∙ enough (length octets) (length rest) (Some begun) rest (omega (arith, less)) (omega arith)

pub cut_whole : (run : Option (List ℕ)) (octets message : List ℕ) (kept : Option (List ℕ)) (rest : List ℕ)
    → front run octets ≡ Whole message kept rest → cut run octets ≡ with_message message (cut kept rest)
cut_whole run octets message kept rest e =
    let less : length rest < length octets = subst (IsShorter octets) e (front_shorter run octets) in
    cut_opened run octets
    ∙ ap (cut_front (cut_within (length octets)) run octets) e
    ∙ ap (with_message message) (enough (length octets) (length rest) kept rest (omega (arith, less)) (omega arith))

abbrev IsJoined : ℕ → Option (List ℕ) → List ℕ → List ℕ → Type 0
IsJoined n run octets more =
    cut run (octets ++ more) ≡ joined (cut_within n run octets) (λ left. cut_behind left more)

-- by what stands at the front of the stream, and of the longer one
pieces_front : (n : ℕ) (run : Option (List ℕ)) (octets more : List ℕ) (f longer : Front) → IsShorter octets f
    → IsLonger more f longer → front run (octets ++ more) ≡ longer → length octets ≤ suc n
    → ((run' : Option (List ℕ)) (rest : List ℕ) → length rest ≤ n → IsJoined n run' rest more)
    → cut run (octets ++ more) ≡ joined (cut_front (cut_within n) run octets f) (λ left. cut_behind left more)
pieces_front n run octets more More longer short is same le further = refl
pieces_front n run octets more (Broken fault) longer short is same le further =
    cut_opened run (octets ++ more)
    ∙ ap (cut_front (cut_within (length (octets ++ more))) run (octets ++ more)) (same ∙ is)
pieces_front n run octets more (Piece begun rest) longer short is same le further =
    cut_opened run (octets ++ more)
    ∙ ap (cut_front (cut_within (length (octets ++ more))) run (octets ++ more)) (same ∙ is)
    ∙ enough (length (octets ++ more)) (length (rest ++ more)) (Some begun) (rest ++ more)
    (omega (arith, short, length-append octets more, length-append rest more)) (omega arith)
    ∙ further (Some begun) rest (omega (arith, short, le))
pieces_front n run octets more (Whole message kept rest) longer short is same le further =
    cut_opened run (octets ++ more)
    ∙ ap (cut_front (cut_within (length (octets ++ more))) run (octets ++ more)) (same ∙ is)
    ∙ ap (with_message message)
    (enough (length (octets ++ more)) (length (rest ++ more)) kept (rest ++ more)
    (omega (arith, short, length-append octets more, length-append rest more)) (omega arith)
    ∙ further kept rest (omega (arith, short, le)))

pieces : (n : ℕ) (run : Option (List ℕ)) (octets more : List ℕ) → length octets ≤ n → IsJoined n run octets more
pieces zero run octets more le = refl
pieces (suc n) run octets more le =
    pieces_front n run octets more (front run octets) (front run (octets ++ more)) (front_shorter run octets)
    (front_longer run octets more) refl le (λ run' rest less. pieces n run' rest more less)

pub in_pieces : (run : Option (List ℕ)) (octets more : List ℕ)
    → cut run (octets ++ more) ≡ joined (cut run octets) (λ left. cut_behind left more)
in_pieces run octets more = pieces (length octets) run octets more (omega arith)
