-- What a stream says is the same whether it comes at once or in pieces.
use Rattle.std.proofs.Common.{◌≡◌, ℕ, zero, suc, ◌+◌, ◌<◌, ◌≤◌, Bool, true, false, List, [], ◌∷◌, ◌++◌, length, take, drop, refl, sym, ap, subst, ◌∙◌, arith}
use Rattle.std.proofs.Common.{Option, Some, None, Result, Ok, Err, nat_eq, nat_lt, if◌then◌else◌}
use Rattle.std.proofs.lemmas.List.{length-append, length-drop, take-append-le, drop-append-le}
use Rattle.std.proofs.lemmas.Bool.{le-ltb, ltb-false}
use Rattle.giop_messages.specs.declared.fault.FramingFault.{FramingFault}
use Rattle.giop_messages.specs.declared.fault.FramingFault.TheVariants.{BadHead, BadFragment}
use Rattle.giop_messages.specs.declared.head.MessageKind.{MessageKind}
use Rattle.giop_messages.specs.declared.head.MessageKind.TheVariants as kinds
use Rattle.giop_messages.specs.declared.head.Head.{Head}
use Rattle.giop_messages.specs.Framing.{added, begun, breaks_run, id_in, is_cut}
use Rattle.giop_messages.specs.ReplyStreamsHeads.{reply_head}
use Rattle.giop_messages.specs.Fronts.{Front, More, Broken, Passed, Piece, Whole, Closes, Fails, begins, continues, front, front_behind, numbered, placed}
use Rattle.giop_messages.specs.Heard.{Waits, Replies, Breaks, Ends, Refuses, heard, heard_from, heard_front, heard_more, heard_within}
use Rattle.giop_messages.proofs.ReplyStreamsHeadFacts.{reply_longer}

-- ---- what is behind the front is shorter, and grows with the stream

-- a front, and that of the stream with more octets behind it, which has so many octets at most
abbrev pub IsLonger : List ℕ → Front → Front → Type 0
IsLonger more More longer = Unit {0}
IsLonger more (Broken fault) longer = longer ≡ Broken fault
IsLonger more (Passed rest) longer = longer ≡ Passed (rest ++ more)
IsLonger more (Piece run rest) longer = longer ≡ Piece run (rest ++ more)
IsLonger more (Whole message) longer = longer ≡ Whole message
IsLonger more Closes longer = longer ≡ Closes
IsLonger more Fails longer = longer ≡ Fails

abbrev pub IsShorter : List ℕ → Front → Type 0
IsShorter octets More = Unit {0}
IsShorter octets (Broken fault) = Unit {0}
IsShorter octets (Passed rest) = length rest < length octets
IsShorter octets (Piece run rest) = length rest < length octets
IsShorter octets (Whole message) = Unit {0}
IsShorter octets Closes = Unit {0}
IsShorter octets Fails = Unit {0}

-- both branches of a test
longer_if : (more : List ℕ) (b : Bool) (f g p q : Front) → IsLonger more f p → IsLonger more g q
    → IsLonger more (if b then f else g) (if b then p else q)
longer_if more true f g p q a b = a
longer_if more false f g p q a b = b

shorter_if : (octets : List ℕ) (b : Bool) (f g : Front) → IsShorter octets f → (b ≡ false → IsShorter octets g)
    → IsShorter octets (if b then f else g)
shorter_if octets true f g one other = one
shorter_if octets false f g one other = other refl

-- ---- a piece of the reply

begins_longer : (run : Option (List ℕ)) (head : Head) (message rest more : List ℕ)
    → IsLonger more (begins run head message rest) (begins run head message (rest ++ more))
begins_longer (Some run) head message rest more = refl
begins_longer None head message rest more =
    longer_if more head.goes_on (if is_cut head then Broken BadFragment else Piece (begun message) rest) (Whole message)
    (if is_cut head then Broken BadFragment else Piece (begun message) (rest ++ more)) (Whole message)
    (longer_if more (is_cut head) (Broken BadFragment) (Piece (begun message) rest) (Broken BadFragment)
    (Piece (begun message) (rest ++ more)) refl refl) refl

begins_shorter : (octets : List ℕ) (run : Option (List ℕ)) (head : Head) (message rest : List ℕ)
    → length rest < length octets
    → IsShorter octets (begins run head message rest)
begins_shorter octets (Some run) head message rest less = tt
begins_shorter octets None head message rest less =
    shorter_if octets head.goes_on (if is_cut head then Broken BadFragment else Piece (begun message) rest)
    (Whole message)
    (shorter_if octets (is_cut head) (Broken BadFragment) (Piece (begun message) rest) tt (λ e. less)) (λ e. tt)

continues_longer : (run : Option (List ℕ)) (head : Head) (message rest more : List ℕ)
    → IsLonger more (continues run head message rest) (continues run head message (rest ++ more))
continues_longer None head message rest more = refl
continues_longer (Some run) head message rest more =
    longer_if more (breaks_run run head) (Broken BadFragment)
    (if head.goes_on then Piece (added run message) rest else Whole (added run message)) (Broken BadFragment)
    (if head.goes_on then Piece (added run message) (rest ++ more) else Whole (added run message)) refl
    (longer_if more head.goes_on (Piece (added run message) rest) (Whole (added run message))
    (Piece (added run message) (rest ++ more)) (Whole (added run message)) refl refl)

continues_shorter : (octets : List ℕ) (run : Option (List ℕ)) (head : Head) (message rest : List ℕ)
    → length rest < length octets → IsShorter octets (continues run head message rest)
continues_shorter octets None head message rest less = tt
continues_shorter octets (Some run) head message rest less =
    shorter_if octets (breaks_run run head) (Broken BadFragment)
    (if head.goes_on then Piece (added run message) rest else Whole (added run message)) tt
    (λ e. shorter_if octets head.goes_on (Piece (added run message) rest) (Whole (added run message)) less (λ f. tt))

-- ---- a message

numbered_longer : (id : ℕ) (fault : FramingFault) (own longer : Front) (head : Head) (message rest more : List ℕ)
    → IsLonger more own longer
    → IsLonger more (numbered id fault own head message rest) (numbered id fault longer head message (rest ++ more))
numbered_longer id fault own longer head message rest more is =
    longer_if more (nat_lt head.size 4) (Broken fault) (if nat_eq (id_in message) id then own else Passed rest)
    (Broken fault)
    (if nat_eq (id_in message) id then longer else Passed (rest ++ more)) refl
    (longer_if more (nat_eq (id_in message) id) own (Passed rest) longer (Passed (rest ++ more)) is refl)

numbered_shorter : (octets : List ℕ) (id : ℕ) (fault : FramingFault) (own : Front) (head : Head) (message rest : List ℕ)
    → length rest < length octets → IsShorter octets own → IsShorter octets (numbered id fault own head message rest)
numbered_shorter octets id fault own head message rest less is =
    shorter_if octets (nat_lt head.size 4) (Broken fault) (if nat_eq (id_in message) id then own else Passed rest) tt
    (λ e. shorter_if octets (nat_eq (id_in message) id) own (Passed rest) is (λ f. less))

placed_longer : (id : ℕ) (run : Option (List ℕ)) (kind : MessageKind) (head : Head) (message rest more : List ℕ)
    → IsLonger more (placed id run kind head message rest) (placed id run kind head message (rest ++ more))
placed_longer id run kinds.Request head message rest more = refl
placed_longer id run kinds.Reply head message rest more =
    numbered_longer id BadHead (begins run head message rest) (begins run head message (rest ++ more)) head message rest
    more
    (begins_longer run head message rest more)
placed_longer id run kinds.CancelRequest head message rest more = refl
placed_longer id run kinds.LocateRequest head message rest more = refl
placed_longer id run kinds.LocateReply head message rest more = refl
placed_longer id run kinds.CloseConnection head message rest more = refl
placed_longer id run kinds.MessageError head message rest more = refl
placed_longer id run kinds.Fragment head message rest more =
    numbered_longer id BadFragment (continues run head message rest) (continues run head message (rest ++ more)) head
    message
    rest more (continues_longer run head message rest more)

placed_shorter : (octets : List ℕ) (id : ℕ) (run : Option (List ℕ)) (kind : MessageKind) (head : Head)
    (message rest : List ℕ)
    → length rest < length octets → IsShorter octets (placed id run kind head message rest)
placed_shorter octets id run kinds.Request head message rest less = tt
placed_shorter octets id run kinds.Reply head message rest less =
    numbered_shorter octets id BadHead (begins run head message rest) head message rest less
    (begins_shorter octets run head message rest less)
placed_shorter octets id run kinds.CancelRequest head message rest less = tt
placed_shorter octets id run kinds.LocateRequest head message rest less = tt
placed_shorter octets id run kinds.LocateReply head message rest less = less
placed_shorter octets id run kinds.CloseConnection head message rest less = tt
placed_shorter octets id run kinds.MessageError head message rest less = tt
placed_shorter octets id run kinds.Fragment head message rest less =
    numbered_shorter octets id BadFragment (continues run head message rest) head message rest less
    (continues_shorter octets run head message rest less)

-- ---- the front

-- a stream that is too short for its message says nothing yet
longer_whole : (more : List ℕ) (b c : Bool) (f g : Front) → (b ≡ false → c ≡ false)
    → (b ≡ false → IsLonger more f g) → IsLonger more (if b then More else f) (if c then More else g)
longer_whole more true c f g still longer = tt
longer_whole more false c f g still longer =
    subst (λ (t : Bool). IsLonger more f (if t then More else g)) (sym (still refl)) (longer refl)

still_long : (n : ℕ) (octets more : List ℕ) → nat_lt (length octets) n ≡ false
    → nat_lt (length (octets ++ more)) n ≡ false
still_long n octets more e =
    le-ltb (length (octets ++ more)) n (omega (arith, ltb-false (length octets) n e, length-append octets more))

taken_longer : (id : ℕ) (run : Option (List ℕ)) (head : Head) (n : ℕ) (octets more : List ℕ) → n ≤ length octets
    → IsLonger more (placed id run head.kind head (take n octets) (drop n octets))
    (placed id run head.kind head (take n (octets ++ more)) (drop n (octets ++ more)))
taken_longer id run head n octets more le =
    let front_same = sym (take-append-le n octets more le) in
    let rest_same = sym (drop-append-le n octets more le) in
    subst (λ (m : List ℕ). IsLonger more (placed id run head.kind head (take n octets) (drop n octets))
    (placed id run head.kind head m (drop n (octets ++ more)))) front_same
    (subst (λ (r : List ℕ). IsLonger more (placed id run head.kind head (take n octets) (drop n octets))
    (placed id run head.kind head (take n octets) r)) rest_same
    (placed_longer id run head.kind head (take n octets) (drop n octets) more))

behind_longer : (id : ℕ) (run : Option (List ℕ)) (octets more : List ℕ) (said : Result Head FramingFault)
    → IsLonger more (front_behind id run octets said) (front_behind id run (octets ++ more) said)
behind_longer id run octets more (Err fault) = refl
behind_longer id run octets more (Ok head) =
    let n = 12 + head.size in
    longer_whole more (nat_lt (length octets) n) (nat_lt (length (octets ++ more)) n)
    (placed id run head.kind head (take n octets) (drop n octets))
    (placed id run head.kind head (take n (octets ++ more)) (drop n (octets ++ more)))
    (still_long n octets more)
    (λ e. taken_longer id run head n octets more (ltb-false (length octets) n e))

front_longer : (id : ℕ) (run : Option (List ℕ)) (octets more : List ℕ)
    → IsLonger more (front id run octets) (front id run (octets ++ more))
front_longer id run octets more =
    longer_whole more (nat_lt (length octets) 12) (nat_lt (length (octets ++ more)) 12)
    (front_behind id run octets (reply_head octets))
    (front_behind id run (octets ++ more) (reply_head (octets ++ more)))
    (still_long 12 octets more)
    (λ e. subst
    (λ (said : Result Head FramingFault). IsLonger more (front_behind id run octets (reply_head octets))
    (front_behind id run (octets ++ more) said))
    (sym (reply_longer octets more (ltb-false (length octets) 12 e)))
    (behind_longer id run octets more (reply_head octets)))

behind_shorter : (id : ℕ) (run : Option (List ℕ)) (octets : List ℕ) (said : Result Head FramingFault)
    → 12 ≤ length octets
    → IsShorter octets (front_behind id run octets said)
behind_shorter id run octets (Err fault) long = tt
behind_shorter id run octets (Ok head) long =
    let n = 12 + head.size in
    let less : length (drop n octets) < length octets = omega (arith, long, length-drop n octets) in
    shorter_if octets (nat_lt (length octets) n) More (placed id run head.kind head (take n octets) (drop n octets)) tt
    (λ e. placed_shorter octets id run head.kind head (take n octets) (drop n octets) less)

front_shorter : (id : ℕ) (run : Option (List ℕ)) (octets : List ℕ) → IsShorter octets (front id run octets)
front_shorter id run octets =
    shorter_if octets (nat_lt (length octets) 12) More (front_behind id run octets (reply_head octets)) tt
    (λ e. behind_shorter id run octets (reply_head octets) (ltb-false (length octets) 12 e))

-- ---- more levels than octets change nothing

enough_front : (n m id : ℕ) (run : Option (List ℕ)) (octets : List ℕ) (f : Front) → IsShorter octets f
    → ((run' : Option (List ℕ)) (rest : List ℕ) → length rest < length octets
    → heard_within n id run' rest ≡ heard_within m id run' rest)
    → heard_front (heard_within n id) run octets f ≡ heard_front (heard_within m id) run octets f
enough_front n m id run octets More short same = refl
enough_front n m id run octets (Broken fault) short same = refl
enough_front n m id run octets (Passed rest) short same = same run rest short
enough_front n m id run octets (Piece joined rest) short same = same (Some joined) rest short
enough_front n m id run octets (Whole message) short same = refl
enough_front n m id run octets Closes short same = refl
enough_front n m id run octets Fails short same = refl

-- nothing stands in no octets
front_of_none : (id : ℕ) (run : Option (List ℕ)) (octets : List ℕ) → length octets ≤ 0 → front id run octets ≡ More
front_of_none id run [] le = refl
front_of_none id run (octet ∷ more) le = absurd (omega (arith, le))

heard_of_none : (n id : ℕ) (run : Option (List ℕ)) (octets : List ℕ) → length octets ≤ 0
    → heard_within n id run octets ≡ Waits run octets
heard_of_none zero id run octets le = refl
heard_of_none (suc n) id run octets le =
    ap (heard_front (heard_within n id) run octets) (front_of_none id run octets le)

enough : (n m id : ℕ) (run : Option (List ℕ)) (octets : List ℕ) → length octets ≤ n → length octets ≤ m
    → heard_within n id run octets ≡ heard_within m id run octets
enough zero m id run octets le le' = sym (heard_of_none m id run octets le)
enough (suc n) zero id run octets le le' = heard_of_none (suc n) id run octets le'
enough (suc n) (suc m) id run octets le le' =
    enough_front n m id run octets (front id run octets) (front_shorter id run octets)
    (λ run' rest less. enough n m id run' rest (omega (arith, less, le)) (omega (arith, less, le')))

-- ---- by what stands at the front

opened : (id : ℕ) (run : Option (List ℕ)) (octets : List ℕ)
    → heard_from id run octets ≡ heard_front (heard_within (length octets) id) run octets (front id run octets)
opened id run octets = enough (length octets) (suc (length octets)) id run octets (omega arith) (omega arith)

pub heard_waits : (id : ℕ) (run : Option (List ℕ)) (octets : List ℕ) → front id run octets ≡ More
    → heard_from id run octets ≡ Waits run octets
heard_waits id run octets e = opened id run octets ∙ ap (heard_front (heard_within (length octets) id) run octets) e

pub heard_nothing : (id : ℕ) (run : Option (List ℕ)) (octets : List ℕ) → length octets ≤ 0
    → heard_from id run octets ≡ Waits run octets
heard_nothing id run octets le = heard_waits id run octets (front_of_none id run octets le)

pub heard_broken : (id : ℕ) (run : Option (List ℕ)) (octets : List ℕ) (fault : FramingFault)
    → front id run octets ≡ Broken fault → heard_from id run octets ≡ Breaks fault
heard_broken id run octets fault e = opened id run octets
    ∙ ap (heard_front (heard_within (length octets) id) run octets) e

pub heard_reply : (id : ℕ) (run : Option (List ℕ)) (octets message : List ℕ)
    → front id run octets ≡ Whole message → heard_from id run octets ≡ Replies message
heard_reply id run octets message e = opened id run octets
    ∙ ap (heard_front (heard_within (length octets) id) run octets) e

pub heard_end : (id : ℕ) (run : Option (List ℕ)) (octets : List ℕ) → front id run octets ≡ Closes
    → heard_from id run octets ≡ Ends
heard_end id run octets e = opened id run octets ∙ ap (heard_front (heard_within (length octets) id) run octets) e

pub heard_refusal : (id : ℕ) (run : Option (List ℕ)) (octets : List ℕ) → front id run octets ≡ Fails
    → heard_from id run octets ≡ Refuses
heard_refusal id run octets e = opened id run octets ∙ ap (heard_front (heard_within (length octets) id) run octets) e

pub heard_passed : (id : ℕ) (run : Option (List ℕ)) (octets rest : List ℕ) → front id run octets ≡ Passed rest
    → heard_from id run octets ≡ heard_from id run rest
heard_passed id run octets rest e =
    let less : length rest < length octets = subst (IsShorter octets) e (front_shorter id run octets) in
    opened id run octets
    ∙ ap (heard_front (heard_within (length octets) id) run octets) e
    ∙ enough (length octets) (length rest) id run rest (omega (arith, less)) (omega arith)

pub heard_piece : (id : ℕ) (run : Option (List ℕ)) (octets joined rest : List ℕ)
    → front id run octets ≡ Piece joined rest
    → heard_from id run octets ≡ heard_from id (Some joined) rest
heard_piece id run octets joined rest e =
    let less : length rest < length octets = subst (IsShorter octets) e (front_shorter id run octets) in
    opened id run octets
    ∙ ap (heard_front (heard_within (length octets) id) run octets) e
    ∙ enough (length octets) (length rest) id (Some joined) rest (omega (arith, less)) (omega arith)

-- ---- in pieces

abbrev IsJoined : ℕ → ℕ → Option (List ℕ) → List ℕ → List ℕ → Type 0
IsJoined n id run octets more = heard_from id run (octets ++ more) ≡ heard_more id (heard_within n id run octets) more

-- by what stands at the front of the stream, and of the longer one
pieces_front : (n id : ℕ) (run : Option (List ℕ)) (octets more : List ℕ) (f longer : Front) → IsShorter octets f
    → IsLonger more f longer → front id run (octets ++ more) ≡ longer → length octets ≤ suc n
    → ((run' : Option (List ℕ)) (rest : List ℕ) → length rest ≤ n → IsJoined n id run' rest more)
    → heard_from id run (octets ++ more) ≡ heard_more id (heard_front (heard_within n id) run octets f) more
pieces_front n id run octets more More longer short is same le further = refl
pieces_front n id run octets more (Broken fault) longer short is same le further =
    heard_broken id run (octets ++ more) fault (same ∙ is)
pieces_front n id run octets more (Passed rest) longer short is same le further =
    heard_passed id run (octets ++ more) (rest ++ more) (same ∙ is) ∙ further run rest (omega (arith, short, le))
pieces_front n id run octets more (Piece joined rest) longer short is same le further =
    heard_piece id run (octets ++ more) joined (rest ++ more) (same ∙ is)
    ∙ further (Some joined) rest (omega (arith, short, le))
pieces_front n id run octets more (Whole message) longer short is same le further =
    heard_reply id run (octets ++ more) message (same ∙ is)
pieces_front n id run octets more Closes longer short is same le further =
    heard_end id run (octets ++ more) (same ∙ is)
pieces_front n id run octets more Fails longer short is same le further =
    heard_refusal id run (octets ++ more) (same ∙ is)

pieces : (n id : ℕ) (run : Option (List ℕ)) (octets more : List ℕ) → length octets ≤ n → IsJoined n id run octets more
pieces zero id run octets more le = refl
pieces (suc n) id run octets more le =
    pieces_front n id run octets more (front id run octets) (front id run (octets ++ more))
    (front_shorter id run octets)
    (front_longer id run octets more) refl le (λ run' rest less. pieces n id run' rest more less)

pub in_pieces : (id : ℕ) (octets more : List ℕ) → heard id (octets ++ more) ≡ heard_more id (heard id octets) more
in_pieces id octets more = pieces (length octets) id None octets more (omega arith)
