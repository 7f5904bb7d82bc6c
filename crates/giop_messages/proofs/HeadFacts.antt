-- What follows from a head that was read.
use Rattle.std.proofs.Common.{◌≡◌, ℕ, ◌+◌, ◌-◌, ◌<◌, ◌≤◌, Bool, true, false, not, ◌&&◌, List, ◌++◌, length, take, drop, refl, sym, ap, ◌∙◌, arith}
use Rattle.std.proofs.Common.{Option, Some, None, Result, Ok, Err, nat_eq, nat_lt, slice_get, slice_index, if◌then◌else◌}
use Rattle.std.proofs.lemmas.List.{get_or_append_left, drop-append-le, length-drop, length-take-le, take-append-drop, take_all}
use Rattle.std.proofs.lemmas.Bool.{le-ltb, ltb-false, not-false}
use Rattle.byteorder.specs.Numbers.{big_from-append, little_from-append}
use Rattle.type_graph.specs.declared.width.Order.{Order}
use Rattle.type_graph.specs.declared.width.Order.TheVariants.{Big, Little}
use Rattle.giop_messages.specs.declared.fault.FramingFault.{FramingFault}
use Rattle.giop_messages.specs.declared.fault.FramingFault.TheVariants.{NotGiop, Version, TooLong, BadHead}
use Rattle.giop_messages.specs.declared.head.MessageKind.{MessageKind}
use Rattle.giop_messages.specs.declared.head.Head.{Head}
use Rattle.giop_messages.specs.Heads.{number_in, order_of, goes_on, kinds, may_go_on, is_giop, is_1_2, flags_in, size_in, max_size, head_of, typed, head_in}
use Rattle.giop_messages.specs.Framing.{order_in}
use Rattle.giop_messages.specs.Runs.{IsMessage}

-- a fault that isn't told doesn't hold
past : (b : Bool) (fault : FramingFault) (r : Result Head FramingFault) (head : Head)
    → (if b then Err fault else r) ≡ Ok head → (b ≡ false) × (r ≡ Ok head)
past true fault r head e = absurd (cc)
past false fault r head e = (refl, e)

typed_ok : (flags size : ℕ) (kind : Option MessageKind) (head : Head) → typed flags size kind ≡ Ok head
    → head ≡ head_of flags size head.kind
typed_ok flags size None head e = absurd (cc)
typed_ok flags size (Some kind) head e =
    let p = past (goes_on flags && not (may_go_on kind)) BadHead (Ok (head_of flags size kind)) head e in
    let same : head_of flags size kind ≡ head = cc in
    let kinds_same : kind ≡ head.kind = ap (λ (h : Head). h.kind) same in
    sym same ∙ ap (head_of flags size) kinds_same

-- what is judged of a head, one thing after the other
judge : (giop version : Bool) (flags size number : ℕ) → Result Head FramingFault
judge giop version flags size number =
    if not giop then Err NotGiop else if not version then Err Version
    else if nat_lt max_size size then Err TooLong else typed flags size (slice_get kinds number)

-- which type it is
kind_typed : (flags size : ℕ) (kind : Option MessageKind) (head : Head) → typed flags size kind ≡ Ok head
    → kind ≡ Some head.kind
kind_typed flags size None head e = absurd (cc)
kind_typed flags size (Some kind) head e =
    let p = past (goes_on flags && not (may_go_on kind)) BadHead (Ok (head_of flags size kind)) head e in
    let same : head_of flags size kind ≡ head = cc in
    ap (λ (h : Head). Some h.kind) same

-- a fault that doesn't hold isn't told
skip : (b : Bool) (fault : FramingFault) (r : Result Head FramingFault) → b ≡ false → (if b then Err fault else r) ≡ r
skip true fault r e = absurd (cc)
skip false fault r e = refl

-- the same message with other flags, under which nothing follows, and another size
judged_alone : (giop version : Bool) (flags size number : ℕ) (head : Head) (other long : ℕ)
    → judge giop version flags size number ≡ Ok head → goes_on other ≡ false → long ≤ max_size
    → judge giop version other long number ≡ Ok (head_of other long head.kind)
unfolding judge
judged_alone giop version flags size number head other long e off le =
    let kind = slice_get kinds number in
    let p = past (not giop) NotGiop
    (if not version then Err Version else if nat_lt max_size size then Err TooLong else typed flags size kind) head e in
    let q = past (not version) Version (if nat_lt max_size size then Err TooLong else typed flags size kind) head p.1 in
    let r = past (nat_lt max_size size) TooLong (typed flags size kind) head q.1 in
    skip (not giop) NotGiop
    (if not version then Err Version else if nat_lt max_size long then Err TooLong else typed other long kind) p.0
    ∙ skip (not version) Version (if nat_lt max_size long then Err TooLong else typed other long kind) q.0
    ∙ skip (nat_lt max_size long) TooLong (typed other long kind) (le-ltb max_size long le)
    ∙ ap (typed other long) (kind_typed flags size kind head r.1)
    ∙ ap (λ (b : Bool). if b && not (may_go_on head.kind) then Err BadHead else Ok (head_of other long head.kind)) off

-- fragments follow a request or a fragment alone
on_typed : (flags size : ℕ) (kind : MessageKind) (head : Head) → typed flags size (Some kind) ≡ Ok head
    → goes_on flags ≡ true
    → may_go_on kind ≡ true
on_typed flags size kind head e on =
    let p = past (goes_on flags && not (may_go_on kind)) BadHead (Ok (head_of flags size kind)) head e in
    not-false (may_go_on kind) (sym (ap (λ b. b && not (may_go_on kind)) on) ∙ p.0)

judged_on : (giop version : Bool) (flags size number : ℕ) (head : Head)
    → judge giop version flags size number ≡ Ok head → goes_on flags ≡ true → may_go_on head.kind ≡ true
unfolding judge
judged_on giop version flags size number head e on =
    let kind = slice_get kinds number in
    let p = past (not giop) NotGiop
    (if not version then Err Version else if nat_lt max_size size then Err TooLong else typed flags size kind) head e in
    let q = past (not version) Version (if nat_lt max_size size then Err TooLong else typed flags size kind) head p.1 in
    let r = past (nat_lt max_size size) TooLong (typed flags size kind) head q.1 in
    on_typed flags size head.kind head
    (sym (ap (typed flags size) (kind_typed flags size kind head r.1)) ∙ r.1) on

judged : (giop version : Bool) (flags size number : ℕ) (head : Head)
    → judge giop version flags size number ≡ Ok head → (head ≡ head_of flags size head.kind)
    × (head.size ≤ max_size)
unfolding judge
judged giop version flags size number head e =
    let p = past (not giop) NotGiop
    (if not version then Err Version else if nat_lt max_size size then Err TooLong else typed flags size
    (slice_get kinds number)) head e in
    let q = past (not version) Version
    (if nat_lt max_size size then Err TooLong else typed flags size (slice_get kinds number)) head p.1 in
    let r = past (nat_lt max_size size) TooLong (typed flags size (slice_get kinds number)) head q.1 in
    let same = typed_ok flags size (slice_get kinds number) head r.1 in
    let within : size ≤ max_size = ltb-false max_size size r.0 in
    let equal : head.size ≡ size = ap (λ (h : Head). h.size) same in
    (same, omega (arith, within, equal))

is_judged : (octets : List ℕ)
    → head_in octets ≡ judge (is_giop octets) (is_1_2 octets) (flags_in octets) (size_in octets)
    (slice_index octets 7)
unfolding judge
is_judged octets = refl

-- what a head says is what its octets say, and its message isn't too long
pub head_ok : (octets : List ℕ) (head : Head) → head_in octets ≡ Ok head
    → (head ≡ head_of (flags_in octets) (size_in octets) head.kind) × (head.size ≤ max_size)
head_ok octets head e =
    judged (is_giop octets) (is_1_2 octets) (flags_in octets) (size_in octets) (slice_index octets 7) head
    (sym (is_judged octets) ∙ e)

-- a number at the front stays what it is
number_longer : (order : Order) (n : ℕ) (xs ys : List ℕ) → n ≤ length xs
    → number_in order n (xs ++ ys) ≡ number_in order n xs
number_longer Big n xs ys le = big_from-append n xs ys le
number_longer Little n xs ys le = little_from-append n xs ys le

giop_same : (a b c d p q r s : ℕ) → a ≡ p → b ≡ q → c ≡ r → d ≡ s
    → (nat_eq a 71 && nat_eq b 73 && nat_eq c 79 && nat_eq d 80) ≡
    (nat_eq p 71 && nat_eq q 73 && nat_eq r 79 && nat_eq s 80)
giop_same a b c d p q r s ea eb ec ed = cc

version_same : (a b p q : ℕ) → a ≡ p → b ≡ q → (nat_eq a 1 && nat_eq b 2) ≡ (nat_eq p 1 && nat_eq q 2)
version_same a b p q ea eb = cc

size_same : (a b : ℕ) (xs ys : List ℕ) → a ≡ b → number_in (order_of b) 4 xs ≡ number_in (order_of b) 4 ys
    → number_in (order_of a) 4 xs ≡ number_in (order_of b) 4 ys
size_same a b xs ys same e = ap (λ flags. number_in (order_of flags) 4 xs) same ∙ e

judge_same : (a b p q : Bool) (c d e r s t : ℕ) → a ≡ p → b ≡ q → c ≡ r → d ≡ s → e ≡ t
    → judge a b c d e ≡ judge p q r s t
judge_same a b p q c d e r s t ea eb ec ed ee = cc

-- what stands behind the 12 octets doesn't change what they say
pub head_longer : (xs ys : List ℕ) → 12 ≤ length xs → head_in (xs ++ ys) ≡ head_in xs
head_longer xs ys le =
    let at : (i : ℕ) → i < length xs
    → slice_index (xs ++ ys) i ≡ slice_index xs i = λ i within. get_or_append_left xs ys 0 i within in
    let a6 = at 6 (omega (arith, le)) in
    let giop = giop_same (slice_index (xs ++ ys) 0) (slice_index (xs ++ ys) 1) (slice_index (xs ++ ys) 2)
    (slice_index (xs ++ ys) 3)
    (slice_index xs 0) (slice_index xs 1) (slice_index xs 2) (slice_index xs 3)
    (at 0 (omega (arith, le))) (at 1 (omega (arith, le))) (at 2 (omega (arith, le))) (at 3 (omega (arith, le))) in
    let version =
    version_same (slice_index (xs ++ ys) 4) (slice_index (xs ++ ys) 5) (slice_index xs 4) (slice_index xs 5)
    (at 4 (omega (arith, le))) (at 5 (omega (arith, le))) in
    let behind : drop 8 (xs ++ ys) ≡ drop 8 xs ++ ys = drop-append-le 8 xs ys (omega (arith, le)) in
    let long : 4 ≤ length (drop 8 xs) = omega (arith, le, length-drop 8 xs) in
    let order = order_of (slice_index xs 6) in
    let size = size_same (slice_index (xs ++ ys) 6) (slice_index xs 6) (drop 8 (xs ++ ys)) (drop 8 xs) a6
    (ap (number_in order 4) behind ∙ number_longer order 4 (drop 8 xs) ys long) in
    is_judged (xs ++ ys)
    ∙ judge_same (is_giop (xs ++ ys)) (is_1_2 (xs ++ ys)) (is_giop xs) (is_1_2 xs)
    (flags_in (xs ++ ys)) (size_in (xs ++ ys)) (slice_index (xs ++ ys) 7) (flags_in xs) (size_in xs) (slice_index xs 7)
    giop version a6 size (at 7 (omega (arith, le)))
    ∙ sym (is_judged xs)

-- what octets say whose flags and size are others, under which nothing follows
pub head_alone : (message other : List ℕ) (head : Head) → head_in message ≡ Ok head
    → ((i : ℕ) → i < 6 → slice_index other i ≡ slice_index message i)
    → slice_index other 7 ≡ slice_index message 7
    → goes_on (flags_in other) ≡ false → size_in other ≤ max_size
    → head_in other ≡ Ok (head_of (flags_in other) (size_in other) head.kind)
head_alone message other head e at kind off le =
    let giop = giop_same (slice_index other 0) (slice_index other 1) (slice_index other 2) (slice_index other 3)
    (slice_index message 0) (slice_index message 1) (slice_index message 2) (slice_index message 3)
    (at 0 (omega arith)) (at 1 (omega arith)) (at 2 (omega arith)) (at 3 (omega arith)) in
    let version =
    version_same (slice_index other 4) (slice_index other 5) (slice_index message 4) (slice_index message 5)
    (at 4 (omega arith)) (at 5 (omega arith)) in
    is_judged other
    ∙ judge_same (is_giop other) (is_1_2 other) (is_giop message) (is_1_2 message)
    (flags_in other) (size_in other) (slice_index other 7) (flags_in other) (size_in other) (slice_index message 7)
    giop version refl refl kind
    ∙ judged_alone (is_giop message) (is_1_2 message) (flags_in message) (size_in message) (slice_index message 7) head
    (flags_in other) (size_in other) (sym (is_judged message) ∙ e) off le

-- a message that fragments follow is a request or a fragment
pub head_on : (message : List ℕ) (head : Head) → head_in message ≡ Ok head → head.goes_on ≡ true
    → may_go_on head.kind ≡ true
head_on message head e on =
    let flags : goes_on (flags_in message) ≡ true =
    sym (ap (λ (h : Head). h.goes_on) (head_ok message head e).0) ∙ on in
    judged_on (is_giop message) (is_1_2 message) (flags_in message) (size_in message) (slice_index message 7) head
    (sym (is_judged message) ∙ e) flags

-- the message at the front says what the stream says
pub head_of_front : (n : ℕ) (octets : List ℕ) → 12 ≤ n → n ≤ length octets → head_in (take n octets) ≡ head_in octets
head_of_front n octets le within =
    let long : 12 ≤ length (take n octets) = omega (arith, le, length-take-le n octets within) in
    sym (head_longer (take n octets) (drop n octets) long) ∙ ap head_in (take-append-drop n octets)

-- the octets in front of the end of a message that is whole
pub message_at : (head : Head) (octets : List ℕ) → head_in octets ≡ Ok head → 12 + head.size ≤ length octets
    → IsMessage head (take (12 + head.size) octets)
message_at head octets e within = record {
  head_is = head_of_front (12 + head.size) octets (omega arith) within ∙ e;
  whole = length-take-le (12 + head.size) octets within;
}

-- the head tells the order of the octets
pub order_is : (head : Head) (message : List ℕ) → IsMessage head message → order_in message ≡ head.order
order_is head message is = sym (ap (λ (h : Head). h.order) (head_ok message head is.head_is).0)

-- all that stands behind so many octets
pub behind : (n : ℕ) (xs : List ℕ) → take (length xs - n) (drop n xs) ≡ drop n xs
behind n xs = take_all (length xs - n) (drop n xs) (omega (arith, length-drop n xs))
