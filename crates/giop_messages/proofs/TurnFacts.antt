-- What becomes of a stream by one message.
use Rattle.std.proofs.Common.{◌≡◌, ℕ, ◌+◌, ◌<◌, ◌≤◌, Bool, true, false, List, length, take, drop, refl, sym, ap, ◌∙◌, arith}
use Rattle.std.proofs.Common.{Option, Result, Ok, nat_eq, nat_lt, if◌then◌else◌}
use Rattle.std.proofs.lemmas.Bool.{le-ltb}
use Rattle.giop_messages.specs.declared.fault.FramingFault.{FramingFault}
use Rattle.giop_messages.specs.declared.head.Head.{Head}
use Rattle.giop_messages.specs.Framing.{id_in}
use Rattle.giop_messages.specs.ReplyStreamsHeads.{reply_head}
use Rattle.giop_messages.specs.Fronts.{Front, More, Broken, Passed, Piece, front, front_behind, numbered, placed}
use Rattle.giop_messages.specs.declared.reply_streams.turn.Turn.{Turn}
use Rattle.giop_messages.specs.declared.reply_streams.turn.Turn.TheVariants as turns
use Rattle.giop_messages.specs.inner.Turns.{IsPart, Takes, front_of}

-- which branch of a test is taken
pub taken : {A : Type 0} (b : Bool) (x y : A) → b ≡ true → (if b then x else y) ≡ x
taken true x y e = refl
taken false x y e = absurd (cc)

pub left_out : {A : Type 0} (b : Bool) (x y : A) → b ≡ false → (if b then x else y) ≡ y
left_out true x y e = absurd (cc)
left_out false x y e = refl

-- ---- a message with a number

pub passed : (id : ℕ) (fault : FramingFault) (own : Front) (head : Head) (message rest : List ℕ)
    → nat_lt head.size 4 ≡ false
    → nat_eq (id_in message) id ≡ false → numbered id fault own head message rest ≡ Passed rest
passed id fault own head message rest e f =
    left_out (nat_lt head.size 4) (Broken fault) (if nat_eq (id_in message) id then own else Passed rest) e
    ∙ left_out (nat_eq (id_in message) id) own (Passed rest) f

pub owned : (id : ℕ) (fault : FramingFault) (own : Front) (head : Head) (message rest : List ℕ)
    → nat_lt head.size 4 ≡ false
    → nat_eq (id_in message) id ≡ true → numbered id fault own head message rest ≡ own
owned id fault own head message rest e f =
    left_out (nat_lt head.size 4) (Broken fault) (if nat_eq (id_in message) id then own else Passed rest) e
    ∙ taken (nat_eq (id_in message) id) own (Passed rest) f

-- ---- the front of a stream

pub front_long : (id : ℕ) (run : Option (List ℕ)) (octets : List ℕ) (r : Result Head FramingFault) → 12 ≤ length octets
    → reply_head octets ≡ r → front id run octets ≡ front_behind id run octets r
front_long id run octets r le e =
    left_out (nat_lt (length octets) 12) More (front_behind id run octets (reply_head octets))
    (le-ltb (length octets) 12 le)
    ∙ ap (front_behind id run octets) e

pub front_whole : (id : ℕ) (run : Option (List ℕ)) (octets message : List ℕ) (head : Head) (n : ℕ) → 12 ≤ length octets
    → reply_head octets ≡ Ok head → n ≡ 12 + head.size → n ≤ length octets → message ≡ take n octets
    → front id run octets ≡ placed id run head.kind head message (drop n octets)
front_whole id run octets message head n le e same within is =
    let there = placed id run head.kind head (take (12 + head.size) octets) (drop (12 + head.size) octets) in
    front_long id run octets (Ok head) le e
    ∙ left_out (nat_lt (length octets) (12 + head.size)) More there
    (le-ltb (length octets) (12 + head.size) (omega (arith, same, within)))
    ∙ ap (λ (k : ℕ). placed id run head.kind head (take k octets) (drop k octets)) (sym same)
    ∙ ap (λ (m : List ℕ). placed id run head.kind head m (drop n octets)) (sym is)

-- what is told of a message is told of the front that it is
fronts_same : (octets : List ℕ) (n : ℕ) (turn : Turn) → Takes n turn
    → front_of (λ len. drop n octets) turn ≡ front_of (λ len. drop len octets) turn
fronts_same octets n (turns.Waits run) t = refl
fronts_same octets n (turns.Passes run len) t = ap (λ (k : ℕ). Passed (drop k octets)) (sym t)
fronts_same octets n (turns.Goes run len) t = ap (λ (k : ℕ). Piece run (drop k octets)) (sym t)
fronts_same octets n (turns.Replies reply) t = refl
fronts_same octets n (turns.Breaks fault) t = refl
fronts_same octets n turns.Ends t = refl
fronts_same octets n turns.Refuses t = refl

parts : (octets : List ℕ) (n : ℕ) (turn : Turn) → Takes n turn → 0 < n → n ≤ length octets → IsPart octets turn
parts octets n (turns.Waits run) t some within = tt
parts octets n (turns.Passes run len) t some within = (omega (arith, t, some), omega (arith, t, within))
parts octets n (turns.Goes run len) t some within = (omega (arith, t, some), omega (arith, t, within))
parts octets n (turns.Replies reply) t some within = tt
parts octets n (turns.Breaks fault) t some within = tt
parts octets n turns.Ends t some within = tt
parts octets n turns.Refuses t some within = tt
