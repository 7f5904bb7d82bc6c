-- What follows from what a head says to a client.
use Rattle.std.proofs.Common.{◌≡◌, ℕ, ◌+◌, ◌-◌, ◌≤◌, Bool, true, false, List, ◌++◌, length, take, drop, set, refl, sym, ap, ap₂, ◌∙◌, arith}
use Rattle.std.proofs.Common.{Result, Ok, Err, if◌then◌else◌}
use Rattle.std.proofs.lemmas.List.{get_or-set_same, get_or_append_left, length-take-le, set-append_left, take-append-drop}
use Rattle.std.proofs.Math.ListN.{length-set}
use Rattle.std.proofs.Math.Seq.{take-set-lt}
use Rattle.type_graph.specs.declared.width.Order.{Order}
use Rattle.giop_messages.specs.declared.fault.FramingFault.{FramingFault}
use Rattle.giop_messages.specs.declared.fault.FramingFault.TheVariants.{BadHead}
use Rattle.giop_messages.specs.declared.head.MessageKind.{MessageKind}
use Rattle.giop_messages.specs.declared.head.Head.{Head}
use Rattle.giop_messages.specs.Heads.{flags_in, goes_on, head_in, max_size, order_of}
use Rattle.giop_messages.specs.Framing.{begun}
use Rattle.giop_messages.proofs.HeadFacts.{head_longer, head_of_front, head_ok}
use Rattle.giop_messages.proofs.RunFacts.{without}
use Rattle.giop_messages.specs.ReplyStreamsHeads.{alone, followed, may_go_on, reply_head}
use Rattle.giop_messages.specs.inner.Runs.{IsSent}

-- the same head, as if nothing followed
abbrev pub lone : Head → Head
lone head = record { kind = head.kind; order = head.order; goes_on = false; size = head.size }

begun_flags : (message : List ℕ) → 12 ≤ length message → flags_in (begun message) ≡ flags_in message - 2
begun_flags message le = get_or-set_same message 6 (flags_in message - 2) 0 (omega (arith, le))

-- what is told of a head that is followed
record Followed (there head : Head) : Type 0 where
  kind : head.kind ≡ there.kind
  order : head.order ≡ there.order
  on : head.goes_on ≡ true
  size : head.size ≡ there.size

record Behind (r : Result Head FramingFault) (head : Head) : Type 0 where
  there : Head
  is : r ≡ Ok there
  followed : Followed there head

followed_if : (b : Bool) (there head : Head)
    → (if b then Ok (record { kind = there.kind; order = there.order; goes_on = true; size = there.size })
    else Err BadHead)
    ≡ Ok head → Followed there head
followed_if true there head e =
    let same : record { kind = there.kind; order = there.order; goes_on = true; size = there.size } ≡ head = cc in
    record {
      kind = ap (λ (h : Head). h.kind) (sym same);
      order = ap (λ (h : Head). h.order) (sym same);
      on = ap (λ (h : Head). h.goes_on) (sym same);
      size = ap (λ (h : Head). h.size) (sym same);
    }
followed_if false there head e = absurd (cc)

followed_ok : (r : Result Head FramingFault) (head : Head) → followed r ≡ Ok head → Behind r head
followed_ok (Err fault) head e = absurd (cc)
followed_ok (Ok there) head e =
    record { there = there; is = refl; followed = followed_if (may_go_on there.kind) there head e }

abbrev make : MessageKind → Order → Bool → ℕ → Head
make kind order on size = record { kind = kind; order = order; goes_on = on; size = size }

same_parts : (k : MessageKind) (o : Order) (g : Bool) (n : ℕ) (k2 : MessageKind) (o2 : Order) (g2 : Bool) (n2 : ℕ)
    → k ≡ k2 → o ≡ o2 → g ≡ g2 → n ≡ n2 → make k o g n ≡ make k2 o2 g2 n2
same_parts k o g n k2 o2 g2 n2 a b c d = cc

heads_same : (a b : Head) → a.kind ≡ b.kind → a.order ≡ b.order → a.goes_on ≡ b.goes_on → a.size ≡ b.size → a ≡ b
heads_same a b e f g h = same_parts a.kind a.order a.goes_on a.size b.kind b.order b.goes_on b.size e f g h

-- what a head says tells what it says alone
pub record Told (message : List ℕ) (head : Head) : Type 0 where
  pub head_is : head_in (alone message) ≡ Ok (lone head)
  pub on_is : goes_on (flags_in message) ≡ head.goes_on
  pub flags_are : order_of (flags_in (alone message)) ≡ order_of (flags_in message)

pub told : (message : List ℕ) (head : Head) → 12 ≤ length message → reply_head message ≡ Ok head → Told message head
told message head le e = by_flag (goes_on (flags_in message)) refl e where
  by_flag : (b : Bool) → goes_on (flags_in message) ≡ b
      → (if b then followed (head_in (begun message)) else head_in message) ≡ Ok head → Told message head
  by_flag true on f =
      let t = followed_ok (head_in (begun message)) head f in
      let flags = begun_flags message le in
      let w = without (flags_in message) on in
      let off : t.there.goes_on ≡ false =
      ap (λ (h : Head). h.goes_on) (head_ok (begun message) t.there t.is).0 ∙ ap goes_on flags ∙ w.0 in
      let same : t.there ≡ lone head =
      heads_same t.there (lone head) (sym t.followed.kind) (sym t.followed.order) off (sym t.followed.size) in
      let message_is : alone message ≡ begun message = ap (λ (b : Bool). if b then begun message else message) on in
      record {
        head_is = ap head_in message_is ∙ t.is ∙ ap (λ (h : Head). Ok h) same;
        on_is = on ∙ sym t.followed.on;
        flags_are = ap (λ (m : List ℕ). order_of (flags_in m)) message_is ∙ ap order_of flags ∙ w.1;
      }
  by_flag false off f =
      let is : goes_on (flags_in message) ≡ head.goes_on =
      sym (ap (λ (h : Head). h.goes_on) (head_ok message head f).0) in
      let same : head ≡ lone head = heads_same head (lone head) refl refl (sym is ∙ off) refl in
      let message_is : alone message ≡ message = ap (λ (b : Bool). if b then begun message else message) off in
      record {
        head_is = ap head_in message_is ∙ f ∙ ap (λ (h : Head). Ok h) same;
        on_is = is;
        flags_are = ap (λ (m : List ℕ). order_of (flags_in m)) message_is;
      }

-- the message isn't too long
pub limited : (message : List ℕ) (head : Head) → 12 ≤ length message → reply_head message ≡ Ok head
    → head.size ≤ max_size
limited message head le e = (head_ok (alone message) (lone head) (told message head le e).head_is).1

-- ---- what stands behind the 12 octets doesn't change what they say

pub reply_longer : (xs ys : List ℕ) → 12 ≤ length xs → reply_head (xs ++ ys) ≡ reply_head xs
reply_longer xs ys le =
    let flags : flags_in (xs ++ ys) ≡ flags_in xs = get_or_append_left xs ys 0 6 (omega (arith, le)) in
    let first : begun (xs ++ ys) ≡ begun xs ++ ys =
    ap (λ (n : ℕ). set (xs ++ ys) 6 (n - 2)) flags ∙ set-append_left xs ys 6 (flags_in xs - 2) (omega (arith, le)) in
    let long : 12 ≤ length (begun xs) = omega (arith, le, length-set xs 6 (flags_in xs - 2)) in
    let one : head_in (begun (xs ++ ys)) ≡ head_in (begun xs) = ap head_in first ∙ head_longer (begun xs) ys long in
    let two : head_in (xs ++ ys) ≡ head_in xs = head_longer xs ys le in
    ap (λ (n : ℕ). if goes_on n then followed (head_in (begun (xs ++ ys))) else head_in (xs ++ ys)) flags
    ∙ ap₂ (λ (r s : Result Head FramingFault). if goes_on (flags_in xs) then followed r else s) one two

pub reply_of_front : (n : ℕ) (octets : List ℕ) → 12 ≤ n → n ≤ length octets
    → reply_head (take n octets) ≡ reply_head octets
reply_of_front n octets le within =
    let long : 12 ≤ length (take n octets) = omega (arith, le, length-take-le n octets within) in
    sym (reply_longer (take n octets) (drop n octets) long) ∙ ap reply_head (take-append-drop n octets)

-- the octets in front of the end of a message that is whole
pub sent_at : (head : Head) (octets : List ℕ) → reply_head octets ≡ Ok head → 12 + head.size ≤ length octets
    → IsSent head (take (12 + head.size) octets)
sent_at head octets e within = (
  reply_of_front (12 + head.size) octets (omega arith) within ∙ e,
  length-take-le (12 + head.size) octets within,
)

-- a message that others follow
pub reply_on : (octets : List ℕ) → goes_on (flags_in octets) ≡ true
    → reply_head octets ≡ followed (head_in (begun octets))
reply_on octets e = ap (λ (b : Bool). if b then followed (head_in (begun octets)) else head_in octets) e

-- ---- the 12 octets alone, without bit 1 of the flags

pub cleared : (octets front : List ℕ) (n : ℕ) → 12 ≤ length octets → n ≡ flags_in octets - 2
    → front ≡ set (take 12 octets) 6 n → head_in front ≡ head_in (begun octets)
cleared octets front n le e is =
    let long : 12 ≤ length (begun octets) = omega (arith, le, length-set octets 6 (flags_in octets - 2)) in
    ap head_in (is ∙ ap (λ (k : ℕ). set (take 12 octets) 6 k) e
    ∙ sym (take-set-lt 12 octets 6 (flags_in octets - 2) (omega arith)))
    ∙ head_of_front 12 (begun octets) (omega arith) long
