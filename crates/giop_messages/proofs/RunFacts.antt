-- What a run keeps when it begins, and when a fragment is added.
use Rattle.std.proofs.Common.{◌≡◌, ℕ, ◌+◌, ◌-◌, ◌%◌, ◌/◌, ◌^◌, ◌<◌, ◌≤◌, true, false, not, ◌&&◌, List, [], ◌++◌, length, take, drop, refl, sym, ap, ap₂, ◌∙◌, mod-eq_of_lt, arith}
use Rattle.std.specs.Result.{OnOk, OnErr}
use Rattle.std.proofs.Common.{None, Result, Ok, Err, subst, nat_eq, nat_lt, slice_index, if◌then◌else◌}
use Rattle.std.proofs.lemmas.Bool.{eqb-true, ltb-false, ne_eqb, or_parts}
use Rattle.std.proofs.lemmas.List.{drop-set-lt, get_or-set_other, get_or-set_same, get_or-take, get_or_append_left, length-append, length-drop, length-take-le}
use Rattle.std.proofs.Math.ListN.{length-set}
use Rattle.std.proofs.Math.Seq.{drop-append_seam}
use Rattle.byteorder.specs.Numbers.{big_from-bytes, little_from-bytes}
use Rattle.type_graph.specs.declared.width.Width.TheVariants.{Four}
use Rattle.type_graph.specs.declared.width.Order.{Order}
use Rattle.type_graph.specs.declared.width.Order.TheVariants.{Big, Little}
use Rattle.type_graph.specs.Words.{plain_word}
use Rattle.type_graph.proofs.WordLaws.{length-plain_word}
use Rattle.giop_messages.specs.declared.head.MessageKind.{MessageKind}
use Rattle.giop_messages.specs.declared.head.MessageKind.TheVariants.{Request, Reply, CancelRequest, LocateRequest, LocateReply, CloseConnection, MessageError, Fragment}
use Rattle.giop_messages.specs.declared.head.Head.{Head}
use Rattle.giop_messages.specs.Heads.{flags_in, goes_on, head_in, head_of, max_size, may_go_on, number_in, order_of, size_in}
use Rattle.giop_messages.specs.Framing.{Whole, added, begun, breaks_run, front, is_fragment, order_in, sized}
use Rattle.giop_messages.specs.Runs.{IsAlone, IsFirst, IsRun}
use Rattle.giop_messages.proofs.HeadFacts.{head_alone, head_longer, head_ok, head_on}
use Rattle.giop_messages.proofs.FrontFacts.{own_front, run_kept}

-- a message keeps its length when its size is written anew
sized_long : (message : List ℕ) → 12 ≤ length message → length (sized message) ≡ length message
sized_long message le =
    let order = order_in message in
    let n = length message - 12 in
    omega (
      arith,
      le,
      length-append (take 8 message) (plain_word order Four n ++ drop 12 message),
      length-append (plain_word order Four n) (drop 12 message),
      length-take-le 8 message (omega (arith, le)),
      length-plain_word order Four n,
      length-drop 12 message,
    )

-- bit 1 of flags that have it is taken away, and bit 0 stays
pub without : (flags : ℕ) → goes_on flags ≡ true → (goes_on (flags - 2) ≡ false)
    × (order_of (flags - 2) ≡ order_of flags)
without flags on =
    let bit : flags / 2 % 2 ≡ 1 = eqb-true (flags / 2 % 2) 1 on in
    let off : (flags - 2) / 2 % 2 ≡ 0 = omega (arith, bit) in
    let same : (flags - 2) % 2 ≡ flags % 2 = omega (arith, bit) in (
      ne_eqb ((flags - 2) / 2 % 2) 1 (λ e. absurd (omega (arith, off, e))),
      ap (λ (n : ℕ). if nat_eq n 1 then Little else Big) same,
    )

-- a request that fragments follow is one that nothing follows, but for the flags
pub begun_run : (message : List ℕ) → IsFirst message → IsRun (begun message)
begun_run message first =
    let head = first.head in
    let other = begun message in
    let on : goes_on (flags_in message) ≡ true =
    sym (ap (λ (h : Head). h.goes_on) (head_ok message head first.is.head_is).0) ∙ first.goes_on in
    let cut = or_parts (nat_lt head.size 4) (head.goes_on && not (nat_eq ((12 + head.size) % 8) 0)) first.uncut in
    let size : 4 ≤ head.size = ltb-false head.size 4 cut.0 in
    let whole : length message ≡ 12 + head.size = first.is.whole in
    let flags : flags_in other ≡ flags_in message - 2 =
    get_or-set_same message 6 (flags_in message - 2) 0 (omega (arith, whole)) in
    let off : goes_on (flags_in other) ≡ false = ap goes_on flags ∙ (without (flags_in message) on).0 in
    let order : order_of (flags_in other) ≡ order_of (flags_in message) =
    ap order_of flags ∙ (without (flags_in message) on).1 in
    let size_same : size_in other ≡ size_in message =
    ap₂ (λ o xs. number_in o 4 xs) order (drop-set-lt 8 message 6 (flags_in message - 2) (omega arith)) in
    let said : head.size ≡ size_in message = ap (λ (h : Head). h.size) (head_ok message head first.is.head_is).0 in
    let limit : head.size ≤ max_size = (head_ok message head first.is.head_is).1 in
    let long : length other ≡ length message = length-set message 6 (flags_in message - 2) in
    let at : (i : ℕ) → (i ≡ 6 → ⊥) → slice_index other i ≡ slice_index message i =
    λ i ne. get_or-set_other message 6 i (flags_in message - 2) 0 ne in
    let is = head_alone message other head first.is.head_is
    (λ i within. at i (λ e. absurd (omega (arith, within, e)))) (at 7 (λ e. absurd (omega (arith, e)))) off
    (omega (arith, size_same, said, limit)) in
    record {
      numbered = omega (arith, long, whole, size);
      sized = omega (arith, long, whole, limit);
      head = head_of (flags_in other) (size_in other) head.kind;
      is = record { head_is = is; whole = omega (arith, long, whole, size_same, said) };
      kind_is = request_kind head.kind (head_on message head first.is.head_is first.goes_on) first.request;
      alone = off;
    } where
      request_kind : (kind : MessageKind) → may_go_on kind ≡ true → is_fragment kind ≡ false → kind ≡ Request
      request_kind Request on plain = refl
      request_kind Reply on plain = absurd (cc)
      request_kind CancelRequest on plain = absurd (cc)
      request_kind LocateRequest on plain = absurd (cc)
      request_kind LocateReply on plain = absurd (cc)
      request_kind CloseConnection on plain = absurd (cc)
      request_kind MessageError on plain = absurd (cc)
      request_kind Fragment on plain = absurd (cc)

-- the number that is written is the one that is read
number_back : (order : Order) (n : ℕ) (rest : List ℕ) → n < 2 ^ 32
    → number_in order 4 (plain_word order Four n ++ rest) ≡ n
number_back Big n rest fits = big_from-bytes 4 n rest ∙ mod-eq_of_lt fits
number_back Little n rest fits =
    little_from-bytes 4 0 n rest ∙ omega (arith, mod-eq_of_lt {n = n} fits)

-- what octets say behind which more are added, and whose size is written anew
sized_head : (run more : List ℕ) (head : Head) → head_in run ≡ Ok head → head.goes_on ≡ false → 12 ≤ length run
    → length (run ++ more) ≤ 12 + max_size
    → head_in (sized (run ++ more))
    ≡ Ok (head_of (flags_in (sized (run ++ more))) (length (run ++ more) - 12) head.kind)
sized_head run more head e alone le limit =
    let message = run ++ more in
    let n = length message - 12 in
    let order = order_in message in
    let back = plain_word order Four n ++ drop 12 message in
    let other = sized message in
    let before : head_in message ≡ Ok head = head_longer run more le ∙ e in
    let long = length-append run more in
    let eight : length (take 8 message) ≡ 8 = length-take-le 8 message (omega (arith, le, long)) in
    let at : (i : ℕ) → i < 8 → slice_index other i ≡ slice_index message i =
    λ i within. get_or_append_left (take 8 message) back 0 i (omega (arith, within, eight))
    ∙ get_or-take 8 message i 0 within in
    let flags : flags_in other ≡ flags_in message = at 6 (omega arith) in
    let off : goes_on (flags_in other) ≡ false =
    ap goes_on flags ∙ sym (ap (λ (h : Head). h.goes_on) (head_ok message head before).0) ∙ alone in
    let behind : drop 8 other ≡ back =
    ap (λ (k : ℕ). drop k other) (sym eight) ∙ drop-append_seam (take 8 message) back in
    let size : size_in other ≡ n =
    ap₂ (λ o xs. number_in o 4 xs) (ap order_of flags) behind
    ∙ number_back order n (drop 12 message) (omega (arith, limit)) in
    head_alone message other head before (λ i within. at i (omega (arith, within))) (at 7 (omega arith)) off
    (omega (arith, size, limit))
    ∙ ap (λ (k : ℕ). Ok (head_of (flags_in other) k head.kind)) size

-- it goes on no more than the run did
still_alone : (run more : List ℕ) (head : Head) → head_in run ≡ Ok head → head.goes_on ≡ false → 12 ≤ length run
    → goes_on (flags_in (sized (run ++ more))) ≡ false
still_alone run more head e alone le =
    let message = run ++ more in
    let back = plain_word (order_in message) Four (length message - 12) ++ drop 12 message in
    let long = length-append run more in
    let eight : length (take 8 message) ≡ 8 = length-take-le 8 message (omega (arith, le, long)) in
    let flags : flags_in (sized message) ≡ flags_in message =
    get_or_append_left (take 8 message) back 0 6 (omega (arith, eight)) ∙ get_or-take 8 message 6 0 (omega arith) in
    let before : head_in message ≡ Ok head = head_longer run more le ∙ e in
    ap goes_on flags ∙ sym (ap (λ (h : Head). h.goes_on) (head_ok message head before).0) ∙ alone

-- how long it is with a piece that breaks no rule
pub joined_limit : (run fragment : List ℕ) (head : Head) → 12 ≤ length run → length run ≤ 12 + max_size
    → breaks_run run head ≡ false → length fragment ≡ 12 + head.size
    → (16 ≤ length fragment) × (length run + (length fragment - 16) ≤ 12 + max_size)
joined_limit run fragment head le limit unbroken whole =
    let kept = run_kept run head unbroken in
    (omega (arith, kept.0, whole), omega (arith, le, kept.0, kept.1, whole))

-- how long a run is with a fragment
pub added_long : (run fragment : List ℕ) → 12 ≤ length run
    → length (added run fragment) ≡ length run + (length fragment - 16)
added_long run fragment le =
    let long = length-append run (drop 16 fragment) in
    omega (arith, le, long, length-drop 16 fragment, sized_long (run ++ drop 16 fragment) (omega (arith, le, long)))

-- a whole message of its kind with more octets, and its size written anew
pub added_alone : (kind : MessageKind) (run fragment : List ℕ) → IsAlone kind run
    → length run + (length fragment - 16) ≤ 12 + max_size → IsAlone kind (added run fragment)
added_alone kind run fragment is limit =
    let more = drop 16 fragment in
    let long = length-append run more in
    let brought = length-drop 16 fragment in
    let same = added_long run fragment (omega (arith, is.numbered)) in
    let within : length (run ++ more) ≤ 12 + max_size = omega (arith, limit, long, brought) in
    record {
      numbered = omega (arith, is.numbered, same);
      sized = omega (arith, limit, same);
      head = head_of (flags_in (sized (run ++ more))) (length (run ++ more) - 12) is.head.kind;
      is = record {
        head_is = sized_head run more is.head is.is.head_is is.alone (omega (arith, is.numbered)) within;
        whole = omega (arith, same, is.numbered, long, brought);
      };
      kind_is = is.kind_is;
      alone = still_alone run more is.head is.is.head_is is.alone (omega (arith, is.numbered));
    }

-- what is left by a call that adds a piece or nothing
pub left : {T E : Type 0} (r : Result T E) (P : List ℕ → Type 0) (old more new : List ℕ) → OnOk r (new ≡ more)
    → OnErr r (new ≡ old)
    → P old → P more → P new
left (Ok t) P old more new added kept before after = subst P (sym added) after
left (Err e) P old more new added kept before after = subst P (sym kept) before

-- a run is the whole message at its own front
pub run_front : (run : List ℕ) → IsRun run → front None run ≡ Whole run None []
run_front run is = own_front is.head run is.is (ap is_fragment is.kind_is) is.alone
