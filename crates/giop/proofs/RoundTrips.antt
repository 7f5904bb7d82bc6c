-- What is read of the messages that are written.
use Rattle.std.proofs.Common.{◌≡◌, ℕ, ◌+◌, ◌^◌, ◌<◌, ◌≤◌, Bool, false, List, [], ◌∷◌, ◌++◌, length, length-append, drop, replicate, Option, Some, None, Result, Ok, Err, nat_lt, if◌then◌else◌, mod-eq_of_lt, refl, sym, ap, ap₂, ◌∙◌, append_assoc, subst, subst₂, arith}
use Rattle.std.proofs.lemmas.Bool.Decides.{nat_tests}
use Rattle.std.proofs.lemmas.List.{drop_all, length-replicate}
use Rattle.std.proofs.Math.Seq.{drop-append_seam}
use Rattle.byteorder.specs.Numbers.{big_from-bytes, little_from-bytes}
use Rattle.type_graph.specs.declared.width.Order.{Order}
use Rattle.type_graph.specs.declared.width.Order.TheVariants.{Big, Little}
use Rattle.type_graph.specs.declared.width.Width.TheVariants.{Four}
use Rattle.type_graph.specs.Words.{reading, writing, plain_word, pad}
use Rattle.type_graph.specs.Value.{Tree, NoTree}
use Rattle.type_graph.specs.Encoding.{Means}
use Rattle.type_graph.proofs.WrittenRead.{written_is_read}
use Rattle.giop_messages.specs.declared.fault.FramingFault.{FramingFault}
use Rattle.giop_messages.specs.declared.fault.FramingFault.TheVariants.{TooLong}
use Rattle.giop_messages.specs.declared.head.MessageKind.{MessageKind}
use Rattle.giop_messages.specs.declared.head.MessageKind.TheVariants as kinds
use Rattle.giop_messages.specs.declared.head.Head.{Head}
use Rattle.giop_messages.specs.Heads.{head_in, max_size, number_in}
use Rattle.giop_types.specs.Fields.{Holds, octet_trees}
use Rattle.reference_texts.proofs.Encapsulated.{held_read}
use Rattle.giop_messages.specs.declared.message.ReplyStatus.{ReplyStatus}
use Rattle.giop_messages.specs.Headers.{ByKey, key_target, number_of, reply_tree, request_tree}
use Rattle.giop_messages.specs.Messages.{HasHeader, body_after}
use Rattle.giop_messages.specs.Written.{Given, IsBody, IsGiven, IsWritten, body_gap, head_octets}
use Rattle.giop.proofs.MadeFacts.{length-head_octets, length_made}
use Rattle.giop.specs.RoundTrips.{HoldsBody, HoldsTape, IsEmpty, SaysReply, SaysRequest}
use Rattle.giop.proofs.EmptyTapes.{none_meant}

-- ---- the head

size_read : (order : Order) (size : ℕ) (more : List ℕ) → size ≤ max_size
    → number_in order 4 (plain_word order Four size ++ more) ≡ size
size_read Big size more small = big_from-bytes 4 size more ∙ mod-eq_of_lt (omega (arith, small))
size_read Little size more small =
    let fits : size < 2 ^ 32 = omega (arith, small) in
    little_from-bytes 4 0 size more ∙ omega (arith, mod-eq_of_lt {n = size} fits)

-- the head of a message of a type that nothing follows
abbrev head_of_written : Order → MessageKind → ℕ → Head
head_of_written order kind size = record { kind = kind; order = order; goes_on = false; size = size }

limited : (n size : ℕ) (found : Result Head FramingFault) → n ≡ size → size ≤ max_size
    → (if nat_lt max_size n then Err TooLong else found) ≡ found
limited n size found e small =
    let within : nat_lt max_size n ≡ false = grind (arith, nat_tests, e, small) in
    ap (λ (b : Bool). if b then Err TooLong else found) within

head_read : (order : Order) (size : ℕ) (more : List ℕ) → size ≤ max_size
    → (head_in (head_octets order 0 size ++ more) ≡ Ok (head_of_written order kinds.Request size))
    × (head_in (head_octets order 1 size ++ more) ≡ Ok (head_of_written order kinds.Reply size))
head_read Big size more small =
    let n = number_in Big 4 (plain_word Big Four size ++ more) in
    let e : n ≡ size = size_read Big size more small in (
      limited n size (Ok (head_of_written Big kinds.Request n)) e small
          ∙ ap (λ m. Ok (head_of_written Big kinds.Request m)) e,
      limited n size (Ok (head_of_written Big kinds.Reply n)) e small
          ∙ ap (λ m. Ok (head_of_written Big kinds.Reply m)) e,
    )
head_read Little size more small =
    let n = number_in Little 4 (plain_word Little Four size ++ more) in
    let e : n ≡ size = size_read Little size more small in (
      limited n size (Ok (head_of_written Little kinds.Request n)) e small
          ∙ ap (λ m. Ok (head_of_written Little kinds.Request m)) e,
      limited n size (Ok (head_of_written Little kinds.Reply n)) e small
          ∙ ap (λ m. Ok (head_of_written Little kinds.Reply m)) e,
    )

-- ---- the header

behind_head : (order : Order) (kind size : ℕ) (more : List ℕ) → drop 12 (head_octets order kind size ++ more) ≡ more
behind_head order kind size more =
    ap (λ n. drop n (head_octets order kind size ++ more)) (sym (length-head_octets order kind size))
    ∙ drop-append_seam (head_octets order kind size) more

header_read : (order : Order) (kind size node : ℕ) (value : Tree) (octets header behind : List ℕ)
    → octets ≡ head_octets order kind size ++ (header ++ behind) → Holds (writing order) node 12 value header
    → HasHeader octets order node value (12 + length header)
header_read order kind size node value octets header behind e h = record {
  header = header;
  rest = behind;
  behind = ap (drop 12) e ∙ behind_head order kind size (header ++ behind);
  holds = held_read order node 12 value header h;
  stops = refl;
}

-- ---- the body

nothing_behind : (order : Order) (body : Option Given) (stop : ℕ) (behind : List ℕ) → IsBody order body stop behind
    → IsEmpty body → behind ≡ []
nothing_behind order None stop behind is e = is
nothing_behind order (Some given) stop behind is e =
    let M : List ℕ → Type 0 = λ tape. Means given.graph (writing order) 64 given.node (body_after stop) tape is.body in
    is.octets_are
    ∙ ap₂ (λ (gap l : List ℕ). gap ++ l) (ap (body_gap stop) e)
    (none_meant given.graph (writing order) 64 given.node (body_after stop) is.body (subst M e is.is))

none_read : (order : Order) (kind size : ℕ) (octets header behind : List ℕ)
    → octets ≡ head_octets order kind size ++ (header ++ behind) → behind ≡ []
    → drop (body_after (12 + length header)) octets ≡ []
none_read order kind size octets header behind e none =
    let long : length octets ≡ 12 + length (header ++ behind) =
    length_made order kind size octets (header ++ behind) e in
    drop_all (body_after (12 + length header)) octets
    (omega (arith, long, length-append header behind, ap length none))

tape_read : (order : Order) (kind size : ℕ) (given : Given) (tape octets header behind : List ℕ)
    → octets ≡ head_octets order kind size ++ (header ++ behind) → IsGiven order given (12 + length header) behind
    → given.tape ≡ tape
    → HoldsTape order given tape (body_after (12 + length header)) (drop (body_after (12 + length header)) octets)
tape_read order kind size given [] octets header behind e is t =
    none_read order kind size octets header behind e
    (nothing_behind order (Some given) (12 + length header) behind is t)
tape_read order kind size given (octet ∷ more) octets header behind e is t =
    let gap = replicate (pad (12 + length header) 8) 0 in
    let front = head_octets order kind size ++ (header ++ gap) in
    let gaps : body_gap (12 + length header) given.tape ≡ gap = ap (body_gap (12 + length header)) t in
    let cut : octets ≡ front ++ is.body =
    e ∙ ap (λ l. head_octets order kind size ++ (header ++ l)) (is.octets_are ∙ ap (λ l. l ++ is.body) gaps)
    ∙ simp append_assoc in
    let long : length front ≡ body_after (12 + length header) =
    omega (
      arith,
      length-append (head_octets order kind size) (header ++ gap),
      length-head_octets order kind size,
      length-append header gap,
      length-replicate {A = ℕ} (pad (12 + length header) 8) 0,
    ) in
    let there : drop (body_after (12 + length header)) octets ≡ is.body =
    ap₂ (λ (n : ℕ) (l : List ℕ). drop n l) (sym long) cut ∙ drop-append_seam front is.body in
    let M : List ℕ → List ℕ → Type 0 =
    Means given.graph (reading order) 64 given.node (body_after (12 + length header)) in
    subst₂ M t (sym there)
    (written_is_read given.graph order 64 given.node (body_after (12 + length header)) given.tape is.body is.is)

body_read : (order : Order) (kind size : ℕ) (body : Option Given) (octets header behind : List ℕ)
    → octets ≡ head_octets order kind size ++ (header ++ behind) → IsBody order body (12 + length header) behind
    → HoldsBody order body (body_after (12 + length header)) (drop (body_after (12 + length header)) octets)
body_read order kind size None octets header behind e is = none_read order kind size octets header behind e is
body_read order kind size (Some given) octets header behind e is =
    tape_read order kind size given given.tape octets header behind e is refl

-- ---- messages

whole_written : (order : Order) (kind node : ℕ) (value : Tree) (body : Option Given) (octets : List ℕ)
    (w : IsWritten order kind node value body octets) → length octets ≡ 12 + (length w.header + length w.behind)
whole_written order kind node value body octets w =
    length_made order kind (length w.header + length w.behind) octets (w.header ++ w.behind) w.octets_are
    ∙ ap (λ n. 12 + n) (length-append w.header w.behind)

stops_written : (order : Order) (kind node : ℕ) (value : Tree) (body : Option Given) (octets : List ℕ)
    (w : IsWritten order kind node value body octets) → IsEmpty body → length octets ≡ 12 + length w.header
stops_written order kind node value body octets w e =
    whole_written order kind node value body octets w
    ∙ omega (arith, ap length (nothing_behind order body (12 + length w.header) w.behind w.body_is e))

pub request_said : (order : Order) (id flags : ℕ) (key operation : List ℕ) (body : Option Given) (octets : List ℕ)
    → length octets ≤ 12 + max_size
    → IsWritten order 0 17 (request_tree id flags (octet_trees (0 ∷ 0 ∷ 0 ∷ [])) (key_target key) operation NoTree) body
    octets
    → SaysRequest order id flags key operation body octets
request_said order id flags key operation body octets small w =
    let size = length w.header + length w.behind in
    let long = whole_written order 0 17
    (request_tree id flags (octet_trees (0 ∷ 0 ∷ 0 ∷ [])) (key_target key) operation NoTree) body octets w in
    let stop = 12 + length w.header in
    let head : head_in octets ≡ Ok (head_of_written order kinds.Request size) =
    ap head_in w.octets_are ∙ (head_read order size (w.header ++ w.behind) (omega (arith, small, long))).0 in
    record {
      asked = record {
        id = id;
        flags = flags;
        key = Some key;
        operation = operation;
        order = order;
        body_at = body_after stop;
        body = drop (body_after stop) octets;
      };
      says = record {
        head = head_of_written order kinds.Request size;
        is = record { is = record { head_is = head; whole = long }; kind_is = refl; alone = refl };
        order_is = refl;
        reserved = octet_trees (0 ∷ 0 ∷ 0 ∷ []);
        target = key_target key;
        contexts = NoTree;
        stop = stop;
        header = header_read order 0 size 17
            (request_tree id flags (octet_trees (0 ∷ 0 ∷ 0 ∷ [])) (key_target key) operation NoTree)
            octets w.header w.behind w.octets_are w.header_is;
        key_is = ByKey refl;
        body = record { place = refl; body_is = refl };
      };
      id_is = refl;
      flags_is = refl;
      key_is = refl;
      operation_is = refl;
      order_is = refl;
      body_is = body_read order 0 size body octets w.header w.behind w.octets_are w.body_is;
      stops = stops_written order 0 17
          (request_tree id flags (octet_trees (0 ∷ 0 ∷ 0 ∷ [])) (key_target key) operation NoTree) body octets w;
    }

pub reply_said : (order : Order) (id : ℕ) (status : ReplyStatus) (body : Option Given) (octets : List ℕ)
    → length octets ≤ 12 + max_size
    → IsWritten order 1 19 (reply_tree id (number_of status) NoTree) body octets
    → SaysReply order id status body octets
reply_said order id status body octets small w =
    let size = length w.header + length w.behind in
    let long = whole_written order 1 19 (reply_tree id (number_of status) NoTree) body octets w in
    let stop = 12 + length w.header in
    let head : head_in octets ≡ Ok (head_of_written order kinds.Reply size) =
    ap head_in w.octets_are ∙ (head_read order size (w.header ++ w.behind) (omega (arith, small, long))).1 in
    record {
      answered = record {
        id = id;
        status = status;
        order = order;
        body_at = body_after stop;
        body = drop (body_after stop) octets;
      };
      says = record {
        head = head_of_written order kinds.Reply size;
        is = record { is = record { head_is = head; whole = long }; kind_is = refl; alone = refl };
        order_is = refl;
        contexts = NoTree;
        stop = stop;
        header = header_read order 1 size 19 (reply_tree id (number_of status) NoTree) octets w.header w.behind
            w.octets_are w.header_is;
        body = record { place = refl; body_is = refl };
      };
      id_is = refl;
      status_is = refl;
      order_is = refl;
      body_is = body_read order 1 size body octets w.header w.behind w.octets_are w.body_is;
      stops = stops_written order 1 19 (reply_tree id (number_of status) NoTree) body octets w;
    }
