-- Replies: that they are there, that there is one, and why one can't be sent.
use Rattle.std.proofs.Common.{◌≡◌, ℕ, ◌+◌, ◌^◌, ◌≤◌, ◌<◌, pos, Bool, true, false, ◌&&◌, nat_lt, List, [], ◌∷◌, ◌++◌, length, length-append, refl, sym, ap, ap₂, subst, ◌∙◌, append_assoc, append-nil, arith}
use Rattle.std.proofs.Common.{Option, Some, None}
use Rattle.std.specs.List.{AllByRecursion, list_all}
use Rattle.std.proofs.lemmas.Bool.{and_parts, ltb-true}
use Rattle.std.proofs.lemmas.List.{length-replicate}
use Rattle.type_graph.specs.declared.width.Order.{Order}
use Rattle.type_graph.specs.declared.width.Order.TheVariants.{Big}
use Rattle.type_graph.specs.declared.width.Width.TheVariants.{One, Four}
use Rattle.type_graph.specs.declared.node.Node.{Node}
use Rattle.type_graph.specs.Words.{pad, word, writing}
use Rattle.type_graph.specs.Value.{Tree, Number, Bytes, Items, NoTree, AndTree, node_at, Fits, IsText, tape_of}
use Rattle.type_graph.specs.GraphRules.{IsGraph}
use Rattle.giop_types.specs.TapeParts.{counted}
use Rattle.giop_messages.specs.Heads.{max_size}
use Rattle.table_file.specs.Table.{TableParts}
use Rattle.giop_types.specs.GiopModel.{giop_table}
use Rattle.giop_types.specs.GiopNodes.{giop_nodes}
use Rattle.giop_types.proofs.GraphFacts.{giop_is_graph}
use Rattle.giop_types.specs.Fields.{Holds}
use Rattle.giop_types.proofs.Writings.{encodes_once}
use Rattle.giop_messages.specs.declared.fault.GiopFault.{GiopFault}
use Rattle.giop_messages.specs.declared.fault.GiopFault.TheVariants as faults
use Rattle.giop_messages.specs.declared.message.ReplyStatus.{ReplyStatus}
use Rattle.giop_messages.specs.declared.message.ReplyStatus.TheVariants.{NoException, UserException, SystemException as Systemic, LocationForward, LocationForwardPerm, NeedsAddressingMode}
use Rattle.giop_messages.specs.Headers.{here_number, here_tree, reply_tree, number_of}
use Rattle.giop_messages.specs.Messages.{Asked, body_after}
use Rattle.giop_messages.specs.Written.{Given, IsBody, IsWritten, body_gap, head_octets}
use Rattle.giop_messages.proofs.OneWritten.{tape_written_once}
use Rattle.giop.specs.Made.{given}
use Rattle.giop.specs.Refusal.{IsNotWritten}
use Rattle.giop.proofs.MadeFacts.{length-head_octets}
use Rattle.broker_answers.specs.declared.exception.BrokerException.{BrokerException}
use Rattle.broker_answers.specs.declared.exception.BrokerException.TheVariants as raised
use Rattle.broker_answers.specs.Exceptions.{completion, exception_id, exception_tape}
use Rattle.broker_answers.specs.Replies.{Reply, reply_of, acceptance, exception_reply, truth_number, truth_reply, IsSent, IsUnsendable}
use Rattle.broker_answers.proofs.Existence.{encodes_there, room}

-- ---- one message is written

body_once : (order : Order) (body : Option Given) (p : ℕ) (x y : List ℕ)
    → ((given : Given) → body ≡ Some given → IsGraph given.graph) → IsBody order body p x → IsBody order body p y
    → x ≡ y
body_once order None p x y rules a b = a ∙ sym b
body_once order (Some given) p x y rules a b =
    a.octets_are
    ∙ ap (λ (octets : List ℕ). body_gap p given.tape ++ octets)
    (tape_written_once given.graph (rules given refl) order 64 given.node (body_after p) given.tape a.body b.body a.is
    b.is)
    ∙ sym b.octets_are

header_once : (order : Order) (node : ℕ) (value : Tree) (x y : List ℕ) → Holds (writing order) node 12 value x
    → Holds (writing order) node 12 value y → x ≡ y
header_once order node value x y a b =
    encodes_once order giop_nodes (node_at giop_nodes node) value 12 x y a.encodes b.encodes

pub written_once : (order : Order) (kind node : ℕ) (value : Tree) (body : Option Given) (x y : List ℕ)
    → ((given : Given) → body ≡ Some given → IsGraph given.graph) → IsWritten order kind node value body x
    → IsWritten order kind node value body y → x ≡ y
written_once order kind node value body x y rules a b =
    let header = header_once order node value a.header b.header a.header_is b.header_is in
    let behind =
    body_once order body (12 + length a.header) a.behind b.behind rules a.body_is
    (subst (λ (h : List ℕ). IsBody order body (12 + length h) b.behind) (sym header) b.body_is) in
    a.octets_are
    ∙ ap₂ (λ (h more : List ℕ). head_octets order kind (length h + length more) ++ (h ++ more)) header behind
    ∙ sym b.octets_are

-- ---- none is sent

pub unsendable : (fault : GiopFault) (asked : Asked) (reply : Reply) → (fault ≡ faults.NoMemory → ⊥)
    → ((given : Given) → reply.body ≡ Some given → IsGraph given.graph)
    → IsNotWritten fault asked.order 1 19 (reply_tree asked.id (number_of reply.status) NoTree) reply.body
    → IsUnsendable asked reply
unsendable faults.NoMemory asked reply other rules h = absurd (other refl)
unsendable faults.TooLong asked reply other rules h = λ octets s.
    let same = written_once asked.order 1 19 (reply_tree asked.id (number_of reply.status) NoTree) reply.body octets
    h.octets
    rules s.written h.is in
    omega (arith, s.short, h.long, ap length same)
unsendable faults.BadHead asked reply other rules h = λ octets s. h s.written.header s.written.header_is
unsendable faults.BadBody asked reply other rules h = λ octets s.
    let same = header_once asked.order 19 (reply_tree asked.id (number_of reply.status) NoTree) s.written.header
    h.header
    s.written.header_is h.header_is in
    h.none s.written.behind
    (subst (λ (x : List ℕ). IsBody asked.order reply.body (12 + length x) s.written.behind) same s.written.body_is)
unsendable faults.NotGiop asked reply other rules h = absurd h
unsendable faults.Version asked reply other rules h = absurd h
unsendable faults.BadFragment asked reply other rules h = absurd h

-- ---- one is there

status_below : (status : ReplyStatus) → number_of status < 6
status_below NoException = omega arith
status_below UserException = omega arith
status_below Systemic = omega arith
status_below LocationForward = omega arith
status_below LocationForwardPerm = omega arith
status_below NeedsAddressingMode = omega arith

header_there : (asked : Asked) (status : ReplyStatus) → asked.id < 2 ^ 32
    → (header : List ℕ) × Holds (writing asked.order) 19 12 (reply_tree asked.id (number_of status) NoTree) header
    × (length header ≤ 100)
header_there asked status id =
    let value = reply_tree asked.id (number_of status) NoTree in
    let fits : Fits giop_nodes (node_at giop_nodes 19) value 64 =
    (id, (status_below status, ((omega arith, record { in_bound = tt; short = omega arith }, tt), tt))) in
    let s = encodes_there asked.order giop_nodes (node_at giop_nodes 19) value 64 fits 12 in
    (s.octets, record { fits = fits; encodes = s.is }, omega (arith, s.short))

gap_short : (p : ℕ) (tape : List ℕ) → length (body_gap p tape) ≤ 7
gap_short p [] = omega arith
gap_short p (octet ∷ more) = omega (arith, length-replicate {A = ℕ} (pad p 8) 0)

empty_there : (asked : Asked) → asked.id < 2 ^ 32 → (octets : List ℕ) × IsSent asked acceptance octets
empty_there asked id =
    let h = header_there asked NoException id in (
      head_octets asked.order 1 (length h.0 + length {A = ℕ} []) ++ (h.0 ++ []),
      record {
        written = record { header = h.0; behind = []; octets_are = refl; header_is = h.1; body_is = refl };
        short = omega (
          arith,
          length-append (head_octets asked.order 1 (length h.0 + length {A = ℕ} [])) (h.0 ++ []),
          length-head_octets asked.order 1 (length h.0 + length {A = ℕ} []),
          length-append h.0 [],
          h.2,
        );
      },
    )

body_there : (asked : Asked) (status : ReplyStatus) (graph : List Node) (node : ℕ) (value : Tree) (tape : List ℕ)
    → asked.id < 2 ^ 32 → Fits graph (node_at graph node) value 64 → tape ≡ tape_of graph (node_at graph node) value
    → room value ≤ 1000 → (octets : List ℕ) × IsSent asked (reply_of status graph node tape) octets
body_there asked status graph node value tape id fits e small =
    let h = header_there asked status id in
    let p = 12 + length h.0 in
    let b = encodes_there asked.order graph (node_at graph node) value 64 fits (body_after p) in
    let behind = body_gap p tape ++ b.octets in (
      head_octets asked.order 1 (length h.0 + length behind) ++ (h.0 ++ behind),
      record {
        written = record {
          header = h.0;
          behind = behind;
          octets_are = refl;
          header_is = h.1;
          body_is = record {
            body = b.octets;
            octets_are = refl;
            is = record { value = value; fits = fits; tape_is = e; encodes = b.is };
          };
        };
        short = omega (
          arith,
          length-append (head_octets asked.order 1 (length h.0 + length behind)) (h.0 ++ behind),
          length-head_octets asked.order 1 (length h.0 + length behind),
          length-append h.0 behind,
          length-append (body_gap p tape) b.octets,
          gap_short p tape,
          b.short,
          small,
          h.2,
        );
      },
    )

-- ---- those of the broker's own

abbrev is_letter : ℕ → Bool
is_letter o = nat_lt 0 o && nat_lt o 256

letters : (text : List ℕ) → list_all is_letter text ≡ true → AllByRecursion (λ octet. (0 < octet) × (octet < 256)) text
letters [] e = tt
letters (o ∷ more) e =
    let p = and_parts (is_letter o) (list_all is_letter more) e in
    let q = and_parts (nat_lt 0 o) (nat_lt o 256) p.0 in
    ((ltb-true 0 o q.0, ltb-true o 256 q.1), letters more p.1)

id_text : (e : BrokerException) → IsText 0 (exception_id e)
id_text raised.ObjectNotExist =
    record { in_bound = tt; short = omega arith; octets = letters (exception_id raised.ObjectNotExist) refl }
id_text raised.BadOperation =
    record { in_bound = tt; short = omega arith; octets = letters (exception_id raised.BadOperation) refl }
id_text raised.Marshal =
    record { in_bound = tt; short = omega arith; octets = letters (exception_id raised.Marshal) refl }
id_text raised.NoImplement =
    record { in_bound = tt; short = omega arith; octets = letters (exception_id raised.NoImplement) refl }
id_text raised.Unknown =
    record { in_bound = tt; short = omega arith; octets = letters (exception_id raised.Unknown) refl }
id_text raised.Internal =
    record { in_bound = tt; short = omega arith; octets = letters (exception_id raised.Internal) refl }

abbrev exception_tree : BrokerException → Tree
exception_tree e =
    Items
    (AndTree (Bytes (exception_id e))
    (AndTree (Number (pos 0)) (AndTree (Number (pos (completion e))) NoTree)))

completion_below : (e : BrokerException) → completion e < 2 ^ 32
completion_below raised.ObjectNotExist = omega arith
completion_below raised.BadOperation = omega arith
completion_below raised.Marshal = omega arith
completion_below raised.NoImplement = omega arith
completion_below raised.Unknown = omega arith
completion_below raised.Internal = omega arith

id_short : (e : BrokerException) → length (exception_id e) ≤ 100
id_short raised.ObjectNotExist = omega arith
id_short raised.BadOperation = omega arith
id_short raised.Marshal = omega arith
id_short raised.NoImplement = omega arith
id_short raised.Unknown = omega arith
id_short raised.Internal = omega arith

exception_tape_is : (e : BrokerException) → exception_tape e
    ≡ tape_of giop_nodes (node_at giop_nodes 23) (exception_tree e)
exception_tape_is e =
    append_assoc (counted (exception_id e)) (word Big Four (pos 0)) (word Big Four (pos (completion e)))
    ∙ ap (λ (w : List ℕ). counted (exception_id e) ++ (word Big Four (pos 0) ++ w))
    (sym (append-nil (word Big Four (pos (completion e)))))

pub exception_there : (asked : Asked) (e : BrokerException) → asked.id < 2 ^ 32
    → IsUnsendable asked (exception_reply e) → ⊥
exception_there asked e id none =
    let s = body_there asked Systemic giop_nodes 23 (exception_tree e) (exception_tape e) id
    (id_text e, (omega arith, (completion_below e, tt))) (exception_tape_is e)
    (omega (arith, id_short e, length-append (exception_id e) (0 ∷ []))) in
    none s.0 s.1

truth_below : (b : Bool) → truth_number b < 2
truth_below true = omega arith
truth_below false = omega arith

pub truth_there : (asked : Asked) (b : Bool) → asked.id < 2 ^ 32 → IsUnsendable asked (truth_reply b) → ⊥
truth_there asked b id none =
    let s = body_there asked NoException giop_nodes 27 (Items (AndTree (Number (pos (truth_number b))) NoTree))
    (word Big One (pos (truth_number b))) id (truth_below b, tt)
    (sym (append-nil (word Big One (pos (truth_number b)))))
    (omega arith) in
    none s.0 s.1

pub acceptance_there : (asked : Asked) → asked.id < 2 ^ 32 → IsUnsendable asked acceptance → ⊥
acceptance_there asked id none = let s = empty_there asked id in none s.0 s.1

-- ---- by what is refused

some_given : (a b : Given) → Some a ≡ Some b → a ≡ b
some_given a b e = cc

none_given : (a : Given) → None ≡ Some a → ⊥
none_given a e = absurd (cc)

pub body_unsendable : (fault : GiopFault) (asked : Asked) (status : ReplyStatus) (body : Given)
    → (fault ≡ faults.NoMemory → ⊥) → IsGraph body.graph
    → IsNotWritten fault asked.order 1 19 (reply_tree asked.id (number_of status) NoTree) (Some body)
    → IsUnsendable asked (record { status = status; body = Some body })
body_unsendable fault asked status body other rules h =
    unsendable fault asked (record { status = status; body = Some body }) other
    (λ there e. subst (λ (g : Given). IsGraph g.graph) (some_given body there e) rules) h

pub own_unsendable : (fault : GiopFault) (asked : Asked) (status : ReplyStatus) (table : TableParts) (node : ℕ)
    (tape : List ℕ)
    → (fault ≡ faults.NoMemory → ⊥) → table ≡ giop_table
    → IsNotWritten fault asked.order 1 19 (reply_tree asked.id (number_of status) NoTree)
    (Some (given table.model.graph node tape))
    → IsUnsendable asked (reply_of status giop_nodes node tape)
own_unsendable fault asked status table node tape other e h =
    body_unsendable fault asked status (given giop_nodes node tape) other giop_is_graph
    (subst (λ (t : TableParts). IsNotWritten fault asked.order 1 19 (reply_tree asked.id (number_of status) NoTree)
    (Some (given t.model.graph node tape))) e h)

pub acceptance_isnt_refused : (fault : GiopFault) (asked : Asked) → (fault ≡ faults.NoMemory → ⊥) → asked.id < 2 ^ 32
    → IsNotWritten fault asked.order 1 19 (reply_tree asked.id 0 NoTree) None → ⊥
acceptance_isnt_refused fault asked other id h =
    acceptance_there asked id
    (unsendable fault asked acceptance other (λ there e. absurd (none_given there e)) h)

-- ---- replies to locate requests

isnt_refused : (fault : GiopFault) (order : Order) (kind node : ℕ) (value : Tree) (octets : List ℕ)
    → (fault ≡ faults.NoMemory → ⊥) → IsWritten order kind node value None octets → length octets ≤ 12 + max_size
    → IsNotWritten fault order kind node value None → ⊥
isnt_refused faults.NoMemory order kind node value octets other written short h = other refl
isnt_refused faults.TooLong order kind node value octets other written short h =
    let same = written_once order kind node value None octets h.octets (λ there e. absurd (none_given there e)) written
    h.is in
    omega (arith, short, h.long, ap length same)
isnt_refused faults.BadHead order kind node value octets other written short h = h written.header written.header_is
isnt_refused faults.BadBody order kind node value octets other written short h = h.none [] refl
isnt_refused faults.NotGiop order kind node value octets other written short h = h
isnt_refused faults.Version order kind node value octets other written short h = h
isnt_refused faults.BadFragment order kind node value octets other written short h = h

here_below : (here : Bool) → here_number here < 2 ^ 32
here_below true = omega arith
here_below false = omega arith

pub locate_isnt_refused : (fault : GiopFault) (order : Order) (id : ℕ) (here : Bool) → (fault ≡ faults.NoMemory → ⊥)
    → id < 2 ^ 32 → IsNotWritten fault order 4 21 (here_tree id (here_number here)) None → ⊥
locate_isnt_refused fault order id here other below h =
    let value = here_tree id (here_number here) in
    let fits : Fits giop_nodes (node_at giop_nodes 21) value 64 = (below, (here_below here, tt)) in
    let s = encodes_there order giop_nodes (node_at giop_nodes 21) value 64 fits 12 in
    isnt_refused fault order 4 21 value (head_octets order 4 (length s.octets + length {A = ℕ} []) ++ (s.octets ++ []))
    other
    (record {
      header = s.octets;
      behind = [];
      octets_are = refl;
      header_is = record { fits = fits; encodes = s.is };
      body_is = refl;
    })
    (omega (
      arith,
      length-append (head_octets order 4 (length s.octets + length {A = ℕ} [])) (s.octets ++ []),
      length-head_octets order 4 (length s.octets + length {A = ℕ} []),
      length-append s.octets [],
      s.short,
    )) h
