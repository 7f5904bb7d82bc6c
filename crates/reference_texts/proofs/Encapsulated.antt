-- Values in encapsulations, and their tapes.
use Rattle.std.proofs.Common.{◌≡◌, ℕ, List, [], ◌∷◌, ◌++◌, take, drop, append-nil, refl, sym, ap, ◌∙◌, subst, arith}
use Rattle.std.proofs.lemmas.List.{take-append-drop}
use Rattle.type_graph.specs.declared.width.Order.{Order}
use Rattle.type_graph.specs.declared.width.Order.TheVariants.{Big, Little}
use Rattle.type_graph.specs.Words.{AllBelow, reading, writing}
use Rattle.type_graph.specs.Value.{Tree, node_at, tape_of}
use Rattle.type_graph.specs.Encoding.{Encodes, Means}
use Rattle.type_graph.proofs.OneTape.{graph_fits_words, one_tape}
use Rattle.type_graph.proofs.OneReading.{one_reading}
use Rattle.type_graph.proofs.WrittenRead.{written_is_read}
use Rattle.giop_types.specs.GiopNodes.{giop_nodes}
use Rattle.giop_types.specs.Fields.{Holds}
use Rattle.giop_types.proofs.GraphFacts.{giop_is_graph}
use Rattle.giop_types.proofs.Writings.{encodes_once}
use Rattle.reference_texts.specs.Encapsulations.{Encapsulates, flag_of, HasTape, IsOfTape, IsWritten}
use Rattle.reference_texts.proofs.WrittenOctets.{encodes_octets}

pub orders_same : (a b : Order) → flag_of a ≡ flag_of b → a ≡ b
orders_same Big Big e = refl
orders_same Little Little e = refl
orders_same Big Little e = absurd (omega (arith, e))
orders_same Little Big e = absurd (omega (arith, e))

pub tape_read : (octets behind : List ℕ) (order : Order) (node : ℕ) (tape : List ℕ) (taken : ℕ)
    → octets ≡ flag_of order ∷ behind → Means giop_nodes (reading order) 64 node 1 tape (take taken behind)
    → HasTape node octets tape
tape_read octets behind order node tape taken e m = record {
  value = m.value;
  encapsulated = record {
    order = order;
    body = take taken behind;
    rest = drop taken behind;
    octets_are = e ∙ ap (λ l. flag_of order ∷ l) (sym (take-append-drop taken behind));
    holds = record { fits = m.fits; encodes = m.encodes };
  };
  tape_is = m.tape_is;
}

-- the tape of a value that is held
held_means : (order : Order) (node : ℕ) (value : Tree) (octets : List ℕ) → Holds (reading order) node 1 value octets
    → Means giop_nodes (reading order) 64 node 1 (tape_of giop_nodes (node_at giop_nodes node) value) octets
held_means order node value octets h = record { value = value; fits = h.fits; tape_is = refl; encodes = h.encodes }

pub none_read : (octets behind : List ℕ) (order : Order) (node : ℕ) → octets ≡ flag_of order ∷ behind
    → ((tape front rest : List ℕ) → behind ≡ front ++ rest → Means giop_nodes (reading order) 64 node 1 tape front → ⊥)
    → (value : Tree) → Encapsulates node value octets → ⊥
none_read octets behind order node e none value h =
    let same : flag_of order ∷ behind ≡ flag_of h.order ∷ (h.body ++ h.rest) = sym e ∙ h.octets_are in
    let flags : flag_of order ≡ flag_of h.order = cc in
    let front : behind ≡ h.body ++ h.rest = cc in
    let held = subst (λ (o : Order). Holds (reading o) node 1 value h.body) (sym (orders_same order h.order flags))
    h.holds in
    none (tape_of giop_nodes (node_at giop_nodes node) value) h.body h.rest front
    (held_means order node value h.body held)

pub none_written : (node : ℕ) (tape : List ℕ)
    → ((octets : List ℕ) → Means giop_nodes (writing Big) 64 node 1 tape octets → ⊥)
    → (octets : List ℕ) → IsOfTape node tape octets → ⊥
none_written node tape none octets w =
    none w.written.body
    (record {
      value = w.value;
      fits = w.written.holds.fits;
      tape_is = w.tape_is;
      encodes = w.written.holds.encodes;
    })

-- what is written can be read
pub held_read : (order : Order) (node p : ℕ) (value : Tree) (octets : List ℕ)
    → Holds (writing order) node p value octets
    → Holds (reading order) node p value octets
held_read order node p value octets h =
    let words = graph_fits_words giop_nodes giop_is_graph in
    let m = written_is_read giop_nodes order 64 node p (tape_of giop_nodes (node_at giop_nodes node) value) octets
    (record { value = value; fits = h.fits; tape_is = refl; encodes = h.encodes }) in
    let same = one_tape giop_nodes words (node_at giop_nodes node) value m.value 64 (words node) h.fits m.fits m.tape_is
    in
    record {
      fits = h.fits;
      encodes = subst (λ (v : Tree). Encodes (reading order) giop_nodes (node_at giop_nodes node) v p octets) (sym same)
          m.encodes;
    }

pub written_read : (node : ℕ) (value : Tree) (octets : List ℕ) → IsWritten node value octets
    → Encapsulates node value octets
written_read node value octets w = record {
  order = Big;
  body = w.body;
  rest = [];
  octets_are = w.octets_are ∙ ap (λ l. flag_of Big ∷ l) (sym (append-nil w.body));
  holds = held_read Big node 1 value w.body w.holds;
}

-- a value is written in one way
pub written_once : (node : ℕ) (value : Tree) (a b : List ℕ) → IsWritten node value a → IsWritten node value b → a ≡ b
written_once node value a b v w =
    v.octets_are
    ∙ ap (λ l. flag_of Big ∷ l)
    (encodes_once Big giop_nodes (node_at giop_nodes node) value 1 v.body w.body v.holds.encodes w.holds.encodes)
    ∙ sym w.octets_are

-- octets begin with one value of a node
pub encapsulated_once : (node : ℕ) (a b : Tree) (octets : List ℕ) → Encapsulates node a octets
    → Encapsulates node b octets → a ≡ b
encapsulated_once node a b octets h k =
    let same : flag_of h.order ∷ (h.body ++ h.rest) ≡ flag_of k.order ∷ (k.body ++ k.rest) =
    sym h.octets_are ∙ k.octets_are in
    let flags : flag_of h.order ≡ flag_of k.order = cc in
    let front : h.body ++ h.rest ≡ k.body ++ k.rest = cc in
    let moved = subst (λ (o : Order). Holds (reading o) node 1 b k.body) (sym (orders_same h.order k.order flags))
    k.holds in
    let words = graph_fits_words giop_nodes giop_is_graph in
    (one_reading giop_nodes words (reading h.order) (node_at giop_nodes node) a b 64 64 1 h.body k.body h.rest k.rest
    (words node) h.holds.fits moved.fits h.holds.encodes moved.encodes front).0

-- they are octets
pub written_octets : (node : ℕ) (value : Tree) (octets : List ℕ) → IsWritten node value octets → AllBelow 256 octets
written_octets node value octets w =
    subst (AllBelow 256) (sym w.octets_are) (
      omega arith,
      encodes_octets (writing Big) giop_nodes (node_at giop_nodes node) value 64 w.holds.fits 1 w.body
          w.holds.encodes,
    )
