-- What is read.
use Rattle.std.proofs.Common.{◌≡◌, ℕ, List, ◌++◌, take, drop, refl, sym}
use Rattle.std.proofs.lemmas.List.{take-append-drop}
use Rattle.type_graph.specs.declared.width.Order.{Order}
use Rattle.type_graph.specs.Words.{reading}
use Rattle.type_graph.specs.Value.{Tree, node_at, tape_of}
use Rattle.type_graph.specs.Encoding.{Means}
use Rattle.giop_types.specs.GiopNodes.{giop_nodes}
use Rattle.giop.specs.Bodies.{BeginsWith}
use Rattle.giop.specs.inner.ReplyBodiesTapes.{HasTape}

pub tape_read : (octets : List ℕ) (order : Order) (node place : ℕ) (tape : List ℕ) (taken : ℕ)
    → Means giop_nodes (reading order) 64 node place tape (take taken octets) → HasTape order node place octets tape
tape_read octets order node place tape taken m = record {
  value = m.value;
  begins = record {
    front = take taken octets;
    rest = drop taken octets;
    octets_are = sym (take-append-drop taken octets);
    holds = record { fits = m.fits; encodes = m.encodes };
  };
  tape_is = m.tape_is;
}

pub none_read : (octets : List ℕ) (order : Order) (node place : ℕ)
    → ((tape front rest : List ℕ) → octets ≡ front ++ rest → Means giop_nodes (reading order) 64 node place tape front
    → ⊥)
    → (value : Tree) → BeginsWith order node place value octets → ⊥
none_read octets order node place none value b =
    none (tape_of giop_nodes (node_at giop_nodes node) value) b.front b.rest b.octets_are
    (record { value = value; fits = b.holds.fits; tape_is = refl; encodes = b.holds.encodes })
