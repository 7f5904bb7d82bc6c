-- Where the header of a message stands, and what its tape is.
use Rattle.std.proofs.Common.{◌≡◌, ℕ, ◌+◌, ◌≤◌, List, ◌++◌, length, take, drop, refl, sym, ap, ◌∙◌, append-nil}
use Rattle.std.proofs.lemmas.List.{take-append-drop, length-take-le}
use Rattle.type_graph.specs.declared.width.Order.{Order}
use Rattle.type_graph.specs.Words.{reading}
use Rattle.type_graph.specs.Value.{Tree, node_at, tape_of}
use Rattle.type_graph.specs.Encoding.{Means}
use Rattle.giop_types.specs.GiopNodes.{giop_nodes}
use Rattle.giop_messages.specs.Messages.{HasHeader}
use Rattle.giop.specs.inner.Tapes.{IsTapeAt}

pub tape_found : (octets behind : List ℕ) (order : Order) (node : ℕ) (tape : List ℕ) (taken : ℕ)
    → behind ≡ drop 12 octets
    → Means giop_nodes (reading order) 64 node 12 tape (take taken behind) → taken ≤ length behind
    → IsTapeAt octets order node tape (12 + taken)
tape_found octets behind order node tape taken e m within = record {
  value = m.value;
  header = record {
    header = take taken behind;
    rest = drop taken behind;
    behind = sym e ∙ sym (take-append-drop taken behind);
    holds = record { fits = m.fits; encodes = m.encodes };
    stops = ap (λ n. 12 + n) (sym (length-take-le taken behind within));
  };
  begins = record {
    fits = m.fits;
    tape_is = m.tape_is
        ∙ sym (append-nil (tape_of giop_nodes (node_at giop_nodes node) m.value));
  };
}

pub no_tape : (octets behind : List ℕ) (order : Order) (node : ℕ) → behind ≡ drop 12 octets
    → ((tape front rest : List ℕ) → behind ≡ front ++ rest → Means giop_nodes (reading order) 64 node 12 tape front → ⊥)
    → (value : Tree) (stop : ℕ) → HasHeader octets order node value stop → ⊥
no_tape octets behind order node e none value stop h =
    none (tape_of giop_nodes (node_at giop_nodes node) value) h.header h.rest (e ∙ h.behind)
    (record { value = value; fits = h.holds.fits; tape_is = refl; encodes = h.holds.encodes })
