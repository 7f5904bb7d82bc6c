-- How the octets of references and profiles are written, for the values that were read of them.
use Rattle.std.proofs.Common.{◌≡◌, ℕ, List, ◌∷◌, ◌++◌, sym, ap₂, ◌∙◌, subst}
use Rattle.type_graph.specs.declared.width.Order.{Order}
use Rattle.type_graph.specs.Words.{reading, writing}
use Rattle.type_graph.specs.Value.{Tree, node_at}
use Rattle.type_graph.proofs.OneTape.{graph_fits_words}
use Rattle.type_graph.proofs.OneReading.{one_reading}
use Rattle.giop_types.specs.GiopNodes.{giop_nodes}
use Rattle.giop_types.specs.Fields.{Holds}
use Rattle.giop_types.proofs.GraphFacts.{giop_is_graph}
use Rattle.reference_texts.specs.Encapsulations.{Encapsulates, EncapsulatesSo, IsSo, Manner, flag_of}
use Rattle.reference_texts.specs.Profiles.{body_node, body_tree}
use Rattle.reference_texts.proofs.Encapsulated.{encapsulated_once, orders_same}
use Rattle.reference_listing.specs.Listings.{Iiop, IsIiop}

-- what is written in a manner is read
pub so_read : (node : ℕ) (value : Tree) (manner : Manner) (octets : List ℕ) → EncapsulatesSo node value manner octets
    → Encapsulates node value octets
so_read node value manner octets s = record {
  order = manner.order;
  body = s.front;
  rest = manner.behind;
  octets_are = s.octets_are;
  holds = s.holds;
}

-- it is the value that was read
pub so_of : (node : ℕ) (value : Tree) (manner : Manner) (octets : List ℕ) → Encapsulates node value octets
    → IsSo node manner octets → EncapsulatesSo node value manner octets
so_of node value manner octets read s =
    subst (λ (v : Tree). EncapsulatesSo node v manner octets)
    (encapsulated_once node s.value value octets (so_read node s.value manner octets s.is) read) s.is

-- a profile that is listed
pub listed_read : (tag : ℕ) (octets : List ℕ) (iiop : Iiop) → IsIiop (tag, octets) iiop
    → Encapsulates (body_node iiop.body.minor) (body_tree iiop.body iiop.body.minor) octets
listed_read tag octets iiop is = record {
  order = iiop.order;
  body = is.front;
  rest = iiop.behind;
  octets_are = is.octets_are;
  holds = is.holds;
}

-- its order and what is behind it are those that were listed
pub listed_so : (tag : ℕ) (octets : List ℕ) (iiop : Iiop) (manner : Manner) → IsIiop (tag, octets) iiop
    → IsSo (body_node iiop.body.minor) manner octets
    → EncapsulatesSo (body_node iiop.body.minor) (body_tree iiop.body iiop.body.minor)
    (record { order = iiop.order; gaps = manner.gaps; behind = iiop.behind }) octets
listed_so tag octets iiop manner is s =
    let node = body_node iiop.body.minor in
    let value = body_tree iiop.body iiop.body.minor in
    let so = so_of node value manner octets (listed_read tag octets iiop is) s in
    let same : flag_of manner.order ∷ (so.front ++ manner.behind) ≡ flag_of iiop.order ∷ (is.front ++ iiop.behind) =
    sym so.octets_are ∙ is.octets_are in
    let flags : flag_of manner.order ≡ flag_of iiop.order = cc in
    let rests : so.front ++ manner.behind ≡ is.front ++ iiop.behind = cc in
    let orders = orders_same manner.order iiop.order flags in
    let words = graph_fits_words giop_nodes giop_is_graph in
    let held = subst (λ (o : Order). Holds (reading o) node 1 value so.front) orders so.holds in
    let one = one_reading giop_nodes words (reading iiop.order) (node_at giop_nodes node) value value 64 64 1 so.front
    is.front
    manner.behind iiop.behind (words node) held.fits is.holds.fits held.encodes is.holds.encodes rests in
    record {
      front = so.front;
      octets_are = so.octets_are ∙ ap₂ (λ (f : ℕ) (b : List ℕ). f ∷ (so.front ++ b)) flags one.2;
      holds = held;
      clean = so.clean;
      clean_holds = subst (λ (o : Order). Holds (writing o) node 1 value so.clean) orders so.clean_holds;
      gaps_are = so.gaps_are;
    }
