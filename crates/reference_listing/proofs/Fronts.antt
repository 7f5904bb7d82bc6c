-- Octets that begin with the body of a profile.
use Rattle.std.proofs.Common.{◌≡◌, ℕ, zero, suc, Bool, true, false, not, List, [], ◌∷◌, ◌++◌, take, drop, Option, Some, None, Result, Ok, Err, IfOk, IfNone, refl, sym, ap, ◌∙◌, subst}
use mathlib.Core.Bool.{beq}
use Rattle.std.specs.declared.alloc.AllocError.{AllocError}
use Rattle.std.proofs.lemmas.List.{take-append-drop}
use Rattle.type_graph.specs.declared.width.Order.{Order}
use Rattle.type_graph.specs.Words.{reading}
use Rattle.type_graph.specs.Value.{Tree, node_at, tape_of}
use Rattle.type_graph.specs.Encoding.{Means}
use Rattle.type_graph.proofs.OneTape.{graph_fits_words}
use Rattle.type_graph.proofs.OneReading.{one_reading}
use Rattle.giop_types.specs.GiopNodes.{giop_nodes}
use Rattle.giop_types.specs.Fields.{Holds}
use Rattle.giop_types.proofs.GraphFacts.{giop_is_graph}
use Rattle.reference_texts.specs.Profiles.{Body, body_node, body_tree}
use Rattle.reference_texts.specs.Encapsulations.{flag_of}
use Rattle.reference_texts.proofs.Encapsulated.{orders_same}
use Rattle.reference_listing.specs.Listings.{Iiop, IsIiop}
use Rattle.reference_listing.specs.inner.Bodies.{AreBehind, IsBodyTape, IsFront, IsSomeFront, is_later, minor_of}
use Rattle.reference_listing.proofs.Shapes.{body_value}
use Rattle.reference_listing.proofs.Splits.{bodies_once}

-- ---- bodies

abbrev node_for : Bool → ℕ
node_for later = body_node (minor_of later)

bare_tape : (later : Bool) (tape : List ℕ) (all : List (ℕ × List ℕ)) → AreBehind later tape all → later ≡ false
    → all ≡ []
bare_tape false tape all are e = are
bare_tape true tape all are e = absurd (cc)

-- what is read
pub front_found : (octets : List ℕ) (order : Order) (later : Bool) (node : ℕ) (tape lent : List ℕ) (taken : ℕ)
    (body : Body)
    → node ≡ body_node (minor_of later) → lent ≡ tape
    → Means giop_nodes (reading order) 64 node 1 tape (take taken octets)
    → IsBodyTape later lent body → body.major ≡ 1 → is_later body.minor ≡ later
    → IsFront octets order later body (drop taken octets)
front_found octets order later node tape lent taken body n e means is major minor =
    let m = subst (λ (k : ℕ). Means giop_nodes (reading order) 64 k 1 tape (take taken octets)) n means in
    let o = body_value later m.value m.fits in
    let same = bodies_once later (tape_of giop_nodes (node_at giop_nodes (node_for later)) m.value) o.body body o.tape
    (subst (λ (l : List ℕ). IsBodyTape later l body) (e ∙ m.tape_is) is) in
    let value : m.value ≡ body_tree body (minor_of later) =
    o.is ∙ ap (λ (b : Body). body_tree b (minor_of later)) same in
    let held : Holds (reading order) (node_for later) 1 m.value (take taken octets) =
    record { fits = m.fits; encodes = m.encodes } in
    record {
      major = major;
      minor = minor;
      bare = bare_tape later is.rest body.components is.components_are;
      front = take taken octets;
      octets_are = sym (take-append-drop taken octets);
      holds = subst (λ (v : Tree). Holds (reading order) (node_for later) 1 v (take taken octets)) value held;
    }

-- nothing is read
pub nothing_held : (octets : List ℕ) (order : Order) (later : Bool) (node : ℕ) → node ≡ body_node (minor_of later)
    → ((tape front rest : List ℕ) → octets ≡ front ++ rest → Means giop_nodes (reading order) 64 node 1 tape front → ⊥)
    → (body : Body) (behind : List ℕ) → IsFront octets order later body behind → ⊥
nothing_held octets order later node n none body behind f =
    let h = f.holds in
    let means : Means giop_nodes (reading order) 64 (node_for later) 1
    (tape_of giop_nodes (node_at giop_nodes (node_for later)) (body_tree body (minor_of later))) f.front =
    record { value = body_tree body (minor_of later); fits = h.fits; tape_is = refl; encodes = h.encodes } in
    none (tape_of giop_nodes (node_at giop_nodes (node_for later)) (body_tree body (minor_of later))) f.front behind
    f.octets_are
    (subst (λ (k : ℕ). Means giop_nodes (reading order) 64 k 1
    (tape_of giop_nodes (node_at giop_nodes (node_for later)) (body_tree body (minor_of later))) f.front) (sym n) means)

-- what is read has a body
pub some_body : (octets : List ℕ) (order : Order) (later : Bool) (node : ℕ) (tape lent : List ℕ) (taken : ℕ)
    → node ≡ body_node (minor_of later) → lent ≡ tape
    → Means giop_nodes (reading order) 64 node 1 tape (take taken octets)
    → ((body : Body) → IsBodyTape later lent body → ⊥) → ⊥
some_body octets order later node tape lent taken n e means none =
    let m = subst (λ (k : ℕ). Means giop_nodes (reading order) 64 k 1 tape (take taken octets)) n means in
    let o = body_value later m.value m.fits in
    none o.body (subst (λ (l : List ℕ). IsBodyTape later l o.body) (sym (e ∙ m.tape_is)) o.tape)

versions_same : (a b : Body) (later : Bool) → body_tree a (minor_of later) ≡ body_tree b (minor_of later)
    → (a.major ≡ b.major) × (a.minor ≡ b.minor)
versions_same a b true e =
    let major : a.major ≡ b.major = cc in
    let minor : a.minor ≡ b.minor = cc in
    (major, minor)
versions_same a b false e =
    let major : a.major ≡ b.major = cc in
    let minor : a.minor ≡ b.minor = cc in
    (major, minor)

-- a body that is there has the version of the one that is read
pub same_version : (octets : List ℕ) (order : Order) (later : Bool) (node : ℕ) (tape lent : List ℕ) (taken : ℕ)
    (read : Body)
    → node ≡ body_node (minor_of later) → lent ≡ tape
    → Means giop_nodes (reading order) 64 node 1 tape (take taken octets)
    → IsBodyTape later lent read → (body : Body) (behind : List ℕ) → IsFront octets order later body behind
    → (read.major ≡ 1) × (is_later read.minor ≡ later)
same_version octets order later node tape lent taken read n e means is body behind f =
    let m = subst (λ (k : ℕ). Means giop_nodes (reading order) 64 k 1 tape (take taken octets)) n means in
    let o = body_value later m.value m.fits in
    let same = bodies_once later (tape_of giop_nodes (node_at giop_nodes (node_for later)) m.value) o.body read o.tape
    (subst (λ (l : List ℕ). IsBodyTape later l read) (e ∙ m.tape_is) is) in
    let words = graph_fits_words giop_nodes giop_is_graph in
    let values = (one_reading giop_nodes words (reading order) (node_at giop_nodes (node_for later)) m.value
    (body_tree body (minor_of later)) 64 64 1 (take taken octets) f.front (drop taken octets) behind
    (words (node_for later))
    m.fits f.holds.fits m.encodes f.holds.encodes (take-append-drop taken octets ∙ f.octets_are)).0 in
    let v = versions_same read body later
    (ap (λ (b : Body). body_tree b (minor_of later)) (sym same) ∙ sym o.is ∙ values) in
    (v.0 ∙ f.major, ap is_later v.1 ∙ f.minor)

pub bools_same : (a b : Bool) → not (beq a b) ≡ false → a ≡ b
bools_same true true e = refl
bools_same false false e = refl
bools_same true false e = absurd (cc)
bools_same false true e = absurd (cc)

pub bools_differ : (a b : Bool) → not (beq a b) ≡ true → a ≡ b → ⊥
bools_differ true true e f = absurd (cc)
bools_differ false false e f = absurd (cc)
bools_differ true false e f = absurd (cc)
bools_differ false true e f = absurd (cc)

-- ---- of either kind

pub none_of_both : (octets : List ℕ) (order : Order)
    → ((body : Body) (behind : List ℕ) → IsFront octets order true body behind → ⊥)
    → ((body : Body) (behind : List ℕ) → IsFront octets order false body behind → ⊥)
    → (body : Body) (behind : List ℕ) → IsSomeFront octets order body behind → ⊥
none_of_both octets order a b body behind s = neither s.later s.is where
  neither : (later : Bool) → IsFront octets order later body behind → ⊥
  neither true f = a body behind f
  neither false f = b body behind f

pub none_lately : {X : Type 0} (octets : List ℕ) (order : Order) (r : Result (Option X) AllocError)
    → ((body : Body) (behind : List ℕ) → IsFront octets order true body behind → ⊥)
    → IfOk r (λ o. IfNone o ((body : Body) (behind : List ℕ) → IsFront octets order false body behind → ⊥))
    → IfOk r (λ o. IfNone o ((body : Body) (behind : List ℕ) → IsSomeFront octets order body behind → ⊥))
none_lately octets order (Ok None) a h = none_of_both octets order a h
none_lately octets order (Ok (Some x)) a h = h
none_lately octets order (Err fault) a h = h

-- ---- profiles

trees_same : (body : Body) (minor : ℕ) (later : Bool) → is_later minor ≡ later
    → (body_tree body (minor_of later) ≡ body_tree body minor) × (body_node (minor_of later) ≡ body_node minor)
trees_same body zero false e = (refl, refl)
trees_same body zero true e = absurd (cc)
trees_same body (suc n) true e = (refl, refl)
trees_same body (suc n) false e = absurd (cc)

-- by the version that it is read by, and by its own
own : (order : Order) (body : Body) (later : Bool) (front : List ℕ) → is_later body.minor ≡ later
    → Holds (reading order) (node_for later) 1 (body_tree body (minor_of later)) front
    → Holds (reading order) (body_node body.minor) 1 (body_tree body body.minor) front
own order body later front e h =
    let s = trees_same body body.minor later e in
    subst (λ (n : ℕ). Holds (reading order) n 1 (body_tree body body.minor) front) s.1
    (subst (λ (v : Tree). Holds (reading order) (node_for later) 1 v front) s.0 h)

held : (order : Order) (body : Body) (later : Bool) (front : List ℕ) → is_later body.minor ≡ later
    → Holds (reading order) (body_node body.minor) 1 (body_tree body body.minor) front
    → Holds (reading order) (node_for later) 1 (body_tree body (minor_of later)) front
held order body later front e h =
    let s = trees_same body body.minor later e in
    subst (λ (n : ℕ). Holds (reading order) n 1 (body_tree body (minor_of later)) front) (sym s.1)
    (subst (λ (v : Tree). Holds (reading order) (body_node body.minor) 1 v front) (sym s.0) h)

earlier : (minor : ℕ) → minor ≡ 0 → is_later minor ≡ false
earlier minor e = ap is_later e

zero_of : (minor : ℕ) → is_later minor ≡ false → minor ≡ 0
zero_of zero e = refl
zero_of (suc n) e = absurd (cc)

pub profile_found : (tag : ℕ) (order : Order) (octets inside : List ℕ) (body : Body) (rest behind : List ℕ) → tag ≡ 0
    → octets ≡ flag_of order ∷ inside → IsSomeFront inside order body rest → behind ≡ rest
    → IsIiop (tag, octets) (record { order = order; body = body; behind = behind })
profile_found tag order octets inside body rest behind t e s same =
    let f = s.is in
    record {
      tag = t;
      major = f.major;
      bare = λ z. f.bare (sym f.minor ∙ earlier body.minor z);
      front = f.front;
      octets_are = e ∙ ap (λ (l : List ℕ). flag_of order ∷ l)
          (f.octets_are ∙ ap (λ (l : List ℕ). f.front ++ l) (sym same));
      holds = own order body s.later f.front f.minor f.holds;
    }

pub no_profile : (tag : ℕ) (order : Order) (octets inside : List ℕ) → octets ≡ flag_of order ∷ inside
    → ((body : Body) (behind : List ℕ) → IsSomeFront inside order body behind → ⊥)
    → (iiop : Iiop) → IsIiop (tag, octets) iiop → ⊥
no_profile tag order octets inside e none iiop is =
    let same : flag_of order ∷ inside ≡ flag_of iiop.order ∷ is.front ++ iiop.behind = sym e ∙ is.octets_are in
    let one : flag_of order ≡ flag_of iiop.order = cc in
    let more : inside ≡ is.front ++ iiop.behind = cc in
    let orders = orders_same iiop.order order (sym one) in
    none iiop.body iiop.behind (record {
      later = is_later iiop.body.minor;
      is = record {
        major = is.major;
        minor = refl;
        bare = λ z. is.bare (zero_of iiop.body.minor z);
        front = is.front;
        octets_are = more;
        holds = held order iiop.body (is_later iiop.body.minor) is.front refl
            (subst (λ (o : Order). Holds (reading o) (body_node iiop.body.minor) 1 (body_tree iiop.body iiop.body.minor)
            is.front)
            orders is.holds);
      };
    })
