-- Nodes of one shape have the same values.
use Rattle.std.proofs.Common.{◌≡◌, ℕ, zero, suc, ◌≤◌, ◌-◌, List, [], ◌∷◌, Bool, true, false, ◌&&◌, replicate, refl, sym, subst, arith}
use Rattle.std.proofs.lemmas.Bool.{false≢true}
use Rattle.type_graph.specs.declared.width.Width.TheVariants.{Four}
use Rattle.type_graph.specs.declared.node.Node.{Node}
use Rattle.type_graph.specs.declared.node.Node.TheVariants.{Integer, Octet, Text, Seq, Struct}
use Rattle.type_graph.specs.Value.{Tree, Number, Bytes, Items, Choice, Trees, NoTree, AndTree, count, node_at, Fits, FitAll}
use Rattle.giop_types.specs.GiopNodes.{giop_nodes}
use Rattle.giop_types.specs.Fields.{tagged_trees}
use Rattle.value_text.specs.Shape.{is_octet, is_string, is_long, are_octets, is_profile, is_profile_node, are_profiles, is_reference}
use Rattle.value_text.specs.Stringified.{FitsObject}
use Rattle.value_text.specs.inner.Room.{HasRoom}

-- ---- what the shape says

both : (x y : Bool) → (x && y) ≡ true → (x ≡ true) × (y ≡ true)
both true y e = (refl, e)
both false y e = absurd (false≢true e)

octet_node : (node : Node) → is_octet node ≡ true → node ≡ Octet
octet_node Octet e = refl
octet_node node e = absurd (false≢true e)

string_node : (node : Node) → is_string node ≡ true → node ≡ Text 0
string_node (Text zero) e = refl
string_node node e = absurd (false≢true e)

long_node : (node : Node) → is_long node ≡ true → node ≡ Integer Four false
long_node (Integer Four false) e = refl
long_node node e = absurd (false≢true e)

-- a sequence of octets
record OctetsAt (graph : List Node) (node : Node) : Type 0 where
  elem : ℕ
  is : node ≡ Seq elem 0
  elem_is : node_at graph elem ≡ Octet

octets_node : (graph : List Node) (node : Node) → are_octets graph node ≡ true → OctetsAt graph node
octets_node graph (Seq elem zero) e = record { elem = elem; is = refl; elem_is = octet_node (node_at graph elem) e }
octets_node graph node e = absurd (false≢true e)

-- a profile
record ProfileAt (graph : List Node) (members : List ℕ) : Type 0 where
  tag : ℕ
  octets : ℕ
  is : members ≡ tag ∷ octets ∷ []
  tag_is : node_at graph tag ≡ Integer Four false
  octets_are : OctetsAt graph (node_at graph octets)

profile_members : (graph : List Node) (members : List ℕ) → is_profile graph members ≡ true → ProfileAt graph members
profile_members graph (tag ∷ octets ∷ []) e =
    let parts = both (is_long (node_at graph tag)) (are_octets graph (node_at graph octets)) e in
    record {
      tag = tag;
      octets = octets;
      is = refl;
      tag_is = long_node (node_at graph tag) parts.0;
      octets_are = octets_node graph (node_at graph octets) parts.1;
    }
profile_members graph members e = absurd (false≢true e)

record ProfileNode (graph : List Node) (node : Node) : Type 0 where
  members : List ℕ
  is : node ≡ Struct members
  at : ProfileAt graph members

profile_node : (graph : List Node) (node : Node) → is_profile_node graph node ≡ true → ProfileNode graph node
profile_node graph (Struct members) e = record { members = members; is = refl; at = profile_members graph members e }
profile_node graph node e = absurd (false≢true e)

-- a sequence of profiles
record ProfilesAt (graph : List Node) (node : Node) : Type 0 where
  elem : ℕ
  is : node ≡ Seq elem 0
  elem_is : ProfileNode graph (node_at graph elem)

profiles_node : (graph : List Node) (node : Node) → are_profiles graph node ≡ true → ProfilesAt graph node
profiles_node graph (Seq elem zero) e =
    record { elem = elem; is = refl; elem_is = profile_node graph (node_at graph elem) e }
profiles_node graph node e = absurd (false≢true e)

-- a reference
record ReferenceAt (graph : List Node) (members : List ℕ) : Type 0 where
  id : ℕ
  profiles : ℕ
  is : members ≡ id ∷ profiles ∷ []
  id_is : node_at graph id ≡ Text 0
  profiles_are : ProfilesAt graph (node_at graph profiles)

reference_members : (graph : List Node) (members : List ℕ) → is_reference graph members ≡ true
    → ReferenceAt graph members
reference_members graph (id ∷ profiles ∷ []) e =
    let parts = both (is_string (node_at graph id)) (are_profiles graph (node_at graph profiles)) e in
    record {
      id = id;
      profiles = profiles;
      is = refl;
      id_is = string_node (node_at graph id) parts.0;
      profiles_are = profiles_node graph (node_at graph profiles) parts.1;
    }
reference_members graph members e = absurd (false≢true e)

-- ---- values of two graphs, at two depths

-- profiles, and in each its octets
abbrev pub IsDeep : Tree → ℕ → Type 0
IsDeep (Items NoTree) depth = 1 ≤ depth
IsDeep value depth = 2 ≤ depth

module _ (one two : List Node) (d e : ℕ) where
  same_octet : (value : Tree) → Fits one Octet value d → Fits two Octet value e
  same_octet (Number n) f = f
  same_octet value f = absurd f

  same_long : (value : Tree) → Fits one (Integer Four false) value d → Fits two (Integer Four false) value e
  same_long (Number n) f = f
  same_long value f = absurd f

  same_text : (value : Tree) → Fits one (Text 0) value d → Fits two (Text 0) value e
  same_text (Bytes text) f = f
  same_text (Number n) f = absurd f
  same_text (Items values) f = absurd f
  same_text (Choice label values) f = absurd f

  same_each : (m n : ℕ) → node_at one m ≡ Octet → node_at two n ≡ Octet → (values : Trees)
      → FitAll one (replicate (count values) m) values d → FitAll two (replicate (count values) n) values e
  same_each m n a b NoTree f = tt
  same_each m n a b (AndTree value more) f = (
    subst (λ node. Fits two node value e) (sym b) (same_octet value (subst (λ node. Fits one node value d) a f.0)),
    same_each m n a b more f.1,
  )

module _ (one two : List Node) where
  same_octets : (d e : ℕ) (node other : Node) → OctetsAt one node → OctetsAt two other → 1 ≤ e → (value : Tree)
      → Fits one node value d → Fits two other value e
  same_octets d e node other a b deep value f =
      subst (λ found. Fits two found value e) (sym b.is) (inside value (subst (λ found. Fits one found value d) a.is f))
    where
      inside : (value : Tree) → Fits one (Seq a.elem 0) value d → Fits two (Seq b.elem 0) value e
      inside (Items values) g =
          (deep, g.1, same_each one two (d - 1) (e - 1) a.elem b.elem a.elem_is b.elem_is values g.2)
      inside (Number n) g = absurd g
      inside (Bytes text) g = absurd g
      inside (Choice label values) g = absurd g

  same_profile : (d e : ℕ) (members others : List ℕ) → ProfileAt one members → ProfileAt two others → 1 ≤ e
      → (values : Trees)
      → FitAll one members values d → FitAll two others values e
  same_profile d e members others a b deep values f =
      subst (λ l. FitAll two l values e) (sym b.is) (inside values (subst (λ l. FitAll one l values d) a.is f))
    where
      inside : (values : Trees) → FitAll one (a.tag ∷ a.octets ∷ []) values d
          → FitAll two (b.tag ∷ b.octets ∷ []) values e
      inside (AndTree tag (AndTree octets NoTree)) g = (
        subst (λ node. Fits two node tag e) (sym b.tag_is)
            (same_long one two d e tag (subst (λ node. Fits one node tag d) a.tag_is g.0)),
        (same_octets d e (node_at one a.octets) (node_at two b.octets) a.octets_are b.octets_are deep octets g.1.0, tt),
      )
      inside (AndTree tag (AndTree octets (AndTree more values))) g = absurd g.1.1
      inside (AndTree tag NoTree) g = absurd g.1
      inside NoTree g = absurd g

  same_node : (d e : ℕ) (node other : Node) → ProfileNode one node → ProfileNode two other → 1 ≤ e → (value : Tree)
      → Fits one node value d → Fits two other value e
  same_node d e node other a b deep value f =
      subst (λ found. Fits two found value e) (sym b.is) (inside value (subst (λ found. Fits one found value d) a.is f))
    where
      inside : (value : Tree) → Fits one (Struct a.members) value d → Fits two (Struct b.members) value e
      inside (Items values) g = same_profile d e a.members b.members a.at b.at deep values g
      inside (Number n) g = absurd g
      inside (Bytes text) g = absurd g
      inside (Choice label values) g = absurd g

  same_nodes : (d e m n : ℕ) → ProfileNode one (node_at one m) → ProfileNode two (node_at two n) → (values : Trees)
      → IsDeep (Items values) (suc e) → FitAll one (replicate (count values) m) values d
      → FitAll two (replicate (count values) n) values e
  same_nodes d e m n a b NoTree deep f = tt
  same_nodes d e m n a b (AndTree value more) deep f =
      let one_deep : 1 ≤ e = omega (arith, deep) in
      (same_node d e (node_at one m) (node_at two n) a b one_deep value f.0, rest more f.1)
    where
      rest : (more : Trees) → FitAll one (replicate (count more) m) more d
          → FitAll two (replicate (count more) n) more e
      rest NoTree g = tt
      rest (AndTree v vs) g =
          let one_deep : 1 ≤ e = omega (arith, deep) in
          (same_node d e (node_at one m) (node_at two n) a b one_deep v g.0, rest vs g.1)

  same_profiles : (d e : ℕ) (node other : Node) → ProfilesAt one node → ProfilesAt two other → (value : Tree)
      → IsDeep value e
      → Fits one node value d → Fits two other value e
  same_profiles d e node other a b value deep f =
      subst (λ found. Fits two found value e) (sym b.is)
      (inside value deep (subst (λ found. Fits one found value d) a.is f))
    where
      once : (values : Trees) → IsDeep (Items values) e → 1 ≤ e
      once NoTree h = h
      once (AndTree value more) h = omega (arith, h)

      below : (values : Trees) → IsDeep (Items values) e → IsDeep (Items values) (suc (e - 1))
      below NoTree h = omega arith
      below (AndTree value more) h = omega (arith, h)

      inside : (value : Tree) → IsDeep value e → Fits one (Seq a.elem 0) value d → Fits two (Seq b.elem 0) value e
      inside (Items values) h g =
          (once values h, g.1, same_nodes (d - 1) (e - 1) a.elem b.elem a.elem_is b.elem_is values (below values h) g.2)
      inside (Number n) h g = absurd g
      inside (Bytes text) h g = absurd g
      inside (Choice label values) h g = absurd g

  -- the profiles among the members
  abbrev pub AreDeep : Trees → ℕ → Type 0
  AreDeep (AndTree id (AndTree profiles more)) depth = IsDeep profiles depth
  AreDeep values depth = Unit {0}

  pub same_reference : (d e : ℕ) (members others : List ℕ) → is_reference one members ≡ true
      → is_reference two others ≡ true
      → (values : Trees) → AreDeep values e → FitAll one members values d → FitAll two others values e
  same_reference d e members others p q values deep f =
      subst (λ l. FitAll two l values e) (sym b.is) (inside values deep (subst (λ l. FitAll one l values d) a.is f))
    where
      a : ReferenceAt one members
      a = reference_members one members p

      b : ReferenceAt two others
      b = reference_members two others q

      inside : (values : Trees) → AreDeep values e → FitAll one (a.id ∷ a.profiles ∷ []) values d
          → FitAll two (b.id ∷ b.profiles ∷ []) values e
      inside (AndTree id (AndTree profiles NoTree)) h g = (
        subst (λ node. Fits two node id e) (sym b.id_is)
            (same_text one two d e id (subst (λ node. Fits one node id d) a.id_is g.0)),
        (
          same_profiles d e (node_at one a.profiles) (node_at two b.profiles) a.profiles_are b.profiles_are profiles h
              g.1.0,
          tt,
        ),
      )
      inside (AndTree id (AndTree profiles (AndTree more values))) h g = absurd g.1.1
      inside (AndTree id NoTree) h g = absurd g.1
      inside NoTree h g = absurd g

-- ---- a value that fits has its depth

module _ (graph : List Node) where
  profile_deep : (d : ℕ) (members : List ℕ) (values : Trees) → ProfileAt graph members → FitAll graph members values d
      → 1 ≤ d
  profile_deep d members values a f = inside values (subst (λ l. FitAll graph l values d) a.is f)
    where
      octets_deep : (value : Tree) → Fits graph (Seq a.octets_are.elem 0) value d → 1 ≤ d
      octets_deep (Items values) g = g.0
      octets_deep (Number n) g = absurd g
      octets_deep (Bytes text) g = absurd g
      octets_deep (Choice label values) g = absurd g

      inside : (values : Trees) → FitAll graph (a.tag ∷ a.octets ∷ []) values d → 1 ≤ d
      inside (AndTree tag (AndTree octets more)) g =
          octets_deep octets (subst (λ node. Fits graph node octets d) a.octets_are.is g.1.0)
      inside (AndTree tag NoTree) g = absurd g.1
      inside NoTree g = absurd g

  node_deep : (d : ℕ) (node : Node) (value : Tree) → ProfileNode graph node → Fits graph node value d → 1 ≤ d
  node_deep d node value a f = inside value (subst (λ found. Fits graph found value d) a.is f)
    where
      inside : (value : Tree) → Fits graph (Struct a.members) value d → 1 ≤ d
      inside (Items values) g = profile_deep d a.members values a.at g
      inside (Number n) g = absurd g
      inside (Bytes text) g = absurd g
      inside (Choice label values) g = absurd g

  profiles_deep : (d : ℕ) (node : Node) (value : Tree) → ProfilesAt graph node → Fits graph node value d
      → IsDeep value d
  profiles_deep d node value a f = inside value (subst (λ found. Fits graph found value d) a.is f)
    where
      inside : (value : Tree) → Fits graph (Seq a.elem 0) value d → IsDeep value d
      inside (Items NoTree) g = g.0
      inside (Items (AndTree value more)) g =
          let deep = node_deep (d - 1) (node_at graph a.elem) value a.elem_is g.2.0 in
          omega (arith, deep)
      inside (Number n) g = absurd g
      inside (Bytes text) g = absurd g
      inside (Choice label values) g = absurd g

  pub reference_deep : (d : ℕ) (members : List ℕ) → is_reference graph members ≡ true → (values : Trees)
      → FitAll graph members values d → AreDeep graph graph values d
  reference_deep d members p values f = inside values (subst (λ l. FitAll graph l values d) a.is f)
    where
      a : ReferenceAt graph members
      a = reference_members graph members p

      inside : (values : Trees) → FitAll graph (a.id ∷ a.profiles ∷ []) values d → AreDeep graph graph values d
      inside (AndTree id (AndTree profiles more)) g =
          profiles_deep d (node_at graph a.profiles) profiles a.profiles_are g.1.0
      inside (AndTree id NoTree) g = tt
      inside NoTree g = tt

-- ---- with the reference of GIOP

pub to_object : (graph : List Node) (members : List ℕ) → is_reference graph members ≡ true
    → (values : Trees) (depth : ℕ)
    → FitAll graph members values depth → FitsObject (Items values) depth
to_object graph members p values depth f =
    same_reference graph giop_nodes depth depth members (9 ∷ 12 ∷ []) p refl values
    (reference_deep graph depth members p values f) f

pub from_object : (graph : List Node) (members : List ℕ) → is_reference graph members ≡ true
    → (values : Trees) (depth : ℕ)
    → FitsObject (Items values) depth → FitAll graph members values depth
from_object graph members p values depth f =
    same_reference giop_nodes graph depth depth (9 ∷ 12 ∷ []) members refl p values
    (reference_deep giop_nodes depth (9 ∷ 12 ∷ []) refl values f) f

-- at another depth
pub object_deeper : (values : Trees) (depth other : ℕ) → AreDeep giop_nodes giop_nodes values other
    → FitsObject (Items values) depth
    → FitsObject (Items values) other
object_deeper values depth other deep f =
    same_reference giop_nodes giop_nodes depth other (9 ∷ 12 ∷ []) (9 ∷ 12 ∷ []) refl refl values deep f

pub object_deep : (values : Trees) (depth : ℕ) → FitsObject (Items values) depth
    → AreDeep giop_nodes giop_nodes values depth
object_deep values depth f = reference_deep giop_nodes depth (9 ∷ 12 ∷ []) refl values f

-- room for profiles is depth for their trees
pub room_deep : (all : List (ℕ × List ℕ)) (depth : ℕ) → HasRoom all depth → IsDeep (Items (tagged_trees all)) depth
room_deep [] depth h = h
room_deep (one ∷ more) depth h = h

pub deep_room : (all : List (ℕ × List ℕ)) (depth : ℕ) → IsDeep (Items (tagged_trees all)) depth → HasRoom all depth
deep_room [] depth h = h
deep_room (one ∷ more) depth h = h
