-- What the parts of a specification are lowered to in a graph of types, one behind another: the node of each type, in
-- the order of their numbers, and what each declared name has.
use Rattle.std.specs.Prelude.{ℕ, Bool, true, false, ◌+◌, ◌-◌, nat_lt, if◌then◌else◌, List, [], ◌∷◌, ◌++◌, length, replicate, Option, Some, None, Result, Ok, Err, slice_get, slice_set}
use Rattle.idl_tree.specs.declared.names.At.{At}
use Rattle.type_graph.specs.declared.fault.GraphLimit.TheVariants.{Nodes, AllMembers}
use Rattle.type_graph.specs.declared.node.Node.{Node}
use Rattle.type_graph.specs.declared.node.Node.TheVariants.{Struct}
use Rattle.type_graph.specs.GraphRules.{all_members}
use Rattle.type_graph.specs.BasicNodes.{basic_nodes}
use Rattle.scoped_names.specs.Reading.{◌>>◌}
use Rattle.lowered_types.specs.declared.fault.BuildFault.{BuildFault}
use Rattle.lowered_types.specs.declared.fault.BuildFault.TheVariants.{OtherNames}
use Rattle.lowered_types.specs.declared.place.Place.{Place}
use Rattle.lowered_types.specs.declared.place.Place.TheVariants.{Typed, Raised, Called, Got, GotAndSet}
use Rattle.lowered_types.specs.Faults.{at_most, max_all_members, max_nodes}
use Rattle.type_paths.specs.Sites.{Sites}

-- the nodes so far; for each the names of its parts, of which it has none before its definition; what each entry among
-- the names has; the exceptions, each by its entry and its frame; where the nodes behind the basic types stand; how
-- many members all types have
pub record Lowered : Type 0 where
  pub nodes : List Node
  pub names : List (List (List ℕ))
  pub places : List (Option Place)
  pub exceptions : List (ℕ × ℕ)
  pub sites : List Sites
  pub members : ℕ

-- what is lowered before the first part, where there are so many entries: the types that every specification has
abbrev pub unlowered : ℕ → Lowered
unlowered entries = record {
  nodes = basic_nodes;
  names = replicate 14 [];
  places = replicate entries None;
  exceptions = [];
  sites = [];
  members = all_members basic_nodes;
}

-- ---- nodes

-- the number of a type, and what is lowered behind it
pub record Numbered : Type 0 where
  pub number : ℕ
  pub lowered : Lowered

-- a type that has its number already
abbrev pub already : Lowered → ℕ → Numbered
already w n = record { number = n; lowered = w }

-- a node more, whose parts have the names
abbrev pub with_node : Lowered → Node → List (List ℕ) → Sites → Lowered
with_node w node names sites =
    record w { nodes = w.nodes ++ node ∷ []; names = w.names ++ names ∷ []; sites = w.sites ++ sites ∷ [] }

-- the number of the node that is lowered next
abbrev pub next : Lowered → ℕ
next w = length w.nodes

-- a node that gets the next number
abbrev pub added : Lowered → Node → List (List ℕ) → Sites → Result Numbered BuildFault
added w node names sites =
    at_most max_nodes Nodes sites.at (next w + 1) >> λ n. Ok (already (with_node w node names sites) (next w))

abbrev pub one_site : At → Sites
one_site at = record { at = at; held = at ∷ [] }

-- a node at `at` that holds one other at most, and no parts with names
abbrev pub added_at : Lowered → Node → At → Result Numbered BuildFault
added_at w node at = added w node [] (one_site at)

abbrev pub with_held : List Sites → ℕ → List At → Option Sites → List Sites
with_held sites place held None = sites
with_held sites place held (Some l) = slice_set sites place (record { at = l.at; held = held })

-- a basic type has no sites
abbrev pub held_at : List Sites → ℕ → List At → List Sites
held_at sites number held =
    (if nat_lt number 14 then sites else with_held sites (number - 14) held (slice_get sites (number - 14)))

-- a structure or a union before its definition; no graph has a structure without members
abbrev pub undefined : Node
undefined = Struct []

abbrev pub is_undefined : Option Node → Bool
is_undefined (Some (Struct [])) = true
is_undefined _ = false

-- in the place of what has no definition yet another node, whose parts have the names and stand there
abbrev pub node_set : Lowered → ℕ → Node → List (List ℕ) → List At → Result Lowered BuildFault
node_set w number node names held =
    (if is_undefined (slice_get w.nodes number)
    then Ok (record w {
      nodes = slice_set w.nodes number node;
      names = slice_set w.names number names;
      sites = held_at w.sites number held;
    })
    else Err OtherNames)

-- so many members more, of a type that stands there
abbrev pub counted : Lowered → ℕ → At → Result Lowered BuildFault
counted w count at =
    at_most max_all_members AllMembers at (w.members + count) >> λ all. Ok (record w { members = all })

-- ---- what entries have

-- an entry that has nothing yet has this from here on
abbrev pub placed_at : Lowered → ℕ → Place → Option (Option Place) → Result Lowered BuildFault
placed_at w e p (Some None) = Ok (record w { places = slice_set w.places e (Some p) })
placed_at w e p _ = Err OtherNames

abbrev pub placed : Lowered → ℕ → Place → Result Lowered BuildFault
placed w e p = placed_at w e p (slice_get w.places e)

abbrev pub place_in : Option (Option Place) → Option Place
place_in None = None
place_in (Some p) = p

-- what an entry has
abbrev pub place_of : Lowered → ℕ → Option Place
place_of w e = place_in (slice_get w.places e)

abbrev pub type_in : Option (Option Place) → Option ℕ
type_in None = None
type_in (Some None) = None
type_in (Some (Some (Typed n))) = Some n
type_in (Some (Some (Raised frame place))) = None
type_in (Some (Some (Called request))) = None
type_in (Some (Some (Got request))) = None
type_in (Some (Some (GotAndSet request))) = None

-- the number of the type that an entry is the name of
abbrev pub type_of : Lowered → ℕ → Option ℕ
type_of w e = type_in (slice_get w.places e)

-- a type that gets the next number, which the entry is the name of
abbrev pub named_type : Lowered → ℕ → Node → List (List ℕ) → At → Result Numbered BuildFault
named_type w e node names at =
    added w node names (one_site at) >> λ a. placed a.lowered e (Typed a.number) >> λ there. Ok (already there a.number)

abbrev pub opened_as : Lowered → ℕ → At → Option ℕ → Result Numbered BuildFault
opened_as w e at None = named_type w e undefined [] at
opened_as w e at (Some n) = Ok (already w n)

-- a structure or a union that is declared there: it gets its number at its first declaration
abbrev pub opened : Lowered → ℕ → At → Result Numbered BuildFault
opened w e at = opened_as w e at (type_of w e)

-- an exception more that the entry is the name of, with its frame
abbrev pub raised_at : Lowered → ℕ → ℕ → Result Lowered BuildFault
raised_at w e frame = placed w e (Raised frame (length w.exceptions)) >> λ there.
    Ok (record there { exceptions = there.exceptions ++ (e, frame) ∷ [] })
