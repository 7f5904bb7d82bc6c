-- What stands at the front of a tape.
use Rattle.std.specs.Prelude.{◌≡◌, ℕ, List, ◌++◌}
use Rattle.type_graph.specs.declared.node.Node.{Node}
use Rattle.type_graph.specs.Value.{Tree, Trees, Items, Fits, FitAll, tape_of, tapes_of}

-- the tape of a value of the node, and then the rest
abbrev pub Begins : List Node → Node → ℕ → List ℕ → Tree → List ℕ → Type 0
Begins graph node depth tape value rest = Fits graph node value depth × (tape ≡ tape_of graph node value ++ rest)

-- that of no value
abbrev pub BeginsWithNone : List Node → Node → ℕ → List ℕ → Type 0
BeginsWithNone graph node depth tape = (value : Tree) (rest : List ℕ) → Begins graph node depth tape value rest → ⊥

-- the tapes of values of these nodes, and then the rest
abbrev pub BeginsAll : List Node → List ℕ → ℕ → List ℕ → Trees → List ℕ → Type 0
BeginsAll graph numbers depth tape values rest =
    FitAll graph numbers values depth × (tape ≡ tapes_of graph numbers values ++ rest)

-- those of no values
abbrev pub BeginsAllWithNone : List Node → List ℕ → ℕ → List ℕ → Type 0
BeginsAllWithNone graph numbers depth tape =
    (values : Trees) (rest : List ℕ) → BeginsAll graph numbers depth tape values rest → ⊥

-- the value has the values of these nodes, whose tapes begin the tape
abbrev pub IsItems : List Node → List ℕ → ℕ → List ℕ → Tree → List ℕ → Type 0
IsItems graph numbers depth tape value rest =
    (values : Trees) × (value ≡ Items values) × BeginsAll graph numbers depth tape values rest
