-- What is put behind a tape.
use Rattle.std.specs.Prelude.{◌≡◌, ℕ, List, ◌++◌}
use Rattle.type_graph.specs.declared.node.Node.{Node}
use Rattle.type_graph.specs.Value.{Tree, Trees, Fits, FitAll, tape_of, tapes_of}

-- the tape of a value, if it is one of the node
abbrev pub AddsValue : List Node → Node → Tree → List ℕ → List ℕ → Type 0
AddsValue graph node value old new = (depth : ℕ) → Fits graph node value depth → new ≡ old ++ tape_of graph node value

-- the tapes of values, if they are of these nodes
abbrev pub AddsValues : List Node → List ℕ → Trees → List ℕ → List ℕ → Type 0
AddsValues graph numbers values old new =
    (depth : ℕ) → FitAll graph numbers values depth → new ≡ old ++ tapes_of graph numbers values
