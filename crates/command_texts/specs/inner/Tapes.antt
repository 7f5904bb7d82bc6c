-- Tapes of values.
use Rattle.std.specs.Prelude.{◌≡◌, ℕ, List, [], ◌∷◌, ◌++◌}
use Rattle.std.specs.Fmt.{decimal}
use Rattle.json.specs.Print.{print}
use Rattle.value_text.specs.Escaped.{escaped}
use Rattle.command_tables.specs.declared.refusal.Refusal.{Refusal}
use Rattle.command_tables.specs.declared.refusal.Refusal.TheVariants.{NoMemory, Refused}
use Rattle.value_text.specs.Texts.{text_at}
use Rattle.type_graph.specs.declared.node.Node.{Node}
use Rattle.type_graph.specs.Value.{Tree, Fits, node_at, tape_of}

-- the line has the text of a value with the tape behind the count
pub record IsTextOf (labels : List (List (List ℕ))) (graph : List Node) (node taken : ℕ)
    (tape line : List ℕ) : Type 0 where
  pub value : Tree
  pub fits : Fits graph (node_at graph node) value 64
  pub tape_is : tape_of graph (node_at graph node) value ≡ tape
  pub line_is : line ≡ decimal taken ++ 32 ∷ escaped (print (text_at labels graph node value)) ++ 10 ∷ []

-- want of memory, or a run was refused, and then the fact holds
abbrev pub IsOfRun : Refusal → Type 0 → Type 0
IsOfRun NoMemory fact = Unit {0}
IsOfRun (Refused fault) fact = fact
IsOfRun refusal fact = ⊥
