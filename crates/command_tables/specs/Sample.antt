-- The sample table.
use Rattle.std.specs.Prelude.{ℕ, false, List, [], ◌∷◌, codes}
use Rattle.type_graph.specs.declared.width.Width.TheVariants.{Four}
use Rattle.type_graph.specs.declared.node.Node.{Node}
use Rattle.type_graph.specs.declared.node.Node.TheVariants as nodes
use Rattle.type_model.specs.ModelRules.{Parts, parts_of}
use Rattle.marshal_program.specs.declared.instr.Instr.{Instr}
use Rattle.marshal_program.specs.declared.instr.Instr.TheVariants.{Align, Octets, Words, Text, Call}
use Rattle.marshal_program.specs.declared.instr.Routine.{Routine}
use Rattle.table_file.specs.declared.table.Which.TheVariants.{First}
use Rattle.table_file.specs.Table.{TableParts, table_of}

-- an octet, an unsigned long, a string, and the structure of the three
abbrev pub sample_nodes : List Node
sample_nodes = nodes.Octet ∷ nodes.Integer Four false ∷ nodes.Text 0 ∷ nodes.Struct (0 ∷ 1 ∷ 2 ∷ []) ∷ []

-- the structure alone has a name
abbrev pub sample_model : Parts
sample_model = parts_of sample_nodes ((codes "S", 3) ∷ []) [] [] []

-- a routine that may start and end at every position
abbrev pub everywhere : ℕ → ℕ → List Instr → Routine
everywhere node rank code = record {
  node = node;
  entry = 255;
  exits = 255 ∷ 255 ∷ 255 ∷ 255 ∷ 255 ∷ 255 ∷ 255 ∷ 255 ∷ [];
  rank = rank;
  code = code;
}

-- a routine for each node
abbrev pub sample_program : List Routine
sample_program =
    everywhere 0 0 (Octets 1 ∷ [])
    ∷ everywhere 1 0 (Align Four ∷ Words Four 1 ∷ [])
    ∷ everywhere 2 0 (Align Four ∷ Text 0 ∷ [])
    ∷ everywhere 3 1 (Call 0 ∷ Call 1 ∷ Call 2 ∷ [])
    ∷ []

-- no second program
abbrev pub sample_table : TableParts
sample_table = table_of sample_model sample_program [] (First ∷ [])
