-- Files by hand, of both versions.
use Rattle.std.proofs.Common.{false, [], ◌∷◌, refl}
use Rattle.type_graph.specs.declared.width.Width.TheVariants.{Four}
use Rattle.type_graph.specs.declared.node.Node.TheVariants as nodes
use Rattle.marshal_program.specs.declared.instr.Instr.TheVariants as instrs
use Rattle.marshal_program.specs.declared.instr.Routine.{Routine}
use Rattle.type_model.specs.ModelRules.{parts_of}
use Rattle.table_file.specs.declared.table.Which.TheVariants.{First}
use Rattle.table_file.specs.Table.{TableParts, table_of}
use Rattle.table_file.specs.TableSpelling.{Spells, SpellsOld}

-- a table of nothing
abbrev no_names : TableParts
no_names = table_of (parts_of [] [] [] [] []) [] [] []

empty_file : Spells no_names (
    73 ∷ 68 ∷ 76 ∷ 84 ∷ 2 ∷ 0 ∷ 0 ∷ 0 ∷ 0 ∷ 0 ∷ 0 ∷ 0 ∷ 0 ∷ 0 ∷ 0 ∷ 0 ∷ 0 ∷ 0 ∷ 0 ∷ 0 ∷ 0 ∷ 0 ∷ 0 ∷ 0 ∷ 0 ∷ 0 ∷
    0 ∷ 0 ∷ 0 ∷ 0 ∷ 0 ∷ 0 ∷ 0 ∷ [])
empty_file = refl

old_empty_file : SpellsOld no_names (
    73 ∷ 68 ∷ 76 ∷ 84 ∷ 1 ∷ 0 ∷ 0 ∷ 0 ∷ 0 ∷ 0 ∷ 0 ∷ 0 ∷ 0 ∷ 0 ∷ 0 ∷ 0 ∷ 0 ∷ 0 ∷ 0 ∷ 0 ∷ 0 ∷ 0 ∷ 0 ∷ 0 ∷ 0 ∷ 0 ∷
    0 ∷ 0 ∷ 0 ∷ [])
old_empty_file = record { spelled = refl; empty = refl; unused = tt }

-- an octet, an unsigned long and a string, a structure of them with a name, and one routine that serves it
abbrev one_routine : Routine
one_routine = record {
  node = 3;
  entry = 255;
  exits = 255 ∷ 255 ∷ 255 ∷ 255 ∷ 255 ∷ 255 ∷ 255 ∷ 255 ∷ [];
  rank = 0;
  code = instrs.Octets 1 ∷ instrs.Align Four ∷ instrs.Words Four 1 ∷ instrs.Align Four ∷ instrs.Text 0 ∷ [];
}

abbrev one_name : TableParts
one_name = table_of
    (parts_of (nodes.Octet ∷ nodes.Integer Four false ∷ nodes.Text 0 ∷ nodes.Struct (0 ∷ 1 ∷ 2 ∷ []) ∷ [])
    ((83 ∷ [], 3) ∷ []) [] [] [])
    (one_routine ∷ []) [] (First ∷ [])

one_name_file : Spells one_name (
    73 ∷ 68 ∷ 76 ∷ 84 ∷ 2 ∷ 0 ∷ 0 ∷ 0 ∷ 4 ∷ 1 ∷ 0 ∷ 4 ∷ 0 ∷ 5 ∷ 0 ∷ 0 ∷ 0 ∷ 0 ∷ 8 ∷ 0 ∷ 0 ∷ 0 ∷ 3 ∷ 0 ∷ 0 ∷ 0 ∷
    0 ∷ 0 ∷ 0 ∷ 0 ∷ 1 ∷ 0 ∷ 0 ∷ 0 ∷ 2 ∷ 0 ∷ 0 ∷ 0 ∷ 1 ∷ 0 ∷ 0 ∷ 0 ∷ 1 ∷ 83 ∷ 0 ∷ 0 ∷ 0 ∷ 3 ∷ 0 ∷ 0 ∷ 0 ∷ 0 ∷ 0 ∷
    0 ∷ 0 ∷ 0 ∷ 0 ∷ 0 ∷ 0 ∷ 0 ∷ 0 ∷ 0 ∷ 0 ∷ 1 ∷ 0 ∷ 0 ∷ 0 ∷ 3 ∷ 255 ∷ 255 ∷ 255 ∷ 255 ∷ 255 ∷ 255 ∷ 255 ∷ 255 ∷
    255 ∷ 0 ∷ 0 ∷ 0 ∷ 0 ∷ 0 ∷ 0 ∷ 0 ∷ 5 ∷ 1 ∷ 0 ∷ 0 ∷ 0 ∷ 1 ∷ 0 ∷ 4 ∷ 2 ∷ 4 ∷ 0 ∷ 0 ∷ 0 ∷ 1 ∷ 0 ∷ 4 ∷ 5 ∷ 0 ∷ 0 ∷
    0 ∷ 0 ∷ 0 ∷ 0 ∷ 0 ∷ 0 ∷ 0 ∷ [])
one_name_file = refl

old_one_name_file : SpellsOld one_name (
    73 ∷ 68 ∷ 76 ∷ 84 ∷ 1 ∷ 0 ∷ 0 ∷ 0 ∷ 4 ∷ 1 ∷ 0 ∷ 4 ∷ 0 ∷ 5 ∷ 0 ∷ 0 ∷ 0 ∷ 0 ∷ 8 ∷ 0 ∷ 0 ∷ 0 ∷ 3 ∷ 0 ∷ 0 ∷ 0 ∷
    0 ∷ 0 ∷ 0 ∷ 0 ∷ 1 ∷ 0 ∷ 0 ∷ 0 ∷ 2 ∷ 0 ∷ 0 ∷ 0 ∷ 1 ∷ 0 ∷ 0 ∷ 0 ∷ 1 ∷ 83 ∷ 0 ∷ 0 ∷ 0 ∷ 3 ∷ 0 ∷ 0 ∷ 0 ∷ 0 ∷ 0 ∷
    0 ∷ 0 ∷ 0 ∷ 0 ∷ 0 ∷ 0 ∷ 0 ∷ 0 ∷ 0 ∷ 0 ∷ 1 ∷ 0 ∷ 0 ∷ 0 ∷ 3 ∷ 255 ∷ 255 ∷ 255 ∷ 255 ∷ 255 ∷ 255 ∷ 255 ∷ 255 ∷
    255 ∷ 0 ∷ 0 ∷ 0 ∷ 0 ∷ 0 ∷ 0 ∷ 0 ∷ 5 ∷ 1 ∷ 0 ∷ 0 ∷ 0 ∷ 1 ∷ 0 ∷ 4 ∷ 2 ∷ 4 ∷ 0 ∷ 0 ∷ 0 ∷ 1 ∷ 0 ∷ 4 ∷ 5 ∷ 0 ∷ 0 ∷
    0 ∷ 0 ∷ [])
old_one_name_file = record { spelled = refl; empty = refl; unused = (refl, tt) }
