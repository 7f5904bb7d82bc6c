-- What is made of the parts that are read.
use Rattle.std.specs.Prelude.{◌≡◌, ℕ, List, [], length, replicate, Some}
use Rattle.std.specs.List.{AllByRecursion}
use Rattle.type_graph.specs.declared.fault.GraphFault.{GraphFault}
use Rattle.type_graph.specs.declared.fault.GraphFault.TheVariants as graph_faults
use Rattle.marshal_program.specs.declared.fault.TableFault.{TableFault}
use Rattle.marshal_program.specs.declared.fault.TableFault.TheVariants.{NoMemory, BadNumber}
use Rattle.table_file.specs.declared.table.Which.TheVariants.{First}
use Rattle.table_file.specs.Table.{TableParts}
use Rattle.table_file.specs.inner.TableCodes.{OldFields, TableFields, spelled_old_body}

-- a broken rule of a graph or a model, as that of a table
abbrev pub table_fault : GraphFault → TableFault
table_fault graph_faults.NoMemory = NoMemory
table_fault fault = BadNumber

-- for a file of version 1
abbrev pub fields_of : OldFields → TableFields
fields_of old = ((old.0, (old.1, [])), replicate (length old.0.1.0) First)

-- what stands behind the start of one, and what it leaves out
pub record IsOldBody (table : TableParts) (octets : List ℕ) : Type 0 where
  pub spelled : spelled_old_body table ≡ Some octets
  pub empty : table.second ≡ []
  pub unused : AllByRecursion (λ use_. use_ ≡ First) table.uses
