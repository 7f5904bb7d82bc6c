-- What is answered by a table is what was asked for.
use Rattle.std.proofs.Common.{◌≡◌, inl, inr, IfOk, IfErr, ℕ, List, Result, Ok, Err, string_bytes}
use Rattle.idlc_main.specs.declared.fault.Fault.{Fault}
use Rattle.idlc_main.specs.declared.told.TaskOutput.{TaskOutput}
use Rattle.command_words.specs.declared.task.TableTask.{TableTask}
use Rattle.command_words.specs.declared.task.TableTask.TheVariants as tables
use Rattle.command_words.specs.Ask.{table_ask_of, table_of}
use Rattle.idlc_main.specs.Answer.{IsAnswer}
use Rattle.idlc_main.specs.Tables.{Answers, HasTable, IsRefusalBy, IsTableFault, IsUnloaded, Refuses}
use Rattle.command_tables.specs.Named.{Passing}
use Rattle.table_file.specs.Table.{TableParts}
use Rattle.command_texts.specs.Lines.{Labels}
use Rattle.command_files.specs.Loaded.{IsLoaded, IsNotLoaded}
use Rattle.command_files.specs.declared.loaded.NamedFault.{NamedFault}
use Rattle.command_files.specs.declared.loaded.NamedFault.TheVariants.{NotCompiled, Refused}
use Rattle.idlc_main.specs.Fault.{fault_of}

module _ (Reads Takes : Passing) where
  by_task : (task : TableTask) (result : Result TaskOutput Fault)
      → IfOk result (λ answer. HasTable Reads (table_of task) (Answers Reads task (string_bytes answer.text)))
      → IfErr result (IsTableFault Reads (table_of task) (Refuses Reads task))
      → IsAnswer Reads Takes (table_ask_of task) result
  by_task (tables.Value asked) result line fault = record { line = line; fault = fault }
  by_task (tables.Reference asked) result line fault = record { line = line; fault = fault }
  by_task (tables.Check name) result line fault = record { line = line; fault = fault }
  by_task (tables.Show name types) result line fault = record { line = line; fault = fault }

  -- by the table that the name has
  pub answers : (task : TableTask) (table : TableParts) (labels : Labels)
      → IsLoaded Reads (table_of task) table labels → (result : Result TaskOutput Fault)
      → IfOk result (λ answer. Answers Reads task (string_bytes answer.text) table labels)
      → IfErr result (IsRefusalBy (Refuses Reads task) table labels) → IsAnswer Reads Takes (table_ask_of task) result
  answers task table labels loaded (Ok answer) line fault =
      by_task task (Ok answer) (record { table = table; labels = labels; is = loaded; so = line }) tt
  answers task table labels loaded (Err refused) line fault =
      by_task task (Err refused) tt (inr (record { table = table; labels = labels; is = loaded; so = fault }))

  -- or it has none
  unloaded : (name : List ℕ) (named : NamedFault) → IsNotLoaded Reads name named
      → IsUnloaded Reads name (fault_of named)
  unloaded name (Refused refusal) none = none
  unloaded name (NotCompiled fault source) none = none

  pub no_answer : (task : TableTask) (named : NamedFault) (fault : Fault) → fault ≡ fault_of named
      → IsNotLoaded Reads (table_of task) named → IsAnswer Reads Takes (table_ask_of task) (Err fault)
  no_answer task named fault is none =
      rw is (by_task task (Err (fault_of named)) tt (inl (unloaded (table_of task) named none)))
