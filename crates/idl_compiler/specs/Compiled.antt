-- What compiling an IDL file means, from its text to its table: each step is the definition of its own crate.
use Rattle.std.specs.Prelude.{ℕ, ◌≤◌, List, Result}
use Rattle.idl_lexer.specs.declared.token.Token.{Token}
use Rattle.idl_lexer.specs.Tokens.{HaveLines, Lexed}
use Rattle.idl_tree.specs.declared.definitions.Definition.{Definition}
use Rattle.idl_tree.specs.Pieces.{Spell}
use Rattle.idl_tree.specs.DefinitionYields.{definitions_spelled}
use Rattle.idl_tree.specs.DefinitionLevels.{levels_of}
use Rattle.scoped_names.specs.FileNames.{AreNames, FileNames}
use Rattle.type_model.specs.ModelRules.{Parts}
use Rattle.marshal_program.specs.declared.fault.GenFault.{GenFault}
use Rattle.marshal_program.specs.declared.instr.Routine.{Routine}
use Rattle.idl_compiler.specs.Settlement.{IsSettled}
use Rattle.idl_compiler.specs.declared.choice.Settled.{Settled}
use Rattle.idl_compiler.specs.declared.steps.NamedTable.{NamedTable}
use Rattle.model_builder.specs.Shown.{AreParts, Shows}

-- the tokens of which the text consists spell the definitions, which stand at most 64 levels one inside another
pub record IsTextOf (source : List ℕ) (definitions : List Definition) : Type 0 where
  pub tokens : List Token
  pub lexed : Lexed source tokens
  pub lines : HaveLines source tokens
  pub spelled : Spell (definitions_spelled definitions) tokens
  pub levels : levels_of definitions ≤ 64

-- the model shows the definitions, by the names that they declare
pub record IsModelOf (definitions : List Definition) (model : Parts) : Type 0 where
  pub names : FileNames
  pub named : AreNames definitions names
  pub shows : Shows definitions names model

-- the table has the model and its plain program, and a planned program beside it where that is used
pub record IsTableOf (model : Parts) (settled : Settled) : Type 0 where
  pub planned : Result (List Routine) GenFault
  pub served : IsSettled model planned settled

-- the table is that of a model of which this holds
pub record HasTable (Shown : Parts → Type 0) (settled : Settled) : Type 0 where
  pub model : Parts
  pub shown : Shown model
  pub table : IsTableOf model settled

-- the table is that of the definitions in the text
pub record IsCompiled (source : List ℕ) (settled : Settled) : Type 0 where
  pub definitions : List Definition
  pub text : IsTextOf source definitions
  pub table : HasTable (IsModelOf definitions) settled

-- by the numbers of nodes, the names of parts are those that the definitions declare
pub record ArePartsOf (definitions : List Definition) (nodes : List (List (List ℕ))) : Type 0 where
  pub names : FileNames
  pub named : AreNames definitions names
  pub parts : AreParts definitions names nodes

-- the table is that of the definitions in the text, and the names of parts are theirs
pub record IsNamedTable (source : List ℕ) (whole : NamedTable) : Type 0 where
  pub definitions : List Definition
  pub text : IsTextOf source definitions
  pub table : HasTable (IsModelOf definitions) whole.settled
  pub names : ArePartsOf definitions whole.names
