-- Texts whose model is made, and no table yet.
use Rattle.std.specs.Prelude.{ℕ, List}
use Rattle.idl_tree.specs.declared.definitions.Definition.{Definition}
use Rattle.model_builder.specs.declared.model.Built.{Built}
use Rattle.idl_compiler.specs.Compiled.{ArePartsOf, IsModelOf, IsTextOf}

-- the model is that of the definitions in the text, and the names of parts are theirs
pub record IsBuilt (source : List ℕ) (built : Built) : Type 0 where
  pub definitions : List Definition
  pub text : IsTextOf source definitions
  pub shown : IsModelOf definitions built.model
  pub names : ArePartsOf definitions built.parts
