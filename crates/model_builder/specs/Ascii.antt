-- Models of which each text is ASCII, as a table file has them.
use Rattle.std.specs.Prelude.{All}
use Rattle.std.specs.Str.{IsAscii}
use Rattle.type_model.specs.declared.signatures.Interface.{Interface}
use Rattle.type_model.specs.declared.signatures.Exception.{Exception}
use Rattle.type_model.specs.ModelRules.{Parts}

pub record IsAsciiInterface (i : Interface) : Type 0 where
  pub name : IsAscii i.name
  pub id : IsAscii i.id
  pub bases : All IsAscii i.bases

pub record IsAsciiException (x : Exception) : Type 0 where
  pub name : IsAscii x.name
  pub id : IsAscii x.id

pub record HasAsciiTexts (model : Parts) : Type 0 where
  pub names : All (λ name. IsAscii name.0) model.names
  pub interfaces : All IsAsciiInterface model.interfaces
  pub operations : All (λ operation. IsAscii operation.name) model.operations
  pub exceptions : All IsAsciiException model.exceptions
