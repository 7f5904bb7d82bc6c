-- The members of a type while they are read.
use Rattle.std.specs.Prelude.{ℕ, List}
use Rattle.idl_tree.specs.declared.names.At.{At}

-- the numbers of their types, where their declarators stand, and what they are called
pub record Members : Type 0 where
  pub numbers : List ℕ
  pub sites : List At
  pub names : List (List ℕ)
