-- What it says that reading stopped: the tokens are those of no specification.
use Rattle.std.proofs.Common.{◌≡◌, ◌⊎◌, inl, inr, ℕ, false, List, Some}
use Rattle.idl_tree.specs.Pieces.{Seen}
use Rattle.idl_tree.specs.DefinitionDescent.{definitions_way, is_over}
use Rattle.definition_reader.specs.declared.stop.Stop.{Stop}
use Rattle.definition_reader.specs.declared.stop.Stop.TheVariants.{NoMemory}
use Rattle.definition_reader.specs.inner.Following.{Ends}
use Rattle.definition_reader.specs.Specification.{IsNoSpec}
use Rattle.definition_reader.proofs.Ways.{no_spec, no_spec_so}

pub stopped : (room : ℕ) (t : List Seen) (e : Stop) → Ends (definitions_way room t) e → (e ≡ NoMemory) ⊎ IsNoSpec room t
stopped room t e (inl h) = inl h
stopped room t e (inr h) = inr (no_spec_so room t h)

pub left_over : (room : ℕ) (t u : List Seen) (e : Stop) → definitions_way room t ≡ Some u → is_over u ≡ false
    → (e ≡ NoMemory) ⊎ IsNoSpec room t
left_over room t u e way more = inr (no_spec room t u way more)
