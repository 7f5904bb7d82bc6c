-- What is kept of the pragmas for repository ids, as contracts see it.
use Rattle.std.specs.Prelude.{ℕ, List, [], ◌∷◌}
use Rattle.scoped_names.specs.declared.repository_ids.PragmaId.{PragmaId}
use Rattle.scoped_names.specs.declared.repository_ids.PlacedId.{PlacedId}
use Rattle.scoped_names.specs.declared.repository_ids.PragmaId.TheVariants.{Whole, Version}
use Rattle.scoped_names.specs.RepositoryIds.{IdPragma, GivenId, WholeId, VersionOf}

abbrev pub given_of : PragmaId → GivenId
given_of (Whole text) = WholeId text.now
given_of (Version number) = VersionOf number.now

abbrev pub pragma_of : ℕ → PlacedId → IdPragma
pragma_of e p = record { entry = e; given = given_of p.id; at = p.at }

-- each entry with what is given to it
abbrev pub pragmas_of : List ℕ → List PlacedId → List IdPragma
pragmas_of [] ps = []
pragmas_of (e ∷ es) [] = []
pragmas_of (e ∷ es) (p ∷ ps) = pragma_of e p ∷ pragmas_of es ps
