-- The line that tells that calls are served.
use Rattle.std.specs.Prelude.{ℕ, List, [], ◌∷◌, ◌++◌, codes}
use Rattle.std.specs.Fmt.{decimal}

abbrev pub serving : ℕ → List ℕ
serving port = codes "serving " ++ decimal port ++ 10 ∷ []
