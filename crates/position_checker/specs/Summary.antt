-- The line that tells how many routines were accepted.
use Rattle.std.specs.Prelude.{ℕ, ◌+◌, List, [], ◌∷◌, ◌++◌, length, codes}
use Rattle.std.specs.Fmt.{decimal}
use Rattle.table_file.specs.Table.{TableParts}

-- how many routines its two programs have
abbrev pub accepted : TableParts → List ℕ
accepted table = codes "accepted " ++ decimal (length table.first + length table.second) ++ 10 ∷ []
