-- The lines that tell of a refusal.
use Rattle.std.specs.Prelude.{◌≡◌, ℕ, List, ◌++◌, codes}
use Rattle.std.specs.Fmt.{decimal}
use Rattle.table_file.specs.Stops.{StopsAt}

-- what says more, behind other lines
abbrev pub hint : ℕ → List ℕ
hint number = codes "\nidlc explain " ++ decimal number ++ codes " says more"

-- lines that end so
pub record IsHinted (number : ℕ) (lines : List ℕ) : Type 0 where
  pub front : List ℕ
  pub is : lines ≡ front ++ hint number

-- ---- where a file stops being a table

abbrev pub stop_line : ℕ → List ℕ
stop_line at = codes "the file stops being a table at octet " ++ decimal at ++ codes ", counted from 0"

pub record IsStopLine (octets line : List ℕ) : Type 0 where
  pub at : ℕ
  pub stops : StopsAt octets at
  pub is : line ≡ stop_line at
