-- The nodes by which headers, bodies and profiles are read and written.
use Rattle.std.specs.Prelude.{ℕ, Bool, nat_eq}
use Rattle.std.specs.List.{list_any}
use Rattle.giop_types.specs.GiopModel.{giop_names}

-- whether some name has the node
abbrev pub has_name : ℕ → Bool
has_name node = list_any (λ name. nat_eq name.1 node) giop_names
