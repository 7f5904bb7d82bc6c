use Rattle.std.specs.Prelude.{Contains, [], ◌∷◌}
use Rattle.table_file.specs.Spelling.{spelled_width}
use Rattle.table_file.specs.inner.Codes.{width_code}
use Rattle.table_file.specs.inner.Ones.{one_width}
use Rattle.table_file.proofs.OctetRuns.{width_each, width_only}
use Rattle.table_file.proofs.PassLaws.{one_some}
use Rattle.table_file.proofs.numbers.WidthPart.pass.Goals as goal

pub returns : goal.returns
returns c =
    one_some spelled_width (λ n. Contains (1 ∷ 2 ∷ 4 ∷ 8 ∷ []) n) width_code one_width width_each width_only _ _ _ _
    c.is_some.ensures c.one_of.ensures
