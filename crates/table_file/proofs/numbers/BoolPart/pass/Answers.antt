use Rattle.std.specs.Prelude.{Contains, [], ◌∷◌}
use Rattle.table_file.specs.Octets.{spelled_flag}
use Rattle.table_file.specs.inner.Codes.{flag_code}
use Rattle.table_file.specs.inner.Ones.{one_flag}
use Rattle.table_file.proofs.OctetRuns.{flag_each, flag_only}
use Rattle.table_file.proofs.PassLaws.{one_some}
use Rattle.table_file.proofs.numbers.BoolPart.pass.Goals as goal

pub returns : goal.returns
returns c =
    one_some spelled_flag (λ n. Contains (0 ∷ 1 ∷ []) n) flag_code one_flag flag_each flag_only _ _ _ _
    c.is_some.ensures c.one_of.ensures
