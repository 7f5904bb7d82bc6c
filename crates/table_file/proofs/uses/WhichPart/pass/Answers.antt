use Rattle.std.specs.Prelude.{Contains, [], ◌∷◌}
use Rattle.table_file.specs.TableSpelling.{spelled_which}
use Rattle.table_file.specs.inner.TableCodes.{which_code}
use Rattle.table_file.specs.inner.Ones.{one_which}
use Rattle.table_file.proofs.OctetRuns.{which_each, which_only}
use Rattle.table_file.proofs.PassLaws.{one_some}
use Rattle.table_file.proofs.uses.WhichPart.pass.Goals as goal

pub returns : goal.returns
returns c =
    one_some spelled_which (λ n. Contains (0 ∷ 1 ∷ []) n) which_code one_which which_each which_only _ _ _ _
    c.is_some.ensures c.one_of.ensures
