use Rattle.table_file.proofs.PassedLists.{counted_some}
use Rattle.table_file.proofs.lists.ItemsPart.pass.Goals as goal

pub returns : goal.returns
returns g c = counted_some g.T.Part.spelled _ _ _ _ c.is_some.ensures c.pass_counted.ensures
