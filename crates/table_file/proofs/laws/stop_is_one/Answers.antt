use Rattle.table_file.proofs.StopLaws.{one_stop}
use Rattle.table_file.proofs.laws.stop_is_one.Goals as goal

pub returns : goal.returns
returns c = one_stop
