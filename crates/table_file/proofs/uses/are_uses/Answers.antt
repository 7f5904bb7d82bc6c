use Rattle.table_file.proofs.SeenUses.{none_seen}
use Rattle.table_file.proofs.uses.are_uses.Goals as goal

pub are_alike-requires-clause-seen : goal.are_alike-requires-clause-seen
are_alike-requires-clause-seen c = none_seen 4096
