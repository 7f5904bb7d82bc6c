use Rattle.table_file.proofs.SeenUses.{nothing_seen}
use Rattle.table_file.proofs.uses.are_alike.Goals as goal

pub names-init : goal.names-init
names-init c = nothing_seen _ _ _ c.requires.seen
