use Rattle.table_file.proofs.SeenUses.{Seen}
use Rattle.table_file.proofs.uses.are_alike.Given as goal

abbrev pub invariant-names : goal.invariant-names
invariant-names l = Seen l.names l.uses l.seen l.place
