use Rattle.std.proofs.Common.{codes}
use Rattle.giop_types.proofs.Lists.{four_added}
use Rattle.giop_types.proofs.names.add_operations.Goals as goal

-- src/names.rt
pub returns : goal.returns
returns c =
    four_added c.args.names.now.items c.add.new.names.items c.add-2.new.names.items c.add-3.new.names.items
    c.add-4.new.names.items
    (codes "is_a/in", 26) (codes "is_a/out", 27) (codes "non_existent/in", 28) (codes "non_existent/out", 27)
    (c.in_ok-add.ensures) (c.in_ok-add-2.ensures) (c.in_ok-add-3.ensures) (c.in_ok-add-4.ensures)
