use Rattle.std.proofs.Common.{codes}
use Rattle.giop_types.proofs.Lists.{three_added}
use Rattle.giop_types.proofs.names.add_locates.Goals as goal

-- src/names.rt
pub returns : goal.returns
returns c =
    three_added c.args.names.now.items c.add.new.names.items c.add-2.new.names.items c.add-3.new.names.items
    (codes "GIOP::LocateRequestHeader_1_2", 20) (codes "GIOP::LocateReplyHeader_1_2", 21)
    (codes "GIOP::CancelRequestHeader", 22)
    (c.in_ok-add.ensures) (c.in_ok-add-2.ensures) (c.in_ok-add-3.ensures)
