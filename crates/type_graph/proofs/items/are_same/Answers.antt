use Rattle.std.specs.Cmp.{signed_Decides, unsigned_Decides}
use Rattle.std.proofs.lemmas.Slice.Eq.{slice_eq-Decides}
use Rattle.type_graph.proofs.ArmsLaws.{pairs_decided}
use Rattle.type_graph.proofs.items.are_same.Goals as goal

pub returns : goal.returns
returns c = slice_eq-Decides (pairs_decided _ _ signed_Decides unsigned_Decides) c.args.arms.now c.args.others.now
    c.eq.result c.eq.ensures
