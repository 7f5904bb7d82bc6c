use Rattle.std.proofs.Common.{◌<◌, sym, ◌∙◌, arith}
use Rattle.routine_checker.specs.inner.Work.{wants}
use Rattle.routine_checker.proofs.CountLaws.{more_opened}
use Rattle.routine_checker.proofs.work.NodesTaken.parts_of_more.Goals as goal

pub returns : goal.returns
returns c =
    let over : c.args.pieces < c.pieces.result = omega (arith, c.if-pieces.false) in
    more_opened c.pieces.result c.args.pieces (wants c.args.self) c.args.self.nodes.now c.args.number c.parts_at.result
    c.requires.some over
    (c.pieces.ensures c.args.self.nodes.now c.requires.counts) (sym c.is.ensures ∙ c.if-is.false) c.parts_at.ensures
