use Rattle.routine_checker.specs.Taking.{is_piece}
use Rattle.routine_checker.specs.inner.Kinds.{is_piece_of}
use Rattle.routine_checker.proofs.CountLaws.{counted_yields}
use Rattle.routine_checker.proofs.noted.Counts.pieces.Goals as goal

pub returns-in-Some : goal.returns-in-Some
returns-in-Some c = λ graph right some.
    counted_yields graph (is_piece graph c.args.program.now c.args.instr.now) (is_piece_of c.in-Some.piece graph)
    c.args.number c.of.result
    (c.in-Some.ensures graph) some (c.of.ensures graph right.made some)
