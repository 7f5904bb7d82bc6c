use Rattle.routine_checker.specs.inner.Kinds.{is_piece_of}
use Rattle.routine_checker.specs.inner.Counts.{pieces_in}
use Rattle.routine_checker.proofs.CountLaws.{array_sum}
use Rattle.routine_checker.proofs.counts.Entries.of_parts.Goals as goal

pub returns-in-Array : goal.returns-in-Array
returns-in-Array c = λ graph right some.
    array_sum (pieces_in 64 (is_piece_of c.args.piece graph) graph) c.args.node.now c.in-Array.elem c.in-Array.n
    c.of.result c.product.result c.in-Array.is
    (c.of.ensures graph right) c.product.ensures.known c.product.ensures.product some
