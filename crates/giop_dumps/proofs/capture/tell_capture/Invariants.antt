use Rattle.giop_dumps.proofs.OutputLaws.{SoFar}
use Rattle.giop_dumps.proofs.capture.tell_capture.Given as goal

abbrev pub invariant-loop : goal.invariant-loop
invariant-loop g l = SoFar g.O.Write.contents l.told l.fn.out l.out
