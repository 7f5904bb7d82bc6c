use Rattle.marshal_program.proofs.Works.{MarkedUpTo}
use Rattle.marshal_program.proofs.rules.note_works.Given as goal

abbrev pub invariant-loop-number : goal.invariant-loop-number
invariant-loop-number l = MarkedUpTo l.routines l.works l.number
