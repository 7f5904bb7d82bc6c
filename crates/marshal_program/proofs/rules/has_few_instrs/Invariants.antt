use Rattle.std.proofs.Common.{◌≡◌, ◌+◌, take}
use Rattle.marshal_program.specs.ProgramRules.{all_instrs}
use Rattle.marshal_program.proofs.rules.has_few_instrs.Given as goal

abbrev pub invariant-loop-routine : goal.invariant-loop-routine
invariant-loop-routine l = l.left + all_instrs (take l.routine-index l.routines) ≡ 65536
