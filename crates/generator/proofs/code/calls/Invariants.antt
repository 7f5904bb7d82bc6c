use Rattle.std.proofs.Common.{◌≡◌, ◌++◌, map, drop}
use Rattle.marshal_program.specs.declared.instr.Instr.TheVariants as instrs
use Rattle.generator.proofs.code.calls.Given as goal

abbrev pub invariant-loop-member : goal.invariant-loop-member
invariant-loop-member l = l.code.items ++ map instrs.Call (drop l.member-index l.members) ≡ map instrs.Call l.members
