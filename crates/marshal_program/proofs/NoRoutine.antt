-- The program without routines.
use Rattle.std.proofs.Common.{[], arith}
use Rattle.std.proofs.lemmas.List.Elements.{All-from_recursion}
use Rattle.marshal_program.specs.ProgramRules.{IsProgram, IsRoutine}

-- it keeps the rules
pub no_routine : IsProgram []
no_routine = record {
  limited = omega arith;
  instrs = omega arith;
  routines = All-from_recursion (IsRoutine []) [] tt;
}
