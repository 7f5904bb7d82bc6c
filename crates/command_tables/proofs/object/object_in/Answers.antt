use Rattle.std.proofs.Common.{arith}
use Rattle.std.proofs.lemmas.Bool.Decides.{nat_tests}
use Rattle.command_tables.proofs.Objects.{no_object, object_found}
use Rattle.command_tables.proofs.object.object_in.Goals as goal

pub returns-in_default-clause-refused : goal.returns-in_default-clause-refused
returns-in_default-clause-refused c = no_object c.args.word.now c.in_default.ensures.cases

pub returns-clause-found : goal.returns-clause-found
returns-clause-found c =
    object_found c.args.word.now c.in-Some.key c.in-Some.name c.in-Some.ensures.cases
    (grind (arith, nat_tests, c.is_empty.ensures, c.if-is_empty.false))
