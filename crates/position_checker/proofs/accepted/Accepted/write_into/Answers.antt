use Rattle.std.proofs.Common.{◌∙◌, ap, subst}
use Rattle.table_file.specs.Table.{TableParts, program_at}
use Rattle.position_checker.specs.Acceptance.{IsRight}
use Rattle.position_checker.proofs.Acceptance.{write_put, write_refused}
use Rattle.position_checker.proofs.accepted.Accepted.write_into.Goals as goal

pub returns-clause-found : goal.returns-clause-found
returns-clause-found c =
    let right : IsRight c.args.self.now = subst IsRight c.self.view_is c.self.invariant.0 in
    write_put c.args.self.now right c.args.order c.args.node _ _ c.args.pos c.serving-program.ensures.serves
    c.program-program.result.now (c.program-program.ensures.value
    ∙ ap (λ (t : TableParts). program_at t c.serving-program.result.program) c.self.view_is) (λ len. len)
    c.args.buffer.now _ c.args.tape.now c.write_into.result c.write_into.ensures.found

pub returns-clause-refused : goal.returns-clause-refused
returns-clause-refused c =
    let right : IsRight c.args.self.now = subst IsRight c.self.view_is c.self.invariant.0 in
    write_refused c.args.self.now right c.args.order c.args.node _ _ c.args.pos c.serving-program.ensures.serves
    c.program-program.result.now (c.program-program.ensures.value
    ∙ ap (λ (t : TableParts). program_at t c.serving-program.result.program) c.self.view_is) c.args.tape.now
    c.write_into.result c.write_into.ensures.refused
