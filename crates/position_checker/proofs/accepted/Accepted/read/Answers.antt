use Rattle.std.proofs.Common.{◌∙◌, ap, subst, take}
use Rattle.table_file.specs.Table.{TableParts, program_at}
use Rattle.position_checker.specs.Acceptance.{IsRight}
use Rattle.position_checker.proofs.Acceptance.{read_found, read_refused}
use Rattle.position_checker.proofs.accepted.Accepted.read.Goals as goal

pub returns-clause-found : goal.returns-clause-found
returns-clause-found c =
    let right : IsRight c.args.self.now = subst IsRight c.self.view_is c.self.invariant.0 in
    read_found c.args.self.now right c.args.order c.args.node _ _ c.args.pos c.serving-program.ensures.serves
    c.program.result.now (c.program.ensures.value
    ∙ ap (λ (t : TableParts). program_at t c.serving-program.result.program) c.self.view_is) (λ r. r.0.items)
    (λ r. take r.1 c.args.octets.now) c.read.result c.read.ensures.found

pub returns-clause-refused : goal.returns-clause-refused
returns-clause-refused c =
    let right : IsRight c.args.self.now = subst IsRight c.self.view_is c.self.invariant.0 in
    read_refused c.args.self.now right c.args.order c.args.node _ _ c.args.pos c.serving-program.ensures.serves
    c.program.result.now (c.program.ensures.value
    ∙ ap (λ (t : TableParts). program_at t c.serving-program.result.program) c.self.view_is) c.args.octets.now
    c.read.result c.read.ensures.refused
