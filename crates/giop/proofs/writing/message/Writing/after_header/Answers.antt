use Rattle.std.proofs.Common.{ap, refl}
use Rattle.giop_messages.specs.declared.fault.GiopFault.TheVariants.{BadBody}
use Rattle.giop.specs.Made.{given_by}
use Rattle.giop.proofs.Bodies.{refused_body}
use Rattle.program_runner.proofs.Refusals.{not_for_memory}
use Rattle.giop.proofs.writing.message.Writing.after_header.Goals as goal

pub returns-in_default-fault-clause-refused : goal.returns-in_default-fault-clause-refused
returns-in_default-fault-clause-refused c =
    refused_body BadBody BadBody c.args.self.now.order c.args.body c.in-Some.types.now.model.graph c.in-Some.node
    c.args.stop c.gap_at-gap.result c.in-Some.tape.now (ap given_by c.in-Some.is) c.gap_at-gap.ensures.gap
    (refl, not_for_memory c.in-Err.fault _ c.in_default-fault.not-NoMemory c.in-Err.ensures.refused)
