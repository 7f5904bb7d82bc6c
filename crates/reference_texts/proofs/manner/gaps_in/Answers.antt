use Rattle.program_runner.proofs.Refusals.{not_for_memory}
use Rattle.reference_texts.proofs.Gaps.{written_there}
use Rattle.reference_texts.proofs.manner.gaps_in.Goals as goal

pub unreachable-requires : goal.unreachable-requires
unreachable-requires c =
    written_there c.args.order c.args.node c.args.tape.now c.args.front.now c.requires.read
    (not_for_memory c.in-Err.fault _ c.in_default.not-NoMemory c.in-Err.ensures.refused)
