use Rattle.program_output.proofs.Chunks.{both_parts}
use Rattle.program_output.proofs.lanes.joined_fours.Goals as goal

pub returns-clause-either : goal.returns-clause-either
returns-clause-either g c =
    both_parts g.S.Sought.is_sought c.args.at 64 64 c.args.octets.now _ _ _ c.joined_chunks-first.ensures.either
    c.joined_chunks-second.ensures.either c.joined.ensures.either
