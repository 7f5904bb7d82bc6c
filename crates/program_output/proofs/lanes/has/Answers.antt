use Rattle.std.proofs.Common.{◌∙◌, sym}
use Rattle.program_output.proofs.Chunks.{in_chunk}
use Rattle.program_output.proofs.lanes.has.Goals as goal

pub returns-then-is_in_eight_chunks : goal.returns-then-is_in_eight_chunks
returns-then-is_in_eight_chunks g c =
    sym (in_chunk g.S.Sought.is_sought c.loop-at.at 256 c.args.octets.now
    (sym c.is_in_eight_chunks.ensures ∙ c.if-is_in_eight_chunks.true) c.loop-at.invariant.1)
