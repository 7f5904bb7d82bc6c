use Rattle.std.proofs.Common.{◌∙◌, sym}
use Rattle.program_output.proofs.Chunks.{in_chunk}
use Rattle.program_output.proofs.lanes.is_in_chunks.Goals as goal

pub returns-then-is_in_chunk : goal.returns-then-is_in_chunk
returns-then-is_in_chunk g c =
    sym (in_chunk g.S.Sought.is_sought c.loop-at.at 32 c.args.octets.now
    (sym c.is_in_chunk.ensures ∙ c.if-is_in_chunk.true) c.loop-at.invariant.1)
