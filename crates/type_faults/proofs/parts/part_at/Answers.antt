use Rattle.std.proofs.Common.{arith}
use Rattle.idl_lexer.specs.Tokens.{parts_of}
use Rattle.type_faults.proofs.Leaving.{mode_room, parts_room}
use Rattle.type_faults.proofs.parts.part_at.Goals as goal

pub loop-token-preserved : goal.loop-token-preserved
loop-token-preserved c =
    let s = c.loop-token.scan in
    let t = parts_of c.token-item.result in
    record {
      depth = rw c.after-scan.ensures (omega (arith, mode_room s.mode t, c.loop-token.invariant.depth));
      parts = rw c.after-scan.ensures (omega (arith, parts_room s t, c.loop-token.invariant.parts));
    }
