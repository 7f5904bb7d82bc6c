use Rattle.std.proofs.Common.{◌≡◌, ◌++◌, ◌+◌, ◌*◌, length, take, drop}
use Rattle.program_output.specs.Orders.{turned}
use Rattle.program_output.proofs.turning.turn_chunks.Given as goal

abbrev pub invariant-loop-chunk : goal.invariant-loop-chunk
invariant-loop-chunk g l = record {
  long : length l.out ≡ length l.initial.out;
  put : take (l.at + l.chunk * 16) l.out ≡ take l.at l.initial.out
      ++ turned g.W.Words.width (l.chunk * g.W.Words.count) (drop l.at l.words);
}
