use Rattle.std.proofs.Common.{◌≡◌, ◌++◌, ◌+◌, ◌*◌, length, take, drop}
use Rattle.program_output.specs.Orders.{turned}
use Rattle.program_output.proofs.turning.turn_words.Given as goal

abbrev pub invariant-loop-left : goal.invariant-loop-left
invariant-loop-left g l = record {
  there : l.at + l.left * g.W.Words.width ≡ length l.words;
  room : length l.out ≡ length l.words;
  same : take l.at l.out ++ turned g.W.Words.width l.left (drop l.at l.words) ≡ turned g.W.Words.width l.n l.words;
}

abbrev pub decreases-loop-left : goal.decreases-loop-left
decreases-loop-left g l = l.left

abbrev pub invariant-loop-left-2 : goal.invariant-loop-left-2
invariant-loop-left-2 g l = record {
  there : l.at + l.left * g.W.Words.width ≡ length l.words;
  room : length l.out ≡ length l.words;
  same : take l.at l.out ++ turned g.W.Words.width l.left (drop l.at l.words) ≡ turned g.W.Words.width l.n l.words;
}

abbrev pub decreases-loop-left-2 : goal.decreases-loop-left-2
decreases-loop-left-2 g l = l.left
