use Rattle.std.proofs.Common.{◌≡◌}
use Rattle.giop_words.proofs.asked.Requests.answered.Given as goal

abbrev pub invariant-loop-place : goal.invariant-loop-place
invariant-loop-place l = l.self.items.items ≡ l.fn.self.items.items
