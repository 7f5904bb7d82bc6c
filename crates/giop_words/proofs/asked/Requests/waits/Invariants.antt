use Rattle.std.proofs.Common.{◌≡◌, drop}
use Rattle.giop_words.specs.Requests.{waits}
use Rattle.giop_words.proofs.asked.Requests.waits.Given as goal

abbrev pub invariant-loop-asked : goal.invariant-loop-asked
invariant-loop-asked l = waits l.self.items.items l.id ≡ waits (drop l.asked-index l.self.items.items) l.id
