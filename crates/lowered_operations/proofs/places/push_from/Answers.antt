use Rattle.std.proofs.Common.{◌≡◌, ◌++◌, ◌∷◌, [], arith, rules}
use Rattle.lowered_operations.proofs.PlacesMore.{range_more}
use Rattle.lowered_operations.proofs.places.push_from.Goals as goal

pub loop-k-preserved : goal.loop-k-preserved
loop-k-preserved c =
    let pushed : c.push.new.self.items ≡ c.loop-k.numbers.items ++ c.loop-k.k ∷ [] = search rules in
    range_more c.loop-k.numbers.items c.push.new.self.items _ c.loop-k.k c.args.end (omega arith) pushed
    c.loop-k.invariant
