use Rattle.std.proofs.Common.{◌≡◌, take}
use Rattle.type_graph.proofs.shape.are_same.Given as goal

abbrev pub invariant-loop-place : goal.invariant-loop-place
invariant-loop-place l = take l.place l.shapes ≡ take l.place l.others
