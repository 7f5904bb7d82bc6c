use Rattle.std.proofs.Common.{◌≡◌, ◌+◌, ◌++◌, drop}
use Rattle.reference_texts.specs.Encapsulations.{differences}
use Rattle.reference_texts.proofs.manner.differing.Given as goal

abbrev pub invariant-loop-place : goal.invariant-loop-place
invariant-loop-place l =
    differences 1 l.clean l.front
    ≡ l.all.items ++ differences (l.place + 1) (drop l.place l.clean) (drop l.place l.front)
