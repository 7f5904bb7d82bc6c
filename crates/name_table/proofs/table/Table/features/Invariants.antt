use Rattle.std.proofs.Common.{◌≡◌, take}
use Rattle.name_table.specs.Features.{features_of}
use Rattle.name_table.proofs.table.Table.features.Given as goal

-- the features of the entries so far
abbrev pub invariant-loop-number : goal.invariant-loop-number
invariant-loop-number l = l.features ≡ features_of (take l.number l.self)
