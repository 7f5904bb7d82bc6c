use Rattle.std.proofs.Common.{◌≡◌, drop}
use Rattle.type_graph.specs.Value.{arm_of}
use Rattle.type_graph.proofs.items.Items+tuple2+i128+u32.chosen.Given as goal

abbrev pub invariant-loop-arm : goal.invariant-loop-arm
invariant-loop-arm l = arm_of (drop l.arm-index l.self) l.otherwise l.fn.label ≡ arm_of l.self l.otherwise l.fn.label
