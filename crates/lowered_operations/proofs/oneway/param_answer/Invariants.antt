use Rattle.std.proofs.Common.{◌≡◌}
use Rattle.idl_tree.specs.Lists.{parts}
use Rattle.idl_tree.specs.PartsLeft.{parts_left}
use Rattle.lowered_operations.specs.Oneway.{param_answer}
use Rattle.lowered_operations.proofs.oneway.param_answer.Given as goal

-- the parameters so far are `in` ones
abbrev pub invariant-loop-param : goal.invariant-loop-param
invariant-loop-param l = param_answer (parts l.params) ≡ param_answer (parts_left l.param-iterator)
