use Rattle.std.proofs.Common.{◌≡◌, drop}
use Rattle.std.specs.List.{list_any}
use Rattle.std.specs.Str.{bytes_eq}
use Rattle.type_model.proofs.called_operations.operation.has_base.Given as goal

abbrev pub invariant-loop-base : goal.invariant-loop-base
invariant-loop-base l = list_any (bytes_eq l.id) l.bases ≡ list_any (bytes_eq l.id) (drop l.base-index l.bases)
