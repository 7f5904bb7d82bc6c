use Rattle.std.proofs.Common.{◌≡◌, take}
use Rattle.idl_value.specs.View.{trees_of}
use Rattle.giop_types.specs.Fields.{octet_trees}
use Rattle.value_text.proofs.reference_values.octets.octet_values.Given as goal

abbrev pub invariant-loop-octet : goal.invariant-loop-octet
invariant-loop-octet l = trees_of l.values.items ≡ octet_trees (take l.octet-index l.octets)
