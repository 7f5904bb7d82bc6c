use Rattle.std.proofs.Common.{◌≡◌, ◌++◌, drop, map, All}
use Rattle.idl_value.specs.View.{tree_of}
use Rattle.value_text.specs.Pieces.{octet_of_tree}
use Rattle.value_text.specs.inner.Reading.{IsOctet}
use Rattle.value_text.proofs.words.values_of.Given as goal

abbrev pub invariant-loop-octet : goal.invariant-loop-octet
invariant-loop-octet l =
    (map (λ value. octet_of_tree (tree_of value)) l.values.items ++ drop l.octet-index l.octets ≡ l.octets)
    × All (λ value. IsOctet (tree_of value)) l.values.items
