use Rattle.std.proofs.Common.{◌≡◌, ◌∙◌, sym, rules}
use Rattle.std.proofs.lemmas.Result.{IfOk-weaker}
use Rattle.std.specs.Prelude.{IfOk, map}
use Rattle.idl_value.specs.View.{tree_of, trees_of}
use Rattle.value_text.specs.Octets.{octet_of_tree, octets_of}
use Rattle.value_text.proofs.OctetParts.{octets_of-trees}
use Rattle.value_text.proofs.reference_values.octets.octets_of.Goals as goal

pub returns : goal.returns
returns c =
    let values = c.args.values.now in
    let one_by_one : IfOk c.collect.result
    (λ octets. octets.items ≡ map (λ value. octet_of_tree (tree_of value)) values) = search rules in
    IfOk-weaker c.collect.result (λ octets. octets.items ≡ map (λ value. octet_of_tree (tree_of value)) values)
    (λ octets. octets.items ≡ octets_of (trees_of values))
    (λ octets e. e ∙ sym (octets_of-trees values)) one_by_one
