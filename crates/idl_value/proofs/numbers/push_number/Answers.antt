use Rattle.std.proofs.Common.{◌≡◌, ℕ, ℤ, List, ◌-◌, drop, ap, ap₂, ◌∙◌, rules}
use Rattle.std.specs.Int.{w128, to_be_bytes, cast_unsigned}
use Rattle.std.proofs.lemmas.Int.{to_z-of_z}
use mir.Val.{SFits}
use Rattle.idl_value.proofs.WordForms.{low_octets, added}
use Rattle.type_graph.specs.Words.{octets_in}
use Rattle.type_graph.specs.Value.{number_width}
use Rattle.idl_value.proofs.numbers.push_number.Goals as goal

pub returns : goal.returns
returns c =
    let node = c.args.node.now in
    let fits : SFits w128 c.args.n = search rules in
    let octets = c.to_be_bytes-octets.ensures
    ∙ ap (λ (z : ℤ). to_be_bytes w128 (cast_unsigned w128 z)) (to_z-of_z w128 c.args.n fits) in
    let width : c.octets-width.result ≡ octets_in (number_width node) =
    c.octets-width.ensures.value ∙ ap octets_in c.number_width.ensures in
    added c.extend_from_slice.result c.args.tape.now.items c.extend_from_slice.new.self.items c.split_at.result.1.now _
    c.extend_from_slice.ensures.items
    (λ h. c.split_at.ensures.back ∙ ap₂ (λ (k : ℕ) (l : List ℕ). drop (16 - k) l) width octets
    ∙ low_octets node c.args.n h)
