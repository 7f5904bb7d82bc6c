use Rattle.std.proofs.Common.{ℤ, Some, ap, sym, ◌∙◌, rules}
use Rattle.std.specs.Int.{w128, to_be_bytes, cast_unsigned}
use Rattle.std.proofs.lemmas.Int.{to_z-of_z}
use mir.Val.{SFits}
use Rattle.type_graph.specs.Value.{IsSignedIn}
use Rattle.table_file.proofs.LabelOctets.{label_octets}
use Rattle.table_file.proofs.labels.octets_of_label.Goals as goal

pub returns : goal.returns
returns c =
    let fits : SFits w128 c.args.label = search rules in
    let sized : IsSignedIn 16 c.args.label = search rules in
    label_octets c.args.label sized
    ∙ ap Some (sym (c.to_be_bytes.ensures
    ∙ ap (λ (z : ℤ). to_be_bytes w128 (cast_unsigned w128 z)) (to_z-of_z w128 c.args.label fits)))
