use Rattle.std.proofs.Common.{List, ℕ, ◌++◌, ap, ap₂, ◌∙◌, rules}
use Rattle.std.specs.Int.{w128}
use Rattle.std.proofs.lemmas.Int.{to_z-of_z}
use Rattle.std.proofs.lemmas.List.{take-append-drop}
use mir.Val.{SFits}
use Rattle.table_file.specs.Octets.{spelled_label}
use Rattle.table_file.proofs.LabelOctets.{label_halves}
use Rattle.table_file.proofs.labels.label_of.Goals as goal

pub returns : goal.returns
returns c =
    let z = c.number_of_halves.result in
    let fits : SFits w128 z = search rules in
    let octets = c.args.octets.now in
    let all = ap₂ (λ (x y : List ℕ). x ++ y) c.split_at.ensures.front c.split_at.ensures.back
    ∙ take-append-drop 8 octets in
    ap spelled_label (to_z-of_z w128 z fits)
    ∙ label_halves z c.number_of_half.result c.number_of_half-2.result _ _ octets
    c.number_of_halves.ensures.sized c.number_of_halves.ensures.pattern c.number_of_half.type_inv
    c.number_of_half-2.type_inv
    c.number_of_half.ensures.value c.number_of_half-2.ensures.value all
