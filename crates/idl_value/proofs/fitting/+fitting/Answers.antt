use Rattle.std.proofs.Common.{◌≡◌, ◌↔◌, length, false, IsTrue, option_to_list, inl, inr, refl, sym, ap, ◌∙◌, subst, arith, rules}
use Rattle.type_graph.specs.declared.node.Node.{Node}
use Rattle.type_graph.specs.declared.node.Node.TheVariants.{Union}
use Rattle.type_graph.specs.GraphRules.{IsNode}
use Rattle.type_graph.specs.Value.{Bytes, Items, Choice, node_at, arm_of, IsNumber, Fits, FitAll}
use Rattle.idl_value.specs.View.{tree_of, trees_of, member_of}
use Rattle.idl_value.specs.inner.PartList.{AreWithin}
use Rattle.std.proofs.lemmas.Bool.{false≢true}
use Rattle.std.proofs.lemmas.Int.{to_z-of_z}
use mir.Syntax.{w128}
use mir.Val.{SFits}
use Rattle.type_graph.proofs.Held.{switch_within}
use Rattle.idl_value.proofs.ViewLaws.{tree_of-text}
use Rattle.idl_value.proofs.PartLaws.{elements_are_within, copies_are_within, members_are_within, frame_is_within, arm_is_within}
use Rattle.idl_value.proofs.FitLaws.{sequence_fits, no_sequence, union_fits, empty_union_fits}
use Rattle.idl_value.proofs.fitting.+fitting.Goals as goal
use Rattle.idl_value.proofs.fitting.+fitting.Goals.{are_items-then-depth-eq0-via-then-depth-eq0, are_items-then-depth-eq0-via-else-depth-eq0+then-not-is_count}

pub are_items-returns-then-depth-eq0 : goal.are_items-returns-then-depth-eq0
are_items-returns-then-depth-eq0 t c = λ node_rules.
    let FitsIn : Node → Type 0 = λ node. IsTrue false
    ↔ Fits c.args.graph.now node (Items (trees_of c.args.values.now)) c.args.depth in
    subst FitsIn (sym c.in-Seq.is)
    (no_sequence c.args.graph.now c.in-Seq.elem c.in-Seq.bound c.args.depth c.args.values.now (λ deep counted.
    elim c.then-depth-eq0.branch [
      | are_items-then-depth-eq0-via-then-depth-eq0 w ↦ omega (arith, w.if-depth-eq0.true)
      | are_items-then-depth-eq0-via-else-depth-eq0+then-not-is_count w ↦
          false≢true (sym w.if-not-is_count.true ∙ w.is_count.ensures.1 counted)
    ]))

pub are_items-returns-else-not-is_count : goal.are_items-returns-else-not-is_count
are_items-returns-else-not-is_count t c = λ node_rules.
    let FitsIn : Node → Type 0 = λ node. IsTrue c.are_values.result
    ↔ Fits c.args.graph.now node (Items (trees_of c.args.values.now)) c.args.depth in
    subst FitsIn (sym c.in-Seq.is)
    (sequence_fits c.args.graph.now c.in-Seq.elem c.in-Seq.bound c.args.depth c.args.values.now c.are_values.result
    (omega arith) (search rules)
    (c.are_values.ensures (elements_are_within c.args.graph.now c.in-Seq.elem c.in-Seq.bound (length c.args.values.now)
    (subst (IsNode c.args.graph.now) c.in-Seq.is node_rules))))

pub are_items-returns-in-Array : goal.are_items-returns-in-Array
are_items-returns-in-Array t c = λ node_rules.
    let FitsIn : Node → Type 0 = λ node. IsTrue c.are_values-in-Array.result
    ↔ Fits c.args.graph.now node (Items (trees_of c.args.values.now)) c.args.depth in
    subst FitsIn (sym c.in-Array.is)
    (c.are_values-in-Array.ensures
    (copies_are_within c.args.graph.now c.in-Array.elem c.in-Array.n
    (subst (IsNode c.args.graph.now) c.in-Array.is node_rules)))

pub are_items-returns-in-Struct : goal.are_items-returns-in-Struct
are_items-returns-in-Struct t c = λ node_rules.
    let graph = c.args.graph.now in
    let members = c.in-Struct.members in
    let FitsIn : Node → Type 0 = λ node. IsTrue c.are_values-in-Struct.result
    ↔ Fits graph node (Items (trees_of c.args.values.now)) c.args.depth in
    let same = subst (λ numbers. AreWithin graph numbers → IsTrue c.are_values-in-Struct.result
    ↔ FitAll graph numbers (trees_of c.args.values.now) c.args.depth) c.as_slice.ensures
    c.are_values-in-Struct.ensures in
    elim c.in-Struct.is [
      | inl e ↦ subst FitsIn (sym e) (same (members_are_within graph members (subst (IsNode graph) e node_rules)))
      | inr e ↦ subst FitsIn (sym e) (same (frame_is_within graph members (subst (IsNode graph) e node_rules)))
    ]

pub is_choice-returns-in-Some-Some : goal.is_choice-returns-in-Some-Some
is_choice-returns-in-Some-Some t c = λ node_rules.
    let graph = c.args.graph.now in
    let disc = c.args.disc in
    let switch = c.in-Union.switch in
    let arms = c.in-Union.arms in
    let default = c.in-Union.default in
    let fits : SFits w128 disc = search rules in
    let disc_is = to_z-of_z w128 disc fits in
    let union_rules = subst (IsNode graph) c.in-Union.is node_rules in
    let chosen = ap option_to_list (sym c.in-Some-Some.is-0) ∙ c.chosen.ensures ∙ ap (arm_of arms default) disc_is in
    let inside = subst (AreWithin graph) (sym chosen) (arm_is_within graph switch arms default disc union_rules) in
    let tested = c.is_switch_value.ensures (switch_within graph switch arms default union_rules) in
    let value = subst (IsNumber (node_at graph switch)) disc_is (tested.0 c.if-not-is_switch_value.false) in
    let number = c.in-Some-Some.number in
    let r = c.is_value.result in
    let same = subst (λ v. IsTrue r ↔ Fits graph (node_at graph number) (tree_of v) c.args.depth) c.deref.ensures
    (c.is_value.ensures inside.0) in
    let whole = union_fits graph switch arms default disc c.args.depth number c.in-Some-Some.value r value chosen same
    in
    subst (λ node. IsTrue r ↔ Fits graph node (Choice disc (member_of c.args.member.now)) c.args.depth)
    (sym c.in-Union.is)
    (subst (λ member. IsTrue r ↔ Fits graph (Union switch arms default) (Choice disc (member_of member)) c.args.depth)
    (sym c.in-Some-Some.is-1) whole)

pub is_choice-returns-in-None-None : goal.is_choice-returns-in-None-None
is_choice-returns-in-None-None t c = λ node_rules.
    let graph = c.args.graph.now in
    let disc = c.args.disc in
    let switch = c.in-Union.switch in
    let arms = c.in-Union.arms in
    let default = c.in-Union.default in
    let fits : SFits w128 disc = search rules in
    let disc_is = to_z-of_z w128 disc fits in
    let union_rules = subst (IsNode graph) c.in-Union.is node_rules in
    let chosen = ap option_to_list (sym c.in-None-None.is-0) ∙ c.chosen.ensures ∙ ap (arm_of arms default) disc_is in
    let tested = c.is_switch_value.ensures (switch_within graph switch arms default union_rules) in
    let value = subst (IsNumber (node_at graph switch)) disc_is (tested.0 c.if-not-is_switch_value.false) in
    let whole = empty_union_fits graph switch arms default disc c.args.depth value chosen in
    let fits = subst (λ node. Fits graph node (Choice disc (member_of c.args.member.now)) c.args.depth)
    (sym c.in-Union.is)
    (subst (λ member. Fits graph (Union switch arms default) (Choice disc (member_of member)) c.args.depth)
    (sym c.in-None-None.is-1) whole) in
    (λ t. fits, λ h. refl)

pub is_value-returns-in-Text : goal.is_value-returns-in-Text
is_value-returns-in-Text t c = λ inside.
    let graph = c.args.graph.now in
    let node : c.in-Some.node.now ≡ node_at graph c.args.number = search rules in
    let r = c.is_string.result in
    let same = c.is_string.ensures graph c.args.depth in
    let tree = ap Bytes c.deref.ensures.value ∙ sym (ap tree_of c.in-Text.is ∙ tree_of-text c.in-Text.text) in
    subst (λ value. IsTrue r ↔ Fits graph (node_at graph c.args.number) value c.args.depth) tree
    (subst (λ found. IsTrue r ↔ Fits graph found (Bytes c.deref.result.now) c.args.depth) node same)
