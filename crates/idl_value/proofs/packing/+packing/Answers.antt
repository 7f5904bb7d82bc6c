use Rattle.std.proofs.Common.{◌≡◌, ℕ, ℤ, ◌+◌, ◌∷◌, ◌++◌, length, drop, option_to_list, inl, inr, sym, ap, ◌∙◌, subst, rules}
use Rattle.std.proofs.lemmas.Result.{on_ok_weaker}
use Rattle.std.proofs.lemmas.Int.{to_z-of_z}
use mir.Syntax.{w128}
use mir.Val.{SFits}
use Rattle.type_graph.specs.declared.node.Node.{Node}
use Rattle.type_graph.specs.declared.node.Node.TheVariants.{Octet, Union}
use Rattle.type_graph.specs.GraphRules.{IsNode}
use Rattle.type_graph.specs.Value.{Items, Choice, node_at, number_width, arm_of, IsNumber, FitAll, tapes_of}
use Rattle.type_graph.specs.declared.width.Order.TheVariants.{Big}
use Rattle.type_graph.specs.Words.{word}
use Rattle.type_graph.proofs.Held.{switch_within}
use Rattle.idl_value.specs.View.{tree_of, trees_of, member_of}
use Rattle.idl_value.specs.inner.PartList.{numbers_of, AreWithin}
use Rattle.idl_value.specs.inner.Packing.{AddsValue, AddsValues}
use Rattle.idl_value.proofs.ViewLaws.{tree_of-items, tree_of-choice}
use Rattle.idl_value.proofs.PartLaws.{elements_are_within, copies_are_within, members_are_within, frame_is_within, arm_is_within}
use Rattle.idl_value.proofs.PackLaws.{trees_of-drop, adds_next, adds_sequence, adds_union, adds_switch}
use Rattle.idl_value.proofs.packing.+packing.Goals as goal

pub push_value-returns-in-Items : goal.push_value-returns-in-Items
push_value-returns-in-Items t c = on_ok_weaker c.push_items.result (λ adds inside.
    let graph = c.args.graph.now in
    let number = c.args.number in
    let old = c.args.tape.now.items in
    let new = c.push_items.new.tape.items in
    let node : c.in-Some.node.now ≡ node_at graph number = search rules in
    let node_rules = subst (IsNode graph) (sym node) (c.nodes.ensures.rules.nodes number Octet inside) in
    let tree = ap (λ values. Items (trees_of values)) c.deref-in-Items.ensures.value
    ∙ sym (ap tree_of c.in-Items.is ∙ tree_of-items c.in-Items.values) in
    subst (λ value. AddsValue graph (node_at graph number) value old new) tree
    (subst (λ found. AddsValue graph found (Items (trees_of c.deref-in-Items.result.now)) old new) node
    (adds node_rules))) c.push_items.ensures

pub push_value-returns-in-Choice : goal.push_value-returns-in-Choice
push_value-returns-in-Choice t c = on_ok_weaker c.push_choice.result (λ adds inside.
    let graph = c.args.graph.now in
    let number = c.args.number in
    let old = c.args.tape.now.items in
    let new = c.push_choice.new.tape.items in
    let node : c.in-Some.node.now ≡ node_at graph number = search rules in
    let node_rules = subst (IsNode graph) (sym node) (c.nodes.ensures.rules.nodes number Octet inside) in
    let tree = sym (ap tree_of c.in-Choice.is ∙ tree_of-choice c.in-Choice.disc c.in-Choice.member) in
    let fits : SFits w128 c.in-Choice.disc = search rules in
    let whole = subst (λ (a : ℤ). AddsValue graph c.in-Some.node.now (Choice a (member_of c.in-Choice.member)) old new)
    (to_z-of_z w128 c.in-Choice.disc fits) (adds node_rules) in
    subst (λ value. AddsValue graph (node_at graph number) value old new) tree
    (subst (λ found. AddsValue graph found (Choice c.in-Choice.disc (member_of c.in-Choice.member)) old new) node
    whole)) c.push_choice.ensures

pub push_items-returns-in_ok-push_count-in-Seq : goal.push_items-returns-in_ok-push_count-in-Seq
push_items-returns-in_ok-push_count-in-Seq t c = on_ok_weaker c.push_values.result (λ adds node_rules.
    let graph = c.args.graph.now in
    let elem = c.in-Seq.elem in
    let values = c.args.values.now in
    let inside = elements_are_within graph elem c.in-Seq.bound (length values)
    (subst (IsNode graph) c.in-Seq.is node_rules) in
    subst (λ node. AddsValue graph node (Items (trees_of values)) c.args.tape.now.items c.push_values.new.tape.items)
    (sym c.in-Seq.is)
    (adds_sequence graph elem c.in-Seq.bound values c.args.tape.now.items c.push_count.new.tape.items
    c.push_values.new.tape.items c.in_ok-push_count-in-Seq.ensures (adds inside))) c.push_values.ensures

pub push_items-returns-in-Array : goal.push_items-returns-in-Array
push_items-returns-in-Array t c = on_ok_weaker c.push_values-in-Array.result (λ adds node_rules.
    let graph = c.args.graph.now in
    let inside = copies_are_within graph c.in-Array.elem c.in-Array.n (subst (IsNode graph) c.in-Array.is node_rules) in
    subst (λ node. AddsValue graph node (Items (trees_of c.args.values.now)) c.args.tape.now.items
    c.push_values-in-Array.new.tape.items) (sym c.in-Array.is)
    (adds inside)) c.push_values-in-Array.ensures

pub push_items-returns-in-Struct : goal.push_items-returns-in-Struct
push_items-returns-in-Struct t c = on_ok_weaker c.push_values-in-Struct.result (λ adds node_rules.
    let graph = c.args.graph.now in
    let members = c.in-Struct.members in
    let values = trees_of c.args.values.now in
    let old = c.args.tape.now.items in
    let new = c.push_values-in-Struct.new.tape.items in
    let AddsTo : Node → Type 0 = λ node. AddsValue graph node (Items values) old new in
    let all = subst (λ numbers. AreWithin graph numbers → AddsValues graph numbers values old new) c.as_slice.ensures
    adds in
    elim c.in-Struct.is [
      | inl e ↦ subst AddsTo (sym e) (all (members_are_within graph members (subst (IsNode graph) e node_rules)))
      | inr e ↦ subst AddsTo (sym e) (all (frame_is_within graph members (subst (IsNode graph) e node_rules)))
    ]) c.push_values-in-Struct.ensures

pub push_choice-returns-in-Some-Some : goal.push_choice-returns-in-Some-Some
push_choice-returns-in-Some-Some t c = on_ok_weaker c.push_value.result (λ adds node_rules.
    let graph = c.args.graph.now in
    let disc = c.args.disc in
    let switch = c.in-Union.switch in
    let arms = c.in-Union.arms in
    let default = c.in-Union.default in
    let fits : SFits w128 disc = search rules in
    let disc_is = to_z-of_z w128 disc fits in
    let union_rules = subst (IsNode graph) c.in-Union.is node_rules in
    let chosen = ap option_to_list (sym c.in-Some-Some.is-0) ∙ c.chosen.ensures ∙ ap (arm_of arms default) disc_is in
    let inside = subst (AreWithin graph) (sym chosen) (arm_is_within graph switch arms default disc union_rules) in
    let old = c.args.tape.now.items in
    let mid = c.push_switch.new.tape.items in
    let new = c.push_value.new.tape.items in
    let switched = subst (λ (a : ℤ). IsNumber (node_at graph switch) a
    → mid ≡ old ++ word Big (number_width (node_at graph switch)) a) disc_is
    (c.in_ok-push_switch.ensures (switch_within graph switch arms default union_rules)) in
    let number = c.in-Some-Some.number in
    let member = subst (λ value. AddsValue graph (node_at graph number) (tree_of value) mid new) c.deref.ensures
    (adds inside.0) in
    let whole = adds_union graph switch arms default disc number c.in-Some-Some.value old mid new switched chosen member
    in
    subst (λ node. AddsValue graph node (Choice disc (member_of c.args.member.now)) old new) (sym c.in-Union.is)
    (subst (λ m. AddsValue graph (Union switch arms default) (Choice disc (member_of m)) old new)
    (sym c.in-Some-Some.is-1) whole)) c.push_value.ensures

pub push_choice-returns-in_default-2-2 : goal.push_choice-returns-in_default-2-2
push_choice-returns-in_default-2-2 t c = λ node_rules.
    let graph = c.args.graph.now in
    let disc = c.args.disc in
    let switch = c.in-Union.switch in
    let arms = c.in-Union.arms in
    let default = c.in-Union.default in
    let fits : SFits w128 disc = search rules in
    let disc_is = to_z-of_z w128 disc fits in
    let union_rules = subst (IsNode graph) c.in-Union.is node_rules in
    let chosen = ap option_to_list (sym c.in_default-2.is-0) ∙ c.chosen.ensures ∙ ap (arm_of arms default) disc_is in
    let old = c.args.tape.now.items in
    let mid = c.push_switch.new.tape.items in
    let switched = subst (λ (a : ℤ). IsNumber (node_at graph switch) a
    → mid ≡ old ++ word Big (number_width (node_at graph switch)) a) disc_is
    (c.in_ok-push_switch.ensures (switch_within graph switch arms default union_rules)) in
    subst (λ node. AddsValue graph node (Choice disc (member_of c.args.member.now)) old mid) (sym c.in-Union.is)
    (adds_switch graph switch arms default disc (member_of c.args.member.now) old mid switched chosen)

pub push_values-loop-value-preserved : goal.push_values-loop-value-preserved
push_values-loop-value-preserved t c = λ inside.
    let graph = c.args.graph.now in
    let values = c.args.values.now in
    let i = c.loop-value.value-index in
    let number = c.in-Some.number in
    let more = numbers_of c.in-Some.more in
    let value = c.value-item.result in
    let parts = numbers_of c.args.parts in
    let tape = c.loop-value.tape.items in
    let start = c.args.tape.now.items in
    let before = c.loop-value.invariant inside in
    let within = subst (AreWithin graph) c.in-Some.ensures before.0 in
    let at_list = subst (λ numbers. (depth : ℕ) → FitAll graph parts (trees_of values) depth
    → FitAll graph numbers (trees_of (drop i values)) depth
    × (tape ++ tapes_of graph numbers (trees_of (drop i values)) ≡ start ++ tapes_of graph parts (trees_of values)))
    c.in-Some.ensures before.1 in
    let at_trees = subst (λ trees. (depth : ℕ) → FitAll graph parts (trees_of values) depth
    → FitAll graph (number ∷ more) trees depth
    × (tape ++ tapes_of graph (number ∷ more) trees ≡ start ++ tapes_of graph parts (trees_of values)))
    (trees_of-drop values i value c.loop-value-test.true c.value-item.is) at_list in (
      within.1,
      adds_next graph parts more number (trees_of values) (trees_of (drop (i + 1) values)) (tree_of value)
          start tape c.push_value.new.tape.items at_trees (c.in_ok-push_value.ensures within.0),
    )
