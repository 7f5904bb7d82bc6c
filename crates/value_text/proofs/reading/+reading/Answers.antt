use Rattle.std.proofs.Common.{true, ◌≡◌, ◌≢◌, ◌+◌, ℕ, ◌≤◌, List, ◌∷◌, [], ◌++◌, length, map, take, get_or, replicate, Some, None, slice_get, inr, sym, ap, ◌∙◌, subst, length-append, length-set, arith, rules}
use Rattle.std.proofs.lemmas.List.{length-replicate}
use Rattle.std.proofs.lemmas.Option.{slice_get-get_or}
use Rattle.std.proofs.lemmas.Result.{IfOk-weaker, IfErr-weaker, err_from_is_err_and}
use Rattle.std.proofs.lemmas.Int.{to_z-of_z}
use Rattle.std.specs.Prelude.{option_to_list}
use mir.Syntax.{w128}
use mir.Val.{SFits, to_z, of_z}
use Rattle.json.specs.Token.{key, string, begin_object, begin_array, end_object}
use Rattle.json.specs.Reads.{token_of}
use Rattle.type_model.specs.PartNamesNames.{names_at}
use Rattle.type_graph.specs.declared.node.Node.TheVariants.{Octet, Union}
use Rattle.type_graph.specs.Value.{node_at, arm_of, count, NoTree, AndTree, Choice, IsNumeric}
use Rattle.type_graph.specs.GraphRules.{held_by}
use Rattle.type_graph.specs.Walks.{above, height_of}
use Rattle.type_graph.proofs.HeightLaws.{height_unfolds, height_bound}
use Rattle.idl_value.specs.View.{tree_of, trees_of, member_of}
use Rattle.idl_value.proofs.ViewLaws.{tree_of-items, tree_of-choice}
use Rattle.value_text.specs.Texts.{refers}
use Rattle.value_text.specs.inner.Reading.{ReadsAs, ReadsParts, ReadsSlots, ReadsStructure}
use Rattle.value_text.proofs.ReadLaws.{above_at, above_chosen, next_good, one_more, count_trees, parts_none, parts_more, take_more, slots_none, slots_more, slots_all, text_read, number_read, choice_read, list_read, together_read, array_read, object_read, structure_read, reference_read, row_read}
use Rattle.value_text.proofs.Slots.{place_within}
use Rattle.value_text.proofs.Refusals.{refuses, refuses_weaker, row_missing, row_refused, row_endless, list_too_long, list_refused, only_missing, only_refused}
use Rattle.value_text.proofs.KindRefusals.{no_number, no_text, no_depth, no_sequence, no_array, no_structure, no_members, only_members, no_reference, no_choice, none_fewer, wrong_count, no_list, none_together, no_elements, no_object, no_row, not_named, no_bracket, no_union, no_label, no_member, no_end}
use Rattle.value_text.proofs.ObjectRefusals.{no_key, no_name, no_free_member, no_value, not_all}
use Rattle.value_text.proofs.reading.+reading.Goals as goal

pub read_value-read_elements-requires : goal.read_value-read_elements-requires
read_value-read_elements-requires t c =
    let bound = height_bound 64 c.args.types.now.graph.now c.in-Seq.elem in
    let d = c.decreases in
    (omega (arith, d, bound), tt)

pub read_value-read_elements-requires-in-Array : goal.read_value-read_elements-requires-in-Array
read_value-read_elements-requires-in-Array t c =
    let graph = c.args.types.now.graph.now in
    let number = c.args.number in
    let node : c.in-Some.node.now ≡ node_at graph number = search rules in
    let unfolds = subst (λ found. height_of graph number ≡ above (height_of graph) (held_by found))
    (sym node ∙ c.in-Array.is) (height_unfolds graph c.nodes.ensures.rules number) in
    let d = c.decreases in
    (omega (arith, d, unfolds), tt)

pub read_value-read_structure-requires : goal.read_value-read_structure-requires
read_value-read_structure-requires t c =
    let graph = c.args.types.now.graph.now in
    let number = c.args.number in
    let node : c.in-Some.node.now ≡ node_at graph number = search rules in
    let unfolds = subst (λ found. height_of graph number ≡ above (height_of graph) (held_by found))
    (sym node ∙ c.in-Struct.is) (height_unfolds graph c.nodes.ensures.rules number) in
    let same = ap (above (height_of graph)) c.as_slice-members.ensures in
    let d = c.decreases in
    (omega (arith, d, unfolds, same), tt)

pub read_value-read_members-requires : goal.read_value-read_members-requires
read_value-read_members-requires t c =
    let graph = c.args.types.now.graph.now in
    let number = c.args.number in
    let node : c.in-Some.node.now ≡ node_at graph number = search rules in
    let unfolds = subst (λ found. height_of graph number ≡ above (height_of graph) (held_by found))
    (sym node ∙ c.in-Frame.is) (height_unfolds graph c.nodes.ensures.rules number) in
    let same = ap (above (height_of graph)) c.as_slice-members-in-Frame.ensures in
    let d = c.decreases in
    (omega (arith, d, unfolds, same), tt)

pub read_value-read_choice-requires : goal.read_value-read_choice-requires
read_value-read_choice-requires t c =
    let graph = c.args.types.now.graph.now in
    let number = c.args.number in
    let node : c.in-Some.node.now ≡ node_at graph number = search rules in
    let unfolds = subst (λ found. height_of graph number ≡ above (height_of graph) (held_by found))
    (sym node ∙ c.in-Union.is) (height_unfolds graph c.nodes.ensures.rules number) in
    let d = c.decreases in
    (omega (arith, d, unfolds), tt)

pub read_choice-read_chosen-requires : goal.read_choice-read_chosen-requires
read_choice-read_chosen-requires t c =
    let lower = above_chosen (height_of c.args.types.now.graph.now) c.args.switch c.args.arms.now c.args.default _
    c.chosen-chosen.result c.chosen-chosen.ensures in
    let d = c.decreases in
    (omega (arith, d, lower), tt)

pub read_row-read_value-requires : goal.read_row-read_value-requires
read_row-read_value-requires t c =
    let i = c.loop-member.member-index in
    let members = c.args.members.now in
    let at = slice_get-get_or members i 0 c.loop-member-test.true in
    let lower = above_at (height_of c.args.types.now.graph.now) members i (get_or members i 0) at in
    let d = c.decreases in
    (omega (arith, d, lower), tt)

pub read_object-read_value-requires : goal.read_object-read_value-requires
read_object-read_value-requires t c =
    let lower = above_at (height_of c.args.types.now.graph.now) c.args.members.now c.in_ok-place.place
    c.in_ok-member.member c.in_ok-member.ensures.member in
    let d = c.decreases in
    (omega (arith, d, lower), tt)

pub read_row-loop-member-preserved : goal.read_row-loop-member-preserved
read_row-loop-member-preserved t c =
    let names = c.args.types.now.names.now in
    let graph = c.args.types.now.graph.now in
    let members = c.args.members.now in
    let i = c.loop-member.member-index in
    let values = c.loop-member.values.items in
    let value = c.in_ok-read_value.field-0 in
    let token = token_of c.in_ok-token.token in
    let behind = c.next_part.new.self in
    let new = c.read_value.new.cursor in
    let pushed : c.push.new.self.items ≡ values ++ value ∷ [] = search rules in
    subst (λ l. ReadsParts names graph (take (i + 1) members) c.args.depth c.args.cursor.now (trees_of l) new)
    (sym pushed)
    (subst (λ l. ReadsParts names graph l c.args.depth c.args.cursor.now (trees_of (values ++ value ∷ [])) new)
    (take_more members i c.loop-member-test.true)
    (parts_more names graph (take i members) (get_or members i 0) c.args.depth c.args.cursor.now values
    c.loop-member.cursor token behind value new
    c.loop-member.invariant (next_good c.loop-member.cursor token behind c.in_ok-token.ensures.some)
    c.in_ok-read_value.ensures.read))

pub read_list-loop-token-preserved : goal.read_list-loop-token-preserved
read_list-loop-token-preserved t c =
    let names = c.args.types.now.names.now in
    let graph = c.args.types.now.graph.now in
    let elem = c.args.elem in
    let values = c.loop-token.values.items in
    let value = c.in_ok-read_value.field-0 in
    let token = token_of c.in-Some.token in
    let behind = c.next_element.new.self in
    let new = c.read_value.new.cursor in
    let pushed : c.push.new.self.items ≡ values ++ value ∷ [] = search rules in
    let long = ap length pushed ∙ length-append values (value ∷ []) in
    let copies : replicate (length values) elem ++ elem ∷ [] ≡ replicate (length c.push.new.self.items) elem =
    one_more (length values) elem ∙ ap (λ n. replicate n elem) (sym long) in (
      subst (λ l. ReadsParts names graph (replicate (length c.push.new.self.items) elem) c.args.depth c.args.cursor.now
          (trees_of l) new) (sym pushed)
          (subst (λ l. ReadsParts names graph l c.args.depth c.args.cursor.now (trees_of (values ++ value ∷ [])) new)
          copies
          (parts_more names graph (replicate (length values) elem) elem c.args.depth c.args.cursor.now values
          c.loop-token.cursor token behind value new
          c.loop-token.invariant.0 (next_good c.loop-token.cursor token behind c.in-Some.ensures.some.0)
          c.in_ok-read_value.ensures.read)),
      omega (arith, long, c.if-len-most.false, c.len.ensures),
    )

pub read_object-each-init : goal.read_object-each-init
read_object-each-init t c =
    let names = c.args.types.now.names.now in
    let graph = c.args.types.now.graph.now in
    let members = c.args.members.now in
    let empty : c.in_ok-slots.slots.items ≡ replicate (length members) None = c.in_ok-slots.ensures in (
      ap length empty ∙ length-replicate (length members) None,
      subst (λ l. ReadsSlots names graph (names_at names c.args.number) members c.args.depth c.args.cursor.now l
          c.args.cursor.now) (sym empty)
          (slots_none names graph (names_at names c.args.number) members c.args.depth c.args.cursor.now),
    )

pub read_object-each-preserved : goal.read_object-each-preserved
read_object-each-preserved t c =
    let names = c.args.types.now.names.now in
    let graph = c.args.types.now.graph.now in
    let number = c.args.number in
    let members = c.args.members.now in
    let slots = c.each.slots.items in
    let place = c.in_ok-place.place in
    let value = c.in_ok-value.value in
    let token = token_of c.next-token.result in
    let first = c.next_key.new.self in
    let behind = c.next-token.new.self in
    let new = c.read_value.new.cursor in
    let named : c.each.cursor ≡ key c.in-Some.label.now ∷ first = search rules in
    let at : slice_get (names_at names number) place ≡ Some c.in-Some.label.now = search rules in
    let free : slice_get slots place ≡ Some None = search rules in (
      ap length c.fill.ensures ∙ length-set slots place (Some value) ∙ c.each.invariant.0,
      subst (λ l. ReadsSlots names graph (names_at names number) members c.args.depth c.args.cursor.now l new)
          (sym c.fill.ensures)
          (slots_more names graph (names_at names number) members c.args.depth c.args.cursor.now slots c.each.cursor
          c.in-Some.label.now place c.in_ok-member.member first token behind value new
          c.each.invariant.1 named (next_good first token behind c.next-token.ensures) at free
          c.in_ok-member.ensures.member c.in_ok-value.ensures.read),
    )

pub read_object-returns-clause-read : goal.read_object-returns-clause-read
read_object-returns-clause-read t c =
    let names = c.args.types.now.names.now in
    let graph = c.args.types.now.graph.now in
    let members = c.args.members.now in
    let labels = names_at names c.args.number in
    let new = c.next_key.new.self in
    let ended : c.each.cursor ≡ end_object ∷ new = search rules in
    IfOk-weaker c.values_of_slots.result _ _ (λ values full.
    slots_all names graph labels members c.args.depth c.args.cursor.now values.items new
    (subst (λ l. ReadsSlots names graph labels members c.args.depth c.args.cursor.now (map Some values.items) l) ended
    (subst (λ l. ReadsSlots names graph labels members c.args.depth c.args.cursor.now l c.each.cursor) full
    c.each.invariant.1))) c.values_of_slots.ensures.read

pub read_value-returns-in-Text-clause-read : goal.read_value-returns-in-Text-clause-read
read_value-returns-in-Text-clause-read t c =
    let names = c.args.types.now.names.now in
    let graph = c.args.types.now.graph.now in
    let number = c.args.number in
    let token = token_of c.args.token in
    let node : c.in-Some.node.now ≡ node_at graph number = search rules in
    let is = sym (sym node ∙ c.in-Text.is) in
    IfOk-weaker c.read_text.result _ _ (λ value h.
    subst (λ at. ReadsAs names graph (names_at names number) at c.args.depth token c.args.cursor.now (tree_of value)
    c.args.cursor.now) is
    (text_read names graph (names_at names number) c.in-Text.bound c.args.depth token c.args.cursor.now (tree_of value)
    h)) c.read_text.ensures.said

pub read_value-returns-in_default-node-clause-read : goal.read_value-returns-in_default-node-clause-read
read_value-returns-in_default-node-clause-read t c =
    let names = c.args.types.now.names.now in
    let graph = c.args.types.now.graph.now in
    let number = c.args.number in
    let token = token_of c.args.token in
    let node : c.in-Some.node.now ≡ node_at graph number = search rules in
    IfOk-weaker c.read_whole-in_default-node.result _ _ (λ value h.
    subst (λ at. ReadsAs names graph (names_at names number) at c.args.depth token c.args.cursor.now (tree_of value)
    c.args.cursor.now) node
    (number_read names graph (names_at names number) c.in-Some.node.now c.args.depth token c.args.cursor.now
    (tree_of value) h.0 h.1 h.2 h.3)) c.read_whole-in_default-node.ensures.read

pub read_value-returns-in-Array-clause-read : goal.read_value-returns-in-Array-clause-read
read_value-returns-in-Array-clause-read t c =
    let names = c.args.types.now.names.now in
    let graph = c.args.types.now.graph.now in
    let number = c.args.number in
    let token = token_of c.args.token in
    let new = c.read_elements-in-Array.new.cursor in
    let node : c.in-Some.node.now ≡ node_at graph number = search rules in
    let is = sym (sym node ∙ c.in-Array.is) in
    let counts = c.of_array-counts.ensures in
    IfOk-weaker c.read_elements-in-Array.result _ _ (λ value h.
    let counted : count h.0 ≡ c.in-Array.n = omega (arith, counts.0, counts.1, h.2.0, h.2.1) in
    subst (λ at. ReadsAs names graph (names_at names number) at c.args.depth token c.args.cursor.now (tree_of value)
    new) is
    (array_read names graph (names_at names number) c.in-Array.elem c.in-Array.n c.args.depth token c.args.cursor.now
    (tree_of value) h.0 new counted h.1 h.2.2)) c.read_elements-in-Array.ensures.read

pub read_items-returns-in-BeginArray-clause-read : goal.read_items-returns-in-BeginArray-clause-read
read_items-returns-in-BeginArray-clause-read t c =
    let names = c.args.types.now.names.now in
    let graph = c.args.types.now.graph.now in
    let new = c.read_list.new.cursor in
    IfOk-weaker c.read_list.result _ _ (λ values h.
    list_read names graph c.args.elem c.args.depth (token_of c.args.token) c.args.cursor.now values.items new
    (ap token_of c.in-BeginArray.is) h) c.read_list.ensures.listed

pub read_items-returns-in-String-clause-read : goal.read_items-returns-in-String-clause-read
read_items-returns-in-String-clause-read t c =
    let names = c.args.types.now.names.now in
    let graph = c.args.types.now.graph.now in
    IfOk-weaker c.read_together.result _ _ (λ values h.
    together_read names graph c.args.elem c.args.depth c.in-String.text.now (token_of c.args.token) c.args.cursor.now
    h.0 values.items (ap token_of c.in-String.is) h.1 h.2) c.read_together.ensures.read

pub read_elements-returns-clause-read : goal.read_elements-returns-clause-read
read_elements-returns-clause-read t c =
    let names = c.args.types.now.names.now in
    let graph = c.args.types.now.graph.now in
    let values = c.in_ok-values.values in
    let allowed : (c.args.counts.least ≤ length values.items) × (length values.items ≤ c.args.counts.most) =
    search rules in
    let counted = count_trees names graph values.items in (
      trees_of values.items,
      tree_of-items values,
      (omega (arith, allowed.0, counted), omega (arith, allowed.1, counted), c.in_ok-values.ensures.read),
    )

pub read_members-returns-in_ok-values-in-BeginObject-clause-read :
    goal.read_members-returns-in_ok-values-in-BeginObject-clause-read
read_members-returns-in_ok-values-in-BeginObject-clause-read t c =
    let names = c.args.types.now.names.now in
    let graph = c.args.types.now.graph.now in
    let labels = names_at names c.args.number in
    let members = c.args.members.now in
    let values = c.in_ok-values-in-BeginObject.values in
    let named : length labels ≡ length members = search rules in (
      trees_of values.items,
      tree_of-items values,
      object_read names graph labels members c.args.depth (token_of c.args.token) c.args.cursor.now
          (trees_of values.items) c.read_object.new.cursor
          (ap token_of c.in-BeginObject.is) named c.in_ok-values-in-BeginObject.ensures.read,
    )

pub read_members-returns-in_ok-values-in-BeginArray-clause-read :
    goal.read_members-returns-in_ok-values-in-BeginArray-clause-read
read_members-returns-in_ok-values-in-BeginArray-clause-read t c =
    let names = c.args.types.now.names.now in
    let graph = c.args.types.now.graph.now in
    let labels = names_at names c.args.number in
    let members = c.args.members.now in
    let values = c.in_ok-values-in-BeginArray.values in (
      trees_of values.items,
      tree_of-items values,
      row_read names graph labels members c.args.depth (token_of c.args.token) c.args.cursor.now (trees_of values.items)
          c.read_row.new.cursor
          (ap token_of c.in-BeginArray.is) c.in_ok-values-in-BeginArray.ensures.read,
    )

pub read_choice-returns-clause-read : goal.read_choice-returns-clause-read
read_choice-returns-clause-read t c = λ labels.
    let names = c.args.types.now.names.now in
    let graph = c.args.types.now.graph.now in
    let switch = c.args.switch in
    let arms = c.args.arms.now in
    let default = c.args.default in
    let depth = c.args.depth in
    let token = token_of c.args.token in
    let old = c.args.cursor.now in
    let first = c.read_label.new.cursor in
    let mid = c.read_chosen.new.cursor in
    let new = c.end_list.new.self in
    let disc = c.in_ok-disc.disc in
    let member = c.in_ok-member.member in
    let fits : SFits w128 disc = search rules in
    let disc_is = to_z-of_z w128 disc fits in
    let chosen = c.chosen-chosen.ensures ∙ ap (arm_of arms default) disc_is in
    let parts = subst (λ l. ReadsParts names graph l depth first (member_of member) mid) chosen
    c.in_ok-member.ensures.read in
    let says = c.in_ok-disc.ensures.says in
    let read = choice_read names graph labels switch arms default depth disc says.0 token old first mid new
    (member_of member) (ap token_of c.in-BeginArray.is) c.in_ok-disc.ensures.number says.1 says.2
    parts c.in_ok-end_list.ensures.ended in
    let tree = tree_of-choice (to_z w128 (of_z w128 disc)) member ∙ ap (λ n. Choice n (member_of member)) disc_is in
    subst (λ v. ReadsAs names graph labels (Union switch arms default) depth token old v new) (sym tree) read

pub read_chosen-returns-clause-read : goal.read_chosen-returns-clause-read
read_chosen-returns-clause-read t c =
    let names = c.args.types.now.names.now in
    let graph = c.args.types.now.graph.now in
    let number = c.in-Some.number in
    let depth = c.args.depth in
    let old = c.args.cursor.now in
    let token = token_of c.in_ok-token.token in
    let behind = c.next_part.new.self in
    let value = c.in_ok-value.value in
    let new = c.read_value.new.cursor in
    let same : c.in_ok-member.member.value ≡ value = search rules in
    let one = parts_more names graph [] number depth old [] old token behind value new
    (parts_none names graph depth old) (next_good old token behind c.in_ok-token.ensures.some)
    c.in_ok-value.ensures.read in
    subst (λ l. ReadsParts names graph (option_to_list l) depth old (member_of (Some c.in_ok-member.member)) new)
    (sym c.in-Some.is)
    (subst (λ v. ReadsParts names graph (number ∷ []) depth old (AndTree (tree_of v) NoTree) new) (sym same) one)

-- ---- what is refused

pub read_value-returns-in_default-clause-read : goal.read_value-returns-in_default-clause-read
read_value-returns-in_default-clause-read t c =
    let names = c.args.types.now.names.now in
    let graph = c.args.types.now.graph.now in
    let number = c.args.number in
    let token = token_of c.args.token in
    let node : Octet ≡ node_at graph number = search rules in
    IfOk-weaker c.read_whole.result _ _ (λ value h.
    subst (λ at. ReadsAs names graph (names_at names number) at c.args.depth token c.args.cursor.now (tree_of value)
    c.args.cursor.now) node
    (number_read names graph (names_at names number) Octet c.args.depth token c.args.cursor.now (tree_of value) h.0 h.1
    h.2 h.3)) c.read_whole.ensures.read

pub read_value-returns-in_default-clause-refused : goal.read_value-returns-in_default-clause-refused
read_value-returns-in_default-clause-refused t c =
    let graph = c.args.types.now.graph.now in
    let number = c.args.number in
    let node : Octet ≡ node_at graph number = search rules in
    IfErr-weaker c.read_whole.result _ _ (λ stop. refuses_weaker stop
    (no_number c.args.types.now.names.now graph number c.args.depth (token_of c.args.token) c.args.cursor.now Octet node
    tt)) c.read_whole.ensures.refused

pub read_value-returns-in_default-node-clause-refused : goal.read_value-returns-in_default-node-clause-refused
read_value-returns-in_default-node-clause-refused t c =
    let graph = c.args.types.now.graph.now in
    let number = c.args.number in
    let node : c.in-Some.node.now ≡ node_at graph number = search rules in
    let numeric : IsNumeric c.in-Some.node.now = search rules in
    IfErr-weaker c.read_whole-in_default-node.result _ _ (λ stop. refuses_weaker stop
    (no_number c.args.types.now.names.now graph number c.args.depth (token_of c.args.token) c.args.cursor.now
    c.in-Some.node.now node numeric)) c.read_whole-in_default-node.ensures.refused

pub read_value-returns-in-Text-clause-refused : goal.read_value-returns-in-Text-clause-refused
read_value-returns-in-Text-clause-refused t c =
    let graph = c.args.types.now.graph.now in
    let number = c.args.number in
    let node : c.in-Some.node.now ≡ node_at graph number = search rules in
    IfErr-weaker c.read_text.result _ _ (λ stop. refuses_weaker stop
    (no_text c.args.types.now.names.now graph number c.args.depth (token_of c.args.token) c.args.cursor.now
    c.in-Text.bound (sym c.in-Text.is ∙ node))) c.read_text.ensures.refused

pub read_value-returns-then-depth-eq0-clause-refused : goal.read_value-returns-then-depth-eq0-clause-refused
read_value-returns-then-depth-eq0-clause-refused t c =
    let graph = c.args.types.now.graph.now in
    let number = c.args.number in
    let node : c.in-Some.node.now ≡ node_at graph number = search rules in
    let none : c.args.depth ≡ 0 = search rules in
    refuses _ (no_depth c.args.types.now.names.now graph number c.args.depth (token_of c.args.token) c.args.cursor.now
    c.in-Seq.elem c.in-Seq.bound (sym c.in-Seq.is ∙ node) none)

pub read_value-returns-else-depth-eq0-clause-refused : goal.read_value-returns-else-depth-eq0-clause-refused
read_value-returns-else-depth-eq0-clause-refused t c =
    let graph = c.args.types.now.graph.now in
    let number = c.args.number in
    let node : c.in-Some.node.now ≡ node_at graph number = search rules in
    IfErr-weaker c.read_elements.result _ _ (λ stop. refuses_weaker stop
    (no_sequence c.args.types.now.names.now graph number c.args.depth (token_of c.args.token) c.args.cursor.now
    c.in-Seq.elem c.in-Seq.bound _ _ (sym c.in-Seq.is ∙ node) c.of_sequence-counts.ensures))
    c.read_elements.ensures.refused

pub read_value-returns-in-Array-clause-refused : goal.read_value-returns-in-Array-clause-refused
read_value-returns-in-Array-clause-refused t c =
    let graph = c.args.types.now.graph.now in
    let number = c.args.number in
    let node : c.in-Some.node.now ≡ node_at graph number = search rules in
    let counts = c.of_array-counts.ensures in
    IfErr-weaker c.read_elements-in-Array.result _ _ (λ stop. refuses_weaker stop
    (no_array c.args.types.now.names.now graph number c.args.depth (token_of c.args.token) c.args.cursor.now
    c.in-Array.elem c.in-Array.n _ _ (sym c.in-Array.is ∙ node) counts.0 counts.1))
    c.read_elements-in-Array.ensures.refused

pub read_value-returns-in-Struct-clause-read : goal.read_value-returns-in-Struct-clause-read
read_value-returns-in-Struct-clause-read t c =
    let names = c.args.types.now.names.now in
    let graph = c.args.types.now.graph.now in
    let number = c.args.number in
    let labels = names_at names number in
    let token = token_of c.args.token in
    let old = c.args.cursor.now in
    let new = c.read_structure.new.cursor in
    let node : c.in-Some.node.now ≡ node_at graph number = search rules in
    let is = sym (sym node ∙ c.in-Struct.is) in
    IfOk-weaker c.read_structure.result _ _ (λ value h.
    subst (λ at. ReadsAs names graph labels at c.args.depth token old (tree_of value) new) is
    (structure_read names graph labels c.in-Struct.members c.args.depth token old (tree_of value) h.0 new h.1
    (subst (λ l. ReadsStructure names graph labels l c.args.depth token old h.0 new) c.as_slice-members.ensures h.2)))
    c.read_structure.ensures.read

pub read_value-returns-in-Struct-clause-refused : goal.read_value-returns-in-Struct-clause-refused
read_value-returns-in-Struct-clause-refused t c =
    let graph = c.args.types.now.graph.now in
    let number = c.args.number in
    let node : c.in-Some.node.now ≡ node_at graph number = search rules in
    IfErr-weaker c.read_structure.result _ _ (λ stop. refuses_weaker stop
    (no_structure c.args.types.now.names.now graph number c.args.depth (token_of c.args.token) c.args.cursor.now
    c.in-Some.node.now c.in-Struct.members _ node c.in-Struct.is c.as_slice-members.ensures))
    c.read_structure.ensures.refused

pub read_value-returns-in-Frame-clause-refused : goal.read_value-returns-in-Frame-clause-refused
read_value-returns-in-Frame-clause-refused t c =
    let graph = c.args.types.now.graph.now in
    let number = c.args.number in
    let node : c.in-Some.node.now ≡ node_at graph number = search rules in
    IfErr-weaker c.read_members.result _ _ (λ stop. refuses_weaker stop
    (no_members c.args.types.now.names.now graph number c.args.depth (token_of c.args.token) c.args.cursor.now
    c.in-Some.node.now c.in-Frame.members _ node c.in-Frame.is c.as_slice-members-in-Frame.ensures))
    c.read_members.ensures.refused

pub read_structure-returns-in-String-clause-read : goal.read_structure-returns-in-String-clause-read
read_structure-returns-in-String-clause-read t c =
    let names = c.args.types.now.names.now in
    let graph = c.args.types.now.graph.now in
    let labels = names_at names c.args.number in
    let members = c.args.members.now in
    let own = c.of-labels.ensures in
    IfOk-weaker c.read_reference.result _ _ (λ value h.
    reference_read names graph labels members c.args.depth (token_of c.args.token) c.in-String.text.now
    c.args.cursor.now (tree_of value) c.read_reference.new.cursor
    (ap token_of c.in-String.is) c.read_reference.ensures.same (subst (λ l. refers graph l members ≡ true) own h.0) h.1
    h.2) c.read_reference.ensures.read

pub read_structure-returns-in-String-clause-refused : goal.read_structure-returns-in-String-clause-refused
read_structure-returns-in-String-clause-refused t c =
    let names = c.args.types.now.names.now in
    let graph = c.args.types.now.graph.now in
    let labels = names_at names c.args.number in
    let members = c.args.members.now in
    let words = c.in-String.text.now in
    let own = c.of-labels.ensures in
    IfErr-weaker c.read_reference.result _ _ (λ stop. refuses_weaker stop (λ none.
    no_reference names graph c.args.depth (token_of c.args.token) c.args.cursor.now labels members words
    (ap token_of c.in-String.is)
    (λ value one. none value (subst (λ l. refers graph l members ≡ true) (sym own) one))))
    c.read_reference.ensures.refused

pub read_structure-returns-in_default-clause-read : goal.read_structure-returns-in_default-clause-read
read_structure-returns-in_default-clause-read t c =
    IfOk-weaker c.read_members.result _ _ (λ value h. (h.0, h.1, inr h.2)) c.read_members.ensures.read

pub read_structure-returns-in_default-clause-refused : goal.read_structure-returns-in_default-clause-refused
read_structure-returns-in_default-clause-refused t c =
    let names = c.args.types.now.names.now in
    let no_string : (text : List ℕ) → token_of c.args.token ≡ string text → ⊥ = search rules in
    IfErr-weaker c.read_members.result _ _ (λ stop. refuses_weaker stop
    (only_members names c.args.types.now.graph.now c.args.depth (token_of c.args.token) c.args.cursor.now
    (names_at names c.args.number) c.args.members.now no_string)) c.read_members.ensures.refused

pub read_value-returns-in-Union-clause-refused : goal.read_value-returns-in-Union-clause-refused
read_value-returns-in-Union-clause-refused t c =
    let graph = c.args.types.now.graph.now in
    let number = c.args.number in
    let node : c.in-Some.node.now ≡ node_at graph number = search rules in
    IfErr-weaker c.read_choice.result _ _ (λ stop. refuses_weaker stop
    (no_choice c.args.types.now.names.now graph number c.args.depth (token_of c.args.token) c.args.cursor.now _
    (sym c.in-Union.is ∙ node))) c.read_choice.ensures.refused

pub read_elements-returns-in_err-values-clause-refused : goal.read_elements-returns-in_err-values-clause-refused
read_elements-returns-in_err-values-clause-refused t c =
    let p = err_from_is_err_and c.from_residual.result c.from_residual.ensures.1 in
    rw (p.1, p.2) (refuses_weaker _
    (none_fewer c.args.types.now.names.now c.args.types.now.graph.now c.args.depth (token_of c.args.token)
    c.args.cursor.now c.args.elem c.args.counts.least c.args.counts.most)
    c.in_err-values.ensures.refused)

pub read_elements-returns-then-not-allow-clause-refused : goal.read_elements-returns-then-not-allow-clause-refused
read_elements-returns-then-not-allow-clause-refused t c =
    let values = c.in_ok-values.values in
    let wrong : (((c.args.counts.least ≤ length values.items) × (length values.items ≤ c.args.counts.most)) → ⊥) =
    search rules in
    refuses _ (wrong_count c.args.types.now.names.now c.args.types.now.graph.now c.args.depth (token_of c.args.token)
    c.args.cursor.now c.args.elem c.args.counts.least c.args.counts.most
    values.items c.read_items.new.cursor c.in_ok-values.ensures.read wrong)

pub read_items-returns-in-BeginArray-clause-refused : goal.read_items-returns-in-BeginArray-clause-refused
read_items-returns-in-BeginArray-clause-refused t c =
    IfErr-weaker c.read_list.result _ _ (λ stop. refuses_weaker stop
    (no_list c.args.types.now.names.now c.args.types.now.graph.now c.args.depth (token_of c.args.token)
    c.args.cursor.now c.args.elem c.args.most (ap token_of c.in-BeginArray.is))) c.read_list.ensures.refused

pub read_items-returns-in-String-clause-refused : goal.read_items-returns-in-String-clause-refused
read_items-returns-in-String-clause-refused t c =
    IfErr-weaker c.read_together.result _ _ (λ stop. refuses_weaker stop
    (none_together c.args.types.now.names.now c.args.types.now.graph.now c.args.depth (token_of c.args.token)
    c.args.cursor.now c.args.elem c.args.most c.in-String.text.now (ap token_of c.in-String.is)))
    c.read_together.ensures.refused

pub read_items-returns-in_default-clause-refused : goal.read_items-returns-in_default-clause-refused
read_items-returns-in_default-clause-refused t c =
    let no_bracket : token_of c.args.token ≢ begin_array = search rules in
    let no_string : (text : List ℕ) → token_of c.args.token ≡ string text → ⊥ = search rules in
    refuses _ (no_elements c.args.types.now.names.now c.args.types.now.graph.now c.args.depth (token_of c.args.token)
    c.args.cursor.now c.args.elem c.args.most no_bracket no_string)

pub read_list-returns-then-len-most-clause-refused : goal.read_list-returns-then-len-most-clause-refused
read_list-returns-then-len-most-clause-refused t c =
    let some = c.in-Some.ensures.some in
    let full : c.args.most ≤ length c.loop-token.values.items = search rules in
    refuses _ (list_too_long c.args.types.now.names.now c.args.types.now.graph.now c.args.depth c.args.cursor.now
    c.args.elem c.args.most c.loop-token.values.items c.loop-token.cursor
    (token_of c.in-Some.token) c.next_element.new.self c.loop-token.invariant.0 some.0 some.1 full)

pub read_list-returns-in_err-read_value-clause-refused : goal.read_list-returns-in_err-read_value-clause-refused
read_list-returns-in_err-read_value-clause-refused t c =
    let some = c.in-Some.ensures.some in
    let p = err_from_is_err_and c.from_residual.result c.from_residual.ensures.1 in
    rw (p.1, p.2) (refuses_weaker _
    (list_refused c.args.types.now.names.now c.args.types.now.graph.now c.args.depth c.args.cursor.now c.args.elem
    c.args.most c.loop-token.values.items c.loop-token.cursor
    (token_of c.in-Some.token) c.next_element.new.self c.loop-token.invariant.0 some.0 some.1)
    c.in_err-read_value.ensures.refused)

pub read_members-returns-then-len-members-clause-refused : goal.read_members-returns-then-len-members-clause-refused
read_members-returns-then-len-members-clause-refused t c =
    let names = c.args.types.now.names.now in
    let labels = names_at names c.args.number in
    let members = c.args.members.now in
    let other : length labels ≡ length members → ⊥ = search rules in
    refuses _ (not_named names c.args.types.now.graph.now c.args.depth (token_of c.args.token) c.args.cursor.now labels
    members (ap token_of c.in-BeginObject.is) other)

pub read_members-returns-in_err-values-in-BeginObject-clause-refused :
    goal.read_members-returns-in_err-values-in-BeginObject-clause-refused
read_members-returns-in_err-values-in-BeginObject-clause-refused t c =
    let names = c.args.types.now.names.now in
    let labels = names_at names c.args.number in
    let members = c.args.members.now in
    let named : length labels ≡ length members = search rules in
    let p = err_from_is_err_and c.from_residual.result c.from_residual.ensures.1 in
    rw (p.1, p.2) (refuses_weaker _
    (no_object names c.args.types.now.graph.now c.args.depth (token_of c.args.token) c.args.cursor.now labels
    members (ap token_of c.in-BeginObject.is) named)
    c.in_err-values-in-BeginObject.ensures.refused)

pub read_members-returns-in_err-values-in-BeginArray-clause-refused :
    goal.read_members-returns-in_err-values-in-BeginArray-clause-refused
read_members-returns-in_err-values-in-BeginArray-clause-refused t c =
    let names = c.args.types.now.names.now in
    let labels = names_at names c.args.number in
    let p = err_from_is_err_and c.from_residual-in_err-values-in-BeginArray.result
    c.from_residual-in_err-values-in-BeginArray.ensures.1 in
    rw (p.1, p.2) (refuses_weaker _
    (no_row names c.args.types.now.graph.now c.args.depth (token_of c.args.token) c.args.cursor.now labels
    c.args.members.now (ap token_of c.in-BeginArray.is))
    c.in_err-values-in-BeginArray.ensures.refused)

pub read_members-returns-in_default-clause-refused : goal.read_members-returns-in_default-clause-refused
read_members-returns-in_default-clause-refused t c =
    let names = c.args.types.now.names.now in
    let no_brace : token_of c.args.token ≢ begin_object = search rules in
    let none : token_of c.args.token ≢ begin_array = search rules in
    refuses _ (no_bracket names c.args.types.now.graph.now c.args.depth (token_of c.args.token) c.args.cursor.now
    (names_at names c.args.number) c.args.members.now no_brace none)

pub read_row-returns-in_err-token-clause-refused : goal.read_row-returns-in_err-token-clause-refused
read_row-returns-in_err-token-clause-refused t c =
    let p = err_from_is_err_and c.from_residual.result c.from_residual.ensures.1 in
    rw (p.1, p.2) (refuses _
    (row_missing c.args.types.now.names.now c.args.types.now.graph.now c.args.depth c.args.cursor.now
    c.args.members.now c.loop-member.member-index (trees_of c.loop-member.values.items)
    c.loop-member.cursor c.loop-member.invariant c.next_part.new.self c.loop-member-test.true
    c.in_err-token.ensures.refused))

pub read_row-returns-in_err-read_value-clause-refused : goal.read_row-returns-in_err-read_value-clause-refused
read_row-returns-in_err-read_value-clause-refused t c =
    let p = err_from_is_err_and c.from_residual-in_err-read_value.result c.from_residual-in_err-read_value.ensures.1 in
    rw (p.1, p.2) (refuses_weaker _
    (row_refused c.args.types.now.names.now c.args.types.now.graph.now c.args.depth c.args.cursor.now
    c.args.members.now c.loop-member.member-index (trees_of c.loop-member.values.items)
    c.loop-member.cursor c.loop-member.invariant (token_of c.in_ok-token.token) c.next_part.new.self
    c.loop-member-test.true c.in_ok-token.ensures.some) c.in_err-read_value.ensures.refused)

pub read_row-returns-in_err-end_list-clause-refused : goal.read_row-returns-in_err-end_list-clause-refused
read_row-returns-in_err-end_list-clause-refused t c =
    let p = err_from_is_err_and c.from_residual-in_err-end_list.result c.from_residual-in_err-end_list.ensures.1 in
    rw (p.1, p.2) (refuses _
    (row_endless c.args.types.now.names.now c.args.types.now.graph.now c.args.depth c.args.cursor.now
    c.args.members.now c.loop-member.member-index (trees_of c.loop-member.values.items)
    c.loop-member.cursor c.loop-member.invariant c.loop-member-test.false c.in_err-end_list.ensures.refused))

pub read_object-returns-in_err-label-clause-refused : goal.read_object-returns-in_err-label-clause-refused
read_object-returns-in_err-label-clause-refused t c =
    let names = c.args.types.now.names.now in
    let p = err_from_is_err_and c.from_residual-in_err-label.result c.from_residual-in_err-label.ensures.1 in
    rw (p.1, p.2) (refuses _
    (no_key names c.args.types.now.graph.now c.args.depth c.args.cursor.now (names_at names c.args.number)
    c.args.members.now c.each.slots.items c.each.cursor c.each.invariant.1
    c.in_err-label.ensures.endless c.in_err-label.ensures.refused))

pub read_object-returns-in_err-place-clause-refused : goal.read_object-returns-in_err-place-clause-refused
read_object-returns-in_err-place-clause-refused t c =
    let names = c.args.types.now.names.now in
    let labels = names_at names c.args.number in
    let goes : c.each.cursor ≡ key c.in-Some.label.now ∷ c.next_key.new.self = search rules in
    let none = subst (λ l. (place : ℕ) → slice_get l place ≡ Some c.in-Some.label.now → ⊥) c.of-labels.ensures
    c.in_err-place.ensures.refused in
    let p = err_from_is_err_and c.from_residual-in_err-place.result c.from_residual-in_err-place.ensures.1 in
    rw (p.1, p.2) (refuses _
    (no_name names c.args.types.now.graph.now c.args.depth c.args.cursor.now labels c.args.members.now
    c.each.slots.items c.each.cursor c.each.invariant.1
    c.in-Some.label.now c.next_key.new.self goes none))

pub read_object-returns-in_err-member-clause-refused : goal.read_object-returns-in_err-member-clause-refused
read_object-returns-in_err-member-clause-refused t c =
    let names = c.args.types.now.names.now in
    let labels = names_at names c.args.number in
    let place = c.in_ok-place.place in
    let goes : c.each.cursor ≡ key c.in-Some.label.now ∷ c.next_key.new.self = search rules in
    let at : slice_get labels place ≡ Some c.in-Some.label.now = search rules in
    let none = subst (λ l. (number : ℕ) → slice_get c.args.members.now place ≡ Some number
    → slice_get l place ≡ Some None → ⊥) c.deref.ensures.value c.in_err-member.ensures.refused in
    let p = err_from_is_err_and c.from_residual-in_err-member.result c.from_residual-in_err-member.ensures.1 in
    rw (p.1, p.2) (refuses _
    (no_free_member names c.args.types.now.graph.now c.args.depth c.args.cursor.now labels c.args.members.now
    c.each.slots.items c.each.cursor c.each.invariant.1
    c.in-Some.label.now c.next_key.new.self place goes at none))

pub read_object-returns-in_err-value-clause-refused : goal.read_object-returns-in_err-value-clause-refused
read_object-returns-in_err-value-clause-refused t c =
    let names = c.args.types.now.names.now in
    let labels = names_at names c.args.number in
    let place = c.in_ok-place.place in
    let goes : c.each.cursor ≡ key c.in-Some.label.now ∷ c.next_key.new.self = search rules in
    let at : slice_get labels place ≡ Some c.in-Some.label.now = search rules in
    let p = err_from_is_err_and c.from_residual-in_err-value.result c.from_residual-in_err-value.ensures.1 in
    rw (p.1, p.2) (refuses_weaker _
    (no_value names c.args.types.now.graph.now c.args.depth c.args.cursor.now labels c.args.members.now
    c.each.slots.items c.each.cursor c.each.invariant.1
    c.in-Some.label.now c.next_key.new.self place c.in_ok-member.member (token_of c.next-token.result)
    c.next-token.new.self goes at c.in_ok-member.ensures.member c.next-token.ensures)
    c.in_err-value.ensures.refused)

pub read_object-returns-clause-refused : goal.read_object-returns-clause-refused
read_object-returns-clause-refused t c =
    let names = c.args.types.now.names.now in
    let labels = names_at names c.args.number in
    let ended : c.each.cursor ≡ end_object ∷ c.next_key.new.self = search rules in
    IfErr-weaker c.values_of_slots.result _ _ (λ stop. refuses_weaker stop
    (not_all names c.args.types.now.graph.now c.args.depth c.args.cursor.now labels c.args.members.now
    c.each.slots.items c.each.cursor c.each.invariant.1 c.next_key.new.self ended))
    c.values_of_slots.ensures.refused

pub read_choice-returns-in_default-clause-refused : goal.read_choice-returns-in_default-clause-refused
read_choice-returns-in_default-clause-refused t c =
    let none : token_of c.args.token ≢ begin_array = search rules in
    refuses _ (no_union c.args.types.now.names.now c.args.types.now.graph.now c.args.depth (token_of c.args.token)
    c.args.cursor.now c.args.switch c.args.arms.now c.args.default none)

pub read_choice-returns-in_err-disc-clause-refused : goal.read_choice-returns-in_err-disc-clause-refused
read_choice-returns-in_err-disc-clause-refused t c =
    let p = err_from_is_err_and c.from_residual.result c.from_residual.ensures.1 in
    rw (p.1, p.2) (refuses_weaker _
    (no_label c.args.types.now.names.now c.args.types.now.graph.now c.args.depth (token_of c.args.token)
    c.args.cursor.now c.args.switch c.args.arms.now c.args.default)
    c.in_err-disc.ensures.refused)

pub read_choice-returns-in_err-member-clause-refused : goal.read_choice-returns-in_err-member-clause-refused
read_choice-returns-in_err-member-clause-refused t c =
    let arms = c.args.arms.now in
    let default = c.args.default in
    let disc = c.in_ok-disc.disc in
    let fits : SFits w128 disc = search rules in
    let chosen = c.chosen-chosen.ensures ∙ ap (arm_of arms default) (to_z-of_z w128 disc fits) in
    let says = c.in_ok-disc.ensures.says in
    let p = err_from_is_err_and c.from_residual-in_err-member.result c.from_residual-in_err-member.ensures.1 in
    rw (p.1, p.2) (refuses_weaker _
    (no_member c.args.types.now.names.now c.args.types.now.graph.now c.args.depth (token_of c.args.token)
    c.args.cursor.now c.args.switch arms default disc says.0
    c.read_label.new.cursor c.in_ok-disc.ensures.number says.1 says.2 (option_to_list c.chosen-chosen.result) chosen)
    c.in_err-member.ensures.refused)

pub read_choice-returns-in_err-end_list-clause-refused : goal.read_choice-returns-in_err-end_list-clause-refused
read_choice-returns-in_err-end_list-clause-refused t c =
    let arms = c.args.arms.now in
    let default = c.args.default in
    let disc = c.in_ok-disc.disc in
    let fits : SFits w128 disc = search rules in
    let chosen = c.chosen-chosen.ensures ∙ ap (arm_of arms default) (to_z-of_z w128 disc fits) in
    let says = c.in_ok-disc.ensures.says in
    let p = err_from_is_err_and c.from_residual-in_err-end_list.result c.from_residual-in_err-end_list.ensures.1 in
    rw (p.1, p.2) (refuses _
    (no_end c.args.types.now.names.now c.args.types.now.graph.now c.args.depth (token_of c.args.token)
    c.args.cursor.now c.args.switch arms default disc says.0
    c.read_label.new.cursor c.in_ok-disc.ensures.number says.1 says.2 (option_to_list c.chosen-chosen.result)
    (member_of c.in_ok-member.member) c.read_chosen.new.cursor chosen c.in_ok-member.ensures.read
    c.in_err-end_list.ensures.refused))

pub read_chosen-returns-in_err-token-clause-refused : goal.read_chosen-returns-in_err-token-clause-refused
read_chosen-returns-in_err-token-clause-refused t c =
    let p = err_from_is_err_and c.from_residual.result c.from_residual.ensures.1 in
    rw (p.1, p.2) (refuses _
    (only_missing c.args.types.now.names.now c.args.types.now.graph.now c.args.depth c.args.cursor.now
    (option_to_list c.args.chosen) c.in-Some.number c.next_part.new.self
    (ap option_to_list c.in-Some.is) c.in_err-token.ensures.refused))

pub read_chosen-returns-in_err-value-clause-refused : goal.read_chosen-returns-in_err-value-clause-refused
read_chosen-returns-in_err-value-clause-refused t c =
    let p = err_from_is_err_and c.from_residual-in_err-value.result c.from_residual-in_err-value.ensures.1 in
    rw (p.1, p.2) (refuses_weaker _
    (only_refused c.args.types.now.names.now c.args.types.now.graph.now c.args.depth c.args.cursor.now
    (option_to_list c.args.chosen) c.in-Some.number
    (token_of c.in_ok-token.token) c.next_part.new.self (ap option_to_list c.in-Some.is) c.in_ok-token.ensures.some)
    c.in_err-value.ensures.refused)

pub read_object-fill-requires : goal.read_object-fill-requires
read_object-fill-requires t c =
    let free : slice_get c.each.slots.items c.in_ok-place.place ≡ Some None = search rules in
    place_within c.each.slots.items c.in_ok-place.place None free
