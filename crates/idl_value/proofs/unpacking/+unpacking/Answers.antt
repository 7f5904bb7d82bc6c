use Rattle.std.proofs.Common.{◌≡◌, ◌-◌, ℕ, ℤ, ◌≤◌, List, ◌∷◌, [], ◌++◌, replicate, Some, option_to_list, inl, inr, refl, sym, ap, ap₂, ◌∙◌, subst, arith, rules}
use Rattle.std.proofs.lemmas.Result.{err_from_is_err_and, IfOk-weaker, IfErr-weaker}
use Rattle.std.proofs.lemmas.Int.{to_z-of_z}
use mir.Syntax.{w128}
use mir.Val.{SFits, to_z, of_z}
use Rattle.type_graph.specs.declared.node.Node.TheVariants.{Octet, Seq, Array, Struct, Union, Frame}
use Rattle.type_graph.specs.declared.width.Order.TheVariants.{Big}
use Rattle.type_graph.specs.Words.{word}
use Rattle.type_graph.specs.Value.{node_at, number_width, arm_of, IsNumber, Trees, NoTree, AndTree, Choice, IsCount}
use Rattle.type_graph.specs.GraphRules.{IsNode, held_by}
use Rattle.type_graph.specs.Walks.{above}
use Rattle.type_graph.proofs.Held.{switch_within, elem_within}
use Rattle.idl_value.specs.View.{tree_of}
use Rattle.idl_value.specs.inner.PartList.{numbers_of, AreWithin}
use Rattle.idl_value.specs.Refusal.{RefusesTape}
use Rattle.idl_value.specs.inner.Unpacking.{IsItems, Begins, BeginsWithNone, BeginsAll, BeginsAllWithNone}
use Rattle.idl_value.proofs.ViewLaws.{tree_of-items, tree_of-choice}
use Rattle.idl_value.proofs.PartLaws.{repeated_are_within, copies_are_within, members_are_within, frame_is_within, arm_is_within}
use Rattle.type_graph.specs.Walks.{height_of}
use Rattle.type_graph.proofs.HeightLaws.{height_unfolds, height_bound, above_copies, above_arm}
use Rattle.idl_value.proofs.TapeLengths.{too_few_octets}
use Rattle.idl_value.proofs.UnpackLaws.{joined, joined-none, begins_next, only_next, none_next, refuses_weaker, no_switch, no_items, items_begin, array_items, struct_items, frame_items, sequence_begins, no_sequence_begins, union_begins, no_union_begins}
use Rattle.idl_value.proofs.unpacking.+unpacking.Goals as goal

pub read_values-loop-number-preserved : goal.read_values-loop-number-preserved
read_values-loop-number-preserved t c =
    let graph = c.args.graph.now in
    let parts = numbers_of c.args.parts in
    let number = c.in-Some.number in
    let more = numbers_of c.in-Some.more in
    let depth = c.args.depth in
    let tape = c.args.tape.now in
    let rest = c.loop-number.rest.now in
    let behind = c.in_ok-value.behind.now in
    let values = c.loop-number.values.items in
    let before = c.loop-number.invariant in
    let heights = subst (λ numbers. above (height_of graph) numbers ≤ above (height_of graph) parts) c.in-Some.ensures
    before.0 in
    let pushed : c.push.new.self.items ≡ values ++ c.in_ok-value.value ∷ [] = search rules in (
      omega (arith, heights),
      λ rules_of_graph inside.
          let now = before.1 rules_of_graph inside in
          let within = subst (AreWithin graph) c.in-Some.ensures now.0 in
          let whole = subst (λ numbers. (others : Trees) (end : List ℕ) → BeginsAll graph numbers depth rest others end
          → BeginsAll graph parts depth tape (joined values others) end) c.in-Some.ensures now.1 in
          let only = subst (λ numbers. (all : Trees) (end : List ℕ) → BeginsAll graph parts depth tape all end
          → (others : Trees) × BeginsAll graph numbers depth rest others end) c.in-Some.ensures now.2 in
          let first = c.in_ok-value.ensures.found within.0 in (
            within.1,
            subst (λ items. (others : Trees) (end : List ℕ) → BeginsAll graph more depth behind others end
                → BeginsAll graph parts depth tape (joined items others) end) (sym pushed)
                (begins_next graph rules_of_graph parts more number depth values c.in_ok-value.value tape rest behind
                whole first),
            only_next graph rules_of_graph parts more number depth (tree_of c.in_ok-value.value) tape rest behind only
                first,
          ),
    )

pub read_values-returns-clause-found : goal.read_values-returns-clause-found
read_values-returns-clause-found t c = λ rules_of_graph inside.
    let graph = c.args.graph.now in
    let now = c.loop-number.invariant.1 rules_of_graph inside in
    let none : numbers_of c.loop-number.left ≡ [] = search rules in
    let rest = c.loop-number.rest.now in
    let nothing = subst (λ numbers. BeginsAll graph numbers c.args.depth rest NoTree rest) (sym none) (tt, refl) in
    subst (λ trees. BeginsAll graph (numbers_of c.args.parts) c.args.depth c.args.tape.now trees rest)
    (joined-none c.loop-number.values.items) (now.1 NoTree rest nothing)

pub read_values-returns-in_err-value-clause-refused : goal.read_values-returns-in_err-value-clause-refused
read_values-returns-in_err-value-clause-refused t c =
    let p = err_from_is_err_and c.from_residual.result c.from_residual.ensures.1 in
    rw (p.1, p.2) (λ rules_of_graph inside.
    let graph = c.args.graph.now in
    let depth = c.args.depth in
    let rest = c.loop-number.rest.now in
    let parts = numbers_of c.args.parts in
    let more = numbers_of c.in-Some.more in
    let tape = c.args.tape.now in
    let now = c.loop-number.invariant.1 rules_of_graph inside in
    let within = subst (AreWithin graph) c.in-Some.ensures now.0 in
    let only = subst (λ numbers. (all : Trees) (end : List ℕ) → BeginsAll graph parts depth tape all end
    → (others : Trees) × BeginsAll graph numbers depth rest others end) c.in-Some.ensures now.2 in
    refuses_weaker _ (none_next graph rules_of_graph parts more c.in-Some.number depth tape rest only)
    (c.in_err-value.ensures.refused within.0))

pub read_sequence-read_values-requires : goal.read_sequence-read_values-requires
read_sequence-read_values-requires t c =
    let copies = above_copies (height_of c.args.graph.now) c.in-Some.count c.args.elem in
    let bound = height_bound 64 c.args.graph.now c.args.elem in
    let d = c.decreases in
    (omega (arith, d, copies, bound), tt)

pub read_sequence-returns-clause-found : goal.read_sequence-returns-clause-found
read_sequence-returns-clause-found t c = λ rules_of_graph node_rules.
    let graph = c.args.graph.now in
    let inside = elem_within graph c.args.elem c.args.bound node_rules in
    let values = c.in_ok-values.values in
    let behind = c.in_ok-values.rest.now in
    let read = c.in-Some.ensures.found in
    let counted : IsCount c.args.bound c.in-Some.count = search rules in
    let parts = c.in_ok-values.ensures.found rules_of_graph
    (repeated_are_within graph c.in-Some.count c.args.elem inside) in
    subst (λ value. Begins graph (Seq c.args.elem c.args.bound) c.args.depth c.args.tape.now value behind)
    (sym (tree_of-items values))
    (sequence_begins graph c.args.elem c.args.bound c.args.depth c.in-Some.count values.items c.args.tape.now
    c.in-Some.rest.now behind (omega arith) counted read.1 parts)

pub read_sequence-returns-in_err-values-clause-refused : goal.read_sequence-returns-in_err-values-clause-refused
read_sequence-returns-in_err-values-clause-refused t c =
    let p = err_from_is_err_and c.from_residual.result c.from_residual.ensures.1 in
    rw (p.1, p.2) (λ rules_of_graph node_rules.
    let graph = c.args.graph.now in
    let inside = elem_within graph c.args.elem c.args.bound node_rules in
    let read = c.in-Some.ensures.found in
    refuses_weaker _ (no_sequence_begins graph c.args.elem c.args.bound c.args.depth c.in-Some.count c.args.tape.now
    c.in-Some.rest.now read.0 read.1)
    (c.in_err-values.ensures.refused rules_of_graph (repeated_are_within graph c.in-Some.count c.args.elem inside)))

pub read_sequence-returns-then-count-rest-clause-refused : goal.read_sequence-returns-then-count-rest-clause-refused
read_sequence-returns-then-count-rest-clause-refused t c = λ rules_of_graph node_rules.
    let graph = c.args.graph.now in
    let read = c.in-Some.ensures.found in
    no_sequence_begins graph c.args.elem c.args.bound c.args.depth c.in-Some.count c.args.tape.now c.in-Some.rest.now
    read.0 read.1
    (too_few_octets graph rules_of_graph c.in-Some.count c.args.elem (c.args.depth - 1) c.in-Some.rest.now node_rules.0
    (omega arith))

pub read_value-read_items-requires : goal.read_value-read_items-requires
read_value-read_items-requires t c =
    let graph = c.args.graph.now in
    let number = c.args.number in
    let node : c.in-Some.node.now ≡ node_at graph number = search rules in
    let copies = above_copies (height_of graph) c.in-Array.n c.in-Array.elem in
    let unfolds = subst (λ found. height_of graph number ≡ above (height_of graph) (held_by found))
    (sym node ∙ c.in-Array.is) (height_unfolds graph c.nodes.ensures.rules number) in
    let d = c.decreases in
    (omega (arith, d, copies, unfolds), tt)

pub read_value-read_items-requires-in-Struct : goal.read_value-read_items-requires-in-Struct
read_value-read_items-requires-in-Struct t c =
    let graph = c.args.graph.now in
    let number = c.args.number in
    let members = c.in-Struct.members in
    let node : c.in-Some.node.now ≡ node_at graph number = search rules in
    let unfolds = height_unfolds graph c.nodes.ensures.rules number in
    let held : height_of graph number ≡ above (height_of graph) members = elim c.in-Struct.is [
      | inl e ↦ subst (λ found. height_of graph number ≡ above (height_of graph) (held_by found)) (sym node ∙ e) unfolds
      | inr e ↦ subst (λ found. height_of graph number ≡ above (height_of graph) (held_by found)) (sym node ∙ e) unfolds
    ] in
    let same = ap (above (height_of graph)) c.as_slice.ensures in
    let d = c.decreases in
    (omega (arith, d, held, same), tt)

pub read_value-read_choice-requires : goal.read_value-read_choice-requires
read_value-read_choice-requires t c =
    let graph = c.args.graph.now in
    let number = c.args.number in
    let node : c.in-Some.node.now ≡ node_at graph number = search rules in
    let unfolds = subst (λ found. height_of graph number ≡ above (height_of graph) (held_by found))
    (sym node ∙ c.in-Union.is) (height_unfolds graph c.nodes.ensures.rules number) in
    let d = c.decreases in
    (omega (arith, d, unfolds), tt)

pub read_value-returns-in-Seq-clause-found : goal.read_value-returns-in-Seq-clause-found
read_value-returns-in-Seq-clause-found t c =
    let graph = c.args.graph.now in
    let number = c.args.number in
    let node : c.in-Some.node.now ≡ node_at graph number = search rules in
    let is = sym node ∙ c.in-Seq.is in
    IfOk-weaker c.read_sequence.result _ _ (λ r found inside.
    let node_rules = subst (IsNode graph) is (c.nodes.ensures.rules.nodes number Octet inside) in
    subst (λ at. Begins graph at c.args.depth c.args.tape.now (tree_of r.0) r.1.now) (sym is)
    (found c.nodes.ensures.rules node_rules)) c.read_sequence.ensures.found

pub read_value-returns-in-Seq-clause-refused : goal.read_value-returns-in-Seq-clause-refused
read_value-returns-in-Seq-clause-refused t c =
    let graph = c.args.graph.now in
    let number = c.args.number in
    let node : c.in-Some.node.now ≡ node_at graph number = search rules in
    let is = sym node ∙ c.in-Seq.is in
    IfErr-weaker c.read_sequence.result _ _ (λ fault refused inside.
    let node_rules = subst (IsNode graph) is (c.nodes.ensures.rules.nodes number Octet inside) in
    subst (λ at. RefusesTape fault (BeginsWithNone graph at c.args.depth c.args.tape.now)) (sym is)
    (refused c.nodes.ensures.rules node_rules)) c.read_sequence.ensures.refused

pub read_value-returns-in-Array-clause-found : goal.read_value-returns-in-Array-clause-found
read_value-returns-in-Array-clause-found t c =
    let graph = c.args.graph.now in
    let number = c.args.number in
    let elem = c.in-Array.elem in
    let n = c.in-Array.n in
    let node : c.in-Some.node.now ≡ node_at graph number = search rules in
    let is = sym node ∙ c.in-Array.is in
    IfOk-weaker c.read_items.result _ _ (λ r found inside.
    let within = copies_are_within graph elem n
    (subst (IsNode graph) is (c.nodes.ensures.rules.nodes number Octet inside)) in
    subst (λ at. Begins graph at c.args.depth c.args.tape.now (tree_of r.0) r.1.now) (sym is)
    (items_begin graph (Array elem n) (replicate n elem) c.args.depth c.args.tape.now (tree_of r.0) r.1.now
    (λ values h. (h, refl)) (found c.nodes.ensures.rules within))) c.read_items.ensures.found

pub read_value-returns-in-Array-clause-refused : goal.read_value-returns-in-Array-clause-refused
read_value-returns-in-Array-clause-refused t c =
    let graph = c.args.graph.now in
    let number = c.args.number in
    let elem = c.in-Array.elem in
    let n = c.in-Array.n in
    let node : c.in-Some.node.now ≡ node_at graph number = search rules in
    let is = sym node ∙ c.in-Array.is in
    IfErr-weaker c.read_items.result _ _ (λ fault refused inside.
    let within = copies_are_within graph elem n
    (subst (IsNode graph) is (c.nodes.ensures.rules.nodes number Octet inside)) in
    subst (λ at. RefusesTape fault (BeginsWithNone graph at c.args.depth c.args.tape.now)) (sym is)
    (refuses_weaker fault (no_items graph (Array elem n) (replicate n elem) c.args.depth c.args.tape.now
    (λ values h. (h, refl)) (array_items graph elem n c.args.depth)) (refused c.nodes.ensures.rules within)))
    c.read_items.ensures.refused

pub read_value-returns-in-Struct-clause-found : goal.read_value-returns-in-Struct-clause-found
read_value-returns-in-Struct-clause-found t c =
    let graph = c.args.graph.now in
    let number = c.args.number in
    let members = c.in-Struct.members in
    let depth = c.args.depth in
    let tape = c.args.tape.now in
    let node : c.in-Some.node.now ≡ node_at graph number = search rules in
    IfOk-weaker c.read_items-in-Struct.result _ _ (λ r found inside.
    let node_rules = c.nodes.ensures.rules.nodes number Octet inside in
    let items = subst (λ numbers. AreWithin graph numbers → IsItems graph numbers depth tape (tree_of r.0) r.1.now)
    c.as_slice.ensures (found c.nodes.ensures.rules) in
    elim c.in-Struct.is [
      | inl e ↦ subst (λ at. Begins graph at depth tape (tree_of r.0) r.1.now) (sym (sym node ∙ e))
          (items_begin graph (Struct members) members depth tape (tree_of r.0) r.1.now (λ values h. (h, refl))
          (items (members_are_within graph members (subst (IsNode graph) (sym node ∙ e) node_rules))))
      | inr e ↦ subst (λ at. Begins graph at depth tape (tree_of r.0) r.1.now) (sym (sym node ∙ e))
          (items_begin graph (Frame members) members depth tape (tree_of r.0) r.1.now (λ values h. (h, refl))
          (items (frame_is_within graph members (subst (IsNode graph) (sym node ∙ e) node_rules))))
    ]) c.read_items-in-Struct.ensures.found

pub read_value-returns-in-Struct-clause-refused : goal.read_value-returns-in-Struct-clause-refused
read_value-returns-in-Struct-clause-refused t c =
    let graph = c.args.graph.now in
    let number = c.args.number in
    let members = c.in-Struct.members in
    let depth = c.args.depth in
    let tape = c.args.tape.now in
    let node : c.in-Some.node.now ≡ node_at graph number = search rules in
    IfErr-weaker c.read_items-in-Struct.result _ _ (λ fault refused inside.
    let node_rules = c.nodes.ensures.rules.nodes number Octet inside in
    let items = subst (λ numbers. AreWithin graph numbers
    → RefusesTape fault (BeginsAllWithNone graph numbers depth tape)) c.as_slice.ensures
    (refused c.nodes.ensures.rules) in
    elim c.in-Struct.is [
      | inl e ↦ subst (λ at. RefusesTape fault (BeginsWithNone graph at depth tape)) (sym (sym node ∙ e))
          (refuses_weaker fault (no_items graph (Struct members) members depth tape (λ values h. (h, refl))
          (struct_items graph members depth))
          (items (members_are_within graph members (subst (IsNode graph) (sym node ∙ e) node_rules))))
      | inr e ↦ subst (λ at. RefusesTape fault (BeginsWithNone graph at depth tape)) (sym (sym node ∙ e))
          (refuses_weaker fault (no_items graph (Frame members) members depth tape (λ values h. (h, refl))
          (frame_items graph members depth))
          (items (frame_is_within graph members (subst (IsNode graph) (sym node ∙ e) node_rules))))
    ]) c.read_items-in-Struct.ensures.refused

pub read_choice-returns-in_default-read_number-clause-refused :
    goal.read_choice-returns-in_default-read_number-clause-refused
read_choice-returns-in_default-read_number-clause-refused t c = λ union_rules.
    let graph = c.args.graph.now in
    let switch = c.args.switch in
    let tape = c.args.tape.now in
    let node : c.in-Some.node.now ≡ node_at graph switch = search rules in
    let node_rules = c.nodes.ensures.rules.nodes switch Octet
    (switch_within graph switch c.args.arms.now c.args.default union_rules) in
    no_switch graph switch c.args.arms.now c.args.default c.args.depth tape
    (subst (λ found. (n : ℤ) (rest : List ℕ) → IsNumber found n → tape ≡ word Big (number_width found) n ++ rest → ⊥)
    node (c.in_default-read_number.ensures.refused graph (subst (IsNode graph) (sym node) node_rules)))

pub read_choice-read_value-requires : goal.read_choice-read_value-requires
read_choice-read_value-requires t c =
    let chosen = ap option_to_list (sym c.in-Some-chosen.is) ∙ c.chosen.ensures in
    let lower = above_arm (height_of c.args.graph.now) c.args.switch c.args.arms.now c.args.default _
    c.in-Some-chosen.number chosen in
    let d = c.decreases in
    (omega (arith, d, lower), tt)

pub read_choice-returns-clause-found : goal.read_choice-returns-clause-found
read_choice-returns-clause-found t c = λ union_rules.
    let graph = c.args.graph.now in
    let switch = c.args.switch in
    let arms = c.args.arms.now in
    let default = c.args.default in
    let tape = c.args.tape.now in
    let disc = c.in-Some-read_number.disc in
    let rest = c.in-Some-read_number.rest.now in
    let number = c.in-Some-chosen.number in
    let node : c.in-Some.node.now ≡ node_at graph switch = search rules in
    let fits : SFits w128 disc = search rules in
    let disc_is = to_z-of_z w128 disc fits in
    let read = subst (λ at. IsNumber at disc × (tape ≡ word Big (number_width at) disc ++ rest)) node
    c.in-Some-read_number.ensures.found in
    let chosen = ap option_to_list (sym c.in-Some-chosen.is) ∙ c.chosen.ensures ∙ ap (arm_of arms default) disc_is in
    let inside = subst (AreWithin graph) (sym chosen) (arm_is_within graph switch arms default disc union_rules) in
    let behind = c.in_ok-value.rest.now in
    let begins = union_begins graph switch arms default disc number c.args.depth (tree_of c.in_ok-value.value) tape rest
    behind read.0 read.1 chosen (c.in_ok-value.ensures.found inside.0) in
    let tree = tree_of-choice (to_z w128 (of_z w128 disc)) (Some c.in_ok-member.member)
    ∙ ap₂ (λ a value. Choice a (AndTree (tree_of value) NoTree)) disc_is c.in_ok-member.ensures.ok in
    subst (λ value. Begins graph (Union switch arms default) c.args.depth tape value behind) (sym tree) begins

pub read_choice-returns-in_err-value-clause-refused :
    goal.read_choice-returns-in_err-value-clause-refused
read_choice-returns-in_err-value-clause-refused t c =
    let p = err_from_is_err_and c.from_residual.result c.from_residual.ensures.1 in
    rw (p.1, p.2) (λ union_rules.
    let graph = c.args.graph.now in
    let switch = c.args.switch in
    let arms = c.args.arms.now in
    let default = c.args.default in
    let tape = c.args.tape.now in
    let disc = c.in-Some-read_number.disc in
    let rest = c.in-Some-read_number.rest.now in
    let number = c.in-Some-chosen.number in
    let node : c.in-Some.node.now ≡ node_at graph switch = search rules in
    let fits : SFits w128 disc = search rules in
    let disc_is = to_z-of_z w128 disc fits in
    let read = subst (λ at. IsNumber at disc × (tape ≡ word Big (number_width at) disc ++ rest)) node
    c.in-Some-read_number.ensures.found in
    let chosen = ap option_to_list (sym c.in-Some-chosen.is) ∙ c.chosen.ensures ∙ ap (arm_of arms default) disc_is in
    let inside = subst (AreWithin graph) (sym chosen) (arm_is_within graph switch arms default disc union_rules) in
    refuses_weaker _ (no_union_begins graph c.nodes.ensures.rules switch arms default disc number c.args.depth tape rest
    read.0 read.1 chosen) (c.in_err-value.ensures.refused inside.0))
