use Rattle.std.proofs.Common.{◌≡◌, ◌∙◌, ◌++◌, ◌∷◌, [], sym, ap}
use Rattle.std.specs.List.{flat_map}
use Rattle.std.proofs.lemmas.Result.{on_ok_weaker}
use Rattle.idl_tree.specs.declared.types.StructType.{out-StructType}
use Rattle.idl_tree.specs.declared.types.UnionType.{out-UnionType}
use Rattle.idl_tree.specs.declared.kinds.EntryKind.TheVariants as Kinds
use Rattle.name_steps.specs.Steps.{Leaves, case_steps, member_steps, opening, switch_steps}
use Rattle.name_steps.specs.StepsKept.{steps_in}
use Rattle.name_steps.proofs.Behind.{behind_three, behind_two}
use Rattle.name_steps.proofs.ListedSteps.{struct_listed, union_listed}
use Rattle.name_steps.proofs.step.Steps.+types.Goals as goal

pub add_struct-returns : goal.add_struct-returns
add_struct-returns t c =
    let s = out-StructType c.args.s.now in
    let old = steps_in c.args.self.now in
    let opened = opening Kinds.Struct s.identifier in
    let first = member_steps s.first.value in
    let others = flat_map member_steps s.rest.items in
    let begun : steps_in c.add_member.new.self ≡ (old ++ opened) ++ first =
    c.in-Ok-add_member.ensures ∙ ap (λ m. steps_in c.open.new.self ++ member_steps m) c.deref.ensures
    ∙ ap (λ xs. xs ++ first) c.in-Ok.ensures in
    let so_far : steps_in c.add_members.new.self ≡ ((old ++ opened) ++ first) ++ others =
    c.in-Ok-add_members.ensures ∙ ap (λ ms. steps_in c.add_member.new.self ++ flat_map member_steps ms)
    c.as_slice.ensures.value
    ∙ ap (λ xs. xs ++ others) begun in
    on_ok_weaker c.leaves.result
    (λ is. is ∙ ap (λ xs. xs ++ Leaves ∷ []) so_far ∙ behind_two old opened first others (Leaves ∷ [])
    ∙ sym (ap (λ xs. old ++ xs) (struct_listed c.args.s.now)))
    c.leaves.ensures

pub add_union-returns : goal.add_union-returns
add_union-returns t c =
    let u = out-UnionType c.args.u.now in
    let old = steps_in c.args.self.now in
    let opened = opening Kinds.Union u.identifier in
    let switched = switch_steps u.switch.value in
    let first = case_steps u.first.value in
    let others = flat_map case_steps u.rest.items in
    let begun : steps_in c.add_case.new.self ≡ ((old ++ opened) ++ switched) ++ first =
    c.in-Ok-add_case.ensures ∙ ap (λ k. steps_in c.add_switch.new.self ++ case_steps k) c.deref.ensures
    ∙ ap (λ xs. xs ++ first) (c.in-Ok-add_switch.ensures
    ∙ ap (λ k. steps_in c.open.new.self ++ switch_steps k) c.deref-chosen.ensures
    ∙ ap (λ xs. xs ++ switched) c.in-Ok.ensures) in
    let so_far : steps_in c.add_cases.new.self ≡ (((old ++ opened) ++ switched) ++ first) ++ others =
    c.in-Ok-add_cases.ensures ∙ ap (λ ks. steps_in c.add_case.new.self ++ flat_map case_steps ks)
    c.as_slice.ensures.value
    ∙ ap (λ xs. xs ++ others) begun in
    on_ok_weaker c.leaves.result
    (λ is. is ∙ ap (λ xs. xs ++ Leaves ∷ []) so_far ∙ behind_three old opened switched first others (Leaves ∷ [])
    ∙ sym (ap (λ xs. old ++ xs) (union_listed c.args.u.now)))
    c.leaves.ensures
