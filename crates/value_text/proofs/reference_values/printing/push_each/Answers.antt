use Rattle.std.proofs.Common.{◌+◌, ◌∙◌, drop, ap, sym}
use Rattle.std.proofs.lemmas.List.{drop_all}
use Rattle.idl_value.specs.View.{trees_of}
use Rattle.idl_value.proofs.PackLaws.{trees_of-drop}
use Rattle.value_text.specs.Printed.{with_each}
use Rattle.value_text.proofs.reference_values.printing.push_each.Goals as goal

pub loop-profile-preserved : goal.loop-profile-preserved
loop-profile-preserved c =
    let profiles = c.args.profiles.now in
    let i = c.loop-profile.profile-index in
    let step = trees_of-drop profiles i c.profile-item.result c.loop-profile-test.true c.profile-item.is in
    ap (λ l. with_each l (trees_of (drop (i + 1) profiles))) c.in_ok-push_profile.ensures
    ∙ sym (ap (with_each c.loop-profile.out.items) step) ∙ c.loop-profile.invariant

pub returns : goal.returns
returns c =
    let profiles = c.args.profiles.now in
    let i = c.loop-profile.profile-index in
    sym (ap (λ l. with_each c.loop-profile.out.items (trees_of l)) (drop_all i profiles c.loop-profile-test.false))
    ∙ c.loop-profile.invariant
