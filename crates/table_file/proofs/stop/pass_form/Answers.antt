use Rattle.std.proofs.Common.{◌≡◌, [], ◌∷◌, arith}
use Rattle.std.specs.Prelude.{Contains}
use Rattle.table_file.proofs.OctetRuns.{second_of_two}
use Rattle.table_file.proofs.PassLaws.{kind_passes}
use Rattle.table_file.proofs.FormLaws.{is_new, is_old, no_form}
use Rattle.table_file.proofs.stop.pass_form.Goals as goal

pub returns-in-Some-eq1 : goal.returns-in-Some-eq1
returns-in-Some-eq1 c =
    kind_passes is_old (λ n. Contains (1 ∷ 2 ∷ []) n) _ _ _ _ _ (omega (arith, c.in-Some-eq1.field-0-test))
    c.in-Some-eq1.ensures c.pass.ensures

pub returns-in-Some : goal.returns-in-Some
returns-in-Some c =
    let second : c.in-Some.field-0 ≡ 2 =
    second_of_two 1 2 c.in-Some.field-0 c.in-Some.ensures.passes.0
    (λ e. let other = c.in-Some.field-0-test in omega (arith, other, e)) in
    kind_passes is_new (λ n. Contains (1 ∷ 2 ∷ []) n) _ _ _ _ _ second c.in-Some.ensures c.pass_new.ensures

pub returns-in-None : goal.returns-in-None
returns-in-None c = no_form _ _ c.in-None.ensures
