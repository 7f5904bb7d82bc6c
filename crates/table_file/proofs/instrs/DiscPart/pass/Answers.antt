use Rattle.std.proofs.Common.{◌≡◌, ◌<◌, arith}
use Rattle.table_file.specs.Spelling.{tagged_disc}
use Rattle.table_file.specs.inner.DiscCode.{is_word, is_enum, disc_few, disc_code}
use Rattle.table_file.specs.inner.Ones.{one_disc}
use Rattle.table_file.proofs.PassLaws.{kind_passes, kinds_stop}
use Rattle.table_file.proofs.instrs.DiscPart.pass.Goals as goal

pub returns-in-Some-eq2 : goal.returns-in-Some-eq2
returns-in-Some-eq2 c = kind_passes is_word (λ n. n < 4) _ _ _ _ _ (omega (arith, c.in-Some-eq2.field-0-test))
    c.in-Some-eq2.ensures c.pass.ensures

pub returns-in-Some : goal.returns-in-Some
returns-in-Some c =
    let below = c.in-Some.ensures.passes.0 in
    let tag : c.in-Some.field-0 ≡ 3 = omega (arith, below, c.in-Some.field-0-test) in
    kind_passes is_enum (λ n. n < 4) _ _ _ _ _ tag c.in-Some.ensures c.pass-in-Some.ensures

pub returns-in-None : goal.returns-in-None
returns-in-None c = kinds_stop tagged_disc 4 disc_few disc_code one_disc _ _ c.in-None.ensures
