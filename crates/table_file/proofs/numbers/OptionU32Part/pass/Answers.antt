use Rattle.std.proofs.Common.{◌≡◌, ◌<◌, arith}
use Rattle.table_file.specs.Octets.{tagged_maybe}
use Rattle.table_file.specs.inner.MaybeCode.{is_some, maybe_few, maybe_code}
use Rattle.table_file.specs.inner.Ones.{one_maybe}
use Rattle.table_file.proofs.PassLaws.{kind_passes, kinds_stop}
use Rattle.table_file.proofs.numbers.OptionU32Part.pass.Goals as goal

pub returns-in-Some : goal.returns-in-Some
returns-in-Some c =
    let below = c.in-Some.ensures.passes.0 in
    let tag : c.in-Some.field-0 ≡ 1 = omega (arith, below, c.in-Some.field-0-test) in
    kind_passes is_some (λ n. n < 2) _ _ _ _ _ tag c.in-Some.ensures c.pass.ensures

pub returns-in-None : goal.returns-in-None
returns-in-None c = kinds_stop tagged_maybe 2 maybe_few maybe_code one_maybe _ _ c.in-None.ensures
