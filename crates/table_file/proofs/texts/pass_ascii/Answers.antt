use Rattle.std.proofs.Common.{◌≡◌, ◌<◌, arith}
use Rattle.table_file.specs.Octets.{spelled_ascii}
use Rattle.table_file.specs.inner.Codes.{ascii_code}
use Rattle.table_file.specs.inner.Ones.{one_ascii}
use Rattle.table_file.proofs.OctetRuns.{ascii_each, ascii_only}
use Rattle.table_file.proofs.PassLaws.{one_passes}
use Rattle.table_file.proofs.PassedLists.{none_passed, more_passed, run_passes, run_stops}
use Rattle.table_file.proofs.texts.pass_ascii.Goals as goal

pub octets-init : goal.octets-init
octets-init c = none_passed spelled_ascii _

pub returns-then-is_none : goal.returns-then-is_none
returns-then-is_none c =
    run_stops c.args.count spelled_ascii ascii_code one_ascii c.octets.place _ _ _ _ c.octets-test.true
    c.if-is_none.ensures c.octets.invariant
    (one_passes spelled_ascii (λ n. n < 128) ascii_code one_ascii ascii_each ascii_only _ _ _ c.below.ensures)

pub octets-preserved : goal.octets-preserved
octets-preserved c =
    more_passed spelled_ascii c.octets.place _ _ _ _ c.if-is_none.ensures c.octets.invariant
    (one_passes spelled_ascii (λ n. n < 128) ascii_code one_ascii ascii_each ascii_only _ _ _ c.below.ensures)

pub returns : goal.returns
returns c =
    let all : c.octets.place ≡ c.args.count = omega (arith, c.octets.auto.place-end, c.octets-test.false) in
    run_passes c.args.count spelled_ascii c.octets.place _ _ all c.octets.invariant
