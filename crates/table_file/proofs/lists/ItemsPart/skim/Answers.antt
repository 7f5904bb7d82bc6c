use Rattle.std.proofs.Common.{length, arith}
use Rattle.table_file.specs.Octets.{spelled_list}
use Rattle.table_file.specs.inner.Skimming.{IsAtMost, IsSize}
use Rattle.table_file.proofs.SkimLaws.{fails_so, skims_so}
use Rattle.table_file.proofs.lists.ItemsPart.skim.Goals as goal

pub returns-in-Ok : goal.returns-in-Ok
returns-in-Ok g c =
    skims_so (spelled_list g.T.Part.spelled) (IsSize g.T.Part.weight) (IsAtMost (λ items. length items)) c.in-Ok.size
    c.in-Ok.size.count _ _
    (λ items fits. let long = fits.0 in omega (arith, long)) c.in-Ok.ensures

pub returns-in-Err : goal.returns-in-Err
returns-in-Err g c =
    fails_so (spelled_list g.T.Part.spelled) (IsSize g.T.Part.weight) (IsAtMost (λ items. length items)) c.in-Err.fault
    _ _ c.in-Err.ensures
