use Rattle.std.proofs.Common.{◌≡◌, ℕ, List, true, false, Ok, Err, refl, arith}
use Rattle.std.proofs.lemmas.Result.{err_from_is_err_and}
use Rattle.marshal_program.specs.declared.fault.TableFault.TheVariants.{NotATable}
use Rattle.table_file.specs.Octets.{spelled_ascii, spelled_run}
use Rattle.table_file.specs.inner.Codes.{ascii_code}
use Rattle.table_file.specs.inner.Skimming.{IsAtMost, no_weight}
use Rattle.table_file.proofs.ListReads.{too_many}
use Rattle.table_file.proofs.SkimLaws.{skim_fails, skims_by}
use Rattle.table_file.proofs.TextReads.{all_ascii, ascii_reads}
use Rattle.table_file.proofs.texts.skim_name.Goals as goal

pub returns-in_err-octets : goal.returns-in_err-octets
returns-in_err-octets c =
    let p = err_from_is_err_and c.from_residual.result c.from_residual.ensures.1 in
    rw (p.1, p.2) (skim_fails (spelled_run c.args.count spelled_ascii) (IsAtMost (no_weight {A = List ℕ})) _ _ _
    (too_many spelled_ascii ascii_code c.args.count _ _ _ c.in_err-octets.ensures.short))

pub returns-then-not-is_ascii : goal.returns-then-not-is_ascii
returns-then-not-is_ascii c =
    let bad : all_ascii c.in_ok-octets.octets.now ≡ false = cc in
    skim_fails (spelled_run c.args.count spelled_ascii) (IsAtMost (no_weight {A = List ℕ})) _ _ _
    (ascii_reads c.args.count c.in_ok-octets.octets.now (Err NotATable) _ _ c.in_ok-octets.ensures.taken bad)

pub returns : goal.returns
returns c =
    let good : all_ascii c.in_ok-octets.octets.now ≡ true = cc in
    skims_by (spelled_run c.args.count spelled_ascii) (IsAtMost (no_weight {A = List ℕ})) (Ok c.in_ok-octets.octets.now)
    (Ok 0) _ _
    (ascii_reads c.args.count c.in_ok-octets.octets.now (Ok c.in_ok-octets.octets.now) _ _ c.in_ok-octets.ensures.taken
    (refl, good)) (omega arith)
