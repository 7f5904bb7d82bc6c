use Rattle.std.proofs.Common.{◌≡◌, true}
use Rattle.std.proofs.lemmas.Str.{IsUtf8-from_ascii}
use Rattle.table_file.proofs.TextReads.{all_ascii, ascii_at}
use Rattle.table_file.proofs.texts.name_of.Goals as goal

pub returns-in-Err-clause-refused : goal.returns-in-Err-clause-refused
returns-in-Err-clause-refused c =
    let good : all_ascii c.args.octets.now ≡ true = cc in
    absurd (c.in-Err.ensures.cases.0 (IsUtf8-from_ascii c.args.octets.now (ascii_at c.args.octets.now good)))
