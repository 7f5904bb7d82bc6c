use Rattle.std.proofs.Common.{◌≡◌, true, false, Some, ap, sym, ◌∙◌}
use Rattle.std.specs.Fmt.{◌++?◌}
use Rattle.table_file.proofs.TextReads.{all_ascii, ascii_spelled}
use Rattle.table_file.proofs.texts.write_ascii.Goals as goal

pub returns-then-not-is_ascii : goal.returns-then-not-is_ascii
returns-then-not-is_ascii c =
    let bad : all_ascii c.args.octets.now ≡ false = cc in
    ap (λ o. Some c.args.out.now.items ++? o) (ascii_spelled false c.args.octets.now bad)

pub returns : goal.returns
returns c =
    let good : all_ascii c.args.octets.now ≡ true = cc in
    ap (λ o. Some c.args.out.now.items ++? o) (ascii_spelled true c.args.octets.now good)
    ∙ ap Some (sym c.in_ok-extend_from_slice.ensures.items)
