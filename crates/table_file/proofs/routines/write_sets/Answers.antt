use Rattle.std.proofs.Common.{Some, ap, sym, ◌∙◌, arith}
use Rattle.std.specs.Fmt.{◌++?◌}
use Rattle.table_file.proofs.Sets.{sets_spelled}
use Rattle.table_file.proofs.routines.write_sets.Goals as goal

pub returns : goal.returns
returns c =
    ap (λ o. Some c.args.out.now.items ++? o)
    (sets_spelled c.args.sets.now c.requires (λ i. omega (arith, c.type_inv.sets i)))
    ∙ ap Some (sym c.in_ok-extend_from_slice.ensures.items)
