use Rattle.std.proofs.Common.{ap, ◌∙◌, arith}
use Rattle.table_file.specs.Octets.{spelled_octet, spelled_run}
use Rattle.table_file.proofs.Sets.{eight, sets_spelled}
use Rattle.table_file.proofs.routines.sets_of.Goals as goal

pub returns : goal.returns
returns c =
    ap (spelled_run 8 spelled_octet) (eight c.args.octets.now c.requires)
    ∙ sets_spelled c.args.octets.now c.requires (λ i. omega (arith, c.type_inv.octets i))
