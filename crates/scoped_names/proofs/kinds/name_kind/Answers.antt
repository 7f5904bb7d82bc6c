use Rattle.std.proofs.Common.{◌∙◌, ap, sym}
use Rattle.idl_tree.specs.Starts.{name_start, leaf_at as at}
use Rattle.name_table.specs.Search.{sees}
use Rattle.scoped_names.specs.Constants.{meant_found}
use Rattle.scoped_names.proofs.Sights.{found_finds}
use Rattle.scoped_names.proofs.kinds.name_kind.Goals as goal

pub returns-in-Ok : goal.returns-in-Ok
returns-in-Ok c =
    let es = c.args.table.now in
    let name = c.args.name.now in
    let both = found_finds es (at (name_start name)) (sees es c.args.scope.0 name) c.in-Ok.entry in
    c.stands_for.ensures ∙ sym (ap (meant_found es) (both.0 (sym c.resolve.ensures.told ∙ c.in-Ok.is)))
