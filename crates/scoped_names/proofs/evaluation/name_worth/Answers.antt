use Rattle.std.proofs.Common.{◌∙◌, sym}
use Rattle.idl_tree.specs.Starts.{name_start, leaf_at as at}
use Rattle.name_table.specs.Search.{sees}
use Rattle.scoped_names.proofs.ChainWorth.{not_found}
use Rattle.scoped_names.proofs.evaluation.name_worth.Goals as goal

pub returns-in-Err : goal.returns-in-Err
returns-in-Err c =
    let name = c.args.name.now in
    sym (not_found c.args.table.now (at (name_start name)) (sees c.args.table.now c.args.scope.0 name) _
    (sym c.resolve.ensures.told ∙ c.in-Err.is))
