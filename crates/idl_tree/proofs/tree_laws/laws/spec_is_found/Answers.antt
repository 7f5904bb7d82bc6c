use Rattle.idl_tree.proofs.DefinitionWays.{spec_found}
use Rattle.idl_tree.proofs.tree_laws.laws.spec_is_found.Goals as goal

pub returns : goal.returns
returns c room tokens definitions spelled few = spec_found room tokens definitions spelled few
