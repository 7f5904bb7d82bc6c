use Rattle.idl_tree.proofs.TreeDefinitions.{same_spec}
use Rattle.idl_tree.proofs.tree_laws.laws.spec_is_one.Goals as goal

pub returns : goal.returns
returns c tokens definitions others one other = same_spec tokens definitions others one other
