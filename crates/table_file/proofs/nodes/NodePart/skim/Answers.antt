use Rattle.std.proofs.Common.{Ok, arith}
use Rattle.type_graph.specs.GraphRules.{members_in}
use Rattle.table_file.specs.Spelling.{spelled_node}
use Rattle.table_file.specs.inner.Skimming.{IsAtMost}
use Rattle.table_file.proofs.SkimLaws.{skim_fails, skims_by}
use Rattle.table_file.proofs.nodes.NodePart.skim.Goals as goal

pub returns-in-Ok : goal.returns-in-Ok
returns-in-Ok c =
    let count = c.member_count.ensures in
    skims_by spelled_node (IsAtMost members_in) (Ok c.in-Ok.node) (Ok c.member_count.result) _ _ c.in-Ok.ensures
    (omega (arith, count))

pub returns-in-Err : goal.returns-in-Err
returns-in-Err c = skim_fails spelled_node (IsAtMost members_in) c.in-Err.fault _ _ c.in-Err.ensures
