use Rattle.std.proofs.lemmas.Result.{err_from_is_err_and}
use Rattle.type_graph.specs.GraphRules.{members_in}
use Rattle.table_file.specs.Octets.{spelled_list}
use Rattle.table_file.specs.Spelling.{spelled_node}
use Rattle.table_file.specs.inner.ListCodes.{list_code}
use Rattle.table_file.specs.inner.NodeCode.{node_code}
use Rattle.table_file.specs.inner.Skimming.{AreNamed, IsModelSize, IsSize, spelled_named}
use Rattle.table_file.proofs.SkimLaws.{both_told, first_skim_fails}
use Rattle.table_file.proofs.skim.skim_model.Goals as goal

pub returns-in_err-nodes : goal.returns-in_err-nodes
returns-in_err-nodes c =
    let p = err_from_is_err_and c.from_residual.result c.from_residual.ensures.1 in
    rw (p.1, p.2) (first_skim_fails (spelled_list spelled_node) spelled_named (IsSize members_in) IsModelSize _ _ _
    c.in_err-nodes.ensures)

pub returns : goal.returns
returns c =
    both_told (spelled_list spelled_node) spelled_named (list_code spelled_node node_code) (IsSize members_in) AreNamed
    c.in_ok-nodes.nodes c.skim_named-named.result c.both.result _ _ _
    c.both.ensures c.in_ok-nodes.ensures c.skim_named-named.ensures
