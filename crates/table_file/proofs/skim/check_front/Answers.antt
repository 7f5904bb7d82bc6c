use Rattle.std.proofs.Common.{Ok, Err, subst}
use Rattle.std.proofs.lemmas.Result.{err_from_is_err_and}
use Rattle.type_graph.specs.GraphRules.{IsGraph}
use Rattle.table_file.specs.Octets.{spelled_list}
use Rattle.table_file.specs.Spelling.{spelled_node}
use Rattle.table_file.specs.inner.Reading.{Reads}
use Rattle.table_file.specs.inner.Skimming.{BeginsWithNoGraph}
use Rattle.table_file.proofs.SkimLaws.{front_breaks, front_fails}
use Rattle.table_file.proofs.skim.check_front.Goals as goal
use Rattle.type_graph.proofs.Refusals.{only_if_weaker}
use Rattle.table_file.specs.Refusal.{wants_memory}

pub returns-in_err-nodes : goal.returns-in_err-nodes
returns-in_err-nodes c =
    let p = err_from_is_err_and c.from_residual.result c.from_residual.ensures.1 in
    let octets = c.args.octets.now in
    let left = c.read.new.cursor in
    let read = subst (λ o. Reads (spelled_list spelled_node) (Err c.in_err-nodes.field-0.0) o left) c.new-cursor.ensures
    c.in_err-nodes.ensures in
    rw (p.1, p.2) (front_fails octets left _ read)

pub returns-in_err-graph_of : goal.returns-in_err-graph_of
returns-in_err-graph_of c =
    let p = err_from_is_err_and c.from_residual-in_err-graph_of.result c.from_residual-in_err-graph_of.ensures.1 in
    let octets = c.args.octets.now in
    let nodes = c.in_ok-nodes.nodes in
    let left = c.read.new.cursor in
    let read = subst (λ o. Reads (spelled_list spelled_node) (Ok nodes) o left) c.new-cursor.ensures
    c.in_ok-nodes.ensures in
    rw (p.1, p.2) (only_if_weaker (wants_memory c.in_err-graph_of.field-0.0) (IsGraph nodes → ⊥)
    (BeginsWithNoGraph octets) (front_breaks octets nodes left read) c.in_err-graph_of.ensures.refused)
