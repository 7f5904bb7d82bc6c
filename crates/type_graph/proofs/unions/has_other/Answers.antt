use Rattle.type_graph.proofs.LabelLaws.{other_where_fewer}
use Rattle.type_graph.proofs.unions.has_other.Goals as goal

pub returns : goal.returns
returns c = other_where_fewer c.args.values.least c.args.values.end c.args.values.count c.args.arms.now c.requires.count
    c.requires.labels c.requires.rising
