use Rattle.std.proofs.Common.{ap, length, arith}
use Rattle.type_paths.proofs.SiteLaws.{held_bound}
use Rattle.type_paths.proofs.sites.NodeSites.greatest.Goals as goal

pub returns-clause-held : goal.returns-clause-held
returns-clause-held c =
    let items = ap length c.held-at-items.ensures in
    held_bound c.args.self.now c.loop-at.greatest c.loop-at.at-index c.loop-at.invariant.own (omega arith)
    c.loop-at.invariant.held
