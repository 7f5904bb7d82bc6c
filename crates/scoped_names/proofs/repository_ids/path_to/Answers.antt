use Rattle.std.proofs.Common.{◌≡◌, ◌∙◌, ◌<◌, ◌≤◌, suc, length, map, ap, arith}
use Rattle.scoped_names.specs.RepositoryIds.{path}
use Rattle.scoped_names.proofs.Paths.{path_step, path_end}
use Rattle.scoped_names.proofs.repository_ids.path_to.Goals as goal

pub loop-outer-preserved : goal.loop-outer-preserved
loop-outer-preserved c =
    let es = c.args.table.now in
    let scope = c.loop-outer.scope.0 in
    let outer = c.in-Some.outer in
    let next : scope ≡ suc outer = omega arith in
    let low : outer < length es = (let le = c.loop-outer.invariant.within in omega arith) in
    let step = path_step es c.len-count.ensures.nested scope outer c.scope-scope.result.0 c.name.result
    c.loop-outer.names.items c.push.new.self.items (path es c.args.entry)
    next low c.scope-scope.ensures c.name.ensures c.in_ok-push.ensures.items c.loop-outer.invariant.whole in
    record { within = step.0; whole = step.1 }

pub returns : goal.returns
returns c =
    let es = c.args.table.now in
    let end : c.loop-outer.scope.0 ≤ 0 = omega arith in
    ap (map (λ n. n.now)) c.reverse.ensures.items
    ∙ path_end es c.loop-outer.scope.0 c.loop-outer.names.items (path es c.args.entry) end c.loop-outer.invariant.whole
