use Rattle.std.proofs.Common.{◌∙◌, None, Some, nat_eq, refl, ap, arith}
use Rattle.std.specs.Prelude.{if◌then◌else◌}
use Rattle.name_table.specs.inner.Shortcuts.{way_at, way_in}
use Rattle.name_table.proofs.Stability.{get_push}
use Rattle.name_table.proofs.WaysKept.{on_err, ways_set}
use Rattle.name_table.proofs.shortcuts.keep_way.Goals as goal

pub loop-ways-preserved : goal.loop-ways-preserved
loop-ways-preserved c = λ q.
    ap (λ ws. way_at ws q) c.in_ok-push.ensures.items ∙ get_push way_in c.loop-ways.ways.items None q refl
    ∙ c.loop-ways.invariant q

pub returns-clause-kept : goal.returns-clause-kept
returns-clause-kept c = λ q.
    ways_set c.loop-ways.ways.items c.args.scope.0 (Some c.args.way) (omega arith) q
    ∙ ap (λ o. if nat_eq c.args.scope.0 q then Some c.args.way else o) (c.loop-ways.invariant q)

pub returns-in_err-push-clause-err : goal.returns-in_err-push-clause-err
returns-in_err-push-clause-err c =
    on_err c.from_residual.result (λ q. ap (λ ws. way_at ws q) c.in_err-push.ensures.items ∙ c.loop-ways.invariant q)
