use Rattle.std.proofs.Common.{◌≡◌, ◌+◌, ◌-◌, Bool, List, subst, arith, rules}
use Rattle.std.specs.Cmp.{booleans_Decides}
use Rattle.std.proofs.lemmas.Slice.Eq.{slice_eq-Decides}
use Rattle.type_graph.specs.inner.Levels.{IsLevel, IsLevelAbove}
use Rattle.type_graph.proofs.LevelLaws.{level_none, level_more, level_stays}
use Rattle.type_graph.proofs.rules.shallow.Goals as goal

pub loop-init : goal.loop-init
loop-init c = level_none c.args.nodes.now c.in_ok-table.table.items (search rules)

pub loop-preserved : goal.loop-preserved
loop-preserved c =
    let above = subst (λ (table : List Bool). IsLevelAbove c.args.nodes.now table c.level_above.new.next.items)
    c.deref.ensures.value c.in_ok-level_above.ensures in
    rw c.swap.ensures.x_after
    (level_more c.loop.counter c.args.nodes.now c.loop.table.items _ c.requires c.loop.invariant above)

pub returns-then-eq : goal.returns-then-eq
returns-then-eq c =
    let above = subst (λ (table : List Bool). IsLevelAbove c.args.nodes.now table c.level_above.new.next.items)
    c.deref.ensures.value c.in_ok-level_above.ensures in
    let same : c.level_above.new.next.items ≡ c.loop.table.items =
    (slice_eq-Decides booleans_Decides c.level_above.new.next.items c.loop.table.items c.eq.result c.eq.ensures).0
    c.if-eq.true in
    let again = subst (IsLevelAbove c.args.nodes.now c.loop.table.items) same above in
    let e : c.loop.counter + (c.args.levels - c.loop.counter) ≡ c.args.levels = omega arith in
    subst (λ n. IsLevel n c.args.nodes.now c.loop.table.items) e
    (level_stays c.loop.counter (c.args.levels - c.loop.counter) c.args.nodes.now c.loop.table.items c.requires
    c.loop.invariant again)
