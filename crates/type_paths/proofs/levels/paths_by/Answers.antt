use Rattle.std.proofs.Common.{◌≡◌, ◌≤◌, Bool, List, true, false, subst, sym, ◌∙◌, arith}
use Rattle.std.specs.Cmp.{booleans_Decides}
use Rattle.std.proofs.lemmas.Slice.Eq.{slice_eq-Decides}
use Rattle.type_paths.specs.Levels.{IsLevelAbove}
use Rattle.type_paths.proofs.TableLaws.{count_limited, count_none, level_first, level_more, level_loses, level_ends, level_ends_endless}
use Rattle.type_paths.proofs.levels.paths_by.Goals as goal

pub loop-init : goal.loop-init
loop-init c =
    let types = c.args.types.now in
    let above = subst (λ (table : List Bool). IsLevelAbove types c.args.token table true c.level_above.new.next.items)
    (c.deref.ensures.value ∙ c.new-table.ensures.items) c.in_ok-level_above.ensures in
    let most = count_limited c.level_above.new.next.items in
    let long = above.long in
    record { level = level_first types c.args.token c.level_above.new.next.items above; spare = omega arith }

pub loop-preserved : goal.loop-preserved
loop-preserved c =
    let types = c.args.types.now in
    let next = c.level_above-in-loop.new.next.items in
    let told = subst (λ (table : List Bool). IsLevelAbove types c.args.token table false next)
    c.deref-in-loop.ensures.value c.in_ok-level_above-2.ensures in
    let above = rw c.swap.ensures.x_after at told in
    let other : next ≡ c.loop.next.items → ⊥ = λ e.
    let same : c.eq.result ≡ true =
    (slice_eq-Decides booleans_Decides next _ c.eq.result c.eq.ensures).1 (rw c.swap.ensures.x_after e) in
    let bad : true ≡ false = sym same ∙ c.if-eq.false in
    absurd cc in
    let less = level_loses types c.args.token c.loop.counter c.loop.next.items next c.loop.invariant.level above other
    in
    let spare = c.loop.invariant.spare in
    record {
      level = level_more types c.args.token c.loop.counter c.loop.next.items next c.loop.invariant.level above;
      spare = omega arith;
    }

pub returns-then-eq-clause-level : goal.returns-then-eq-clause-level
returns-then-eq-clause-level c =
    let types = c.args.types.now in
    let next = c.level_above-in-loop.new.next.items in
    let told = subst (λ (table : List Bool). IsLevelAbove types c.args.token table false next)
    c.deref-in-loop.ensures.value c.in_ok-level_above-2.ensures in
    let above = rw c.swap.ensures.x_after at told in
    let found = (slice_eq-Decides booleans_Decides next _ c.eq.result c.eq.ensures).0 c.if-eq.true in
    let same : next ≡ c.loop.next.items = rw c.swap.ensures.x_after at found in
    let le : c.loop.counter ≤ c.args.steps = omega arith in
    level_ends types c.args.token c.loop.counter c.args.steps c.loop.next.items next same le c.loop.invariant.level
    above

pub returns-then-eq-clause-endless : goal.returns-then-eq-clause-endless
returns-then-eq-clause-endless c = λ few.
    let types = c.args.types.now in
    let next = c.level_above-in-loop.new.next.items in
    let told = subst (λ (table : List Bool). IsLevelAbove types c.args.token table false next)
    c.deref-in-loop.ensures.value c.in_ok-level_above-2.ensures in
    let above = rw c.swap.ensures.x_after at told in
    let found = (slice_eq-Decides booleans_Decides next _ c.eq.result c.eq.ensures).0 c.if-eq.true in
    let same : next ≡ c.loop.next.items = rw c.swap.ensures.x_after at found in
    level_ends_endless types c.args.token c.loop.counter c.loop.next.items next same c.loop.invariant.level above

pub returns-clause-endless : goal.returns-clause-endless
returns-clause-endless c = λ few node h.
    let spare = c.loop.invariant.spare in
    absurd (count_none c.loop.next.items node (omega arith) h)
