use Rattle.std.proofs.Common.{◌∙◌, length, ap, sym, subst}
use Rattle.std.specs.List.{IsDistinct}
use Rattle.std.specs.Ordering.{eq_by_cmp}
use Rattle.name_table.specs.inner.Keys.{keys_in}
use Rattle.name_table.proofs.Numbers.{distinct_by}
use Rattle.name_table.proofs.numbered.Numbered.len.Goals as goal

pub returns-clause-len : goal.returns-clause-len
returns-clause-len g c = c.len.ensures.len ∙ c.self.invariant.counted ∙ ap length c.self.view_is

pub returns-clause-distinct : goal.returns-clause-distinct
returns-clause-distinct g c =
    subst (IsDistinct _) c.self.view_is
    (distinct_by (eq_by_cmp g.K.Ord.cmp) _ (λ x y. sym (g.met.K.Ord.matches_eq x y)) (keys_in c.self.inside.past)
    c.self.invariant.distinct)
