use Rattle.std.proofs.Common.{◌≡◌, subst, rules}
use Rattle.type_graph.specs.inner.Shapes.{IsRun}
use Rattle.type_graph.proofs.ShapeLaws.{two_widths, mixed_last}
use Rattle.type_graph.proofs.shape.joined_words.Goals as goal

pub returns-in-Words : goal.returns-in-Words
returns-in-Words c = λ leaves more a b.
    let apart : c.in-Words.other ≡ c.args.width → ⊥ = search rules in
    two_widths c.args.width c.in-Words.other c.args.n c.in-Words.field-1 leaves more apart a
    (subst (IsRun more) c.in-Words.is b)

pub returns-in-Mixed : goal.returns-in-Mixed
returns-in-Mixed c = λ leaves more a b. mixed_last leaves more (subst (IsRun more) c.in-Mixed.is b)
