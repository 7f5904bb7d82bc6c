use Rattle.std.proofs.Common.{◌≡◌, ◌∙◌, length, ap, subst, arith}
use Rattle.name_table.specs.Entries.{latest}
use Rattle.name_table.specs.Features.{HaveNoBases}
use Rattle.name_table.proofs.Bare.{features_differ_none}
use Rattle.name_table.proofs.Latest.{latest_features}
use Rattle.scoped_names.proofs.FeatureTables.{are_apart, are_bare, as_many}
use Rattle.scoped_names.proofs.tables.Tables.differ.Goals as goal

pub differ-requires-clause-placed : goal.differ-requires-clause-placed
differ-requires-clause-placed c =
    let inside = c.self.inside in
    let kept = are_apart inside.all inside.are_apart inside.features c.if-not-self.false c.self.invariant in
    let many = ap length kept ∙ as_many c.self.inside.all ∙ ap length c.self.view_is in
    let low = c.requires.placed in
    omega (arith, many, low)

pub differ-requires-clause-late : goal.differ-requires-clause-late
differ-requires-clause-late c =
    let inside = c.self.inside in
    let kept = are_apart inside.all inside.are_apart inside.features c.if-not-self.false c.self.invariant in
    let same : latest c.self.inside.features ≡ latest c.self.inside.all =
    ap latest kept ∙ latest_features c.self.inside.all in
    let whole = ap latest c.self.view_is in
    let late = c.requires.late in
    omega (arith, same, whole, late)

pub returns-then-not-self : goal.returns-then-not-self
returns-then-not-self c =
    let inside = c.self.inside in
    let bare = subst HaveNoBases c.self.view_is
    (are_bare inside.all inside.are_apart inside.features c.if-not-self.true c.self.invariant) in
    features_differ_none c.args.self.now bare c.args.inner.0 c.args.base
