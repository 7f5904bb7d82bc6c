use Rattle.std.proofs.Common.{◌≡◌, ◌∙◌, ◌++◌, ◌∷◌, [], length, sym, ap, arith}
use Rattle.name_table.specs.declared.entry.Meaning.{Meaning}
use Rattle.name_table.specs.Entry.{Entry, named}
use Rattle.name_table.specs.Entries.{entry_declared, latest}
use Rattle.name_table.specs.Features.{as_feature, features_of, is_feature, no_token}
use Rattle.name_table.specs.Search.{word}
use Rattle.name_table.proofs.Latest.{latest_features}
use Rattle.scoped_names.proofs.FeatureTables.{are_apart, as_many, features_more, late_either, named_features}
use Rattle.scoped_names.proofs.tables.Tables.add.Goals as goal

pub add-requires-clause-scope : goal.add-requires-clause-scope
add-requires-clause-scope c =
    let inside = c.self.inside in
    let kept = are_apart inside.all inside.are_apart inside.features c.if-self.true c.self.invariant in
    let many = ap length kept ∙ as_many c.self.inside.all ∙ ap length c.self.view_is in
    let low = c.requires.scope in
    omega (arith, many, low)

pub add-requires-clause-new : goal.add-requires-clause-new
add-requires-clause-new c =
    let inside = c.self.inside in
    let kept = are_apart inside.all inside.are_apart inside.features c.if-self.true c.self.invariant in
    let scope = c.args.scope.0 in
    let name = word c.args.identifier in
    ap (λ es. named es scope name) kept
    ∙ named_features c.self.inside.all scope name ∙ ap (λ es. named es scope name) c.self.view_is ∙ c.requires.new

pub add-requires-clause-late : goal.add-requires-clause-late
add-requires-clause-late c =
    let inside = c.self.inside in
    let kept = are_apart inside.all inside.are_apart inside.features c.if-self.true c.self.invariant in
    let table = inside.all in
    let m = c.args.meaning in
    let same : latest inside.features ≡ latest table = ap latest kept ∙ latest_features table in
    let whole = ap latest c.self.view_is in
    let low = c.requires.late in
    let token = ap (λ m. m.token) c.as_feature-feature.ensures in
    let late = late_either (is_feature m.kind) (latest table) m.token no_token (omega (arith, whole, low))
    (omega (arith, whole, low)) in
    omega (arith, same, token, late)
