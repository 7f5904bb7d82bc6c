use Rattle.std.proofs.Common.{◌≡◌, ◌∙◌, length, sym, ap, subst, arith}
use Rattle.name_table.specs.Entries.{latest, with_base}
use Rattle.name_table.specs.Features.{features_of}
use Rattle.name_table.proofs.Latest.{latest_features}
use Rattle.scoped_names.specs.inner.StateKept.{AreFeatures}
use Rattle.scoped_names.proofs.FeatureTables.{as_many, features_based}
use Rattle.scoped_names.proofs.tables.Tables.add_base.Goals as goal

pub add_base-requires-clause-inner : goal.add_base-requires-clause-inner
add_base-requires-clause-inner c =
    let kept = c.in_ok-keep_apart.ensures.kept in
    let many = ap length (c.shorten.ensures ∙ kept) ∙ as_many c.self.inside.all ∙ ap length c.self.view_is in
    let low = c.requires.inner in
    omega (arith, many, low)

pub add_base-requires-clause-placed : goal.add_base-requires-clause-placed
add_base-requires-clause-placed c =
    let kept = c.in_ok-keep_apart.ensures.kept in
    let many = ap length (c.shorten.ensures ∙ kept) ∙ as_many c.self.inside.all ∙ ap length c.self.view_is in
    let low = c.requires.placed in
    omega (arith, many, low)

pub add_base-requires-clause-late : goal.add_base-requires-clause-late
add_base-requires-clause-late c =
    let table = c.self.inside.all in
    let kept = c.in_ok-keep_apart.ensures.kept in
    let same : latest c.shorten.new.self ≡ latest table = ap latest (c.shorten.ensures ∙ kept)
    ∙ latest_features table in
    let whole = ap latest c.self.view_is in
    let late = c.requires.late in
    omega (arith, same, whole, late)

pub invariant_of-self-in-Ok : goal.invariant_of-self-in-Ok
invariant_of-self-in-Ok c =
    let inner = c.args.inner.0 in
    let base = c.args.base in
    let more = c.in-Ok.ensures.told ∙ ap (λ es. with_base es inner base) c.shorten-2.ensures in
    subst (λ b. AreFeatures c.add_base-2.new.self b c.add_base.new.self) (sym c.in_ok-keep_apart.ensures.apart) (
    c.in_ok-add_base.ensures.told
    ∙ ap (λ es. with_base es inner base) (c.shorten.ensures ∙ c.in_ok-keep_apart.ensures.kept)
    ∙ sym (features_based c.self.inside.all inner base)
    ∙ sym (ap features_of more)
    )
