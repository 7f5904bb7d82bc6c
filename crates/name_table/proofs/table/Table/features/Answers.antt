use Rattle.std.proofs.Common.{◌≡◌, ◌∙◌, ◌++◌, ◌∷◌, [], sym, ap, take, arith}
use Rattle.name_table.specs.Entry.{Entry, named}
use Rattle.name_table.specs.Entries.{latest}
use Rattle.name_table.specs.Features.{as_feature, features_of}
use Rattle.name_table.specs.inner.Records.{entry_of}
use Rattle.name_table.proofs.Bare.{bare_at, bare_take, feature_new, features_take, latest_bare}
use Rattle.name_table.proofs.Latest.{latest_features}
use Rattle.name_table.proofs.table.Table.features.Goals as goal

pub push-requires-clause-new : goal.push-requires-clause-new
push-requires-clause-new c =
    let es = c.args.self.now in
    let n = c.loop-number.number in
    let f = c.as_feature-feature.result in
    ap (λ xs. named xs f.key.scope.0 f.key.word.text.now) c.loop-number.invariant
    ∙ ap (λ x. named (features_of (take n es)) x.scope x.name) c.as_feature-feature.ensures.is
    ∙ feature_new es n (entry_of c.record.result.now) c.len-number-end.ensures.distinct c.record.ensures

pub push-requires-clause-late : goal.push-requires-clause-late
push-requires-clause-late c =
    let es = c.args.self.now in
    let first = take c.loop-number.number es in
    let none : latest c.loop-number.features ≡ 0 =
    ap latest c.loop-number.invariant ∙ latest_features first
    ∙ latest_bare first (bare_take es c.loop-number.number c.requires) in
    omega (arith, none)

pub loop-number-preserved : goal.loop-number-preserved
loop-number-preserved c =
    let es = c.args.self.now in
    let n = c.loop-number.number in
    let f = entry_of c.as_feature-feature.result in
    let e = entry_of c.record.result.now in
    c.in_ok-push.ensures.added
    ∙ ap (λ xs. xs ++ f ∷ []) c.loop-number.invariant
    ∙ ap (λ x. features_of (take n es) ++ x ∷ []) (
    c.as_feature-feature.ensures.is
    ∙ ap (λ bs. let x : Entry = record (as_feature e) { bases = bs } in x)
    (sym (bare_at es n e c.requires c.record.ensures))
    )
    ∙ sym (features_take es n e c.record.ensures)
