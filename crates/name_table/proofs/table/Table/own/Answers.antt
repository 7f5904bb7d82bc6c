use Rattle.std.proofs.Common.{refl, sym, ap, ◌∙◌, ◌≡◌, length, arith}
use Rattle.std.proofs.lemmas.List.{length-map}
use Rattle.name_table.specs.Search.{declared_before}
use Rattle.name_table.specs.inner.Records.{key_of}
use Rattle.name_table.proofs.Lookups.{own_found, own_none, own_behind}
use Rattle.name_table.proofs.table.Table.own.Goals as goal

pub returns-in-Some : goal.returns-in-Some
returns-in-Some c =
    let records = c.self.inside.records.items in
    let keys = c.self.inside.keys in
    let same : length keys ≡ length records = ap length c.self.invariant.0.keyed ∙ length-map records key_of in
    let here = c.in-Some.ensures in
    own_found keys records c.args.self.now c.self.view_is c.self.invariant.0.keyed _ c.in-Some.number
    (sym c.number_of.ensures.is ∙ c.in-Some.is) c.args.scope.0 c.args.word.text.now (λ r. refl)
    c.args.token c.index.result.now (omega (arith, same, here.there)) c.index.ensures c.if-index-token.true

pub returns-in_default-2 : goal.returns-in_default-2
returns-in_default-2 c =
    own_none c.self.inside.keys c.self.inside.records.items c.args.self.now c.self.view_is c.self.invariant.0.keyed _
    (sym c.number_of.ensures.is ∙ c.in_default.is) c.args.scope.0 c.args.word.text.now (λ r. refl) c.args.token

pub returns-in_default : goal.returns-in_default
returns-in_default c =
    let records = c.self.inside.records.items in
    let keys = c.self.inside.keys in
    let same : length keys ≡ length records = ap length c.self.invariant.0.keyed ∙ length-map records key_of in
    let here = c.in-Some.ensures in
    own_behind keys records c.args.self.now c.self.view_is c.self.invariant.0.keyed _ c.in-Some.number
    (sym c.number_of.ensures.is ∙ c.in-Some.is) c.args.scope.0 c.args.word.text.now (λ r. refl)
    c.args.token c.index.result.now (omega (arith, same, here.there)) c.index.ensures c.if-index-token.false

pub returns-then-is_bare : goal.returns-then-is_bare
returns-then-is_bare c =
    sym (ap (declared_before c.args.self.now c.args.token) (c.is_bare.ensures c.if-is_bare.true c.args.word.text.now))
