use Rattle.std.proofs.Common.{◌≡◌, ◌∙◌, ◌+◌, ◌++◌, ◌∷◌, [], Some, None, cond, length, position, ap, sym, subst}
use Rattle.std.specs.Prelude.{if◌then◌else◌, is_some}
use Rattle.std.specs.BTreeMap.{is_at}
use Rattle.std.specs.Map.{lookup}
use Rattle.name_table.specs.inner.Keys.{AreNumbered, keys_in}
use Rattle.name_table.proofs.Lookups.{position_same}
use Rattle.name_table.proofs.Numbers.{numbered_push}
use Rattle.name_table.proofs.numbered.Numbered.push.Goals as goal

pub invariant_of-self-2 : goal.invariant_of-self-2
invariant_of-self-2 g c =
    let cmp = g.K.Ord.cmp in
    let key = c.args.key in
    let keys = keys_in c.self.inside.past in
    let numbers = c.self.inside.numbers.entries in
    let fresh : position (is_at (cmp key)) keys ≡ None =
    position_same (is_at (cmp key)) (g.K.PartialEq.eq key) (λ x. sym (g.met.K.Ord.matches_eq key x)) keys
    ∙ ap (position (g.K.PartialEq.eq key)) c.self.view_is ∙ c.requires in
    let none = c.in_ok-insert.ensures.old ∙ c.self.invariant.numbered key ∙ fresh in
    numbered_push cmp g.met.K.Ord.total numbers c.insert.new.self.entries keys c.self.invariant key fresh
    (c.in_ok-insert.ensures.len ∙ ap (λ o. length numbers + (if is_some o then 0 else 1)) none)
    (λ q. c.in_ok-insert.ensures.updates.0 q
    ∙ ap (λ n. cond (is_at (cmp key) q) (Some n) (lookup (is_at (cmp q)) numbers)) c.len-number.ensures.len)
    (keys_in c.of-before.result.value ++ key ∷ []) (ap (λ p. keys_in p ++ key ∷ []) c.of-before.ensures)

pub returns-clause-pushed : goal.returns-clause-pushed
returns-clause-pushed g c =
    ap (λ p. keys_in p ++ c.args.key ∷ []) c.of-before.ensures
    ∙ ap (λ ks. ks ++ c.args.key ∷ []) c.self.view_is

pub invariant_of-self : goal.invariant_of-self
invariant_of-self g c =
    subst (λ es. AreNumbered g.K.Ord.cmp es (keys_in c.self.inside.past)) (sym c.in_err-insert.ensures.err)
    c.self.invariant
