use Rattle.std.proofs.Common.{◌≡◌, ◌∙◌, ◌≤◌, length, position, ap, sym, arith}
use Rattle.std.specs.BTreeMap.{is_at}
use Rattle.name_table.specs.inner.Keys.{keys_in}
use Rattle.name_table.proofs.Lookups.{position_same}
use Rattle.name_table.proofs.Numbers.{number_below}
use Rattle.name_table.proofs.numbered.Numbered.number_of.Goals as goal
use Rattle.name_table.proofs.numbered.Numbered.number_of.Goals.{After-copied}

found : (g : _) (c : After-copied g) → c.copied.result ≡ position (g.K.PartialEq.eq c.args.key.now) c.args.self.now
found g c =
    let key = c.args.key.now in
    c.copied.ensures ∙ c.get.ensures.value ∙ c.self.invariant.numbered key
    ∙ position_same (is_at (g.K.Ord.cmp key)) (g.K.PartialEq.eq key) (λ x. sym (g.met.K.Ord.matches_eq key x))
    (keys_in c.self.inside.past)
    ∙ ap (position (g.K.PartialEq.eq key)) c.self.view_is

pub returns-clause-is : goal.returns-clause-is
returns-clause-is g c = found g c

pub returns-clause-there : goal.returns-clause-there
returns-clause-there g c =
    let le : length c.args.self.now ≤ length c.args.self.now = omega arith in
    number_below (g.K.PartialEq.eq c.args.key.now) c.args.self.now (length c.args.self.now) c.copied.result (found g c)
    le

pub returns-clause-small : goal.returns-clause-small
returns-clause-small g c =
    let count = c.len-count.ensures.len in
    let even = c.self.invariant.counted in
    let same = ap length c.self.view_is in
    number_below (g.K.PartialEq.eq c.args.key.now) c.args.self.now _ c.copied.result (found g c)
    (omega (arith, c.len-count.ensures.small))
