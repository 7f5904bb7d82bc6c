use Rattle.std.proofs.Common.{rules, ◌≡◌, ◌<◌, ◌+◌, ◌-◌, ◌/◌, ℕ, List, length, sym, subst}
use Rattle.std.specs.declared.cmp.Ordering.TheVariants.{Less, Equal, Greater}
use Rattle.type_model.specs.Names.{name_at}
use Rattle.type_model.proofs.NameOrder.{is_there, compared, below_more, above_more, nowhere, is_name}
use Rattle.type_model.proofs.names.NameTable.place_of.Goals as goal

pub loop-low-preserved-in-Less : goal.loop-low-preserved-in-Less
loop-low-preserved-in-Less c =
    let names = c.self.inside.names.items in
    let order = c.self.inside.order.items in
    let middle = c.loop-low.low + (c.loop-low.high - c.loop-low.low) / 2 in
    let place = c.index-place.result.now in
    let inside : middle < length order = search rules in
    let is = c.self.invariant.ordered in
    let less = compared names order is c.args.name.now middle place inside (sym c.index-place.ensures)
    c.index.result.now Less c.index.ensures (search rules) in
    record {
      within = c.loop-low.invariant.within;
      below = below_more names order is c.args.name.now middle place inside (sym c.index-place.ensures) less;
      above = c.loop-low.invariant.above;
    }

pub loop-low-preserved : goal.loop-low-preserved
loop-low-preserved c =
    let names = c.self.inside.names.items in
    let order = c.self.inside.order.items in
    let middle = c.loop-low.low + (c.loop-low.high - c.loop-low.low) / 2 in
    let place = c.index-place.result.now in
    let inside : middle < length order = search rules in
    let is = c.self.invariant.ordered in
    let greater = compared names order is c.args.name.now middle place inside (sym c.index-place.ensures)
    c.index.result.now Greater c.index.ensures (search rules) in
    record {
      within = search rules;
      below = c.loop-low.invariant.below;
      above = above_more names order is c.args.name.now middle place inside (sym c.index-place.ensures) greater;
    }

pub returns-in-Equal-clause-found : goal.returns-in-Equal-clause-found
returns-in-Equal-clause-found c =
    let names = c.self.inside.names.items in
    let order = c.self.inside.order.items in
    let middle = c.loop-low.low + (c.loop-low.high - c.loop-low.low) / 2 in
    let place = c.index-place.result.now in
    let inside : middle < length order = search rules in
    let is = c.self.invariant.ordered in
    let there = is_there names order is c.args.name.now middle place inside (sym c.index-place.ensures) in
    let equal = compared names order is c.args.name.now middle place inside (sym c.index-place.ensures)
    c.index.result.now Equal c.index.ensures (search rules) in
    subst (λ (list : List (List ℕ × ℕ)). (place < length list) × (name_at list place ≡ c.args.name.now)) c.self.view_is
    (there, is_name _ _ equal)

pub returns-clause-missing : goal.returns-clause-missing
returns-clause-missing c =
    subst (λ (list : List (List ℕ × ℕ)). (place : ℕ) → place < length list → name_at list place ≡ c.args.name.now → ⊥)
    c.self.view_is
    (nowhere c.self.inside.names.items c.self.inside.order.items c.self.invariant.ordered c.args.name.now c.loop-low.low
    c.loop-low.high c.loop-low-test.false
    c.loop-low.invariant.below c.loop-low.invariant.above)
