use Rattle.std.proofs.Common.{◌≤◌, IfSome, sym, subst}
use Rattle.name_table.specs.Entries.{latest}
use Rattle.name_table.specs.inner.Records.{entries_in}
use Rattle.name_table.specs.inner.Shortcuts.{IsShort}
use Rattle.name_table.proofs.Ways.{ways_insert}
use Rattle.name_table.proofs.WaysKept.{ways_same}
use Rattle.name_table.proofs.table.Table.shorten.Goals as goal

pub invariant_of-self : goal.invariant_of-self
invariant_of-self c =
    let inside = c.self.inside in (
      c.self.invariant.0,
      ways_same (entries_in inside.records.items) inside.shortcuts.items c.keep_way.new.ways.items
          c.in_err-keep_way.ensures.err c.self.invariant.1,
    )

pub invariant_of-self-2 : goal.invariant_of-self-2
invariant_of-self-2 c =
    let inside = c.self.inside in
    let es = entries_in inside.records.items in
    let way = c.in-Some.way in
    let is : IsShort es c.args.scope.0 way = subst (λ xs. IsShort xs c.args.scope.0 way) (sym c.self.view_is)
    (subst (λ o. IfSome o (IsShort c.args.self.now c.args.scope.0)) c.in-Some.is c.in_ok-way.ensures.short) in
    let low : way.after ≤ latest es = subst (λ xs. way.after ≤ latest xs) (sym c.self.view_is)
    (subst (λ o. IfSome o (λ w. w.after ≤ latest c.args.self.now)) c.in-Some.is c.in_ok-way.ensures.low) in (
      c.self.invariant.0,
      ways_insert es inside.shortcuts.items c.keep_way.new.ways.items c.args.scope.0 way
          c.self.invariant.1 c.in_ok-keep_way.ensures.kept low is,
    )
