use Rattle.std.proofs.Common.{◌≡◌, ◌∙◌, ◌<◌, length, slice_get, sym, arith}
use Rattle.std.specs.List.{fold}
use Rattle.name_table.specs.Entry.{bases_in}
use Rattle.lowered_operations.proofs.PlacesMore.{above_more, absent}
use Rattle.lowered_operations.specs.Interfaces.{with_once}
use Rattle.lowered_operations.proofs.interfaces.all_bases.Goals.{in-Some+in_ok-insert+in_ok-insert_each, in_default}
use Rattle.lowered_operations.proofs.interfaces.all_bases.Goals as goal

pub loop-place-preserved : goal.loop-place-preserved
loop-place-preserved c =
    let bases = bases_in (slice_get c.args.names.now.entries c.args.entry) in
    let k = c.loop-place.place in
    let lt : k < length bases = omega (arith, c.base_count-place-end.ensures, c.loop-place-test.true) in
    record {
      there = c.loop-place.invariant.there;
      told = elim c.match-base.branch [
        | in-Some+in_ok-insert+in_ok-insert_each w ↦
            let inserted = w.in_ok-insert_each.ensures in
            let is = w.all-is in
            let new : c.match-base.all.keys ≡ fold with_once w.insert.new.self.keys w.all_bases_of.result.now = cc in
            above_more c.args.table.now bases k w.in-Some.base c.loop-place.all.keys w.insert.new.self.keys
            c.match-base.all.keys w.all_bases_of.result.now _
            (sym c.base.ensures ∙ w.in-Some.is) w.in_ok-insert.ensures.keys w.all_bases_of.ensures new
            c.loop-place.invariant.told
        | in_default w ↦ absurd (absent bases k lt (sym c.base.ensures ∙ w.in_default.is))
      ];
    }
