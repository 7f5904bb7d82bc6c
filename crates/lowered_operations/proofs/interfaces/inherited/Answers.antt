use Rattle.std.proofs.Common.{◌≡◌, ◌∙◌, ◌<◌, length, slice_get, sym, arith}
use Rattle.std.specs.List.{fold}
use Rattle.name_table.specs.Entry.{bases_in}
use Rattle.lowered_operations.proofs.PlacesMore.{absent, base_more}
use Rattle.lowered_operations.specs.Interfaces.{with_once}
use Rattle.lowered_operations.proofs.interfaces.inherited.Goals.{in-Some+in_ok-insert_each, in_default}
use Rattle.lowered_operations.proofs.interfaces.inherited.Goals as goal

pub loop-k-preserved : goal.loop-k-preserved
loop-k-preserved c =
    let bases = bases_in (slice_get c.args.names.now.entries c.args.entry) in
    let k = c.loop-k.k in
    let lt : k < length bases = omega (arith, c.base_count-k-end.ensures, c.loop-k-test.true) in
    record {
      there = c.loop-k.invariant.there;
      told = elim c.match-base.branch [
        | in-Some+in_ok-insert_each w ↦
            let inserted = w.in_ok-insert_each.ensures in
            let is = w.places-is in
            let new : c.match-base.places.keys ≡ fold with_once c.loop-k.places.keys w.operations_of.result.now = cc in
            base_more c.args.table.now bases k w.in-Some.base c.loop-k.places.keys c.match-base.places.keys
            w.operations_of.result.now _
            (sym c.base.ensures ∙ w.in-Some.is) w.operations_of.ensures new c.loop-k.invariant.told
        | in_default w ↦ absurd (absent bases k lt (sym c.base.ensures ∙ w.in_default.is))
      ];
    }
