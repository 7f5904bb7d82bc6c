use Rattle.std.proofs.Common.{◌-◌, sym, ap, ◌∙◌, arith, option_map}
use Rattle.broker_answers.specs.inner.Places.{place_in}
use Rattle.broker_answers.proofs.Looked.{one_more}
use Rattle.broker_answers.proofs.attribute_keeper.attributes.find_places.Goals as goal

pub loop-place-preserved-in_ok-insert : goal.loop-place-preserved-in_ok-insert
loop-place-preserved-in_ok-insert c = λ name.
    one_more c.args.model.now c.args.getters.now (c.loop-place.place - 1) c.loop-place.place
    (place_in c.loop-place.places.entries name) (place_in c.insert.new.self.entries name) c.in-Some.name.now name
    (c.in_ok-insert.ensures.updates.0 (record { ref_ptr = c.in-Some.name.ref_ptr; now = name }))
    (sym c.gotten.ensures ∙ ap (option_map (λ n. n.now)) c.in-Some.is)
    (c.loop-place.invariant name) (omega arith) (omega arith)
