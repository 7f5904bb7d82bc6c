use Rattle.std.proofs.Common.{◌≡◌, ◌<◌, List, length, Some, None, map, get_or, ap, ◌∙◌, subst, rules}
use Rattle.std.proofs.lemmas.Iterator.Adapters.{YieldsList-from_vec}
use Rattle.std.proofs.lemmas.Iterator.Consumers.{YieldsList-turn}
use Rattle.idl_value.specs.declared.value.Value.{Value}
use Rattle.value_text.proofs.Slots.{none_missing}
use Rattle.value_text.proofs.Refusals.{refuses}
use Rattle.value_text.proofs.reading.values_of_slots.Goals as goal

pub returns-in_default-clause-refused : goal.returns-in_default-clause-refused
returns-in_default-clause-refused c =
    let slots = c.args.slots.items in
    let slot = c.in-Some.slot in
    let turn = YieldsList-turn (YieldsList-from_vec slots (search rules) (search rules)) c.loop-slot.yielded _
    c.loop-slot.yielded_by c.next.result c.next.new.self slot c.in-Some.is c.next.ensures.steps in
    let none : slot ≡ None = search rules in
    let said : (values : List Value) → slots ≡ map Some values → ⊥ = λ values all.
    none_missing values (length c.loop-slot.yielded) slot
    (subst (λ l. length c.loop-slot.yielded < length l) all turn.0)
    (turn.1 ∙ ap (λ l. get_or l (length c.loop-slot.yielded) slot) all) none in
    refuses _ said
