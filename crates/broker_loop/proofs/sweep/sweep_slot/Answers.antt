use Rattle.std.proofs.Common.{rules, ◌≡◌, ◌∙◌, ◌+◌, ◌++◌, ℕ, true, List, [], ◌∷◌, take, drop, refl, sym, subst, slice_set}
use Rattle.broker_answers.specs.Servants.{acts}
use Rattle.broker_answers.specs.Talk.{Leaves}
use Rattle.iiop_broker.specs.Listed.{IsThere}
use Rattle.broker_loop.specs.declared.slot.Course.{Course}
use Rattle.broker_loop.specs.declared.slot.Course.TheVariants.{Over}
use Rattle.broker_loop.specs.Telling.{IsAsked}
use Rattle.broker_loop.specs.Visits.{Gone}
use Rattle.broker_loop.specs.inner.Going.{Slotted, IsOn, GoesOn, WereAsked}
use Rattle.broker_loop.specs.inner.Turns.{IsHandedBack}
use Rattle.broker_loop.proofs.Items.{set_item}
use Rattle.broker_loop.proofs.Visits.{asked_at, gone_at, gone_turned, gone_unturned, place_on, served_at, still_on, there_after, there_at, turned_asked, unturned_asked}
use Rattle.broker_loop.proofs.sweep.sweep_slot.Goals as goal

pub slot_turn-course-requires-clause-there : goal.slot_turn-course-requires-clause-there
slot_turn-course-requires-clause-there g c =
    let u = c.requires.under_way in
    there_at (acts g.S.Servant.says g.S.Servant.after) c.args.broker.now.served c.args.idle u.before
    (g.L.PolledListener.ended c.args.listener.now)
    (g.L.Listener.came c.args.listener.now) c.args.broker.now.world c.args.slots.now.items c.args.at
    c.index_mut.result.now
    c.requires.there c.index_mut.ensures.value u.goes

pub let_go-requires-clause-known : goal.let_go-requires-clause-known
let_go-requires-clause-known g c =
    let u = c.requires.under_way in
    let items = c.args.slots.now.items in
    let s = c.index_mut.result.now in
    let t = c.slot_turn-course.new.slot in
    let is : c.remove-slot.result ≡ t = c.remove-slot.ensures.value
    ∙ set_item items c.args.at t c.remove-slot.result c.requires.there in
    subst (λ (x : Slotted). IsThere x.number c.slot_turn-course.new.broker.world.there) (sym is)
    (there_after (acts g.S.Servant.says g.S.Servant.after) c.args.broker.now.served c.args.idle u.before
    (g.L.PolledListener.ended c.args.listener.now)
    (g.L.Listener.came c.args.listener.now) c.args.broker.now.world c.slot_turn-course.new.broker.world items
    c.args.at s t
    c.slot_turn-course.result
    c.requires.there c.index_mut.ensures.value
    (λ came ended front back h k. c.slot_turn-course.ensures.on u.before came ended front back h k) u.goes)

pub returns-in-Over-clause-going : goal.returns-in-Over-clause-going
returns-in-Over-clause-going g c = λ before going.
    let acting = acts g.S.Servant.says g.S.Servant.after in
    let items = c.args.slots.now.items in
    let s = c.index_mut.result.now in
    let t = c.slot_turn-course.new.slot in
    let came = g.L.Listener.came c.args.listener.now in
    let looks = g.L.PolledListener.looks c.args.listener.now in
    let now = g.L.PolledListener.looks c.slot_turn-course.new.listener in
    let over : c.slot_turn-course.result ≡ Over c.in-Over.end = search rules in
    let is : c.remove-slot.result ≡ t = c.remove-slot.ensures.value
    ∙ set_item items c.args.at t c.remove-slot.result c.requires.there in
    subst (λ (xs : List Slotted). GoesOn (g.L.PolledListener.ended c.let_go.new.listener) acting
    c.args.broker.now.served c.args.idle before came c.let_go.new.broker.world xs)
    (sym {A = List Slotted} c.remove-slot.ensures.items)
    (gone_at acting c.args.broker.now.served c.args.idle before (g.L.PolledListener.ended c.args.listener.now)
    (g.L.PolledListener.ended c.let_go.new.listener) came
    c.args.broker.now.world c.slot_turn-course.new.broker.world c.let_go.new.broker.world items c.args.at s t
    c.in-Over.end
    now c.requires.there c.index_mut.ensures.value
    (λ came' ended front back h k.
    subst (λ (v : Course). IsOn acting c.args.broker.now.served c.args.idle before came' ended
    c.slot_turn-course.new.broker.world true front t back v) over
    (c.slot_turn-course.ensures.on before came' ended front back h k))
    (subst (λ (x : Slotted). Leaves c.slot_turn-course.new.broker.world x.number [] c.let_go.new.broker.world) is
    c.let_go.ensures.left)
    (λ some. subst (λ (n : ℕ). IsAsked n t.trace) (sym c.slot_turn-course.ensures.stays.looks_are)
    (c.slot_turn-course.ensures.asked
    (asked_at c.args.idle looks items c.args.at s c.requires.there c.index_mut.ensures.value c.requires.asked
    some)))
    (λ all told. subst (λ (x : Slotted). (to : Gone) × IsHandedBack x c.in-Over.end now to
    × g.L.PolledListener.ended c.let_go.new.listener (all ++ (x.number, to) ∷ [])) is
    (c.let_go.ensures.ended all (c.slot_turn-course.ensures.stays.ended all told)))
    going)

pub returns-in-Over-clause-in_turn : goal.returns-in-Over-clause-in_turn
returns-in-Over-clause-in_turn g c =
    let looks = g.L.PolledListener.looks c.args.listener.now in
    subst (λ (xs : List Slotted). WereAsked c.args.idle (looks + 1) (take c.args.at xs))
    (sym {A = List Slotted} c.remove-slot.ensures.items)
    (gone_turned c.args.idle (looks + 1) c.args.slots.now.items c.args.at c.slot_turn-course.new.slot c.requires.there
    c.requires.in_turn)

pub returns-in-Over-clause-asked : goal.returns-in-Over-clause-asked
returns-in-Over-clause-asked g c =
    let looks = g.L.PolledListener.looks c.args.listener.now in
    subst (λ (xs : List Slotted). WereAsked c.args.idle looks (drop c.args.at xs))
    (sym {A = List Slotted} c.remove-slot.ensures.items)
    (gone_unturned c.args.idle looks c.args.slots.now.items c.args.at c.index_mut.result.now c.slot_turn-course.new.slot
    c.requires.there
    c.index_mut.ensures.value c.requires.asked)

pub returns-in_default-clause-going : goal.returns-in_default-clause-going
returns-in_default-clause-going g c = λ before going.
    let acting = acts g.S.Servant.says g.S.Servant.after in
    let came = g.L.Listener.came c.args.listener.now in
    still_on acting c.args.broker.now.served c.args.idle before (g.L.PolledListener.ended c.args.listener.now)
    (g.L.PolledListener.ended c.slot_turn-course.new.listener) came came
    c.slot_turn-course.new.broker.world (slice_set c.args.slots.now.items c.args.at c.slot_turn-course.new.slot) refl
    c.slot_turn-course.ensures.stays.ended
    (served_at acting c.args.broker.now.served c.args.idle before (g.L.PolledListener.ended c.args.listener.now)
    came c.args.broker.now.world c.slot_turn-course.new.broker.world c.args.slots.now.items c.args.at
    c.index_mut.result.now c.slot_turn-course.new.slot c.slot_turn-course.result c.requires.there
    c.index_mut.ensures.value
    c.in_default.not-Over
    (λ came ended front back h k. c.slot_turn-course.ensures.on before came ended front back h k) going)

pub returns-in_default-clause-in_turn : goal.returns-in_default-clause-in_turn
returns-in_default-clause-in_turn g c =
    let looks = g.L.PolledListener.looks c.args.listener.now in
    let items = c.args.slots.now.items in
    let t = c.slot_turn-course.new.slot in
    subst (λ (n : ℕ). WereAsked c.args.idle (looks + 1) (take n (slice_set items c.args.at t)))
    (sym (place_on c.slot_turn-course.result c.args.at c.in_default.not-Over))
    (turned_asked c.args.idle (looks + 1) items c.args.at t c.requires.there c.requires.in_turn
    (λ some. c.slot_turn-course.ensures.in_turn some c.in_default.not-Over
    (asked_at c.args.idle looks items c.args.at c.index_mut.result.now c.requires.there c.index_mut.ensures.value
    c.requires.asked some)))

pub returns-in_default-clause-asked : goal.returns-in_default-clause-asked
returns-in_default-clause-asked g c =
    let looks = g.L.PolledListener.looks c.args.listener.now in
    let items = c.args.slots.now.items in
    let t = c.slot_turn-course.new.slot in
    subst (λ (n : ℕ). WereAsked c.args.idle looks (drop n (slice_set items c.args.at t)))
    (sym (place_on c.slot_turn-course.result c.args.at c.in_default.not-Over))
    (unturned_asked c.args.idle looks items c.args.at c.index_mut.result.now t c.requires.there
    c.index_mut.ensures.value c.requires.asked)
