use Rattle.std.proofs.Common.{rules, ◌≡◌, ◌++◌, ◌∷◌, [], ℕ, List, Option, sym, subst}
use Rattle.broker_answers.specs.Talk.{Leaves, World}
use Rattle.broker_answers.specs.Streams.{Stream}
use Rattle.broker_answers.specs.Servants.{acts}
use Rattle.iiop_broker.specs.Listed.{IsThere}
use Rattle.iiop_broker.specs.Outcomes.{Ends}
use Rattle.broker_loop.specs.Telling.{IsNew, Trace}
use Rattle.broker_loop.specs.Visits.{Gone}
use Rattle.broker_loop.specs.declared.listener.End.TheVariants.{GivenUp}
use Rattle.broker_loop.specs.inner.Going.{Slotted, WereAsked, slotted, GoesOn}
use Rattle.broker_loop.specs.inner.Turns.{IsHandedBack}
use Rattle.broker_loop.specs.inner.Waits.{unwaited}
use Rattle.broker_loop.proofs.Visits.{admits, new_asked, refuses, passes, begun_there, still_on}
use Rattle.broker_loop.proofs.serving.admit.Goals as goal

pub returns-in-Ok-None-clause-going : goal.returns-in-Ok-None-clause-going
returns-in-Ok-None-clause-going g c = λ idle before going.
    let same : g.L.Listener.came c.accept.new.self ≡ g.L.Listener.came c.args.listener.now = search rules in
    still_on (acts g.S.Servant.says g.S.Servant.after) c.args.broker.now.served idle before
    (g.L.PolledListener.ended c.args.listener.now)
    (g.L.PolledListener.ended c.accept.new.self) (g.L.Listener.came c.args.listener.now)
    (g.L.Listener.came c.accept.new.self)
    c.args.broker.now.world c.args.slots.now.items same c.accept.ensures.ended going

pub returns-in-Err-NoMemory-clause-going : goal.returns-in-Err-NoMemory-clause-going
returns-in-Err-NoMemory-clause-going g c = λ idle before going.
    let acting = acts g.S.Servant.says g.S.Servant.after in
    let told = g.L.Connection.Connection.told c.closed.result in
    let trace = g.L.Connection.Connection.trace c.closed.result in
    let looks = g.L.PolledListener.looks c.accept.new.self in
    let fresh : IsNew (g.L.PolledListener.looks c.args.listener.now)
    (g.L.Connection.Connection.trace c.in-Ok-Some.connection) = search rules in
    let new : IsNew looks trace =
    subst (λ (n : ℕ). IsNew n trace) (sym c.accept.ensures.looks)
    (subst (λ (t : Option Trace). IsNew (g.L.PolledListener.looks c.args.listener.now) t) (sym c.closed.ensures.trace)
    fresh) in
    let came : g.L.Listener.came c.hand_back.new.self ≡ g.L.Listener.came c.args.listener.now ++ told ∷ [] =
    search rules in
    let same : c.step.new.self.world ≡ c.args.broker.now.world = search rules in
    subst (λ (w : World g.row.S.Denot Stream). GoesOn (g.L.PolledListener.ended c.hand_back.new.self) acting
    c.args.broker.now.served idle before (g.L.Listener.came c.hand_back.new.self) w c.args.slots.now.items)
    (sym same)
    (subst (λ (xs : List Ends). GoesOn (g.L.PolledListener.ended c.hand_back.new.self) acting c.args.broker.now.served
    idle before xs c.args.broker.now.world c.args.slots.now.items) (sym came)
    (refuses acting c.args.broker.now.served idle before (g.L.PolledListener.ended c.args.listener.now)
    (g.L.PolledListener.ended c.accept.new.self) (g.L.PolledListener.ended c.hand_back.new.self)
    (g.L.Listener.came c.args.listener.now) c.args.broker.now.world c.args.slots.now.items c.args.number told looks
    trace c.requires.number new c.accept.ensures.ended
    c.hand_back.ensures.ended going))

pub let_go-requires-clause-known : goal.let_go-requires-clause-known
let_go-requires-clause-known g c =
    let is : c.in-Err-push.error.value.number ≡ c.args.number = search rules in
    let opens = c.in-Ok.ensures.answered in
    subst (λ (n : ℕ). IsThere n c.step.new.self.world.there) (sym is)
    (begun_there c.args.broker.now.world c.step.new.self.world c.args.number c.in-Ok.field-0.items c.requires.absent
    opens)

pub returns-in-Err-push-clause-going : goal.returns-in-Err-push-clause-going
returns-in-Err-push-clause-going g c = λ idle before going.
    let acting = acts g.S.Servant.says g.S.Servant.after in
    let told = g.L.Connection.Connection.told c.in-Ok-Some.connection in
    let trace = g.L.Connection.Connection.trace c.in-Ok-Some.connection in
    let looks = g.L.PolledListener.looks c.accept.new.self in
    let fresh : IsNew (g.L.PolledListener.looks c.args.listener.now) trace = search rules in
    let new : IsNew looks trace = subst (λ (n : ℕ). IsNew n trace) (sym c.accept.ensures.looks) fresh in
    let is : c.in-Err-push.error.value ≡ slotted c.args.number told trace unwaited [] = search rules in
    let same : c.push.new.self.items ≡ c.args.slots.now.items = search rules in
    let came : g.L.Listener.came c.let_go.new.listener ≡ g.L.Listener.came c.args.listener.now ++ told ∷ [] =
    search rules in
    subst (λ (ss : List Slotted). GoesOn (g.L.PolledListener.ended c.let_go.new.listener) acting
    c.args.broker.now.served idle before (g.L.Listener.came c.let_go.new.listener) c.let_go.new.broker.world ss)
    (sym same)
    (subst (λ (xs : List Ends). GoesOn (g.L.PolledListener.ended c.let_go.new.listener) acting c.args.broker.now.served
    idle before xs c.let_go.new.broker.world c.args.slots.now.items) (sym came)
    (passes acting c.args.broker.now.served idle before (g.L.PolledListener.ended c.args.listener.now)
    (g.L.PolledListener.ended c.accept.new.self) (g.L.PolledListener.ended c.let_go.new.listener)
    (g.L.Listener.came c.args.listener.now) c.args.broker.now.world c.step.new.self.world c.let_go.new.broker.world
    c.args.slots.now.items c.args.number told looks trace
    c.in-Ok.field-0.items c.requires.number new c.in-Ok.ensures.answered
    (subst (λ (s : Slotted). Leaves c.step.new.self.world s.number [] c.let_go.new.broker.world) is
    c.let_go.ensures.left)
    c.accept.ensures.ended
    (λ all held. subst (λ (s : Slotted). (to : Gone) × IsHandedBack s GivenUp looks to
    × g.L.PolledListener.ended c.let_go.new.listener (all ++ (s.number, to) ∷ [])) is
    (c.let_go.ensures.ended all held))
    going))

pub returns-in_default-clause-going : goal.returns-in_default-clause-going
returns-in_default-clause-going g c = λ idle before going.
    let acting = acts g.S.Servant.says g.S.Servant.after in
    let told = g.L.Connection.Connection.told c.in-Ok-Some.connection in
    let trace = g.L.Connection.Connection.trace c.in-Ok-Some.connection in
    let looks = g.L.PolledListener.looks c.args.listener.now in
    let fresh : IsNew looks trace = search rules in
    let pushed : c.push.new.self.items ≡ c.args.slots.now.items ++ slotted c.args.number told trace unwaited [] ∷ [] =
    search rules in
    let came : g.L.Listener.came c.accept.new.self ≡ g.L.Listener.came c.args.listener.now ++ told ∷ [] =
    search rules in
    subst (λ (ss : List Slotted). GoesOn (g.L.PolledListener.ended c.accept.new.self) acting c.args.broker.now.served
    idle before (g.L.Listener.came c.accept.new.self) c.step.new.self.world ss) (sym pushed)
    (subst (λ (xs : List Ends). GoesOn (g.L.PolledListener.ended c.accept.new.self) acting c.args.broker.now.served idle
    before xs c.step.new.self.world (c.args.slots.now.items ++ slotted c.args.number told trace unwaited [] ∷ []))
    (sym came)
    (admits acting c.args.broker.now.served idle before (g.L.PolledListener.ended c.args.listener.now)
    (g.L.PolledListener.ended c.accept.new.self)
    (g.L.Listener.came c.args.listener.now) c.args.broker.now.world c.step.new.self.world c.args.slots.now.items
    c.args.number told looks trace
    c.in-Ok.field-0.items c.requires.number fresh c.in-Ok.ensures.answered c.accept.ensures.ended going))

pub returns-in_default-clause-asked : goal.returns-in_default-clause-asked
returns-in_default-clause-asked g c = λ idle asked.
    let told = g.L.Connection.Connection.told c.in-Ok-Some.connection in
    let trace = g.L.Connection.Connection.trace c.in-Ok-Some.connection in
    let looks = g.L.PolledListener.looks c.args.listener.now in
    let fresh : IsNew looks trace = search rules in
    let pushed : c.push.new.self.items ≡ c.args.slots.now.items ++ slotted c.args.number told trace unwaited [] ∷ [] =
    search rules in
    subst (λ (ss : List Slotted). WereAsked idle looks ss) (sym pushed)
    (new_asked idle looks c.args.slots.now.items (slotted c.args.number told trace unwaited []) fresh asked)
