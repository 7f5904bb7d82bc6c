use Rattle.std.proofs.Common.{rules, ◌≡◌, ◌+◌, ◌∙◌, ℕ, [], List, refl, sym, ap, subst, arith}
use Rattle.std.proofs.lemmas.Bool.{eqb-true}
use Rattle.broker_answers.specs.Talk.{world}
use Rattle.broker_answers.specs.Servants.{acts}
use Rattle.broker_answers.specs.Objects.{Served}
use Rattle.iiop_broker.specs.Outcomes.{Ends}
use Rattle.broker_loop.specs.inner.Going.{Slotted, WereAsked, numbers, IsGoing, GoesOn}
use Rattle.broker_loop.proofs.Keys.{no_items, no_keys}
use Rattle.broker_loop.proofs.Visits.{none_asked, starts_on, said_of, all_served}
use Rattle.broker_loop.proofs.serving.serve_at_once.Goals as goal

pub loop-init : goal.loop-init
loop-init g c =
    let acting = acts g.S.Servant.says g.S.Servant.after in
    let w = c.args.broker.now.world in
    record {
      looks = search rules;
      filled = search rules;
      most = search rules;
      port = search rules;
      served = refl;
      room = omega arith;
      begun = search rules;
      upto = omega arith;
      few = search rules;
      count = refl;
      at_once = refl;
      asked = subst (λ (ss : List Slotted). WereAsked c.args.idle (g.L.PolledListener.looks c.args.listener.now) ss)
          (sym c.new-slots.ensures.items)
          (none_asked c.args.idle (g.L.PolledListener.looks c.args.listener.now));
      going = subst (λ (xs : List Ends). GoesOn (g.L.PolledListener.ended c.args.listener.now) acting
          c.args.broker.now.served c.args.idle w.servant xs w c.new-slots.result.items) (sym c.requires.fresh)
          (subst (λ (ss : List Slotted). GoesOn (g.L.PolledListener.ended c.args.listener.now) acting
          c.args.broker.now.served c.args.idle w.servant [] w ss) (sym c.new-slots.ensures.items)
          (starts_on acting c.args.broker.now.served c.args.idle w.servant
          (g.L.PolledListener.ended c.args.listener.now) w c.requires.none
          (ap (λ x. world w.servant x) c.requires.alone)));
    }

pub returns-then-is_empty-clause-served : goal.returns-then-is_empty-clause-served
returns-then-is_empty-clause-served g c =
    let acting = acts g.S.Servant.says g.S.Servant.after in
    let before = c.args.broker.now.world.servant in
    let same = c.loop.invariant.served in
    let l = c.admit_next.new.listener in
    let w = c.admit_next.new.broker.world in
    let start = subst (λ (s : Served). GoesOn (g.L.PolledListener.ended c.loop.listener) acting s c.args.idle before
    (g.L.Listener.came c.loop.listener) c.loop.broker.world c.loop.slots.items) (sym same) c.loop.invariant.going in
    let now = subst (λ (s : Served). GoesOn (g.L.PolledListener.ended l) acting s c.args.idle before
    (g.L.Listener.came l) w c.admit_next.new.slots.items) same
    (c.admit_next.ensures.going c.args.idle before start) in
    let zero : c.admit_next.new.slots.len ≡ 0 = eqb-true c.admit_next.new.slots.len 0 (sym c.if-is_empty.ensures) in
    let none = no_items c.admit_next.new.slots.items (omega (arith, zero, c.admit_next.new.slots.ok)) in
    let all = subst (λ (ss : List Slotted). IsGoing acting c.args.broker.now.served c.args.idle before
    (g.L.Listener.came l) now.ended w ss) none now.going in (
      now.ended,
      now.told,
      all_served acting c.args.broker.now.served c.args.idle before (g.L.Listener.came l) now.ended w all
          ((c.steps_are_the_talk.ensures c.args.broker.now.served before w.servant all.said).0
          (said_of acting c.args.broker.now.served c.args.idle before (g.L.Listener.came l) now.ended w [] all)),
    )

pub returns-then-is_empty-clause-alone : goal.returns-then-is_empty-clause-alone
returns-then-is_empty-clause-alone g c =
    let acting = acts g.S.Servant.says g.S.Servant.after in
    let before = c.args.broker.now.world.servant in
    let same = c.loop.invariant.served in
    let start = subst (λ (s : Served). GoesOn (g.L.PolledListener.ended c.loop.listener) acting s c.args.idle before
    (g.L.Listener.came c.loop.listener) c.loop.broker.world c.loop.slots.items) (sym same) c.loop.invariant.going in
    let now = c.admit_next.ensures.going c.args.idle before start in
    let zero : c.admit_next.new.slots.len ≡ 0 = eqb-true c.admit_next.new.slots.len 0 (sym c.if-is_empty.ensures) in
    let none = no_items c.admit_next.new.slots.items (omega (arith, zero, c.admit_next.new.slots.ok)) in
    no_keys c.admit_next.new.broker.world.there (now.going.there ∙ ap (λ (ss : List Slotted). numbers ss) none)

pub sweep-moved-requires-clause-under_way : goal.sweep-moved-requires-clause-under_way
sweep-moved-requires-clause-under_way g c =
    let acting = acts g.S.Servant.says g.S.Servant.after in
    let before = c.args.broker.now.world.servant in
    let start = subst (λ (s : Served). GoesOn (g.L.PolledListener.ended c.loop.listener) acting s c.args.idle before
    (g.L.Listener.came c.loop.listener) c.loop.broker.world c.loop.slots.items) (sym c.loop.invariant.served)
    c.loop.invariant.going in
    record {
      before = before;
      goes = subst (λ (s : Served). GoesOn (g.L.PolledListener.ended c.admit_next.new.listener) acting s c.args.idle
          before (g.L.Listener.came c.admit_next.new.listener) c.admit_next.new.broker.world
          c.admit_next.new.slots.items)
          (sym c.admit_next.ensures.same) (c.admit_next.ensures.going c.args.idle before start);
    }

pub sweep-moved-requires-clause-asked : goal.sweep-moved-requires-clause-asked
sweep-moved-requires-clause-asked g c =
    subst (λ (n : ℕ). WereAsked c.args.idle n c.admit_next.new.slots.items) (sym c.admit_next.ensures.looks)
    (c.admit_next.ensures.asked c.args.idle c.loop.invariant.asked)

pub loop-preserved : goal.loop-preserved
loop-preserved g c =
    let acting = acts g.S.Servant.says g.S.Servant.after in
    let before = c.args.broker.now.world.servant in
    let served = c.sweep-moved.ensures.same ∙ c.admit_next.ensures.same ∙ c.loop.invariant.served in
    let start = subst (λ (s : Served). GoesOn (g.L.PolledListener.ended c.loop.listener) acting s c.args.idle before
    (g.L.Listener.came c.loop.listener) c.loop.broker.world c.loop.slots.items) (sym c.loop.invariant.served)
    c.loop.invariant.going in
    let next = subst (λ (s : Served). GoesOn (g.L.PolledListener.ended c.admit_next.new.listener) acting s c.args.idle
    before (g.L.Listener.came c.admit_next.new.listener) c.admit_next.new.broker.world c.admit_next.new.slots.items)
    (sym c.admit_next.ensures.same) (c.admit_next.ensures.going c.args.idle before start) in
    let swept = c.sweep-moved.ensures.going before next in
    let came : g.L.Listener.came c.look.new.self ≡ g.L.Listener.came c.admit_next.new.listener = search rules in
    let goes : GoesOn (g.L.PolledListener.ended c.look.new.self) acting c.admit_next.new.broker.served c.args.idle
    before (g.L.Listener.came c.admit_next.new.listener) c.sweep-moved.new.broker.world
    c.sweep-moved.new.slots.items =
    record {
      ended = swept.ended;
      told = c.look.ensures.ended swept.ended swept.told;
      going = swept.going;
      in_time =
          swept.in_time;
    } in
    let asked = c.sweep-moved.ensures.in_turn in
    let looks : g.L.PolledListener.looks c.look.new.self ≡ g.L.PolledListener.looks c.admit_next.new.listener + 1 =
    search rules in
    record {
      looks = search rules;
      filled = search rules;
      most = search rules;
      port = search rules;
      served = served;
      room = search rules;
      begun = search rules;
      upto = search rules;
      few = search rules;
      count = search rules;
      at_once = search rules;
      asked = subst (λ (n : ℕ). WereAsked c.args.idle n c.sweep-moved.new.slots.items) (sym looks) asked;
      going = subst (λ (xs : List Ends). GoesOn (g.L.PolledListener.ended c.look.new.self) acting
          c.args.broker.now.served c.args.idle before xs c.sweep-moved.new.broker.world c.sweep-moved.new.slots.items)
          (sym came)
          (subst (λ (s : Served). GoesOn (g.L.PolledListener.ended c.look.new.self) acting s c.args.idle before
          (g.L.Listener.came c.admit_next.new.listener) c.sweep-moved.new.broker.world
          c.sweep-moved.new.slots.items)
          (c.admit_next.ensures.same ∙ c.loop.invariant.served) goes);
    }
