use Rattle.std.proofs.Common.{◌∙◌, ◌+◌, ◌++◌, ap, inl, inr}
use Rattle.broker_sockets.proofs.Octets.{consumes_more}
use Rattle.broker_sockets.proofs.partings.waiting.part.Goals as goal

pub returns-in-Still : goal.returns-in-Still
returns-in-Still g c =
    let parted = g.P.Parting.parted in
    let one = c.in-Still.ensures.stepped.0 in
    let before = c.loop.invariant.read in
    record {
      octets = before.0 ++ one.octets;
      shut = one.shut ∙ c.loop.invariant.shut;
      read = consumes_more (parted c.args.connection.now).left (parted c.loop.connection).left
          (parted c.step.new.connection).left
          before.0 one.octets before.1 one.read;
      over = inr c.in-Still.ensures.stepped.1;
    }

pub returns-in-Over : goal.returns-in-Over
returns-in-Over g c =
    let parted = g.P.Parting.parted in
    let one = c.in-Over.ensures.stepped.0 in
    let before = c.loop.invariant.read in
    record {
      octets = before.0 ++ one.octets;
      shut = one.shut ∙ c.loop.invariant.shut;
      read = consumes_more (parted c.args.connection.now).left (parted c.loop.connection).left
          (parted c.step.new.connection).left
          before.0 one.octets before.1 one.read;
      over = inl c.in-Over.ensures.stepped.1;
    }

pub loop-preserved : goal.loop-preserved
loop-preserved g c =
    let parted = g.P.Parting.parted in
    let one = c.in-Moved.ensures.stepped.0 in
    let before = c.loop.invariant.read in
    record {
      shut = one.shut ∙ c.loop.invariant.shut;
      room = c.in-Moved.ensures.room ∙ c.loop.invariant.room;
      skips = c.in-Moved.ensures.stepped.1 ∙ ap (λ n. n + 1) c.loop.invariant.skips;
      read = (
        before.0 ++ one.octets,
        consumes_more (parted c.args.connection.now).left (parted c.loop.connection).left
            (parted c.step.new.connection).left before.0 one.octets before.1 one.read,
      );
    }
