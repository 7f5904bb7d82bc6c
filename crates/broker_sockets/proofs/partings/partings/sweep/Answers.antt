use Rattle.std.proofs.Common.{refl, ◌∙◌, map}
use Rattle.broker_sockets.proofs.Sweeps.{far_at_first, far_left, far_stayed}
use Rattle.broker_sockets.proofs.partings.partings.sweep.Goals as goal

pub loop-at-init : goal.loop-at-init
loop-at-init g c = record {
  room = refl;
  far = far_at_first c.args.limits g.P.Parting.parted c.args.connections.now.items c.requires.all;
}

pub loop-at-preserved-in-Moved : goal.loop-at-preserved-in-Moved
loop-at-preserved-in-Moved g c = record {
  room = c.in-Moved.ensures.room ∙ c.loop-at.invariant.room;
  far = far_stayed c.args.limits g.P.Parting.parted (map g.P.Parting.parted c.args.connections.now.items)
      c.loop-at.connections.items
      c.step_at.new.connections.items c.loop-at.at c.loop-at.invariant.far c.in-Moved.ensures.turned;
}

pub loop-at-preserved-in-Still : goal.loop-at-preserved-in-Still
loop-at-preserved-in-Still g c = record {
  room = c.in-Still.ensures.room ∙ c.loop-at.invariant.room;
  far = far_stayed c.args.limits g.P.Parting.parted (map g.P.Parting.parted c.args.connections.now.items)
      c.loop-at.connections.items
      c.step_at.new.connections.items c.loop-at.at c.loop-at.invariant.far c.in-Still.ensures.turned;
}

pub loop-at-preserved : goal.loop-at-preserved
loop-at-preserved g c = record {
  room = c.in-Over.ensures.room ∙ c.loop-at.invariant.room;
  far = far_left c.args.limits g.P.Parting.parted (map g.P.Parting.parted c.args.connections.now.items)
      c.loop-at.connections.items
      c.step_at.new.connections.items c.loop-at.at c.loop-at.invariant.far c.in-Over.ensures.turned;
}
