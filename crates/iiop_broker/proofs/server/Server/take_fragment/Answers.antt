use Rattle.std.proofs.Common.{List, ℕ, None, Some, true, false, subst, drop}
use Rattle.broker_answers.specs.Servants.{acts}
use Rattle.broker_answers.specs.Answering.{MayMoveRaw}
use Rattle.broker_answers.specs.Serving.{ServesRaw}
use Rattle.iiop_broker.proofs.Turning.{fragment_front, frame_part, message_stopped, message_turned, piece_turned, turn_served}
use Rattle.iiop_broker.proofs.server.Server.take_fragment.Goals as goal

pub returns-then-frame-clause-turned : goal.returns-then-frame-clause-turned
returns-then-frame-clause-turned g c =
    let acting = acts g.S.Servant.says g.S.Servant.after in
    let service = c.args.self.now.service in
    let octets = c.args.octets.now in
    let before = c.args.self.now.servant in
    let frame = c.args.frame.now in
    let there = c.in-Some.whole in
    let piece = c.split_at.result.0.now in
    let grown = c.add.new.self in
    let front_is = fragment_front c.args.run there octets piece grown frame true c.requires.placed c.requires.fragment
    c.in-Some.is c.split_at.ensures.front c.in_ok-add.ensures.added c.if-frame.true in (
      frame_part c.args.run octets frame c.requires.placed,
      piece_turned acting service c.args.run octets grown (drop frame.len octets) before c.new.result.items front_is
          c.new.ensures.items,
    )

pub returns-in-Ok-clause-turned : goal.returns-in-Ok-clause-turned
returns-in-Ok-clause-turned g c =
    let acting = acts g.S.Servant.says g.S.Servant.after in
    let service = c.args.self.now.service in
    let octets = c.args.octets.now in
    let before = c.args.self.now.servant in
    let frame = c.args.frame.now in
    let there = c.in-Some.whole in
    let piece = c.split_at.result.0.now in
    let grown = c.add.new.self in
    let front_is = fragment_front c.args.run there octets piece grown frame false c.requires.placed c.requires.fragment
    c.in-Some.is c.split_at.ensures.front c.in_ok-add.ensures.added c.if-frame.false in
    let after = c.serve.new.servant in
    let answer = c.in-Ok.answer in
    let served = subst (λ (m : List ℕ). ServesRaw acting service (Some m) before answer.octets.items answer.closes
    after)
    c.octets.ensures.is c.in-Ok.ensures.served in
    message_turned acting service c.args.run octets grown None frame.len before c.turned.result after front_is
    (frame_part c.args.run octets frame c.requires.placed)
    (turn_served acting service grown None frame.len before after answer c.turned.result served c.turned.ensures)

pub returns-clause-given_up : goal.returns-clause-given_up
returns-clause-given_up g c =
    let acting = acts g.S.Servant.says g.S.Servant.after in
    let service = c.args.self.now.service in
    let octets = c.args.octets.now in
    let before = c.args.self.now.servant in
    let frame = c.args.frame.now in
    let there = c.in-Some.whole in
    let piece = c.split_at.result.0.now in
    let grown = c.add.new.self in
    let front_is = fragment_front c.args.run there octets piece grown frame false c.requires.placed c.requires.fragment
    c.in-Some.is c.split_at.ensures.front c.in_ok-add.ensures.added c.if-frame.false in
    message_stopped acting service c.args.run octets grown None (drop frame.len octets) before c.serve.new.servant
    front_is
    (subst (λ (m : List ℕ). MayMoveRaw acting service (Some m) before c.serve.new.servant) c.octets.ensures.is
    c.in-Err.ensures.given_up)
