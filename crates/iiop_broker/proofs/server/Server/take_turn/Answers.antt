use Rattle.std.proofs.Common.{◌≡◌, None, false, refl, subst, sym, ◌∙◌, drop}
use Rattle.giop_messages.specs.Framing.{is_fragment}
use Rattle.giop_messages.specs.Runs.{IsFrame}
use Rattle.broker_answers.specs.Servants.{acts}
use Rattle.broker_answers.proofs.Cuts.{cut_more}
use Rattle.broker_answers.proofs.ServedRaws.{broken}
use Rattle.broker_answers.specs.Serving.{ServesRaw}
use Rattle.iiop_broker.proofs.Turning.{broken_told, broken_turned, first_front, frame_part, frame_told, message_stopped, message_turned, more_told, piece_turned, turn_served, whole_front}
use Rattle.iiop_broker.proofs.server.Server.take_turn.Goals as goal

pub returns-in-Ok-None-clause-turned : goal.returns-in-Ok-None-clause-turned
returns-in-Ok-None-clause-turned g c = (
  cut_more c.args.run c.args.octets.now
      (more_told _ c.args.run c.args.octets.now c.in-Ok-None.field-0 c.as_ref.ensures.value c.in-Ok-None.field-0-is
      c.in-Ok-None.ensures),
  refl,
)

pub returns-in-Err-clause-turned : goal.returns-in-Err-clause-turned
returns-in-Err-clause-turned g c =
    let acting = acts g.S.Servant.says g.S.Servant.after in
    let service = c.args.self.now.service in
    let octets = c.args.octets.now in
    let before = c.args.self.now.servant in
    let answer = c.in_ok-answer-in-Err.answer in
    let shown = broken acting service before before answer.octets.items answer.closes
    c.in_ok-answer-in-Err.ensures.octets
    c.in_ok-answer-in-Err.ensures.closes refl in
    broken_turned acting service c.args.run octets c.in-Err.field-0 before answer.octets.items
    (broken_told _ c.args.run octets c.in-Err.field-0 c.as_ref.ensures.value c.in-Err.ensures)
    (subst (λ b. ServesRaw acting service None before answer.octets.items b before) c.in_ok-answer-in-Err.ensures.closes
    shown)

pub take_fragment-requires-clause-placed : goal.take_fragment-requires-clause-placed
take_fragment-requires-clause-placed g c =
    frame_told _ c.args.run c.args.octets.now c.in-Ok-Some.field-0 c.in-Ok-Some.frame c.as_ref.ensures.value
    c.in-Ok-Some.field-0-is c.in-Ok-Some.ensures

pub returns-then-frame-clause-turned : goal.returns-then-frame-clause-turned
returns-then-frame-clause-turned g c =
    let acting = acts g.S.Servant.says g.S.Servant.after in
    let service = c.args.self.now.service in
    let octets = c.args.octets.now in
    let before = c.args.self.now.servant in
    let frame = c.in-Ok-Some.frame in
    let is_frame : IsFrame c.args.run octets frame =
    frame_told _ c.args.run octets c.in-Ok-Some.field-0 frame c.as_ref.ensures.value c.in-Ok-Some.field-0-is
    c.in-Ok-Some.ensures in
    let kind : is_fragment frame.head.kind ≡ false = sym c.is_fragment.ensures ∙ c.if-is_fragment.false in
    let front_is = first_front c.args.run octets c.split_at.result.0.now c.in_ok-begun.begun frame is_frame kind
    c.if-frame.true
    c.split_at.ensures.front c.in_ok-begun.ensures in (
      frame_part c.args.run octets frame is_frame,
      piece_turned acting service c.args.run octets c.in_ok-begun.begun (drop frame.len octets) before
          c.new-answer.result.items
          front_is c.new-answer.ensures.items,
    )

pub returns-in-Ok-clause-turned : goal.returns-in-Ok-clause-turned
returns-in-Ok-clause-turned g c =
    let acting = acts g.S.Servant.says g.S.Servant.after in
    let service = c.args.self.now.service in
    let octets = c.args.octets.now in
    let before = c.args.self.now.servant in
    let frame = c.in-Ok-Some.frame in
    let is_frame : IsFrame c.args.run octets frame =
    frame_told _ c.args.run octets c.in-Ok-Some.field-0 frame c.as_ref.ensures.value c.in-Ok-Some.field-0-is
    c.in-Ok-Some.ensures in
    let kind : is_fragment frame.head.kind ≡ false = sym c.is_fragment.ensures ∙ c.if-is_fragment.false in
    let behind = drop frame.len octets in
    let message = c.split_at.result.0.now in
    let left = c.run_left-left.result in
    let front_is = whole_front c.args.run octets message left frame is_frame kind c.if-frame.false
    c.split_at.ensures.front
    c.run_left-left.ensures in
    message_turned acting service c.args.run octets message left frame.len before c.turned.result c.serve.new.servant
    front_is
    (frame_part c.args.run octets frame is_frame)
    (turn_served acting service message left frame.len before c.serve.new.servant c.in-Ok.answer c.turned.result
    c.in-Ok.ensures.served c.turned.ensures)

pub returns-in-Err-serve-clause-given_up : goal.returns-in-Err-serve-clause-given_up
returns-in-Err-serve-clause-given_up g c =
    let acting = acts g.S.Servant.says g.S.Servant.after in
    let service = c.args.self.now.service in
    let octets = c.args.octets.now in
    let before = c.args.self.now.servant in
    let frame = c.in-Ok-Some.frame in
    let is_frame : IsFrame c.args.run octets frame =
    frame_told _ c.args.run octets c.in-Ok-Some.field-0 frame c.as_ref.ensures.value c.in-Ok-Some.field-0-is
    c.in-Ok-Some.ensures in
    let kind : is_fragment frame.head.kind ≡ false = sym c.is_fragment.ensures ∙ c.if-is_fragment.false in
    let behind = drop frame.len octets in
    let message = c.split_at.result.0.now in
    let left = c.run_left-left.result in
    let front_is = whole_front c.args.run octets message left frame is_frame kind c.if-frame.false
    c.split_at.ensures.front
    c.run_left-left.ensures in
    message_stopped acting service c.args.run octets message left behind before c.serve.new.servant front_is
    c.in-Err-serve.ensures.given_up
