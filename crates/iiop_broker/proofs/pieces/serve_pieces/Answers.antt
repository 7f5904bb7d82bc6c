use Rattle.std.proofs.Common.{rules, ◌≡◌, ◌∙◌, ◌+◌, ℕ, false, List, [], length, take, refl, sym, ap, subst, arith}
use Rattle.broker_answers.specs.Servants.{acts}
use Rattle.broker_answers.specs.Serving.{Serves}
use Rattle.broker_answers.specs.Talk.{Answers, Brings, rests}
use Rattle.iiop_broker.specs.Ends.{Adds, Gives, IsUnsent}
use Rattle.iiop_broker.specs.Outcomes.{ends}
use Rattle.iiop_broker.specs.World.{IsRefused}
use Rattle.iiop_broker.specs.inner.StreamPieces.{IsSent}
use Rattle.iiop_broker.specs.AnsweredStreams.{AnsweredStream}
use Rattle.broker_answers.specs.Streams.{Stream}
use Rattle.iiop_broker.proofs.Going.{Going, all_read, all_said, going_on, going_start, still_there, stuck, unended, unread, unserved}
use Rattle.iiop_broker.proofs.Ending.{piece_is_heard}
use Rattle.iiop_broker.proofs.pieces.serve_pieces.Goals as goal

pub loop-count-init : goal.loop-count-init
loop-count-init g c =
    let acting = acts g.S.Servant.says g.S.Servant.after in
    let served = c.args.broker.now.served in
    let start = ends (g.I.Input.left c.args.reader.now) (g.O.Output.written c.args.writer.now)
    (g.I.Input.failure c.args.reader.now) (g.O.Output.failure c.args.writer.now) in
    record {
      there = still_there acting served c.args.c c.requires.others c.requires.before [] [] false c.args.broker.now.world
          c.requires.stream;
      served = refl;
      bound = omega arith;
      upto = omega arith;
      room = omega arith;
      going = λ others before stream. going_start acting served c.args.c others before start c.args.broker.now.world
          stream;
    }

pub returns-in-Ok-eq0-clause-outcome : goal.returns-in-Ok-eq0-clause-outcome
returns-in-Ok-eq0-clause-outcome g c = λ others before stream.
    let acting = acts g.S.Servant.says g.S.Servant.after in
    let served = c.args.broker.now.served in
    let start = ends (g.I.Input.left c.args.reader.now) (g.O.Output.written c.args.writer.now)
    (g.I.Input.failure c.args.reader.now) (g.O.Output.failure c.args.writer.now) in
    let now = ends (g.I.Input.left c.loop-count.reader) (g.O.Output.written c.loop-count.writer)
    (g.I.Input.failure c.loop-count.reader) (g.O.Output.failure c.loop-count.writer) in
    let after = ends (g.I.Input.left c.read_within.new.reader) (g.O.Output.written c.loop-count.writer)
    (g.I.Input.failure c.read_within.new.reader) (g.O.Output.failure c.loop-count.writer) in
    let going = c.loop-count.invariant.going others before stream in
    all_read acting served c.args.c others before start now after c.loop-count.sent c.loop-count.count
    c.loop-count.broker.world
    (take c.in-Ok-eq0.field-0 c.read_within.new.buffer) going c.in-Ok-eq0.ensures.given
    (ap (λ (k : ℕ). take k c.read_within.new.buffer) c.in-Ok-eq0.field-0-test)
    (c.in-Ok-eq0.ensures.end c.in-Ok-eq0.field-0-test) refl

pub returns-in-Err-clause-outcome : goal.returns-in-Err-clause-outcome
returns-in-Err-clause-outcome g c = λ others before stream.
    let acting = acts g.S.Servant.says g.S.Servant.after in
    let served = c.args.broker.now.served in
    let start = ends (g.I.Input.left c.args.reader.now) (g.O.Output.written c.args.writer.now)
    (g.I.Input.failure c.args.reader.now) (g.O.Output.failure c.args.writer.now) in
    let now = ends (g.I.Input.left c.loop-count.reader) (g.O.Output.written c.loop-count.writer)
    (g.I.Input.failure c.loop-count.reader) (g.O.Output.failure c.loop-count.writer) in
    let after = ends (g.I.Input.left c.read_within.new.reader) (g.O.Output.written c.loop-count.writer)
    (g.I.Input.failure c.read_within.new.reader) (g.O.Output.failure c.loop-count.writer) in
    let going = c.loop-count.invariant.going others before stream in
    unread acting served c.args.c others before start now after c.loop-count.sent c.loop-count.count
    c.loop-count.broker.world going
    c.in-Err.ensures.kept refl c.in-Err.ensures.failed

pub unreachable-requires : goal.unreachable-requires
unreachable-requires g c =
    piece_is_heard (acts g.S.Servant.says g.S.Servant.after) c.loop-count.broker.served c.args.c c.split_at.result.0.now
    c.in-Err-hear_piece.fault c.loop-count.broker.world c.hear_piece.new.self.world c.in_default.not-NoMemory
    c.loop-count.invariant.there c.in-Err-hear_piece.ensures.refused

pub returns-in-NoMemory-clause-outcome : goal.returns-in-NoMemory-clause-outcome
returns-in-NoMemory-clause-outcome g c = λ others before stream.
    let acting = acts g.S.Servant.says g.S.Servant.after in
    let served = c.args.broker.now.served in
    let start = ends (g.I.Input.left c.args.reader.now) (g.O.Output.written c.args.writer.now)
    (g.I.Input.failure c.args.reader.now) (g.O.Output.failure c.args.writer.now) in
    let now = ends (g.I.Input.left c.loop-count.reader) (g.O.Output.written c.loop-count.writer)
    (g.I.Input.failure c.loop-count.reader) (g.O.Output.failure c.loop-count.writer) in
    let after = ends (g.I.Input.left c.read_within.new.reader) (g.O.Output.written c.loop-count.writer)
    (g.I.Input.failure c.read_within.new.reader) (g.O.Output.failure c.loop-count.writer) in
    let piece = c.split_at.result.0.now in
    let cut_is : take c.in-Ok.n c.read_within.new.buffer ≡ piece =
    ap (take c.in-Ok.n) (sym c.as_slice.ensures) ∙ sym c.split_at.ensures.front in
    let gives : Gives now.left piece after.left =
    subst (λ (p : List ℕ). Gives now.left p after.left) cut_is c.in-Ok.ensures.given in
    let old = c.loop-count.broker.world in
    let new = c.hear_piece.new.self.world in
    let refused = subst (λ s. IsRefused acting s old (Brings c.args.c piece) c.in-Err-hear_piece.fault new)
    c.loop-count.invariant.served c.in-Err-hear_piece.ensures.refused in
    let given_up = subst (λ f. IsRefused acting served old (Brings c.args.c piece) f new) c.in-NoMemory.is refused in
    unserved acting served c.args.c others before start now after c.loop-count.sent c.loop-count.count old new piece
    (c.loop-count.invariant.going others before stream) gives
    (record { j = given_up.0; abandons = given_up.1; silent = refl })

pub returns-in-Err-send-clause-outcome : goal.returns-in-Err-send-clause-outcome
returns-in-Err-send-clause-outcome g c = λ others before stream.
    let acting = acts g.S.Servant.says g.S.Servant.after in
    let served = c.args.broker.now.served in
    let start = ends (g.I.Input.left c.args.reader.now) (g.O.Output.written c.args.writer.now)
    (g.I.Input.failure c.args.reader.now) (g.O.Output.failure c.args.writer.now) in
    let now = ends (g.I.Input.left c.loop-count.reader) (g.O.Output.written c.loop-count.writer)
    (g.I.Input.failure c.loop-count.reader) (g.O.Output.failure c.loop-count.writer) in
    let after = ends (g.I.Input.left c.read_within.new.reader) (g.O.Output.written c.send.new.writer)
    (g.I.Input.failure c.read_within.new.reader) (g.O.Output.failure c.send.new.writer) in
    let piece = c.split_at.result.0.now in
    let cut_is : take c.in-Ok.n c.read_within.new.buffer ≡ piece =
    ap (take c.in-Ok.n) (sym c.as_slice.ensures) ∙ sym c.split_at.ensures.front in
    let gives : Gives now.left piece after.left =
    subst (λ (p : List ℕ). Gives now.left p after.left) cut_is c.in-Ok.ensures.given in
    let old = c.loop-count.broker.world in
    let new = c.hear_piece.new.self.world in
    let answer = c.in-Ok-hear_piece.answer.items in
    let answers : Answers rests (Serves acting served) old c.args.c piece answer new =
    subst (λ s. Answers rests (Serves acting s) old c.args.c piece answer new) c.loop-count.invariant.served
    c.in-Ok-hear_piece.ensures.answered in
    let unsent : IsUnsent now.written answer c.in-Err-send.n after.written after.unwritten =
    subst (λ (o : List ℕ). IsUnsent now.written o c.in-Err-send.n after.written after.unwritten)
    c.as_slice-in-loop-count.ensures.value
    c.in-Err-send.ensures.unsent in
    stuck acting served c.args.c others before start now after c.loop-count.sent c.loop-count.count c.in-Err-send.n old
    new
    piece (c.loop-count.invariant.going others before stream) gives
    (record {
      answer = answer;
      answers = answers;
      within = unsent.within;
      wrote = unsent.written;
      failed =
          unsent.failed;
    })

pub returns-then-is_closed-clause-outcome : goal.returns-then-is_closed-clause-outcome
returns-then-is_closed-clause-outcome g c = λ others before stream.
    let acting = acts g.S.Servant.says g.S.Servant.after in
    let served = c.args.broker.now.served in
    let start = ends (g.I.Input.left c.args.reader.now) (g.O.Output.written c.args.writer.now)
    (g.I.Input.failure c.args.reader.now) (g.O.Output.failure c.args.writer.now) in
    let now = ends (g.I.Input.left c.loop-count.reader) (g.O.Output.written c.loop-count.writer)
    (g.I.Input.failure c.loop-count.reader) (g.O.Output.failure c.loop-count.writer) in
    let after = ends (g.I.Input.left c.read_within.new.reader) (g.O.Output.written c.send.new.writer)
    (g.I.Input.failure c.read_within.new.reader) (g.O.Output.failure c.send.new.writer) in
    let piece = c.split_at.result.0.now in
    let cut_is : take c.in-Ok.n c.read_within.new.buffer ≡ piece =
    ap (take c.in-Ok.n) (sym c.as_slice.ensures) ∙ sym c.split_at.ensures.front in
    let gives : Gives now.left piece after.left =
    subst (λ (p : List ℕ). Gives now.left p after.left) cut_is c.in-Ok.ensures.given in
    let old = c.loop-count.broker.world in
    let new = c.hear_piece.new.self.world in
    let answer = c.in-Ok-hear_piece.answer.items in
    let answers : Answers rests (Serves acting served) old c.args.c piece answer new =
    subst (λ s. Answers rests (Serves acting s) old c.args.c piece answer new) c.loop-count.invariant.served
    c.in-Ok-hear_piece.ensures.answered in
    let is : IsSent acting served c.args.c old piece now.written (length answer) c.is_closed.result new after.written =
    record {
      answer = answer;
      answers = answers;
      wrote = subst (λ (o : List ℕ). Adds now.written o after.written) c.as_slice-in-loop-count.ensures.value
          c.in-Ok-send.ensures.sent;
      count = refl;
      closed = c.is_closed.ensures;
    } in
    all_said acting served c.args.c others before start now after c.loop-count.sent c.loop-count.count old new piece
    (length answer) c.is_closed.result (c.loop-count.invariant.going others before stream) gives is c.if-is_closed.true

pub loop-count-preserved : goal.loop-count-preserved
loop-count-preserved g c =
    let acting = acts g.S.Servant.says g.S.Servant.after in
    let served = c.args.broker.now.served in
    let start = ends (g.I.Input.left c.args.reader.now) (g.O.Output.written c.args.writer.now)
    (g.I.Input.failure c.args.reader.now) (g.O.Output.failure c.args.writer.now) in
    let now = ends (g.I.Input.left c.loop-count.reader) (g.O.Output.written c.loop-count.writer)
    (g.I.Input.failure c.loop-count.reader) (g.O.Output.failure c.loop-count.writer) in
    let after = ends (g.I.Input.left c.read_within.new.reader) (g.O.Output.written c.send.new.writer)
    (g.I.Input.failure c.read_within.new.reader) (g.O.Output.failure c.send.new.writer) in
    let piece = c.split_at.result.0.now in
    let cut_is : take c.in-Ok.n c.read_within.new.buffer ≡ piece =
    ap (take c.in-Ok.n) (sym c.as_slice.ensures) ∙ sym c.split_at.ensures.front in
    let gives : Gives now.left piece after.left =
    subst (λ (p : List ℕ). Gives now.left p after.left) cut_is c.in-Ok.ensures.given in
    let old = c.loop-count.broker.world in
    let new = c.hear_piece.new.self.world in
    let answer = c.in-Ok-hear_piece.answer.items in
    let answers : Answers rests (Serves acting served) old c.args.c piece answer new =
    subst (λ s. Answers rests (Serves acting s) old c.args.c piece answer new) c.loop-count.invariant.served
    c.in-Ok-hear_piece.ensures.answered in
    let is : IsSent acting served c.args.c old piece now.written c.len.result c.is_closed.result new after.written =
    record {
      answer = answer;
      answers = answers;
      wrote = subst (λ (o : List ℕ). Adds now.written o after.written) c.as_slice-in-loop-count.ensures.value
          c.in-Ok-send.ensures.sent;
      count = let len = c.len.ensures in let ok = c.in-Ok-hear_piece.answer.ok.0 in omega (arith, len, ok);
      closed = c.is_closed.ensures;
    } in
    let going : (others : List (ℕ × Stream)) (before : g.row.S.Denot)
    → AnsweredStream acting served c.args.c others before [] [] false c.args.broker.now.world
    → Going acting served c.args.c others before start after (c.loop-count.sent + c.len.result) (c.loop-count.count + 1)
    new =
    λ others before stream. going_on acting served c.args.c others before start now after c.loop-count.sent
    c.loop-count.count old new piece c.len.result c.is_closed.result (c.loop-count.invariant.going others before stream)
    gives
    (omega (arith, ap length cut_is, c.split_at.ensures.front_len, c.in-Ok.n-test.1, c.in-Ok.ensures.within)) is
    c.if-is_closed.false in
    let kept = going c.requires.others c.requires.before c.requires.stream in
    record {
      there = still_there acting served c.args.c c.requires.others c.requires.before kept.octets kept.answer false new
          kept.stream;
      served = c.in-Ok-hear_piece.ensures.served ∙ c.loop-count.invariant.served;
      bound = let b = c.loop-count.invariant.bound in search rules;
      upto = let t = c.loop-count-test.true in omega (arith, t);
      room = let r = c.loop-count.invariant.room in omega (arith, r, c.in-Ok.ensures.room);
      going = going;
    }

pub returns-clause-outcome : goal.returns-clause-outcome
returns-clause-outcome g c = λ others before stream.
    let acting = acts g.S.Servant.says g.S.Servant.after in
    let served = c.args.broker.now.served in
    let start = ends (g.I.Input.left c.args.reader.now) (g.O.Output.written c.args.writer.now)
    (g.I.Input.failure c.args.reader.now) (g.O.Output.failure c.args.writer.now) in
    let now = ends (g.I.Input.left c.loop-count.reader) (g.O.Output.written c.loop-count.writer)
    (g.I.Input.failure c.loop-count.reader) (g.O.Output.failure c.loop-count.writer) in
    let going = c.loop-count.invariant.going others before stream in
    unended acting served c.args.c others before start now c.loop-count.sent c.loop-count.count c.args.reads
    c.loop-count.broker.world going c.loop-count-test.false
