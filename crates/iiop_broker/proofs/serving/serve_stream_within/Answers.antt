use Rattle.std.proofs.Common.{subst}
use Rattle.broker_answers.specs.Servants.{acts}
use Rattle.iiop_broker.specs.Outcomes.{IsOutcome, ends}
use Rattle.iiop_broker.specs.inner.Running.{running, running_in_part}
use Rattle.iiop_broker.proofs.AnsweredStreams.{begun}
use Rattle.iiop_broker.proofs.Ending.{end_is_taken, outcome_there, served_of}
use Rattle.iiop_broker.proofs.serving.serve_stream_within.Goals as goal

pub unreachable-requires-in-Err-step : goal.unreachable-requires-in-Err-step
unreachable-requires-in-Err-step g c =
    let acting = acts g.S.Servant.says g.S.Servant.after in
    let served = c.step.new.self.served in
    let old = c.args.broker.now.world in
    let from = ends (g.I.Input.left c.args.reader.now) (g.O.Output.written c.args.writer.now)
    (g.I.Input.failure c.args.reader.now) (g.O.Output.failure c.args.writer.now) in
    let to = ends (g.I.Input.left c.serve_pieces-result.new.reader)
    (g.O.Output.written c.serve_pieces-result.new.writer) (g.I.Input.failure c.serve_pieces-result.new.reader)
    (g.O.Output.failure c.serve_pieces-result.new.writer) in
    let stream = begun acting served c.args.c old c.step.new.self.world c.in-Ok.field-0.items c.in-Ok.ensures.answered
    in
    let outcome = c.serve_pieces-result.ensures.outcome old.there old.servant stream in
    end_is_taken acting c.serve_pieces-result.new.broker.served c.args.c c.in-Err-step.field-0
    c.serve_pieces-result.new.broker.world
    c.step-2.new.self.world
    (outcome_there acting served c.args.c old.there old.servant c.args.reads from to c.serve_pieces-result.result
    c.serve_pieces-result.new.broker.world outcome) c.in-Err-step.ensures.refused

pub returns-clause-served : goal.returns-clause-served
returns-clause-served g c =
    let acting = acts g.S.Servant.says g.S.Servant.after in
    let served = c.step.new.self.served in
    let old = c.args.broker.now.world in
    let from = ends (g.I.Input.left c.args.reader.now) (g.O.Output.written c.args.writer.now)
    (g.I.Input.failure c.args.reader.now) (g.O.Output.failure c.args.writer.now) in
    let to = ends (g.I.Input.left c.serve_pieces-result.new.reader)
    (g.O.Output.written c.serve_pieces-result.new.writer) (g.I.Input.failure c.serve_pieces-result.new.reader)
    (g.O.Output.failure c.serve_pieces-result.new.writer) in
    let stream = begun acting served c.args.c old c.step.new.self.world c.in-Ok.field-0.items c.in-Ok.ensures.answered
    in
    let outcome = c.serve_pieces-result.ensures.outcome old.there old.servant stream in
    let now = c.serve_pieces-result.new.broker.world in
    served_of acting c.args.broker.now.served c.args.c c.args.reads old c.step.new.self.world now
    c.step-2.new.self.world
    c.in-Ok.field-0.items c.in-Ok-step.field-0.items from to c.serve_pieces-result.result c.in-Ok.ensures.answered
    (subst (λ s. IsOutcome (running acting s c.args.c old.there old.servant now)
    (running_in_part acting s c.args.c old.there old.servant now) c.args.reads from c.serve_pieces-result.result to)
    c.step.ensures.served outcome) c.in-Ok-step.ensures.answered
