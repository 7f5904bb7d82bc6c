use Rattle.std.proofs.Common.{rules, ◌≡◌, sym, subst}
use Rattle.broker_answers.specs.Servants.{acts}
use Rattle.iiop_broker.specs.Outcomes.{Ends, ends}
use Rattle.iiop_broker.specs.Serving.{IsServed}
use Rattle.broker_sockets.specs.Visits.{went_as}
use Rattle.broker_sockets.proofs.Visits.{same_ends, seen_of}
use Rattle.broker_sockets.proofs.connections.serve_next.Goals as goal

pub returns-clause-visit : goal.returns-clause-visit
returns-clause-visit g c =
    let acting = acts g.S.Servant.says g.S.Servant.after in
    let before = c.args.broker.now in
    let after = c.serve_stream-end.new.broker.world in
    let from = ends (g.L.Reader.Input.left c.in-Ok.reader) (g.L.Writer.Output.written c.in-Ok.writer)
    (g.L.Reader.Input.failure c.in-Ok.reader) (g.L.Writer.Output.failure c.in-Ok.writer) in
    let to = ends (g.L.Reader.Input.left c.serve_stream-end.new.reader)
    (g.L.Writer.Output.written c.serve_stream-end.new.writer)
    (g.L.Reader.Input.failure c.serve_stream-end.new.reader)
    (g.L.Writer.Output.failure c.serve_stream-end.new.writer) in
    let last = ends (g.L.Reader.Input.left c.serve_stream-end.new.reader)
    (g.L.Writer.Output.written c.shut_behind.new.writer) (g.L.Reader.Input.failure c.serve_stream-end.new.reader)
    (g.L.Writer.Output.failure c.shut_behind.new.writer) in
    let same : last ≡ to = same_ends (g.L.Reader.Input.left c.serve_stream-end.new.reader)
    (g.L.Writer.Output.written c.serve_stream-end.new.writer)
    (g.L.Writer.Output.written c.shut_behind.new.writer) (g.L.Reader.Input.failure c.serve_stream-end.new.reader)
    (g.L.Writer.Output.failure c.serve_stream-end.new.writer) (g.L.Writer.Output.failure c.shut_behind.new.writer)
    c.shut_behind.ensures.written c.shut_behind.ensures.failure in
    record {
      from = from;
      to = went_as last c.serve_stream-end.result;
      came_is = search rules;
      gone = λ all told. c.hand_back.ensures.went all (c.accept.ensures.went all told);
      seen = seen_of acting before.served before.world from c.serve_stream-end.result after last c.requires
          (subst (λ (t : Ends). IsServed acting before.served 1 4294967296 before.world from c.serve_stream-end.result
          after t) (sym same)
          c.serve_stream-end.ensures.served);
    }
