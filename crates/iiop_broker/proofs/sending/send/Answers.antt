use Rattle.std.proofs.Common.{◌∙◌, arith}
use Rattle.iiop_broker.proofs.Written.{unstuck, written_more}
use Rattle.iiop_broker.proofs.sending.send.Goals as goal

pub loop-sent-preserved : goal.loop-sent-preserved
loop-sent-preserved g c =
    let octets = c.args.octets.now in
    let at = c.loop-sent.sent in
    let n = c.in-Ok.n in
    let back = c.split_at.result.1.now in
    record {
      within = omega (arith, c.in-Ok.ensures.within, c.split_at.ensures.back_len, c.loop-sent.invariant.within);
      written = written_more (g.O.Output.written c.args.writer.now) (g.O.Output.written c.loop-sent.writer)
          (g.O.Output.written c.write.new.self) at n octets back c.loop-sent.invariant.written c.split_at.ensures.back
          c.in-Ok.ensures.written;
      sound = unstuck (g.O.Output.failure c.loop-sent.writer) (g.O.Output.failure c.write.new.self) back n
          c.in-Ok.n-test.1
          c.in-Ok.ensures.stuck
          ∙ c.loop-sent.invariant.sound;
    }
