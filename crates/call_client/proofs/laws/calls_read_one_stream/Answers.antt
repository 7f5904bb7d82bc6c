use Rattle.iiop_broker.proofs.Going.{gives_then}
use Rattle.call_client.proofs.laws.calls_read_one_stream.Goals as goal

pub returns : goal.returns
returns c = λ first second one other reads more from between to a b called next.
    let front = called.awaited in
    let back = next.awaited in
    record {
      octets = front.octets;
      more = back.octets;
      read = gives_then from.left between.left to.left front.octets back.octets front.read back.read;
      answers = front.so;
      next = back.so;
    }
