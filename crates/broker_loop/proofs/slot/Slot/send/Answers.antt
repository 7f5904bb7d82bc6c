use Rattle.std.proofs.Common.{rules, take, drop}
use Rattle.broker_loop.proofs.Turns.{sent_parts}
use Rattle.broker_loop.proofs.slot.Slot.send.Goals as goal

pub returns-in-Ok-Some : goal.returns-in-Ok-Some
returns-in-Ok-Some g c =
    let parts = sent_parts c.self.inside.answer.items c.self.inside.sent c.in-Ok-Some.n in
    record {
      taken = take c.in-Ok-Some.n (drop c.self.inside.sent c.self.inside.answer.items);
      number = search rules;
      waiting = search rules;
      left = search rules;
      written = search rules;
      trace = search rules;
      waits = search rules;
      still = search rules;
      failed = search rules;
    }
