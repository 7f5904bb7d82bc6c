use Rattle.std.proofs.Common.{rules, ◌≡◌, take, [], sym, ap, subst, inl, inr}
use Rattle.giop_messages.specs.Messages.{Closes, Says}
use Rattle.iiop_broker.specs.Ends.{Adds}
use Rattle.iiop_broker.proofs.Written.{adds_nothing}
use Rattle.broker_loop.specs.Telling.{HasWritten}
use Rattle.broker_loop.proofs.Turns.{farewell, no_farewell}
use Rattle.broker_loop.proofs.slot.close.Goals as goal

pub returns-in-Ok-Some : goal.returns-in-Ok-Some
returns-in-Ok-Some g c =
    let says : Says c.as_slice.result.now Closes = search rules in
    let h : HasWritten (g.C.Connection.told c.args.connection.now) c.as_slice.result.now c.in-Ok-Some.field-0-0
    (g.C.Connection.told c.write.new.self) = search rules in
    record {
      last = take c.in-Ok-Some.field-0-0 c.as_slice.result.now;
      is = farewell c.as_slice.result.now c.in-Ok-Some.field-0-0 says;
      left = h.left;
      written = h.written;
      noted = inr (search rules);
    }

pub returns-in-Ok-None : goal.returns-in-Ok-None
returns-in-Ok-None g c =
    let told = g.C.Connection.told c.args.connection.now in
    let same : g.C.Connection.told c.write.new.self ≡ told = search rules in
    record {
      last = [];
      is = no_farewell c.close_connection-message.result c.close_connection-message.ensures;
      left = ap (λ e. e.left) same;
      written = subst (λ e. Adds told.written [] e.written) (sym same) (adds_nothing told.written);
      noted = inl (search rules);
    }

pub returns-in-Err : goal.returns-in-Err
returns-in-Err g c =
    let told = g.C.Connection.told c.args.connection.now in
    let same = c.in-Err.ensures.failed in
    record {
      last = [];
      is = no_farewell c.close_connection-message.result c.close_connection-message.ensures;
      left = ap (λ e. e.left) same;
      written = subst (λ e. Adds told.written [] e.written) (sym same) (adds_nothing told.written);
      noted = inl c.in-Err.ensures.unnoted;
    }
