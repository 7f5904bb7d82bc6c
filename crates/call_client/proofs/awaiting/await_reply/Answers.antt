use Rattle.std.proofs.Common.{◌≡◌, ◌<◌, ◌≤◌, ℕ, max, List, length, take, sym, ap, subst, ◌∙◌, arith}
use Rattle.giop_messages.specs.ReplyStreamsRoom.{wanted}
use Rattle.iiop_broker.specs.Ends.{Gives}
use Rattle.giop_messages.specs.declared.reply_streams.heard.Heard.{Heard as Said}
use Rattle.giop_messages.specs.Told.{told}
use Rattle.call_client.proofs.Reading.{ReadOn, broken, closed, goes_on, outcome_in, read_on, refused}
use Rattle.call_client.proofs.awaiting.await_reply.Goals as goal

pub returns-in-Ok-Replies : goal.returns-in-Ok-Replies
returns-in-Ok-Replies g c =
    let id = c.args.id in
    let before = g.I.Input.left c.args.reader.now in
    let now = g.I.Input.left c.loop-count.reader in
    let after = g.I.Input.left c.read_within.new.reader in
    let piece = c.split_at.result.0.now in
    let count = c.loop-count.count in
    let stream = c.loop-count.stream in
    let cut_is : take c.in-Ok.n c.read_within.new.buffer ≡ piece =
    ap (take c.in-Ok.n) (sym c.as_slice.ensures) ∙ sym c.split_at.ensures.front in
    let gives : Gives now piece after = subst (λ (p : List ℕ). Gives now p after) cut_is c.in-Ok.ensures.given in
    let few : length piece ≤ max (wanted stream.rest.items) 1 =
    omega (arith, c.split_at.ensures.front_len, c.in-Ok.ensures.within, c.wanted.ensures, c.clamp-room.ensures) in
    let read = read_on id before now after stream.run stream.rest.items piece count (told c.in-Ok-Replies.field-0)
    c.loop-count.invariant.going gives c.in-Ok-Replies.ensures few in
    outcome_in id c.args.reads before after piece _ count c.answer_in.result
    (g.I.Input.failure c.read_within.new.reader)
    (subst (λ (h : Said). ReadOn id before piece count (told h) after) c.in-Ok-Replies.field-0-is read)
    c.answer_in.ensures

pub returns-in-Ok-Breaks : goal.returns-in-Ok-Breaks
returns-in-Ok-Breaks g c =
    let id = c.args.id in
    let before = g.I.Input.left c.args.reader.now in
    let now = g.I.Input.left c.loop-count.reader in
    let after = g.I.Input.left c.read_within.new.reader in
    let piece = c.split_at.result.0.now in
    let count = c.loop-count.count in
    let stream = c.loop-count.stream in
    let cut_is : take c.in-Ok.n c.read_within.new.buffer ≡ piece =
    ap (take c.in-Ok.n) (sym c.as_slice.ensures) ∙ sym c.split_at.ensures.front in
    let gives : Gives now piece after = subst (λ (p : List ℕ). Gives now p after) cut_is c.in-Ok.ensures.given in
    let few : length piece ≤ max (wanted stream.rest.items) 1 =
    omega (arith, c.split_at.ensures.front_len, c.in-Ok.ensures.within, c.wanted.ensures, c.clamp-room.ensures) in
    let read = read_on id before now after stream.run stream.rest.items piece count (told c.in-Ok-Breaks.field-0)
    c.loop-count.invariant.going gives c.in-Ok-Breaks.ensures few in
    broken id before after piece count c.in-Ok-Breaks.fault
    (subst (λ (h : Said). ReadOn id before piece count (told h) after) c.in-Ok-Breaks.field-0-is read)

pub returns-in-Ok-Ends : goal.returns-in-Ok-Ends
returns-in-Ok-Ends g c =
    let id = c.args.id in
    let before = g.I.Input.left c.args.reader.now in
    let now = g.I.Input.left c.loop-count.reader in
    let after = g.I.Input.left c.read_within.new.reader in
    let piece = c.split_at.result.0.now in
    let count = c.loop-count.count in
    let stream = c.loop-count.stream in
    let cut_is : take c.in-Ok.n c.read_within.new.buffer ≡ piece =
    ap (take c.in-Ok.n) (sym c.as_slice.ensures) ∙ sym c.split_at.ensures.front in
    let gives : Gives now piece after = subst (λ (p : List ℕ). Gives now p after) cut_is c.in-Ok.ensures.given in
    let few : length piece ≤ max (wanted stream.rest.items) 1 =
    omega (arith, c.split_at.ensures.front_len, c.in-Ok.ensures.within, c.wanted.ensures, c.clamp-room.ensures) in
    let read = read_on id before now after stream.run stream.rest.items piece count (told c.in-Ok-Ends.field-0)
    c.loop-count.invariant.going gives c.in-Ok-Ends.ensures few in
    closed id before after piece count
    (subst (λ (h : Said). ReadOn id before piece count (told h) after) c.in-Ok-Ends.field-0-is read)

pub returns-in-Ok-Refuses : goal.returns-in-Ok-Refuses
returns-in-Ok-Refuses g c =
    let id = c.args.id in
    let before = g.I.Input.left c.args.reader.now in
    let now = g.I.Input.left c.loop-count.reader in
    let after = g.I.Input.left c.read_within.new.reader in
    let piece = c.split_at.result.0.now in
    let count = c.loop-count.count in
    let stream = c.loop-count.stream in
    let cut_is : take c.in-Ok.n c.read_within.new.buffer ≡ piece =
    ap (take c.in-Ok.n) (sym c.as_slice.ensures) ∙ sym c.split_at.ensures.front in
    let gives : Gives now piece after = subst (λ (p : List ℕ). Gives now p after) cut_is c.in-Ok.ensures.given in
    let few : length piece ≤ max (wanted stream.rest.items) 1 =
    omega (arith, c.split_at.ensures.front_len, c.in-Ok.ensures.within, c.wanted.ensures, c.clamp-room.ensures) in
    let read = read_on id before now after stream.run stream.rest.items piece count (told c.in-Ok-Refuses.field-0)
    c.loop-count.invariant.going gives c.in-Ok-Refuses.ensures few in
    refused id before after piece count
    (subst (λ (h : Said). ReadOn id before piece count (told h) after) c.in-Ok-Refuses.field-0-is read)

pub loop-count-preserved : goal.loop-count-preserved
loop-count-preserved g c =
    let id = c.args.id in
    let before = g.I.Input.left c.args.reader.now in
    let now = g.I.Input.left c.loop-count.reader in
    let after = g.I.Input.left c.read_within.new.reader in
    let piece = c.split_at.result.0.now in
    let count = c.loop-count.count in
    let stream = c.loop-count.stream in
    let cut_is : take c.in-Ok.n c.read_within.new.buffer ≡ piece =
    ap (take c.in-Ok.n) (sym c.as_slice.ensures) ∙ sym c.split_at.ensures.front in
    let gives : Gives now piece after = subst (λ (p : List ℕ). Gives now p after) cut_is c.in-Ok.ensures.given in
    let few : length piece ≤ max (wanted stream.rest.items) 1 =
    omega (arith, c.split_at.ensures.front_len, c.in-Ok.ensures.within, c.wanted.ensures, c.clamp-room.ensures) in
    let read = read_on id before now after stream.run stream.rest.items piece count (told c.in-Ok-Waits.field-0)
    c.loop-count.invariant.going gives c.in-Ok-Waits.ensures few in
    let some : 0 < length piece = omega (arith, c.split_at.ensures.front_len, c.in-Ok.n-test.1) in
    record {
      going = goes_on id before after c.in-Ok-Waits.more.run c.in-Ok-Waits.more.rest.items piece count
          (subst (λ (h : Said). ReadOn id before piece count (told h) after) c.in-Ok-Waits.field-0-is read) some;
      room = omega (arith, c.loop-count.invariant.room, c.in-Ok.ensures.room);
    }
