use Rattle.std.proofs.Common.{option_map, refl}
use Rattle.giop_types.proofs.Found.{none_then, some_then}
use Rattle.giop.proofs.Contents.{NoHeader, no_request, lent, request_said}
use Rattle.giop.proofs.reading.message.Reading.request.Goals as goal

pub returns-in-None-clause-refused : goal.returns-in-None-clause-refused
returns-in-None-clause-refused c =
    let octets = c.args.self.now.octets.now in
    let head = c.args.self.now.head.now in
    no_request octets head c.requires
    (none_then c.in_ok-found.field-0 (NoHeader octets head 17) c.in-None.is c.in_ok-found.ensures.refused)

pub returns-clause-found : goal.returns-clause-found
returns-clause-found c =
    let octets = c.args.self.now.octets.now in
    let head = c.args.self.now.head.now in
    let header = c.in-Ok.header in
    request_said octets head c.as_slice.result.now c.in-Some.found.1 header
    (record {
      id = header.id;
      flags = header.flags;
      key = option_map (λ k. k.items) c.in_ok-key.key;
      operation = c.in_ok-operation.operation.items;
      order = head.order;
      body_at = c.body_behind-body_at.result.0;
      body = c.body_behind-body_at.result.1.now;
    }) c.requires
    (lent octets head.order 17 c.in-Some.found.0.items c.as_slice.result.now c.in-Some.found.1 c.as_slice.ensures.value
    (some_then c.in_ok-found.field-0 c.in-Some.found _ c.in-Some.is c.in_ok-found.ensures.found))
    c.in-Ok.ensures.found refl refl c.in_ok-operation.ensures refl c.in_ok-key.ensures c.body_behind-body_at.ensures
