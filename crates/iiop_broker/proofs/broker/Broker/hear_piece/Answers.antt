use Rattle.std.proofs.Common.{◌≡◌, ◌∙◌, ◌++◌, List, [], ℕ, Some, refl, ap, subst}
use Rattle.broker_answers.specs.Streams.{Closed, Open, cut}
use Rattle.broker_answers.specs.Connections.{at, put}
use Rattle.broker_answers.specs.Servants.{acts}
use Rattle.broker_answers.specs.Serving.{Moves, Serves}
use Rattle.broker_answers.specs.Talk.{Abandons, Answers, rests, world}
use Rattle.iiop_broker.specs.Kept.{stream_of, streams_of}
use Rattle.iiop_broker.specs.Listed.{IsPlace}
use Rattle.iiop_broker.specs.inner.Progress.{IsHeard, Stopped}
use Rattle.iiop_broker.proofs.Places.{put_twice}
use Rattle.iiop_broker.proofs.Steps.{heard_step, stopped_step}
use Rattle.iiop_broker.proofs.Turning.{stopped_at_once}
use Rattle.iiop_broker.proofs.broker.Broker.hear_piece.Goals as goal

pub returns-in-Err-clause-refused : goal.returns-in-Err-clause-refused
returns-in-Err-clause-refused g c =
    let acting = acts g.S.Servant.says g.S.Servant.after in
    let inside = c.self.inside in
    let service = inside.server.service in
    let old = streams_of inside.connections.items in
    let octets = c.args.octets.now in
    let s = inside.server.servant in
    let run = c.in-Open.run' in
    let rest = c.in-Open.rest.items in
    let there : at c.args.c old ≡ Some (Open run rest) =
    c.exchange.ensures.was ∙ ap (λ kept. Some (stream_of kept)) c.in-Open.is in
    subst (λ b. (j : ℕ) × Abandons rests (Moves acting b.served) b.world c.args.c octets j []
    (world s (streams_of c.exchange.new.connections.items))) c.self.view_is
    (stopped_step acting service c.args.c old (streams_of c.exchange.new.connections.items) run rest octets s s there
    (stopped_at_once acting service (cut run (rest ++ octets)).raws s s refl) c.exchange.ensures.now)

pub returns-in-Ok-hear-clause-answered : goal.returns-in-Ok-hear-clause-answered
returns-in-Ok-hear-clause-answered g c =
    let acting = acts g.S.Servant.says g.S.Servant.after in
    let inside = c.self.inside in
    let service = inside.server.service in
    let old = streams_of inside.connections.items in
    let octets = c.args.octets.now in
    let s = inside.server.servant in
    let run = c.in-Open.run' in
    let rest = c.in-Open.rest.items in
    let there : at c.args.c old ≡ Some (Open run rest) =
    c.exchange.ensures.was ∙ ap (λ kept. Some (stream_of kept)) c.in-Open.is in
    let heard = c.in-Ok-hear.heard in
    let servant = c.hear.new.self.servant in
    let new = streams_of c.exchange-in-Ok-hear.new.connections.items in
    let place = subst (λ xs. IsPlace 0 c.args.c c.in-Some.place (streams_of xs)) c.as_slice.ensures.value
    c.in-Some.ensures.found in
    let now : new ≡ put c.args.c (stream_of heard.kept) old =
    c.exchange-in-Ok-hear.ensures.now
    ∙ ap (put c.args.c (stream_of heard.kept)) c.exchange.ensures.now
    ∙ put_twice c.args.c c.in-Some.place old Closed (stream_of heard.kept) place in
    subst (λ b. Answers rests (Serves acting b.served) b.world c.args.c octets heard.answer.items (world servant new))
    c.self.view_is
    (heard_step acting service c.args.c old new run rest octets s servant heard.answer.items heard.kept there
    (subst (λ (all : List ℕ). IsHeard acting service (cut run all) s heard.answer.items heard.kept servant)
    c.in-Ok.ensures.items c.in-Ok-hear.ensures.heard) now)

pub returns-in-Err-hear-clause-refused : goal.returns-in-Err-hear-clause-refused
returns-in-Err-hear-clause-refused g c =
    let acting = acts g.S.Servant.says g.S.Servant.after in
    let inside = c.self.inside in
    let service = inside.server.service in
    let old = streams_of inside.connections.items in
    let octets = c.args.octets.now in
    let s = inside.server.servant in
    let run = c.in-Open.run' in
    let rest = c.in-Open.rest.items in
    let there : at c.args.c old ≡ Some (Open run rest) =
    c.exchange.ensures.was ∙ ap (λ kept. Some (stream_of kept)) c.in-Open.is in
    let servant = c.hear.new.self.servant in
    subst (λ b. (j : ℕ) × Abandons rests (Moves acting b.served) b.world c.args.c octets j []
    (world servant (streams_of c.exchange.new.connections.items))) c.self.view_is
    (stopped_step acting service c.args.c old (streams_of c.exchange.new.connections.items) run rest octets s servant
    there
    (subst (λ (all : List ℕ). Stopped acting service (cut run all).raws s servant) c.in-Ok.ensures.items
    c.in-Err-hear.ensures.given_up) c.exchange.ensures.now)
