use Rattle.std.proofs.Common.{◌∙◌}
use Rattle.type_graph.specs.Value.{NoTree}
use Rattle.giop_messages.specs.Headers.{number_of, reply_tree}
use Rattle.giop.specs.Made.{given_by}
use Rattle.giop.proofs.HeaderTapes.{reply_fits}
use Rattle.giop.proofs.MadeFacts.{written, refused}
use Rattle.giop.proofs.giop_calls.Giop.write_reply.Goals as goal

pub returns-clause-written : goal.returns-clause-written
returns-clause-written c =
    written (λ octets. octets.items) c.args.order 1 19 (reply_tree c.args.id (number_of c.args.status) NoTree)
    c.as_slice.result.now (given_by c.args.body) c.write.result
    (reply_fits c.args.id c.args.status c.ranges.id.fits)
    (c.as_slice.ensures.value ∙ c.in-Ok.ensures) c.write.ensures.made

pub returns-clause-refused : goal.returns-clause-refused
returns-clause-refused c =
    refused c.args.order 1 19 (reply_tree c.args.id (number_of c.args.status) NoTree)
    c.as_slice.result.now (given_by c.args.body) c.write.result
    (reply_fits c.args.id c.args.status c.ranges.id.fits)
    (c.as_slice.ensures.value ∙ c.in-Ok.ensures) c.write.ensures.refused
