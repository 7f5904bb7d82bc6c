use Rattle.std.proofs.Common.{◌∙◌}
use Rattle.std.proofs.Common.{None}
use Rattle.giop_messages.specs.Headers.{here_number, here_tree}
use Rattle.giop.proofs.HeaderTapes.{here_fits}
use Rattle.giop.proofs.MadeFacts.{written, refused}
use Rattle.giop.proofs.giop_calls.Giop.write_locate_reply.Goals as goal

pub returns-clause-written : goal.returns-clause-written
returns-clause-written c =
    written (λ octets. octets.items) c.args.order 4 21 (here_tree c.args.id (here_number c.args.here))
    c.as_slice.result.now None c.write.result
    (here_fits c.args.id c.args.here c.ranges.id.fits)
    (c.as_slice.ensures.value ∙ c.in-Ok.ensures) c.write.ensures.made

pub returns-clause-refused : goal.returns-clause-refused
returns-clause-refused c =
    refused c.args.order 4 21 (here_tree c.args.id (here_number c.args.here))
    c.as_slice.result.now None c.write.result
    (here_fits c.args.id c.args.here c.ranges.id.fits)
    (c.as_slice.ensures.value ∙ c.in-Ok.ensures) c.write.ensures.refused
