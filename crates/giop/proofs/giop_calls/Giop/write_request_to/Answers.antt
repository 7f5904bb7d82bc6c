use Rattle.std.proofs.Common.{[], ◌∷◌, ◌∙◌}
use Rattle.type_graph.specs.Value.{NoTree}
use Rattle.giop_types.specs.Fields.{octet_trees}
use Rattle.giop_messages.specs.Headers.{request_tree}
use Rattle.giop.specs.Addresses.{target_tree}
use Rattle.giop.specs.Made.{given_by}
use Rattle.giop.proofs.HeaderTapes.{header_refused}
use Rattle.giop.proofs.MadeFacts.{written, refused}
use Rattle.giop.proofs.giop_calls.Giop.write_request_to.Goals as goal

pub returns-clause-written : goal.returns-clause-written
returns-clause-written c =
    written (λ octets. octets.items) c.args.order 0 17
    (request_tree c.args.id c.args.flags (octet_trees (0 ∷ 0 ∷ 0 ∷ [])) (target_tree c.args.target) c.args.operation.now
    NoTree)
    c.as_slice.result.now (given_by c.args.body) c.write.result c.in-Ok.ensures.fits
    (c.as_slice.ensures.value ∙ c.in-Ok.ensures.tape) c.write.ensures.made

pub returns-clause-refused : goal.returns-clause-refused
returns-clause-refused c =
    refused c.args.order 0 17
    (request_tree c.args.id c.args.flags (octet_trees (0 ∷ 0 ∷ 0 ∷ [])) (target_tree c.args.target) c.args.operation.now
    NoTree)
    c.as_slice.result.now (given_by c.args.body) c.write.result c.in-Ok.ensures.fits
    (c.as_slice.ensures.value ∙ c.in-Ok.ensures.tape) c.write.ensures.refused

pub returns-in-Err-clause-refused : goal.returns-in-Err-clause-refused
returns-in-Err-clause-refused c =
    header_refused c.in-Err.fault c.args.order c.args.id c.args.flags (target_tree c.args.target) c.args.operation.now
    (given_by c.args.body) c.in-Err.ensures.refused
