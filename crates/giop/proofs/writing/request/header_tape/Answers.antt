use Rattle.std.proofs.Common.{rules}
use Rattle.giop.specs.Addresses.{target_tree}
use Rattle.giop.proofs.HeaderTapes.{request_fits, request_tape}
use Rattle.giop.proofs.writing.request.header_tape.Goals as goal

pub returns-clause-tape : goal.returns-clause-tape
returns-clause-tape c =
    request_tape c.args.id c.args.flags (target_tree c.args.target) c.args.operation.now c.new-tape.result.items
    c.push_start.new.tape.items c.push_target.new.tape.items c.push_operation.new.tape.items
    c.new-tape.ensures.items c.in_ok-push_start.ensures c.in-Ok.ensures.added c.in_ok-push_operation.ensures

pub returns-clause-fits : goal.returns-clause-fits
returns-clause-fits c =
    request_fits c.args.id c.args.flags (target_tree c.args.target) c.args.operation.now c.ranges.id.fits
    c.ranges.flags.fits c.in-Ok.ensures.added.fits (search rules)
