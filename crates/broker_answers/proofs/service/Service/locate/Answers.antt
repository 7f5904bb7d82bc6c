use Rattle.broker_answers.proofs.Sent.{locate_isnt_refused}
use Rattle.broker_answers.proofs.service.Service.locate.Goals as goal

pub unreachable-requires : goal.unreachable-requires
unreachable-requires c =
    locate_isnt_refused c.in-Err.fault c.args.locate.now.order c.args.locate.now.id c.is_some-here.result
    c.in_default.not-NoMemory c.number-id.ensures.fits c.in-Err.ensures.refused
