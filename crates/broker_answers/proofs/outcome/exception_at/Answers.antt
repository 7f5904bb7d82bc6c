use Rattle.std.proofs.Common.{◌∙◌, sym, ap, option_map}
use Rattle.broker_answers.proofs.Lookups.{exception_there}
use Rattle.broker_answers.proofs.outcome.exception_at.Goals as goal

pub unreachable-requires : goal.unreachable-requires
unreachable-requires c =
    exception_there c.args.model.now c.args.number c.args.place c.in-Some.exception c.args.operation.now
    c.operations-operations.ensures.rules c.requires (sym c.exception_number.ensures ∙ c.in-Some.is)
    (sym c.numbered_exception.ensures ∙ ap (option_map (λ e. e.now)) c.in-None.is)
