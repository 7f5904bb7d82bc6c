use Rattle.std.proofs.Common.{◌∙◌, sym, ap, option_map}
use Rattle.broker_answers.specs.Objects.{first_named}
use Rattle.broker_answers.proofs.Lookups.{operation_there}
use Rattle.broker_answers.proofs.objects.operation_named.Goals as goal

pub unreachable-requires : goal.unreachable-requires
unreachable-requires c =
    operation_there c.args.model.now c.args.interface.now c.args.name.now c.in-Some.number
    (sym (c.first_with.ensures ∙ ap (first_named c.args.model.now c.args.name.now) c.as_slice.ensures) ∙ c.in-Some.is)
    (sym c.operation_at.ensures ∙ ap (option_map (λ o. o.now)) c.in-None.is)
