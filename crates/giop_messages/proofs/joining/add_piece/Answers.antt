use Rattle.std.proofs.Common.{◌++◌, ap, ◌∙◌}
use Rattle.giop_messages.specs.Framing.{sized}
use Rattle.giop_messages.proofs.HeadFacts.{behind}
use Rattle.giop_messages.proofs.joining.add_piece.Goals as goal

pub returns-clause-added : goal.returns-clause-added
returns-clause-added c =
    c.renew_size.ensures
    ∙ ap sized (c.in_ok-extend_from_slice.ensures.items
    ∙ ap (λ xs. c.args.run.now.items ++ xs) (behind 16 c.args.fragment.now))
