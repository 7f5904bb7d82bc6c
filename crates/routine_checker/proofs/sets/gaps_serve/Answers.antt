use Rattle.std.proofs.Common.{◌∙◌, ap, bit_or}
use Rattle.type_graph.specs.declared.width.Width.TheVariants.{One}
use Rattle.routine_checker.specs.Sets.{is_within}
use Rattle.routine_checker.specs.inner.Places.{agreeing}
use Rattle.routine_checker.proofs.PlaceLaws.{serve_within}
use Rattle.routine_checker.proofs.sets.gaps_serve.Goals as goal

pub returns : goal.returns
returns c =
    c.is_within.ensures ∙ ap (λ other. is_within c.args.set (bit_or other c.agreeing-2.result)) c.agreeing.ensures
    ∙ ap (λ other. is_within c.args.set (bit_or (agreeing c.args.made One) other)) c.agreeing-2.ensures
    ∙ serve_within c.args.set c.args.made c.args.lead
