use Rattle.std.proofs.Common.{ap, ◌∙◌, add-one, ◌++◌}
use Rattle.diagnostic_texts.specs.Headings.{heading}
use Rattle.diagnostic_texts.specs.Named.{line_of, lines_below}
use Rattle.diagnostic_texts.proofs.named.headings.Goals as goal

pub loop-number-init : goal.loop-number-init
unfolding lines_below
loop-number-init c = c.new-lines.ensures.bytes

pub loop-number-preserved : goal.loop-number-preserved
unfolding lines_below
loop-number-preserved c =
    rw add-one (c.in_ok-push_line.ensures
    ∙ ap (λ lines. lines ++ line_of (heading c.loop-number.number)) c.loop-number.invariant)
