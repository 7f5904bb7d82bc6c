use Rattle.std.proofs.Common.{◌≡◌}
use Rattle.std.specs.String.{string_bytes}
use Rattle.diagnostic_texts.specs.Named.{lines_below}
use Rattle.diagnostic_texts.proofs.named.headings.Given as goal

abbrev pub invariant-loop-number : goal.invariant-loop-number
invariant-loop-number l = string_bytes l.lines ≡ lines_below l.number
