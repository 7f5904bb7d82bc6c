use Rattle.std.proofs.Common.{ap, ap₂, Option, Some, ◌∙◌}
use Rattle.clap.specs.Words.{Rule, rule_of}
use Rattle.clap.specs.declared.builder.arg.Arg.{Arg}
use Rattle.clap.specs.declared.builder.value_parser.ValueParser.{ValueParser}
use Rattle.command_words.proofs.commands.order_word.Goals as goal

abbrev taking : Rule → Option ValueParser → Rule
taking rule parser = record rule { parser = parser }

pub returns-clause-rule : goal.returns-clause-rule
returns-clause-rule c =
    let order = c.value_parser.ensures in
    ap rule_of order.others ∙ ap₂ taking c.wanted.ensures.rule
    (order.given.1 ∙ ap (λ (p : ValueParser). Some p) order.given.2)

pub returns-clause-local : goal.returns-clause-local
returns-clause-local c = ap (λ (a : Arg). a.global) c.value_parser.ensures.others ∙ c.wanted.ensures.local
