use Rattle.std.proofs.Common.{ap, ap₂, Option, Some, ◌∙◌}
use Rattle.clap.specs.Words.{Rule, rule_of}
use Rattle.clap.specs.declared.builder.arg.Arg.{Arg}
use Rattle.clap.specs.declared.builder.value_parser.ValueParser.{ValueParser}
use Rattle.command_words.proofs.commands.port_option.Goals as goal

abbrev taking : Rule → Option ValueParser → Rule
taking rule parser = record rule { parser = parser }

pub returns-clause-rule : goal.returns-clause-rule
returns-clause-rule c =
    let pos = c.value_parser-2.ensures in
    ap rule_of pos.others ∙ ap₂ taking c.option.ensures.rule
    (pos.given.1 ∙ ap (λ (p : ValueParser). Some p) (pos.given.2 ∙ c.value_parser.ensures))

pub returns-clause-local : goal.returns-clause-local
returns-clause-local c = ap (λ (a : Arg). a.global) c.value_parser-2.ensures.others ∙ c.option.ensures.local
