use Rattle.std.proofs.Common.{ap₂, ◌∙◌}
use Rattle.std.proofs.lemmas.Result.{IfOk-weaker}
use Rattle.clap.specs.Words.{with_rule}
use Rattle.command_words.proofs.commands.show_command.Goals as goal

pub returns : goal.returns
returns c =
    IfOk-weaker c.arg.result _ _ (λ command h. h.shape c.types_flag.ensures.local
    ∙ ap₂ with_rule c.in_ok-table_command.ensures c.types_flag.ensures.rule) c.arg.ensures
