use Rattle.std.proofs.Common.{ap₂, ◌∙◌}
use Rattle.std.proofs.lemmas.Result.{IfOk-weaker}
use Rattle.clap.specs.Words.{with_rule}
use Rattle.command_words.proofs.commands.reference_command.Goals as goal

pub returns : goal.returns
returns c =
    IfOk-weaker c.arg-3.result _ _ (λ command h. h.shape c.object_option.ensures.local
    ∙ ap₂ with_rule (c.in_ok-arg-2.ensures.shape c.port_option.ensures.local
    ∙ ap₂ with_rule (c.in_ok-arg.ensures.shape c.option.ensures.local
    ∙ ap₂ with_rule c.in_ok-table_command.ensures c.option.ensures.rule) c.port_option.ensures.rule)
    c.object_option.ensures.rule) c.arg-3.ensures
