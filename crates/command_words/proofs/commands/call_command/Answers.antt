use Rattle.std.proofs.Common.{ap₂, ◌∙◌}
use Rattle.std.proofs.lemmas.Result.{IfOk-weaker}
use Rattle.clap.specs.Words.{with_rule}
use Rattle.command_words.proofs.commands.call_command.Goals as goal

pub returns : goal.returns
returns c =
    IfOk-weaker c.arg-3.result _ _ (λ command h. h.shape c.repeat_option.ensures.local
    ∙ ap₂ with_rule (c.in_ok-arg-2.ensures.shape c.wait_option.ensures.local
    ∙ ap₂ with_rule (c.in_ok-arg.ensures.shape c.order_option.ensures.local
    ∙ ap₂ with_rule c.in_ok-called_command.ensures c.order_option.ensures.rule) c.wait_option.ensures.rule)
    c.repeat_option.ensures.rule) c.arg-3.ensures
