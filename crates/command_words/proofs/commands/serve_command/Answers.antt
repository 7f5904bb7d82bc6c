use Rattle.std.proofs.Common.{ap₂, ◌∙◌}
use Rattle.std.proofs.lemmas.Result.{IfOk-weaker}
use Rattle.clap.specs.Words.{with_rule}
use Rattle.command_words.proofs.commands.serve_command.Goals as goal

pub returns : goal.returns
returns c =
    IfOk-weaker c.arg-5.result _ _ (λ command h. h.shape c.idle_option.ensures.local
    ∙ ap₂ with_rule (c.in_ok-arg-4.ensures.shape c.at_once_option.ensures.local
    ∙ ap₂ with_rule (c.in_ok-arg-3.ensures.shape c.connections_option.ensures.local
    ∙ ap₂ with_rule (c.in_ok-arg-2.ensures.shape c.object_option.ensures.local
    ∙ ap₂ with_rule (c.in_ok-arg.ensures.shape c.port_option.ensures.local
    ∙ ap₂ with_rule c.in_ok-table_command.ensures c.port_option.ensures.rule) c.object_option.ensures.rule)
    c.connections_option.ensures.rule)
    c.at_once_option.ensures.rule) c.idle_option.ensures.rule) c.arg-5.ensures
