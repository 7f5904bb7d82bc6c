use Rattle.std.proofs.Common.{ap₂, ◌∙◌}
use Rattle.std.proofs.lemmas.Result.{IfOk-weaker}
use Rattle.clap.specs.Words.{with_rule}
use Rattle.command_words.proofs.commands.dump_command.Goals as goal

pub returns : goal.returns
returns c =
    IfOk-weaker c.arg-3.result _ _ (λ command h. h.shape c.follow_flag.ensures.local
    ∙ ap₂ with_rule (c.in_ok-arg-2.ensures.shape c.capture_word-2.ensures.local
    ∙ ap₂ with_rule (c.in_ok-arg.ensures.shape c.capture_word.ensures.local
    ∙ ap₂ with_rule c.in_ok-table_command.ensures c.capture_word.ensures.rule) c.capture_word-2.ensures.rule)
    c.follow_flag.ensures.rule) c.arg-3.ensures
