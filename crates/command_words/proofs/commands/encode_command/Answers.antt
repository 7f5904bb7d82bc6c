use Rattle.std.proofs.Common.{ap₂, ◌∙◌}
use Rattle.std.proofs.lemmas.Result.{IfOk-weaker}
use Rattle.clap.specs.Words.{with_rule}
use Rattle.command_words.proofs.commands.encode_command.Goals as goal

pub returns : goal.returns
returns c =
    IfOk-weaker c.arg-2.result _ _ (λ command h. h.shape c.text_option.ensures.local
    ∙ ap₂ with_rule (c.in_ok-arg.ensures.shape c.tape_word.ensures.local
    ∙ ap₂ with_rule c.in_ok-value_command.ensures c.tape_word.ensures.rule) c.text_option.ensures.rule) c.arg-2.ensures
