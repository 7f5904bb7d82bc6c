use Rattle.std.proofs.Common.{ap₂, ◌∙◌}
use Rattle.std.proofs.lemmas.Result.{IfOk-weaker}
use Rattle.clap.specs.Words.{with_rule}
use Rattle.command_words.proofs.commands.value_command.Goals as goal

pub returns : goal.returns
returns c =
    IfOk-weaker c.arg-5.result _ _ (λ command h. h.shape c.explain_flag.ensures.local
    ∙ ap₂ with_rule (c.in_ok-arg-4.ensures.shape c.pos_word.ensures.local
    ∙ ap₂ with_rule (c.in_ok-arg-3.ensures.shape c.order_word.ensures.local
    ∙ ap₂ with_rule (c.in_ok-arg-2.ensures.shape c.wanted-2.ensures.local
    ∙ ap₂ with_rule (c.in_ok-arg.ensures.shape c.wanted.ensures.local
    ∙ ap₂ with_rule c.new.ensures.app c.wanted.ensures.rule) c.wanted-2.ensures.rule) c.order_word.ensures.rule)
    c.pos_word.ensures.rule)
    c.explain_flag.ensures.rule) c.arg-5.ensures
