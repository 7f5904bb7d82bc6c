use Rattle.std.proofs.Common.{sym, ◌∙◌, Some, codes}
use Rattle.command_words.specs.Ask.{Answer}
use Rattle.command_words.specs.declared.requests.value.Way.TheVariants.{Encode, Decode}
use Rattle.command_words.proofs.ByCommand.{by_check, by_compile, by_description, by_explanation, by_reference, by_show, by_upgrade, by_value, named}
use Rattle.command_words.proofs.matches.task_in.Goals as goal

pub returns-in-encode-clause-asked : goal.returns-in-encode-clause-asked
returns-in-encode-clause-asked c ask name_is tells =
    by_value Encode ask _ c.to_encode.result (named (codes "encode") (Answer ask) (sym c.in-encode.is ∙ name_is)) tells c.to_encode.ensures.asked

pub returns-in-decode-clause-asked : goal.returns-in-decode-clause-asked
returns-in-decode-clause-asked c ask name_is tells =
    by_value Decode ask _ c.to_decode.result (named (codes "decode") (Answer ask) (sym c.in-decode.is ∙ name_is)) tells c.to_decode.ensures

pub returns-in-check-clause-asked : goal.returns-in-check-clause-asked
returns-in-check-clause-asked c ask name_is tells =
    by_check ask _ c.check.result (named (codes "check") (Answer ask) (sym c.in-check.is ∙ name_is)) tells c.check.ensures

pub returns-in-show-clause-asked : goal.returns-in-show-clause-asked
returns-in-show-clause-asked c ask name_is tells =
    by_show ask _ c.show.result (named (codes "show") (Answer ask) (sym c.in-show.is ∙ name_is)) tells c.show.ensures

pub returns-in-upgrade-clause-asked : goal.returns-in-upgrade-clause-asked
returns-in-upgrade-clause-asked c ask name_is tells =
    by_upgrade ask _ c.upgrade.result (named (codes "upgrade") (Answer ask) (sym c.in-upgrade.is ∙ name_is)) tells c.upgrade.ensures

pub returns-in-compile-clause-asked : goal.returns-in-compile-clause-asked
returns-in-compile-clause-asked c ask name_is tells =
    by_compile ask _ c.compile.result (named (codes "compile") (Answer ask) (sym c.in-compile.is ∙ name_is)) tells c.compile.ensures

pub returns-in-ior-clause-asked : goal.returns-in-ior-clause-asked
returns-in-ior-clause-asked c ask name_is tells =
    by_reference ask _ c.reference.result (named (codes "ior") (Answer ask) (sym c.in-ior.is ∙ name_is)) tells c.reference.ensures

pub returns-in-explain-clause-asked : goal.returns-in-explain-clause-asked
returns-in-explain-clause-asked c ask name_is tells =
    by_explanation ask _ (Some c.explain.result) (named (codes "explain") (Answer ask) (sym c.in-explain.is ∙ name_is)) tells (λ word told. c.explain.ensures word told)

pub returns-in-reference-clause-asked : goal.returns-in-reference-clause-asked
returns-in-reference-clause-asked c ask name_is tells =
    by_description ask _ c.describe.result (named (codes "reference") (Answer ask) (sym c.in-reference.is ∙ name_is)) tells c.describe.ensures
