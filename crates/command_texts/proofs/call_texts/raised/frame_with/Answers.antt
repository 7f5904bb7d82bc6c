use Rattle.std.proofs.Common.{rules, subst, sym}
use Rattle.type_model.specs.ModelRules.{IsModel}
use Rattle.command_texts.proofs.Exceptions.{frame_named}
use Rattle.command_texts.proofs.call_texts.raised.frame_with.Goals as goal

pub returns-in-Some-exception_with-clause-named : goal.returns-in-Some-exception_with-clause-named
returns-in-Some-exception_with-clause-named c =
    frame_named c.args.table.now.model c.model.result.now c.in-Some.id.now c.args.exceptions.now
    c.in-Some-exception_with.exception.now (search rules)
    (subst IsModel (sym c.model.ensures.value) c.model.ensures.rules.model) c.in-Some-exception_with.ensures
