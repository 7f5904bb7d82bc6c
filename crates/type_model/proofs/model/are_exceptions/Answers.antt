use Rattle.std.proofs.Common.{rules, tests}
use Rattle.std.proofs.lemmas.Iterator.{cases_from_all, YieldsList-from_slice}
use Rattle.type_model.specs.declared.signatures.Exception.{Exception}
use Rattle.type_model.specs.ModelRules.{IsException}
use Rattle.type_model.proofs.ModelLaws.{all_from_cases}
use Rattle.type_model.proofs.model.are_exceptions.Goals as goal

pub returns : goal.returns
returns c =
    let Keeps : Exception → Type 0 = λ exception. IsException c.args.nodes.now c.args.names.now exception in
    all_from_cases Keeps c.all.result c.args.exceptions.now
    (cases_from_all _ _ _ Keeps (λ exception. Keeps exception → ⊥) c.all.ensures.ran
    (YieldsList-from_slice c.args.exceptions.now cc) (λ x q k. search (rules, tests))
    (λ x q k. search (rules, tests)))
