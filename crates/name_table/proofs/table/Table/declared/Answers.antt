use Rattle.std.proofs.Common.{◌∙◌, refl, sym, ap}
use Rattle.name_table.specs.Entry.{named}
use Rattle.name_table.specs.Search.{word}
use Rattle.name_table.proofs.Lookups.{named_is}
use Rattle.name_table.proofs.table.Table.declared.Goals as goal

pub returns-clause-is : goal.returns-clause-is
returns-clause-is c =
    let es = c.args.self.now in
    sym (sym (ap (named es c.args.scope.0) (c.new-word.ensures ∙ c.name.ensures))
    ∙ named_is c.self.inside.keys c.self.inside.records.items es c.self.view_is c.self.invariant.0.keyed _
    c.number_of.result
    (sym c.number_of.ensures.is) c.args.scope.0 c.new-word.result.text.now (λ r. refl))

pub returns-then-is_bare-clause-is : goal.returns-then-is_bare-clause-is
returns-then-is_bare-clause-is c = sym (c.is_bare.ensures c.if-is_bare.true (word c.args.identifier))
