use Rattle.std.proofs.Common.{rules, ◌≡◌, sym, subst}
use Rattle.type_model.specs.ModelRules.{IsModel}
use Rattle.model_builder.specs.Shown.{IsModelOf, defined, model_of}
use Rattle.model_builder.proofs.model.built_of.Goals as goal

pub unreachable-requires : goal.unreachable-requires
unreachable-requires c =
    let types = c.without_sites-types.result in
    let right : IsModel (model_of c.args.names.now (defined types c.args.signatures.items c.args.offered.items)) =
    subst (λ t. IsModel (model_of c.args.names.now (defined t c.args.signatures.items c.args.offered.items)))
    (sym c.without_sites-types.ensures)
    (c.requires.model (c.requires.graph c.in_ok-check_paths.ensures.shallow)) in
    search rules

pub returns-in-Ok-clause-shows : goal.returns-in-Ok-clause-shows
returns-in-Ok-clause-shows c =
    let types = c.without_sites-types.result in
    let shown : IsModelOf c.args.names.now (defined types c.args.signatures.items c.args.offered.items) c.in-Ok.model =
    search rules in
    record {
      parts = subst (λ t. c.in-Ok.model
          ≡ model_of c.args.names.now (defined t c.args.signatures.items c.args.offered.items))
          c.without_sites-types.ensures shown.parts;
      rules = shown.rules;
    }
