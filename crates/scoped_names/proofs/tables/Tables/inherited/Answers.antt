use Rattle.std.proofs.Common.{◌∙◌, ap, sym, subst}
use Rattle.name_table.specs.Features.{HaveNoBases, features_of}
use Rattle.name_table.specs.Search.{inherited}
use Rattle.name_table.proofs.Bare.{features_inherit_none}
use Rattle.scoped_names.proofs.FeatureTables.{are_apart, are_bare}
use Rattle.scoped_names.proofs.tables.Tables.inherited.Goals as goal

pub returns-then-not-self : goal.returns-then-not-self
returns-then-not-self c =
    let inside = c.self.inside in
    let bare = subst HaveNoBases c.self.view_is
    (are_bare inside.all inside.are_apart inside.features c.if-not-self.true c.self.invariant) in
    sym (features_inherit_none c.args.self.now bare c.args.token c.args.scope.0 c.args.word.text.now)

pub returns : goal.returns
returns c =
    let inside = c.self.inside in
    let kept = are_apart inside.all inside.are_apart inside.features c.if-not-self.false c.self.invariant in
    c.inherited.ensures
    ∙ ap (λ es. inherited es c.args.token c.args.scope.0 c.args.word.text.now) (kept ∙ ap features_of c.self.view_is)
