use Rattle.std.proofs.Common.{◌≡◌, ◌∙◌, ◌<◌, IfSome, Some, length, slice_get, refl, sym, ap, subst, arith}
use Rattle.std.proofs.lemmas.Option.{slice_get_read}
use Rattle.scoped_names.specs.RepositoryIds.{given_in}
use Rattle.scoped_names.proofs.IdsGiven.{given_none, given_there}
use Rattle.scoped_names.proofs.repository_ids.IdPragmas.given.Goals as goal

pub returns-in-Some : goal.returns-in-Some
returns-in-Some c =
    let es = c.self.inside.entries in
    let ids = c.self.inside.ids.items in
    let x = c.index.result.now in
    let low : c.in-Some.number < length es =
    subst (λ o. IfSome o (λ n. n < length es)) c.in-Some.is c.number_of.ensures.there in
    let even = c.self.invariant in
    let here : slice_get ids c.in-Some.number ≡ Some x =
    slice_get_read ids (length ids) c.in-Some.number x refl (omega arith) c.index.ensures in
    sym (ap given_in (given_there c.args.self.now es ids c.self.view_is even c.args.entry c.in-Some.number x
    (sym c.number_of.ensures.is ∙ c.in-Some.is) here))

pub returns-in-None : goal.returns-in-None
returns-in-None c =
    sym (ap given_in (given_none c.args.self.now c.self.inside.entries c.self.inside.ids.items c.self.view_is
    c.self.invariant c.args.entry (sym c.number_of.ensures.is ∙ c.in-None.is)))
