use Rattle.std.proofs.Common.{◌≡◌, ◌∙◌, ◌<◌, IfSome, ◌++◌, [], ◌∷◌, List, Some, Result, Ok, length, slice_get, refl, sym, ap, subst, arith}
use Rattle.std.proofs.lemmas.Option.{slice_get_read}
use Rattle.scoped_names.specs.declared.fault.NameFault.{NameFault}
use Rattle.scoped_names.specs.declared.repository_ids.PlacedId.{PlacedId}
use Rattle.scoped_names.specs.RepositoryIds.{IdPragma}
use Rattle.scoped_names.specs.inner.IdsKept.{given_of, pragma_of, pragmas_of}
use Rattle.scoped_names.specs.Faults.{again_test, given_once}
use Rattle.scoped_names.specs.Reading.{Tells}
use Rattle.scoped_names.proofs.IdsGiven.{given_none, given_there, pragmas_push}
use Rattle.scoped_names.proofs.Readings.{checked_then, keeps_same}
use Rattle.scoped_names.proofs.repository_ids.IdPragmas.give.Goals as goal

pub returns-in-Some : goal.returns-in-Some
returns-in-Some c =
    let ps = c.args.self.now in
    let g = given_of c.args.given in
    let ids = c.self.inside.ids.items in
    let x = c.index.result.now in
    let es = c.self.inside.entries in
    let low : c.in-Some.number < length es =
    subst (λ o. IfSome o (λ n. n < length es)) c.in-Some.is c.number_of.ensures.there in
    let even = c.self.invariant in
    let here : slice_get ids c.in-Some.number ≡ Some x =
    slice_get_read ids (length ids) c.in-Some.number x refl (omega arith) c.index.ensures in
    let there = given_there ps es ids c.self.view_is even c.args.entry c.in-Some.number x
    (sym c.number_of.ensures.is ∙ c.in-Some.is) here in
    record {
      told = subst (λ o. Tells c.given_again.result ps (given_once ps c.args.entry g c.args.at o)) (sym there)
          (checked_then c.given_again.result (again_test (given_of x.id) x.at g c.args.at) ps c.given_again.ensures);
      kept = keeps_same c.given_again.result ps;
    }

pub push-requires : goal.push-requires
push-requires c = sym c.number_of.ensures.is ∙ c.in-None.is

pub returns-in_ok-push-in-None-clause-told : goal.returns-in_ok-push-in-None-clause-told
returns-in_ok-push-in-None-clause-told c =
    let ps = c.args.self.now in
    let e = c.args.entry in
    let g = given_of c.args.given in
    let es = c.self.inside.entries in
    let ids = c.self.inside.ids.items in
    let first : PlacedId = record { id = c.args.given; at = c.args.at } in
    let none = given_none ps es ids c.self.view_is c.self.invariant e (sym c.number_of.ensures.is ∙ c.in-None.is) in
    let behind : ps ++ pragma_of e first ∷ [] ≡ pragmas_of c.push.new.self c.push_reserved.new.self.items =
    sym (ap (λ xs. pragmas_of xs c.push_reserved.new.self.items) c.in_ok-push-in-None.ensures.pushed
    ∙ ap (pragmas_of (es ++ e ∷ [])) (c.push_reserved.ensures.items
    ∙ ap (λ xs. xs ++ first ∷ []) c.in_ok-reserve-in-None.ensures.items)
    ∙ pragmas_push es ids e first c.self.invariant ∙ ap (λ qs. qs ++ pragma_of e first ∷ []) c.self.view_is) in
    ap (given_once ps e g c.args.at) none ∙ ap (λ qs. let r : Result (List IdPragma) NameFault = Ok qs in r) behind
