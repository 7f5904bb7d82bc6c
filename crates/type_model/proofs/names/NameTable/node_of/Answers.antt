use Rattle.std.proofs.Common.{◌≡◌, ◌≢◌, All, List, ℕ, sym, subst}
use Rattle.std.proofs.Common.{get_or}
use Rattle.type_model.specs.Names.{AreDistinct}
use Rattle.type_model.proofs.NameLaws.{nowhere_is, none_any, stands, stands_alone}
use Rattle.type_model.proofs.names.NameTable.node_of.Goals as goal

pub returns-in_err-place-clause-missing : goal.returns-in_err-place-clause-missing
returns-in_err-place-clause-missing c =
    let names = c.args.self.now in
    none_any c.from_residual.result (All (λ (pair : List ℕ × ℕ). pair.0 ≢ c.args.name.now) names)
    (nowhere_is names c.args.name.now c.in_err-place.ensures.missing)

pub returns-clause-found : goal.returns-clause-found
returns-clause-found c = λ node.
    let names = c.args.self.now in
    let name = c.args.name.now in
    let place = c.in_ok-place.place in
    let pair = c.index.result.now in
    let found = c.in_ok-place.ensures.found in
    let distinct : AreDistinct names = subst AreDistinct c.self.view_is c.self.invariant.distinct in
    let here : get_or names place pair ≡ pair =
    subst (λ (list : List (List ℕ × ℕ)). get_or list place pair ≡ pair) c.self.view_is (sym c.index.ensures) in (
      stands names name place pair distinct found.0 found.1 here node,
      stands_alone names name place pair distinct found.0 found.1 here node,
    )
