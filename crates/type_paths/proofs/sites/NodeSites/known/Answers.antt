use Rattle.std.proofs.Common.{◌≡◌, List, Some, get_or, ap, subst, sym, ◌∙◌, length, arith}
use Rattle.idl_tree.specs.declared.names.At.{At}
use Rattle.type_paths.specs.Sites.{Sites, known_of, nowhere}
use Rattle.type_paths.proofs.SiteLaws.{found_held, none_held}
use Rattle.type_paths.proofs.sites.NodeSites.known.Goals as goal

pub returns-then-at-token : goal.returns-then-at-token
returns-then-at-token c =
    let items = ap length c.held-at-items.ensures in
    let other : c.args.self.now.at.token ≡ c.args.token → ⊥ =
    λ e. c.if-self-token.false (ap (λ (s : Sites). s.at.token) c.self.view_is ∙ e) in
    let same : At → Type 0 = λ at. at.token ≡ c.args.token in
    let there = subst (λ (held : List At). same (get_or held c.loop-at.at-index nowhere)) c.held-at-items.ensures
    c.if-at-token.true in
    subst (λ (held : List At). Some (get_or held c.loop-at.at-index nowhere) ≡ known_of c.args.token c.args.self.now)
    (sym c.held-at-items.ensures)
    (found_held c.args.token c.args.self.now c.loop-at.at-index other (omega arith) there c.loop-at.invariant)

pub returns : goal.returns
returns c =
    let items = ap length c.held-at-items.ensures in
    let other : c.args.self.now.at.token ≡ c.args.token → ⊥ =
    λ e. c.if-self-token.false (ap (λ (s : Sites). s.at.token) c.self.view_is ∙ e) in
    none_held c.args.token c.args.self.now other (λ k lt. c.loop-at.invariant k (omega arith))
