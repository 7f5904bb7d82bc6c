use Rattle.std.proofs.Common.{◌≡◌, ◌≢◌, ◌≤◌, ℕ, List, length, slice_get, Some, take_all, sym, subst, rules, arith}
use Rattle.std.proofs.lemmas.List.Elements.{All-more, All-same}
use Rattle.std.proofs.lemmas.Option.{slice_get_within, get_or_from_slice_get}
use Rattle.idlc_c.proofs.NameLaws.{contains_at}
use Rattle.idlc_c.proofs.names.find.Goals as goal

pub returns-then-eq-clause-found : goal.returns-then-eq-clause-found
returns-then-eq-clause-found c =
    let there : slice_get c.args.table.now.model.names c.loop-place.place
    ≡ Some (c.args.name.now, c.pair-node.result.1) = search rules in
    contains_at c.args.table.now.model.names c.loop-place.place _ there

pub loop-place-preserved : goal.loop-place-preserved
loop-place-preserved c =
    let names = c.args.table.now.model.names in let place = c.loop-place.place in let pair : List ℕ × ℕ =
    (c.pair-node.result.0.now, c.pair-node.result.1) in
    let there : slice_get names place ≡ Some pair = search rules in
    let apart : pair.0 ≢ c.args.name.now = search rules in
    let is = get_or_from_slice_get names place pair pair there in
    All-more (λ (p : List ℕ × ℕ). p.0 ≢ c.args.name.now) names place pair (slice_get_within names place pair there)
    c.loop-place.invariant
    (subst (λ (p : List ℕ × ℕ). p.0 ≢ c.args.name.now) (sym is) apart)

pub returns-clause-missing : goal.returns-clause-missing
returns-clause-missing c =
    let names = c.args.table.now.model.names in
    let same : c.names-names.result.now ≡ names = search rules in
    let all : length c.names-names.result.now ≤ c.loop-place.place = omega arith in
    let past = subst (λ (ns : List (List ℕ × ℕ)). length ns ≤ c.loop-place.place) same all in
    All-same (λ (p : List ℕ × ℕ). p.0 ≢ c.args.name.now) _ _ (sym (take_all c.loop-place.place names past))
    c.loop-place.invariant
