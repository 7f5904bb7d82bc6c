use Rattle.std.proofs.Common.{◌≡◌, true, false, rules, map, sym, ap, ◌∙◌, subst, Some, ℕ, [], ◌∷◌, ◌++◌}
use Rattle.std.specs.Cmp.{nat_cmp_total}
use Rattle.std.specs.Map.Iter.{deref_pair}
use Rattle.std.proofs.lemmas.Map.Iter.{btree_map_turn, iter_end}
use Rattle.giop_dumps.specs.OpenRuns.{Runs, is_before, run_of}
use Rattle.giop_dumps.proofs.RunLaws.{IsBest, best_is_next, best_of_all, best_of_none, best_stays}
use Rattle.giop_dumps.proofs.open_runs.OpenRuns.oldest.Goals as goal

pub loop-id-preserved-then-is_before : goal.loop-id-preserved-then-is_before
loop-id-preserved-then-is_before c =
    let turn = btree_map_turn deref_pair c.loop-id.yielded c.into_iter-id-iterator.result c.loop-id.id-iterator
    c.next.new.self c.next.result (c.in-Some.id, c.in-Some.run') c.loop-id.yielded_by c.in-Some.is
    c.next.ensures.steps nat_cmp_total c.self.inside.runs (search rules) (search rules) in
    let there : run_of c.in-Some.id.now c.args.self.now ≡ Some c.in-Some.run'.now =
    subst (λ (rs : Runs). run_of c.in-Some.id.now rs ≡ Some c.in-Some.run'.now) c.self.view_is turn.1 in
    let earlier : is_before c.in-Some.run'.now.last c.loop-id.oldest ≡ true =
    ap (λ n. is_before n c.loop-id.oldest) (sym c.last-last.ensures) ∙ sym c.is_before.ensures ∙ c.if-is_before.true in
    subst (λ (n : ℕ). IsBest (Some (c.in-Some.id.now, n)) c.args.self.now
    (c.loop-id.yielded ++ (c.in-Some.id, c.in-Some.run') ∷ [])) (sym c.last-last.ensures)
    (best_is_next c.loop-id.oldest c.args.self.now c.loop-id.yielded (c.in-Some.id, c.in-Some.run') there earlier
    c.loop-id.invariant)

pub loop-id-preserved : goal.loop-id-preserved
loop-id-preserved c =
    let later : is_before c.in-Some.run'.now.last c.loop-id.oldest ≡ false =
    ap (λ n. is_before n c.loop-id.oldest) (sym c.last-last.ensures) ∙ sym c.is_before.ensures ∙ c.if-is_before.false in
    best_stays c.loop-id.oldest c.args.self.now c.loop-id.yielded (c.in-Some.id, c.in-Some.run') later
    c.loop-id.invariant

pub returns-in-Some-oldest-clause-some : goal.returns-in-Some-oldest-clause-some
returns-in-Some-oldest-clause-some c =
    let all : map deref_pair c.loop-id.yielded ≡ c.self.inside.runs.entries = search (rules, iter_end) in
    best_of_all c.loop-id.oldest _ c.args.self.now c.loop-id.yielded _ (all ∙ c.self.view_is) c.in-Some-oldest.is
    c.loop-id.invariant

pub returns-in-None-oldest-clause-none : goal.returns-in-None-oldest-clause-none
returns-in-None-oldest-clause-none c =
    let all : map deref_pair c.loop-id.yielded ≡ c.self.inside.runs.entries = search (rules, iter_end) in
    best_of_none c.loop-id.oldest c.args.self.now c.loop-id.yielded (all ∙ c.self.view_is) c.in-None-oldest.is
    c.loop-id.invariant
