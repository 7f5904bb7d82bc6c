-- Taking, level by level and piece by piece.
use Rattle.std.proofs.Common.{◌≡◌, ℕ, zero, suc, ◌-◌, ◌<◌, ◌≤◌, Bool, true, false, List, [], ◌∷◌, ◌++◌, replicate, Option, Some, None, if◌then◌else◌, refl, sym, ap, ◌∙◌, arith}
use Rattle.type_graph.specs.declared.node.Node.{Node}
use Rattle.type_graph.specs.Value.{node_at}
use Rattle.routine_checker.specs.Taking.{parts_of, opened, taken_by, taken_within, and_then, taken, is_done_by, is_done_within}

-- one level
pub within_next : (levels : ℕ) (wanted : ℕ → Bool) (graph : List Node) (work : List ℕ) → 0 < levels
    → taken_within levels wanted graph work ≡ taken_by (taken_within (levels - 1) wanted graph) wanted graph work
unfolding taken_within
within_next zero wanted graph work h = absurd (omega (arith, h))
within_next (suc levels) wanted graph work h = let e : suc levels - 1 ≡ levels = omega arith in rw e refl

-- no work
pub within_nothing : (levels : ℕ) (wanted : ℕ → Bool) (graph : List Node) (work : List ℕ) → work ≡ []
    → taken_within levels wanted graph work ≡ None
unfolding taken_within
within_nothing zero wanted graph work e = refl
within_nothing (suc levels) wanted graph work e = ap (taken_by (taken_within levels wanted graph) wanted graph) e

-- the first node is wanted
pub within_here : (levels : ℕ) (wanted : ℕ → Bool) (graph : List Node) (work more : List ℕ) (number : ℕ) → 0 < levels
    → work ≡ number ∷ more → wanted number ≡ true → taken_within levels wanted graph work ≡ Some more
within_here levels wanted graph work more number h e is =
    within_next levels wanted graph work h ∙ ap (taken_by (taken_within (levels - 1) wanted graph) wanted graph) e
    ∙ ap (λ b. if b then Some more
    else opened None (taken_within (levels - 1) wanted graph) (parts_of (node_at graph number)) more) is

-- it isn't
pub within_below : (levels : ℕ) (wanted : ℕ → Bool) (graph : List Node) (work more : List ℕ) (number : ℕ)
    (parts : Option (List ℕ)) → 0 < levels → work ≡ number ∷ more → wanted number ≡ false
    → parts ≡ parts_of (node_at graph number)
    → taken_within levels wanted graph work ≡ opened None (taken_within (levels - 1) wanted graph) parts more
within_below levels wanted graph work more number parts h e is p =
    within_next levels wanted graph work h ∙ ap (taken_by (taken_within (levels - 1) wanted graph) wanted graph) e
    ∙ ap (λ b. if b then Some more
    else opened None (taken_within (levels - 1) wanted graph) (parts_of (node_at graph number)) more) is
    ∙ ap (λ (ps : Option (List ℕ)). opened None (taken_within (levels - 1) wanted graph) ps more) (sym p)

-- no levels are left
pub within_none : (wanted : ℕ → Bool) (graph : List Node) (work : List ℕ) → taken_within 0 wanted graph work ≡ None
unfolding taken_within
within_none wanted graph work = refl

-- ---- so many pieces

pub taken_next : (n : ℕ) (wanted : ℕ → Bool) (graph : List Node) (work : List ℕ) → 0 < n
    → taken n wanted graph work ≡ and_then (taken (n - 1) wanted graph) (taken_within 64 wanted graph work)
unfolding taken
taken_next zero wanted graph work h = absurd (omega (arith, h))
taken_next (suc n) wanted graph work h = let e : suc n - 1 ≡ n = omega arith in rw e refl

pub taken_none : (wanted : ℕ → Bool) (graph : List Node) (work : List ℕ) → taken 0 wanted graph work ≡ Some work
unfolding taken
taken_none wanted graph work = refl

-- the first is taken, or can't be
pub took_first : (n : ℕ) (wanted : ℕ → Bool) (graph : List Node) (work rest : List ℕ) → 0 < n
    → taken_within 64 wanted graph work ≡ Some rest → taken n wanted graph work ≡ taken (n - 1) wanted graph rest
took_first n wanted graph work rest h e = taken_next n wanted graph work h
    ∙ ap (and_then (taken (n - 1) wanted graph)) e

pub no_first : (n : ℕ) (wanted : ℕ → Bool) (graph : List Node) (work : List ℕ) → 0 < n
    → taken_within 64 wanted graph work ≡ None → taken n wanted graph work ≡ None
no_first n wanted graph work h e = taken_next n wanted graph work h ∙ ap (and_then (taken (n - 1) wanted graph)) e

-- copies of a wanted node are taken together
pub took_copies : (k n copies : ℕ) (wanted : ℕ → Bool) (graph : List Node) (number : ℕ) (rest : List ℕ) → k ≤ n
    → k ≤ copies → wanted number ≡ true
    → taken n wanted graph (replicate copies number ++ rest)
    ≡ taken (n - k) wanted graph (replicate (copies - k) number ++ rest)
took_copies zero n copies wanted graph number rest le lf is =
    let a : n ≡ n - 0 = omega arith in
    let b : copies ≡ copies - 0 = omega arith in
    ap (λ m. taken m wanted graph (replicate copies number ++ rest)) a
    ∙ ap (λ m. taken (n - 0) wanted graph (replicate m number ++ rest)) b
took_copies (suc k) n zero wanted graph number rest le lf is = absurd (omega (arith, lf))
took_copies (suc k) n (suc copies) wanted graph number rest le lf is =
    let some : 0 < n = omega (arith, le) in
    let fits : k ≤ n - 1 = omega (arith, le) in
    let few : k ≤ copies = omega (arith, lf) in
    let a : n - 1 - k ≡ n - suc k = omega arith in
    let b : copies - k ≡ suc copies - suc k = omega arith in
    let here : 0 < 64 = omega arith in
    took_first n wanted graph (number ∷ replicate copies number ++ rest) (replicate copies number ++ rest) some
    (within_here 64 wanted graph (number ∷ replicate copies number ++ rest) (replicate copies number ++ rest) number
    here refl is)
    ∙ took_copies k (n - 1) copies wanted graph number rest fits few is
    ∙ ap (λ m. taken m wanted graph (replicate (copies - k) number ++ rest)) a
    ∙ ap (λ m. taken (n - suc k) wanted graph (replicate m number ++ rest)) b

-- ---- the end

pub done_next : (levels : ℕ) (graph : List Node) (work : List ℕ) → 0 < levels
    → is_done_within levels graph work ≡ is_done_by (is_done_within (levels - 1) graph) graph work
unfolding is_done_within
done_next zero graph work h = absurd (omega (arith, h))
done_next (suc levels) graph work h = let e : suc levels - 1 ≡ levels = omega arith in rw e refl

pub done_nothing : (levels : ℕ) (graph : List Node) (work : List ℕ) → 0 < levels → work ≡ []
    → is_done_within levels graph work ≡ true
done_nothing levels graph work h e = done_next levels graph work h
    ∙ ap (is_done_by (is_done_within (levels - 1) graph) graph) e

pub done_below : (levels : ℕ) (graph : List Node) (work more : List ℕ) (number : ℕ) (parts : Option (List ℕ))
    → 0 < levels → work ≡ number ∷ more → parts ≡ parts_of (node_at graph number)
    → is_done_within levels graph work ≡ opened false (is_done_within (levels - 1) graph) parts more
done_below levels graph work more number parts h e p =
    done_next levels graph work h ∙ ap (is_done_by (is_done_within (levels - 1) graph) graph) e
    ∙ ap (λ (ps : Option (List ℕ)). opened false (is_done_within (levels - 1) graph) ps more) (sym p)

pub done_none : (graph : List Node) (work : List ℕ) → is_done_within 0 graph work ≡ false
unfolding is_done_within
done_none graph work = refl
