-- What names find is known, so of parts one behind another.
use Rattle.std.proofs.Common.{◌⊎◌, inl, inr, ℕ, List, [], ◌∷◌, ◌++◌, subst}
use Rattle.std.specs.List.{Any}
use Rattle.name_table.specs.Entry.{Entry}
use Rattle.scoped_names.specs.Introductions.{StandsFor, introduced, introduced_by, scope_behind}
use Rattle.name_steps.specs.Steps.{Step, HasBase, NamesType, NamesException}
use Rattle.scoped_names.specs.Following.{AllFollow, FindsKnown}
use Rattle.scoped_names.specs.Holding.{AllHold}
use Rattle.scoped_names.proofs.Introducing.{any_left, any_right}
use Rattle.scoped_names.proofs.Parts.{Closed, scope_past}

pub finds_more : (known more : ℕ → Type 0) (es : List Entry) (scope : ℕ) (s : Step) → ((e : ℕ) → known e → more e)
    → FindsKnown known es scope s → FindsKnown more es scope s
finds_more known more es scope (NamesType name) grows h = λ e is. grows e (h e is)
finds_more known more es scope (NamesException name) grows h = λ e is. grows e (h e is)
finds_more known more es scope (HasBase l name) grows h = λ e is. grows e (h e is)
finds_more known more es scope s grows h = tt

-- where more is known
pub follow_more : (known more : ℕ → Type 0) (es : List Entry) (scope : ℕ) (steps : List Step)
    → ((e : ℕ) → known e → more e) → AllFollow known es scope steps → AllFollow more es scope steps
follow_more known more es scope [] grows h = tt
follow_more known more es scope (s ∷ steps) grows (finds, h) = (
  finds_more known more es scope s grows finds,
  follow_more (λ e. known e ⊎ Any (StandsFor es e) (introduced_by scope s))
      (λ e. more e ⊎ Any (StandsFor es e) (introduced_by scope s)) es (scope_behind es scope s) steps by h,
)
  where
    by : (e : ℕ) → known e ⊎ Any (StandsFor es e) (introduced_by scope s) → more e
        ⊎ Any (StandsFor es e) (introduced_by scope s)
    by e (inl is) = inl (grows e is)
    by e (inr any) = inr any

-- behind steps what they introduce is known too
pub follow_split : (known : ℕ → Type 0) (es : List Entry) (scope : ℕ) (xs ys : List Step)
    → AllFollow known es scope (xs ++ ys)
    → AllFollow known es scope xs × AllFollow (λ e. known e ⊎ Any (StandsFor es e) (introduced es scope xs)) es
    (scope_past es scope xs) ys
follow_split known es scope [] ys h =
    (tt, follow_more known (λ e. known e ⊎ Any (StandsFor es e) []) es scope ys (λ e is. inl is) h)
follow_split known es scope (s ∷ xs) ys (finds, h) =
    let first = introduced_by scope s in
    let others = introduced es (scope_behind es scope s) xs in
    let rest = follow_split (λ e. known e ⊎ Any (StandsFor es e) first) es (scope_behind es scope s) xs ys h in (
      (finds, rest.0),
      follow_more (λ e. (known e ⊎ Any (StandsFor es e) first) ⊎ Any (StandsFor es e) others)
          (λ e. known e ⊎ Any (StandsFor es e) (first ++ others)) es
          (scope_past es scope (s ∷ xs)) ys by rest.1,
    )
  where
    by : (e : ℕ) → (known e ⊎ Any (StandsFor es e) (introduced_by scope s))
        ⊎ Any (StandsFor es e) (introduced es (scope_behind es scope s) xs)
        → known e ⊎ Any (StandsFor es e) (introduced_by scope s ++ introduced es (scope_behind es scope s) xs)
    by e (inl (inl is)) = inl is
    by e (inl (inr any)) = inr
        (any_left (StandsFor es e) (introduced_by scope s) (introduced es (scope_behind es scope s) xs) any)
    by e (inr any) = inr (any_right (StandsFor es e) (introduced_by scope s)
        (introduced es (scope_behind es scope s) xs) any)

-- where it is all known
pub both_follow : (known more : ℕ → Type 0) (es : List Entry) (scope : ℕ) (xs ys : List Step) → Closed xs
    → AllHold es scope xs
    → ((e : ℕ) → known e ⊎ Any (StandsFor es e) (introduced es scope xs) → more e) → AllFollow known es scope (xs ++ ys)
    → AllFollow known es scope xs × AllFollow more es scope ys
both_follow known more es scope xs ys c holds grows h =
    let parts = follow_split known es scope xs ys h in (
      parts.0,
      follow_more (λ e. known e ⊎ Any (StandsFor es e) (introduced es scope xs)) more es scope ys grows
          (subst (λ k. AllFollow (λ e. known e ⊎ Any (StandsFor es e) (introduced es scope xs)) es k ys)
          (c.go es scope holds) parts.1),
    )
