-- Connections by their numbers.
use Rattle.std.specs.Prelude.{ℕ, List, [], ◌∷◌, Option, Some, None, cond, nat_eq}

-- what is kept of a connection that is there
abbrev pub at : {C : Type 0} → ℕ → List (ℕ × C) → Option C
at c [] = None
at c (one ∷ more) = cond (nat_eq c one.0) (Some one.1) (at c more)

-- something else is kept of it
abbrev pub put : {C : Type 0} → ℕ → C → List (ℕ × C) → List (ℕ × C)
put c kept [] = []
put c kept (one ∷ more) = cond (nat_eq c one.0) ((c, kept) ∷ more) (one ∷ put c kept more)

-- it isn't there any more
abbrev pub without : {C : Type 0} → ℕ → List (ℕ × C) → List (ℕ × C)
without c [] = []
without c (one ∷ more) = cond (nat_eq c one.0) more (one ∷ without c more)

-- more connections than these aren't there at once (own)
abbrev pub max_connections : ℕ
max_connections = 64
