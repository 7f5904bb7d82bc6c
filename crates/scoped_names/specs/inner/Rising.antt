-- Along the steps of a specification the numbers of tokens rise: each step stands at a token, not before that of the
-- one before it, and a base behind it.
use Rattle.std.specs.Prelude.{ℕ, ◌<◌, ◌≤◌, ◌^◌, List, [], ◌∷◌}
use Rattle.idl_tree.specs.Starts.{expr_start, name_start}
use Rattle.scoped_names.specs.Meanings.{const_end}
use Rattle.name_steps.specs.Steps.{Step, Declares, DeclaresEnum, DeclaresEnumerator, DeclaresTypedef, IsNew, DeclaresConst, DeclaresFeature, HasMember, IsUndefined, HasBase, Enters, Defines, Leaves, NamesType, NamesException, HasWorth, IsSize, Says}

-- the token that a step stands at, behind the token m
abbrev pub token_of : ℕ → Step → ℕ
token_of m (Declares kind l) = l.number
token_of m (DeclaresEnum l) = l.number
token_of m (DeclaresEnumerator l) = l.number
token_of m (DeclaresTypedef t d) = d.identifier.number
token_of m (IsNew l) = l.number
token_of m (DeclaresConst c) = c.identifier.number
token_of m (DeclaresFeature kind l) = l.number
token_of m (HasMember l) = l.number
token_of m (IsUndefined l) = l.number
token_of m (HasBase l name) = (name_start name).number
token_of m (Enters l) = m
token_of m (Defines l) = m
token_of m Leaves = m
token_of m (NamesType name) = (name_start name).number
token_of m (NamesException name) = (name_start name).number
token_of m (HasWorth e) = (expr_start e).number
token_of m (IsSize e) = (expr_start e).number
token_of m (Says l) = l.number

-- the token behind which the next step stands
abbrev pub reached : ℕ → Step → ℕ
reached m (DeclaresConst c) = const_end c
reached m step = token_of m step

-- a step that stands behind the token m, and not so far that counting on from it would end
abbrev pub Follows : ℕ → Step → Type 0
Follows m (HasBase l name) = (m < (name_start name).number) × ((name_start name).number < 2 ^ 64)
Follows m (DeclaresConst c) = (m ≤ c.identifier.number) × (const_end c < 2 ^ 64)
Follows m step = (m ≤ token_of m step) × (token_of m step < 2 ^ 64)

abbrev pub Rises : ℕ → List Step → Type 0
Rises m [] = Unit {0}
Rises m (step ∷ steps) = Follows m step × Rises (reached m step) steps
