-- Names find what is declared before them (ISO/IEC 19500-1, names and scoping).
use Rattle.std.specs.Prelude.{◌≡◌, ◌⊎◌, ℕ, List, [], ◌∷◌, Ok}
use Rattle.std.specs.List.{Any}
use Rattle.name_table.specs.Entry.{Entry}
use Rattle.scoped_names.specs.Introductions.{StandsFor, introduced_by, scope_behind}
use Rattle.name_steps.specs.Steps.{Step, HasBase, NamesType, NamesException}
use Rattle.scoped_names.specs.Tests.{resolved}

-- what the name of a step finds is known, if it is the name of a type, an exception or a base
abbrev pub FindsKnown : (ℕ → Type 0) → List Entry → ℕ → Step → Type 0
FindsKnown known es scope (NamesType name) = (e : ℕ) → resolved es scope name ≡ Ok e → known e
FindsKnown known es scope (NamesException name) = (e : ℕ) → resolved es scope name ≡ Ok e → known e
FindsKnown known es scope (HasBase l name) = (e : ℕ) → resolved es scope name ≡ Ok e → known e
FindsKnown known es scope s = Unit {0}

-- so of the steps, behind each of which is known what it introduces
abbrev pub AllFollow : (ℕ → Type 0) → List Entry → ℕ → List Step → Type 0
AllFollow known es scope [] = Unit {0}
AllFollow known es scope (s ∷ steps) = FindsKnown known es scope s
    × AllFollow (λ e. known e ⊎ Any (StandsFor es e) (introduced_by scope s)) es (scope_behind es scope s) steps
