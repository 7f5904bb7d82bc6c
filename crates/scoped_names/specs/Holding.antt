-- What a specification asks of its names, over the entries of the whole (ISO/IEC 19500-1, names and scoping).
use Rattle.std.specs.Prelude.{◌≡◌, ℕ, List, [], ◌∷◌, Ok, Some}
use Rattle.std.specs.List.{AllByRecursion}
use Rattle.name_table.specs.declared.const_values.constant.Constant.{Constant}
use Rattle.name_table.specs.Entry.{Entry, named, worth_in}
use Rattle.name_table.specs.Search.{word}
use Rattle.scoped_names.specs.Faults.{entry_in, is_interface}
use Rattle.scoped_names.specs.Introductions.{IsEntry, introduced_by, scope_behind}
use Rattle.scoped_names.specs.Reading.{Test, ◌>>◌}
use Rattle.name_steps.specs.Steps.{Step, DeclaresConst, HasBase, Enters, NamesType, NamesException, HasWorth, IsSize}
use Rattle.scoped_names.specs.Tests.{found_of, raised_test, size_read, type_name_test, value_of_type, value_read}
use Rattle.scoped_names.specs.TypeKinds.{const_type_kind}

-- what a step asks of its names that is done in the scope
abbrev pub asks : List Entry → ℕ → Step → Test
asks es scope (NamesType name) = type_name_test es scope name
asks es scope (NamesException name) = raised_test es scope name
asks es scope (HasBase l name) = found_of is_interface es scope name
asks es scope (HasWorth e) = value_read es scope e >> λ c. Ok tt
asks es scope (IsSize e) = size_read es scope e >> λ n. Ok tt
asks es scope (DeclaresConst c) =
    value_of_type (const_type_kind es scope c.const_type) es scope c.value.expr >> λ worth. Ok tt
asks es scope _ = Ok tt

-- what a step enters is an entry of the scope
abbrev pub IsThere : List Entry → ℕ → Step → Type 0
IsThere es scope (Enters l) = (n : ℕ) × (named es scope (word l) ≡ Some n)
IsThere es scope s = Unit {0}

-- a constant's entry has the worth of its value
abbrev pub HasItsWorth : List Entry → ℕ → Step → Type 0
HasItsWorth es scope (DeclaresConst c) = (w : Constant)
    × (value_of_type (const_type_kind es scope c.const_type) es scope c.value.expr ≡ Ok w)
    × (worth_in (entry_in es (named es scope (word c.identifier))) ≡ Some w)
HasItsWorth es scope s = Unit {0}

-- the answer to what a step asks that is done in the scope, and entries for what it introduces and enters
pub record Holds (es : List Entry) (scope : ℕ) (s : Step) : Type 0 where
  pub answered : asks es scope s ≡ Ok tt
  pub entries : AllByRecursion (IsEntry es) (introduced_by scope s)
  pub there : IsThere es scope s
  pub worth : HasItsWorth es scope s

-- so of the steps, of which the first is done in the scope
abbrev pub AllHold : List Entry → ℕ → List Step → Type 0
AllHold es scope [] = Unit {0}
AllHold es scope (s ∷ steps) = Holds es scope s × AllHold es (scope_behind es scope s) steps
