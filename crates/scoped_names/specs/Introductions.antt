-- What a specification introduces (ISO/IEC 19500-1, names and scoping), in order of reading: identifiers in scopes, the
-- members and parameters that scopes have, and bodies. `es` are the entries of the whole, by which scopes have numbers.
use Rattle.std.specs.Prelude.{◌≡◌, ℕ, Bool, false, not, ◌&&◌, nat_eq, List, [], ◌∷◌, ◌++◌, slice_get, Some}
use Rattle.std.specs.Str.{bytes_eq, str_eq_ignore_ascii_case}
use Rattle.idl_tree.specs.declared.names.Leaf.{Leaf}
use Rattle.idl_tree.specs.declared.kinds.EntryKind.{EntryKind}
use Rattle.idl_tree.specs.declared.kinds.EntryKind.TheVariants as Entries
use Rattle.name_table.specs.Entry.{Entry, around, named}
use Rattle.name_table.specs.Entries.{scope_of}
use Rattle.name_table.specs.Search.{word}
use Rattle.scoped_names.specs.Faults.{may_reappear}
use Rattle.name_steps.specs.Steps.{Step, Declares, DeclaresEnum, DeclaresEnumerator, DeclaresTypedef, DeclaresConst, DeclaresFeature, HasMember, Enters, Defines, Leaves}

pub data Introduction : Type 0 where
  -- an identifier that stands for something of the kind
  Stands : ℕ → Leaf → EntryKind → Introduction
  -- a member or a parameter
  Has : ℕ → Leaf → Introduction
  -- the definition of what has the scope
  Body : ℕ → Introduction

-- what a step introduces that is done in the scope
abbrev pub introduced_by : ℕ → Step → List Introduction
introduced_by scope (Declares kind l) = Stands scope l kind ∷ []
introduced_by scope (DeclaresEnum l) = Stands scope l Entries.Enum ∷ []
introduced_by scope (DeclaresEnumerator l) = Stands scope l Entries.Enumerator ∷ []
introduced_by scope (DeclaresTypedef t d) = Stands scope d.identifier Entries.Typedef ∷ []
introduced_by scope (DeclaresConst c) = Stands scope c.identifier Entries.Const ∷ []
introduced_by scope (DeclaresFeature kind l) = Stands scope l kind ∷ []
introduced_by scope (HasMember l) = Has scope l ∷ []
introduced_by scope (Defines l) = Body scope ∷ []
introduced_by scope _ = []

-- the scope in which the next step is done
abbrev pub scope_behind : List Entry → ℕ → Step → ℕ
scope_behind es scope (Enters l) = scope_of es scope l
scope_behind es scope Leaves = around es scope
scope_behind es scope _ = scope

-- what steps introduce, of which the first is done in the scope
abbrev pub introduced : List Entry → ℕ → List Step → List Introduction
introduced es scope [] = []
introduced es scope (s ∷ steps) = introduced_by scope s ++ introduced es (scope_behind es scope s) steps

-- ---- each thing once

-- one name in one scope, whatever the case of its letters
abbrev pub is_one_name : ℕ → Leaf → ℕ → Leaf → Bool
is_one_name scope l other m = nat_eq scope other && str_eq_ignore_ascii_case (word l) (word m)

-- what can't stand behind what stands before it
abbrev pub clashes : Introduction → Introduction → Bool
clashes (Stands s l kind) (Stands t m other) =
    is_one_name s l t m && not (may_reappear other kind && bytes_eq (word m) (word l))
clashes (Stands s l kind) (Has t m) = is_one_name s l t m
clashes (Stands s l kind) (Body t) = false
clashes (Has s l) (Stands t m other) = is_one_name s l t m
clashes (Has s l) (Has t m) = is_one_name s l t m
clashes (Has s l) (Body t) = false
clashes (Body s) (Stands t m other) = false
clashes (Body s) (Has t m) = false
clashes (Body s) (Body t) = nat_eq s t

-- an identifier that stands for the n-th entry
abbrev pub StandsFor : List Entry → ℕ → Introduction → Type 0
StandsFor es n (Stands scope l kind) = named es scope (word l) ≡ Some n
StandsFor es n (Has scope l) = ⊥
StandsFor es n (Body scope) = ⊥

-- an identifier is the entry that stands at its scope and name, of its kind and spelling
abbrev pub IsEntry : List Entry → Introduction → Type 0
IsEntry es (Stands scope l kind) = (n : ℕ) × (e : Entry) × (named es scope (word l) ≡ Some n)
    × (slice_get es n ≡ Some e) × (e.kind ≡ kind) × (e.name ≡ word l)
IsEntry es (Has scope l) = Unit {0}
IsEntry es (Body scope) = Unit {0}
