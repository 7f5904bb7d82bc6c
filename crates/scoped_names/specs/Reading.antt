-- What reading a specification gives: what is known behind a part of it, or the first fault in it.
use Rattle.std.specs.Prelude.{◌≡◌, ◌⊎◌, ℕ, List, Result, Ok, Err, IfErr, MatchResult}
use Rattle.name_table.specs.Entry.{Entry}
use Rattle.scoped_names.specs.RepositoryIds.{IdPragma}
use Rattle.idl_tree.specs.declared.names.At.{At}
use Rattle.scoped_names.specs.declared.fault.NameFault.{NameFault}
use Rattle.scoped_names.specs.declared.fault.NameFault.TheVariants.{NoMemory}

-- a member or a parameter of a scope, and where it is declared
pub record Member : Type 0 where
  pub scope : ℕ
  pub name : List ℕ
  pub at : At

-- what is known at a place of a specification
pub record State : Type 0 where
  pub entries : List Entry
  -- the members and parameters that scopes have, which no search finds
  pub members : List Member
  -- the scopes of which a definition was read
  pub defined : List ℕ
  -- the prefix of repository ids that is set
  pub prefix : List ℕ
  -- what pragmas give to entries
  pub given : List IdPragma
  -- the scope that was entered last
  pub scope : ℕ
  -- the entry of the last enumeration
  pub enumeration : ℕ

abbrev pub StateOrFault : Type 0
StateOrFault = Result State NameFault

-- a test that changes nothing
abbrev pub Test : Type 0
Test = Result (Unit {0}) NameFault

-- one thing, and then another where the first is without a fault
infixl 10 ◌>>◌
abbrev pub ◌>>◌ : {A B E : Type 0} → Result A E → (A → Result B E) → Result B E
(Ok x) >> next = next x
(Err fault) >> next = Err fault

-- a test before what follows, which changes nothing
abbrev pub passed : State → Test → StateOrFault
passed st test = test >> λ u. Ok st

-- what is known behind is what reading gives; a fault is the one that it gives, or memory was refused
abbrev pub Tells : {T S : Type 0} → Result T NameFault → S → Result S NameFault → Type 0
Tells result new reading =
    MatchResult result (λ x. reading ≡ Ok new) (λ fault. (fault ≡ NoMemory) ⊎ (reading ≡ Err fault))

-- the same of a value
abbrev pub Gives : {T : Type 0} → Result T NameFault → Result T NameFault → Type 0
Gives result reading =
    MatchResult result (λ x. reading ≡ Ok x) (λ fault. (fault ≡ NoMemory) ⊎ (reading ≡ Err fault))

-- the same of a test
abbrev pub Checks : {T : Type 0} → Result T NameFault → Test → Type 0
Checks result test =
    MatchResult result (λ x. test ≡ Ok tt) (λ fault. (fault ≡ NoMemory) ⊎ (test ≡ Err fault))

-- a fault leaves what is known as it was
abbrev pub Keeps : {T S : Type 0} → Result T NameFault → S → S → Type 0
Keeps result old new = IfErr result (λ fault. (fault ≡ NoMemory) ⊎ (new ≡ old))
