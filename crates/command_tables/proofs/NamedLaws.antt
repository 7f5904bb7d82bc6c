-- What is told of the table of a name.
use Rattle.std.proofs.Common.{◌≡◌, ◌≢◌, ◌⊎◌, inr, ℕ, List, codes, Result, Ok, Err, IfOk, IfErr, OnOk}
use Rattle.table_file.specs.Table.{TableParts}
use Rattle.position_checker.specs.Summary.{accepted}
use Rattle.command_tables.specs.Named.{Passing, IsNoTable, IsNoUpgrade, IsTableOf, IsUnwritten, IsUpgraded, IsWritten}
use Rattle.command_tables.specs.Files.{RefusesFile, RefusesTable}
use Rattle.command_tables.specs.Refusal.{IsOfTable}
use Rattle.command_tables.specs.declared.refusal.Refusal.{Refusal}
use Rattle.command_tables.specs.declared.refusal.Refusal.TheVariants.{NoTable, NotRight, NoMemory}

module _ (Reads : Passing) (name : List ℕ) (table : TableParts) (is : IsTableOf Reads name table)
    {A : Type 0} (text_of : A → List ℕ) where
  -- it was written, and the line tells how many routines it has
  pub upgraded_is : (Takes : Passing) (output : List ℕ) (r : Result A Refusal) → OnOk r (IsWritten Takes output table)
      → IfOk r (λ line. text_of line ≡ accepted table)
      → IfOk r (λ line. IsUpgraded Reads Takes name output (text_of line))
  upgraded_is Takes output (Ok line) written said = record { table = table; is = is; written = written; line_is = said }
  upgraded_is Takes output (Err refusal) written said = tt

  pub not_written : (output : List ℕ) (r : Result A Refusal)
      → IfErr r (λ refusal. RefusesTable table refusal ⊎ IsUnwritten output refusal)
      → IfErr r (IsNoUpgrade Reads name output)
  not_written output (Ok line) refused = tt
  not_written output (Err refusal) refused = inr (record { table = table; is = is; refused = refused })

-- what was read of a file is refused
module _ (Reads : Passing) (name octets : List ℕ) (other : name ≢ codes "builtin") (read : Reads name octets) where
  pub refused_file : {A : Type 0} (r : Result A Refusal) → IfErr r IsOfTable → IfErr r (RefusesFile octets)
      → IfErr r (IsNoTable Reads name)
  refused_file (Ok table) cause refused = tt
  refused_file (Err (NoTable fault)) cause refused =
      record { other = other; octets = octets; read = read; refused = refused }
  refused_file (Err (NotRight fault)) cause refused =
      record { other = other; octets = octets; read = read; refused = refused }
  refused_file (Err NoMemory) cause refused = tt
  refused_file (Err refusal) cause refused = absurd cause
