-- What holds, said of functions that look names up: they have no fault but want of memory.
use Rattle.std.proofs.Common.{◌≡◌, inl, inr, ℕ, Bool, true, false, List, slice_get, Result, Ok, Err, refl}
use Rattle.std.specs.Prelude.{if◌then◌else◌, IfErr}
use Rattle.idl_tree.specs.declared.names.ScopedName.{ScopedName}
use Rattle.idl_tree.specs.Starts.{name_start, leaf_at as at}
use Rattle.idl_tree.specs.declared.kinds.EntryKind.{EntryKind}
use Rattle.name_table.specs.Entry.{Entry}
use Rattle.scoped_names.specs.declared.fault.NameFault.{NameFault}
use Rattle.scoped_names.specs.declared.fault.NameFault.TheVariants.{NoMemory, NotAType}
use Rattle.scoped_names.specs.Reading.{Gives, Test, ◌>>◌}
use Rattle.scoped_names.specs.Tests.{found_of, is_of, kind_in, resolved}
use Rattle.scoped_names.proofs.Introducing.{then_ok}

-- a value that is there
pub there_is : {T : Type 0} (r : Result T NameFault) → (let t : Test = r >> λ x. Ok tt in t) ≡ Ok tt
    → (x : T) × (r ≡ Ok x)
there_is (Ok x) h = (x, refl)
there_is (Err fault) h = absurd cc

-- what gives it has no fault but want of memory
pub only_memory : {T : Type 0} (result r : Result T NameFault) → (let t : Test = r >> λ x. Ok tt in t) ≡ Ok tt
    → Gives result r → IfErr result (λ fault. fault ≡ NoMemory)
only_memory (Ok x) r h gives = tt
only_memory (Err fault) r h (inl is) = is
only_memory (Err fault) r h (inr is) = let (x, has) = there_is r h in absurd cc

-- what a name finds that has to find something of a kind
pub finds_one : (wanted : EntryKind → Bool) (es : List Entry) (scope : ℕ) (name : ScopedName)
    → found_of wanted es scope name ≡ Ok tt
    → (e : ℕ) × (resolved es scope name ≡ Ok e) × (is_of wanted (slice_get es e) ≡ true)
finds_one wanted es scope name h =
    let (e, is, rest) = then_ok (resolved es scope name) (λ e. if is_of wanted (slice_get es e) then Ok tt
    else Err (NotAType (at (name_start name)) (kind_in (slice_get es e)))) tt h in
    (e, is, by (is_of wanted (slice_get es e)) (NotAType (at (name_start name)) (kind_in (slice_get es e))) rest)
  where
    by : (b : Bool) (fault : NameFault) → (let t : Test = if b then Ok tt else Err fault in t) ≡ Ok tt → b ≡ true
    by true fault h = refl
    by false fault h = absurd cc
