-- What is lowered, or a fault of the types: parts one behind another.
use Rattle.std.proofs.Common.{◌≡◌, ℕ, ◌≤◌, Bool, true, false, Result, Ok, Err, refl, sym, subst}
use Rattle.std.specs.Prelude.{if◌then◌else◌, nat_lt, MatchResult}
use Rattle.std.proofs.lemmas.Bool.{ltb-false}
use Rattle.idl_tree.specs.declared.names.At.{At}
use Rattle.type_graph.specs.declared.fault.GraphLimit.{GraphLimit}
use Rattle.scoped_names.specs.Reading.{◌>>◌}
use Rattle.lowered_types.specs.declared.fault.BuildFault.{BuildFault}
use Rattle.lowered_types.specs.Faults.{at_most, limit}
use Rattle.lowered_types.specs.Sound.{IsOfTypes}
use Rattle.lowered_types.proofs.Walks.{goes_on}

abbrev pub Fine : {A : Type 0} → (A → Type 0) → Result A BuildFault → Type 0
Fine good result = MatchResult result good IsOfTypes

pub and_then : {A B : Type 0} (P : A → Type 0) (Q : B → Type 0) (r : Result A BuildFault)
    (next : A → Result B BuildFault) → Fine P r
    → ((x : A) → P x → Fine Q (next x)) → Fine Q (r >> next)
and_then P Q (Ok x) next h f = f x h
and_then P Q (Err fault) next h f = h

-- where it is known what is read
pub given : {A B : Type 0} (Q : B → Type 0) (r : Result A BuildFault) (x : A) (next : A → Result B BuildFault)
    → r ≡ Ok x → Fine Q (next x) → Fine Q (r >> next)
given Q r x next is h = subst (Fine Q) (sym (goes_on r x next is)) h

pub weaker : {A : Type 0} (P Q : A → Type 0) (r : Result A BuildFault) → ((x : A) → P x → Q x) → Fine P r → Fine Q r
weaker P Q (Ok x) f h = f x h
weaker P Q (Err fault) f h = h

pub at_most_fine : (most : ℕ) (which : GraphLimit) (at : At) (n : ℕ)
    → Fine (λ k. (k ≡ n) × (n ≤ most)) (at_most most which at n)
at_most_fine most which at n = by (nat_lt most n) refl
  where
    by : (b : Bool) → nat_lt most n ≡ b
        → Fine (λ k. (k ≡ n) × (n ≤ most)) (if b then Err (limit which most at) else Ok n)
    by true over = tt
    by false over = (refl, ltb-false most n over)
