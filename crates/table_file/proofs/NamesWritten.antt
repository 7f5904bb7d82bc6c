-- Lists that are written place by place.
use Rattle.std.proofs.Common.{◌≡◌, ℕ, zero, suc, ◌+◌, List, [], ◌∷◌, drop, Option, Some, None, sym, ap, ◌∙◌, add-one}
use Rattle.std.specs.Bool.{OnFalse}
use Rattle.std.specs.Prelude.{slice_get}
use Rattle.std.specs.Fmt.{◌++?◌}
use Rattle.marshal_program.specs.declared.fault.TableFault.{TableFault}
use Rattle.table_file.specs.Octets.{spelled_each}
use Rattle.table_file.specs.Refusal.{wants_memory}
use Rattle.table_file.specs.inner.Joins.{joins_assoc}
use Rattle.type_graph.proofs.Refusals.{only_if_weaker}

drop_at : {A : Type 0} (xs : List A) (i : ℕ) (x : A) → slice_get xs i ≡ Some x → drop i xs ≡ x ∷ drop (suc i) xs
drop_at [] i x e = absurd (cc)
drop_at (y ∷ xs) zero x e = ap (λ z. z ∷ xs) (cc)
drop_at (y ∷ xs) (suc i) x e = drop_at xs i x e

-- what is left to write, and the next of it
next_of : {A : Type 0} (f : A → Option (List ℕ)) (xs : List A) (i : ℕ) (x : A) (out : List ℕ) → slice_get xs i ≡ Some x
    → Some out ++? spelled_each f (drop i xs) ≡ (Some out ++? f x) ++? spelled_each f (drop (suc i) xs)
next_of f xs i x out e = ap (λ l. Some out ++? spelled_each f l) (drop_at xs i x e)
    ∙ sym (joins_assoc (Some out) (f x) (spelled_each f (drop (suc i) xs)))

pub next_written : {A : Type 0} (f : A → Option (List ℕ)) (xs : List A) (i next : ℕ) (x : A) (old out now : List ℕ)
    → slice_get xs i ≡ Some x → next ≡ i + 1
    → Some out ++? f x ≡ Some now → Some out ++? spelled_each f (drop i xs) ≡ Some old ++? spelled_each f xs
    → Some now ++? spelled_each f (drop next xs) ≡ Some old ++? spelled_each f xs
next_written f xs i next x old out now at n wrote so_far =
    ap (λ j. Some now ++? spelled_each f (drop j xs)) (n ∙ add-one i)
    ∙ ap (λ o. o ++? spelled_each f (drop (suc i) xs)) (sym wrote) ∙ sym (next_of f xs i x out at) ∙ so_far

pub not_written : {A : Type 0} (f : A → Option (List ℕ)) (xs : List A) (i : ℕ) (x : A) (old out : List ℕ)
    (fault : TableFault) → slice_get xs i ≡ Some x
    → OnFalse (wants_memory fault) (Some out ++? f x ≡ None)
    → Some out ++? spelled_each f (drop i xs) ≡ Some old ++? spelled_each f xs
    → OnFalse (wants_memory fault) (Some old ++? spelled_each f xs ≡ None)
not_written f xs i x old out fault at none so_far =
    only_if_weaker (wants_memory fault) (Some out ++? f x ≡ None) (Some old ++? spelled_each f xs ≡ None)
    (λ e. sym so_far ∙ next_of f xs i x out at ∙ ap (λ o. o ++? spelled_each f (drop (suc i) xs)) e) none
