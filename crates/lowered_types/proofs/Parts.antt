-- Parts one behind another.
use Rattle.std.proofs.Common.{◌≡◌, ◌∙◌, ℕ, suc, ◌+◌, ◌<◌, ◌⊎◌, inl, inr, List, ◌∷◌, drop, get_or, length, Result, Ok, Err, sym, ap, arith}
use Rattle.std.proofs.Math.Seq.{drop-cons}
use Rattle.scoped_names.specs.Reading.{◌>>◌}
use Rattle.lowered_types.specs.declared.fault.BuildFault.{BuildFault}
use Rattle.lowered_types.specs.Faults.{each}

pub split_at : {T : Type 0} (xs : List T) (k : ℕ) (x : T) → k < length xs → x ≡ get_or xs k x
    → drop k xs ≡ x ∷ drop (k + 1) xs
split_at xs k x lt here =
    let next : suc k ≡ k + 1 = omega arith in
    drop-cons xs k x lt ∙ ap (λ y. y ∷ drop (suc k) xs) (sym here) ∙ ap (λ j. x ∷ drop j xs) next

pub each_on : {S T : Type 0} (part : S → T → Result S BuildFault) (s next : S) (xs : List T) (k : ℕ) (x : T)
    → k < length xs → x ≡ get_or xs k x
    → part s x ≡ Ok next → each part next (drop (k + 1) xs) ≡ each part s (drop k xs)
each_on part s next xs k x lt here is =
    sym (ap (each part s) (split_at xs k x lt here) ∙ ap (λ r. r >> λ behind. each part behind (drop (k + 1) xs)) is)

pub each_off : {S T : Type 0} (part : S → T → Result S BuildFault) (s : S) (xs : List T) (k : ℕ) (x : T)
    (fault : BuildFault) → k < length xs → x ≡ get_or xs k x
    → part s x ≡ Err fault → each part s (drop k xs) ≡ Err fault
each_off part s xs k x fault lt here is =
    ap (each part s) (split_at xs k x lt here) ∙ ap (λ r. r >> λ behind. each part behind (drop (k + 1) xs)) is

pub or_told : {A B C : Type 0} → A ⊎ B → (B → C) → A ⊎ C
or_told (inl a) tells = inl a
or_told (inr b) tells = inr (tells b)
