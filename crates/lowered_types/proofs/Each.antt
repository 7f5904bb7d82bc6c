-- What each of several parts keeps.
use Rattle.std.proofs.Common.{ℕ, List, [], ◌∷◌, Result, sym, subst}
use Rattle.std.specs.List.{flat_map}
use Rattle.name_table.specs.Entry.{Entry}
use Rattle.scoped_names.specs.Introductions.{Introduction}
use Rattle.name_steps.specs.Steps.{Step}
use Rattle.scoped_names.proofs.Parts.{Closed}
use Rattle.lowered_types.specs.declared.fault.BuildFault.{BuildFault}
use Rattle.lowered_types.specs.Faults.{each}
use Rattle.lowered_types.proofs.Fine.{Fine, and_then}
use Rattle.lowered_types.proofs.Settled.{AllSettled, behind, both, both_behind}

-- where each keeps it that is settled
pub each_keeps : {S T : Type 0} (es : List Entry) (P : List Introduction → S → Type 0)
    (part : S → T → Result S BuildFault) (steps : T → List Step) (scope : ℕ)
    → ((x : T) → Closed (steps x))
    → ((g : List Introduction) (s : S) (x : T) → AllSettled es g scope (steps x) → P g s
    → Fine (P (behind es g scope (steps x))) (part s x))
    → (g : List Introduction) (s : S) (xs : List T) → AllSettled es g scope (flat_map steps xs) → P g s
    → Fine (P (behind es g scope (flat_map steps xs))) (each part s xs)
each_keeps es P part steps scope c one g s [] h p = p
each_keeps es P part steps scope c one g s (x ∷ xs) h p =
    let parts = both es g scope (steps x) (flat_map steps xs) (c x) h in
    let mid = behind es g scope (steps x) in
    subst (λ k. Fine (P k) (each part s (x ∷ xs)))
    (sym (both_behind es g scope (steps x) (flat_map steps xs) (c x) parts.0))
    (and_then (P mid) (P (behind es mid scope (flat_map steps xs))) (part s x) (λ next. each part next xs)
    (one g s x parts.0 p)
    (λ next q. each_keeps es P part steps scope c one mid next xs parts.1 q))
