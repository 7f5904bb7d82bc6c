-- The work on a stack.
use Rattle.std.proofs.Common.{◌≡◌, ℕ, zero, suc, ◌-◌, ◌<◌, List, [], ◌∷◌, ◌++◌, replicate, sym, ap, ◌∙◌, append_assoc, append-nil, arith}
use Rattle.routine_checker.specs.declared.work.Item.{Item}
use Rattle.routine_checker.specs.inner.Work.{held, work_of}

-- what is put on top comes first
pub work_pushed : (items : List Item) (item : Item) → work_of (items ++ item ∷ []) ≡ held item ++ work_of items
work_pushed [] item = sym (append-nil (held item))
work_pushed (below ∷ items) item = ap (λ work. work ++ held below) (work_pushed items item)
    ∙ append_assoc (held item) (work_of items) (held below)

-- what is on top came first
pub work_popped : (items rest : List Item) (item : Item) → items ≡ rest ++ item ∷ []
    → work_of items ≡ held item ++ work_of rest
work_popped items rest item e = ap work_of e ∙ work_pushed rest item

-- one of some copies
pub first_copy : (work rest left : List ℕ) (number n : ℕ) → 0 < n → work ≡ replicate n number ++ rest
    → left ≡ replicate (n - 1) number ++ rest → work ≡ number ∷ left
first_copy work rest left number zero some e f = absurd (omega (arith, some))
first_copy work rest left number (suc n) some e f =
    let fewer : suc n - 1 ≡ n = omega arith in
    e ∙ ap (λ (more : List ℕ). number ∷ more) (sym (f ∙ ap (λ k. replicate k number ++ rest) fewer))

-- an item that holds nothing
pub nothing_put : (item : Item) (work : List ℕ) → held item ≡ [] → work ≡ held item ++ work
nothing_put item work e = sym (ap (λ first. first ++ work) e)
