-- Steps one behind another: how far they reach, and what reading them gives.
use Rattle.std.proofs.Common.{◌≡◌, ◌∙◌, ℕ, ◌+◌, ◌≤◌, ◌<◌, List, [], ◌∷◌, ◌++◌, length, length-append, drop, get_or, Ok, Err, refl, sym, ap, subst, arith, suc}
use Rattle.std.proofs.Math.Seq.{drop-cons}
use Rattle.idl_tree.specs.declared.definitions.Definition.{Definition, Module}
use Rattle.idl_tree.specs.declared.definitions.Module.{Module as ModuleRecord}
use Rattle.name_table.specs.Entries.{latest}
use Rattle.scoped_names.specs.declared.fault.NameFault.{NameFault}
use Rattle.scoped_names.specs.Faults.{step_read, steps_read}
use Rattle.scoped_names.specs.Reading.{State, StateOrFault, ◌>>◌}
use Rattle.scoped_names.specs.inner.Rising.{Rises, reached}
use Rattle.name_steps.specs.Steps.{Step, Leaves, definition_steps, steps_of}
use Rattle.scoped_names.proofs.Introducing.{then_ok}
use Rattle.name_steps.proofs.ListedSteps.{module_listed}
use Rattle.scoped_names.proofs.Rising.{Follows-mono, Rises-mono}
use Rattle.scoped_names.proofs.Steady.{step_low}

abbrev pub reached_all : ℕ → List Step → ℕ
reached_all m [] = m
reached_all m (x ∷ xs) = reached_all (reached m x) xs

pub Rises-split : (m : ℕ) (xs ys : List Step) → Rises m (xs ++ ys) → Rises m xs × Rises (reached_all m xs) ys
Rises-split m [] ys h = (tt, h)
Rises-split m (x ∷ xs) ys (f, h) = let t = Rises-split (reached m x) xs ys h in ((f, t.0), t.1)

reached-mono : (m k : ℕ) (xs : List Step) → m ≤ k → Rises k xs → reached_all m xs ≤ reached_all k xs
reached-mono m k [] le r = le
reached-mono m k (x ∷ xs) le (f, r) = reached-mono (reached m x) (reached k x) xs (Follows-mono m k x le f).1 r

-- the last base stays behind them
pub steps_low : (st next : State) (xs : List Step) → steps_read st xs ≡ Ok next → Rises (latest st.entries) xs
    → latest next.entries ≤ reached_all (latest st.entries) xs
steps_low st next [] h r = let is : st ≡ next = cc in subst (λ s. latest s.entries ≤ latest st.entries) is (omega arith)
steps_low st next (x ∷ xs) h (f, r) =
    let (mid, first, rest) = then_ok (step_read st x) (λ s. steps_read s xs) next h in
    let low = step_low st mid x first f in
    let behind = steps_low mid next xs rest (Rises-mono (latest mid.entries) (reached (latest st.entries) x) xs low r)
    in
    let more = reached-mono (latest mid.entries) (reached (latest st.entries) x) xs low r in
    omega (arith, behind, more)

-- behind steps that are read others rise
pub rises_behind : (st next : State) (xs ys : List Step) → steps_read st xs ≡ Ok next
    → Rises (latest st.entries) (xs ++ ys) → Rises (latest next.entries) ys
rises_behind st next xs ys h r =
    let t = Rises-split (latest st.entries) xs ys r in
    Rises-mono (latest next.entries) (reached_all (latest st.entries) xs) ys (steps_low st next xs h t.0) t.1

pub steps_joined : (st mid : State) (xs ys : List Step) → steps_read st xs ≡ Ok mid
    → steps_read st (xs ++ ys) ≡ steps_read mid ys
steps_joined st mid [] ys h = let is : st ≡ mid = cc in ap (λ s. steps_read s ys) is
steps_joined st mid (x ∷ xs) ys h =
    let (one, first, rest) = then_ok (step_read st x) (λ s. steps_read s xs) mid h in
    ap (λ r. r >> λ s. steps_read s (xs ++ ys)) first ∙ steps_joined one mid xs ys rest

pub steps_stopped : (st : State) (fault : NameFault) (xs ys : List Step) → steps_read st xs ≡ Err fault
    → steps_read st (xs ++ ys) ≡ Err fault
steps_stopped st fault [] ys h = absurd cc
steps_stopped st fault (x ∷ xs) ys h = by (step_read st x) refl (λ one. steps_stopped one fault xs ys)
  where
    by : (r : StateOrFault) → step_read st x ≡ r
        → ((one : State) → steps_read one xs ≡ Err fault → steps_read one (xs ++ ys) ≡ Err fault)
        → steps_read st ((x ∷ xs) ++ ys) ≡ Err fault
    by (Ok one) is rest =
        ap (λ r. r >> λ s. steps_read s (xs ++ ys)) is
        ∙ rest one (sym (ap (λ r. r >> λ s. steps_read s xs) is) ∙ h)
    by (Err other) is rest =
        ap (λ r. r >> λ s. steps_read s (xs ++ ys)) is
        ∙ sym (ap (λ r. r >> λ s. steps_read s xs) is) ∙ h

-- ---- definitions one behind another

pub definitions_at : (ds : List Definition) (k : ℕ) (d : Definition) → k < length ds → d ≡ get_or ds k d
    → steps_of (drop k ds) ≡ definition_steps d ++ steps_of (drop (k + 1) ds)
definitions_at ds k d lt here =
    let next : suc k ≡ k + 1 = omega arith in
    ap steps_of (drop-cons ds k d lt ∙ ap (λ y. y ∷ drop (suc k) ds) (sym here) ∙ ap (λ j. d ∷ drop j ds) next)

pub module_longer : (m : ModuleRecord) → length (steps_of m.definitions.items) < length (definition_steps (Module m))
module_longer m =
    let inner = steps_of m.definitions.items in
    let all = length-append inner (Leaves ∷ []) in
    let same = ap length (module_listed m) in
    omega (arith, all, same)
