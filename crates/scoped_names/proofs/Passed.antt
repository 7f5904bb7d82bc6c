-- Steps of which those that are refused are passed over, and their faults.
use Rattle.std.proofs.Common.{◌≡◌, ◌∙◌, ℕ, suc, ◌+◌, ◌<◌, ◌≤◌, List, [], ◌∷◌, ◌++◌, length, length-append, append-nil, append_assoc, take, drop, get_or, Some, IfSome, slice_get, Result, Ok, Err, Bool, true, false, refl, sym, ap, subst, arith}
use Rattle.std.specs.Prelude.{if◌then◌else◌}
use Rattle.std.proofs.Math.Seq.{drop-cons}
use Rattle.std.proofs.lemmas.Option.{slice_get-get_or}
use Rattle.std.proofs.lemmas.List.{drop_all, take-append-le, take_all, length-take}
use Rattle.idl_tree.specs.declared.definitions.Definition.{Definition}
use Rattle.name_table.specs.Entry.{Entry}
use Rattle.name_table.specs.Entries.{latest}
use Rattle.name_steps.specs.Steps.{Step, DeclaresConst, HasBase, steps_of}
use Rattle.scoped_names.specs.declared.all_faults.NameFaults.{NameFaults}
use Rattle.scoped_names.specs.declared.fault.NameFault.{NameFault}
use Rattle.scoped_names.specs.AllFaults.{all_faults, behind, fault_in, fault_of, faults_along, faults_behind, fault_left, faults_left, first_of, passed_over}
use Rattle.scoped_names.specs.Faults.{is_left_open, left_open, never_defined, nothing_yet, specification_read, step_read, steps_read}
use Rattle.scoped_names.specs.FileNames.{FileNames, file_names, names_of}
use Rattle.scoped_names.specs.Reading.{State, StateOrFault, passed, ◌>>◌}
use Rattle.scoped_names.specs.Tests.{at_entry}
use Rattle.scoped_names.specs.inner.Heard.{Heard, Hears, Passes}
use Rattle.scoped_names.specs.inner.Rising.{Follows, Rises, reached}
use Rattle.scoped_names.proofs.Readings.{blank}
use Rattle.scoped_names.proofs.Rising.{Rises-mono}
use Rattle.scoped_names.proofs.Steady.{step_low}

-- ---- one behind another

pub along_joined : (st : State) (xs ys : List Step)
    → faults_along st (xs ++ ys) ≡ faults_along st xs ++ faults_along (passed_over st xs) ys
along_joined st [] ys = refl
along_joined st (s ∷ xs) ys =
    let next = behind st (step_read st s) in
    let one = fault_in (step_read st s) in
    ap (λ faults. one ++ faults) (along_joined next xs ys)
    ∙ sym (append_assoc one (faults_along next xs) (faults_along (passed_over next xs) ys))

pub over_joined : (st : State) (xs ys : List Step) → passed_over st (xs ++ ys) ≡ passed_over (passed_over st xs) ys
over_joined st [] ys = refl
over_joined st (s ∷ xs) ys = over_joined (behind st (step_read st s)) xs ys

pub passes_none : (st : State) (faults : NameFaults) → Passes st faults [] st faults
passes_none st faults = record { known = refl; heard = λ all heard. subst (Heard faults) (sym (append-nil all)) heard }

pub passes_joined : (a b c : State) (f g h : NameFaults) (xs ys : List Step) → Passes a f xs b g → Passes b g ys c h
    → Passes a f (xs ++ ys) c h
passes_joined a b c f g h xs ys one other = record {
  known = other.known ∙ ap (λ st. passed_over st ys) one.known ∙ sym (over_joined a xs ys);
  heard = λ all heard.
      let is : (all ++ faults_along a xs) ++ faults_along b ys ≡ all ++ faults_along a (xs ++ ys) =
      append_assoc all (faults_along a xs) (faults_along b ys)
      ∙ ap (λ st. all ++ (faults_along a xs ++ faults_along st ys)) one.known
      ∙ ap (λ faults. all ++ faults) (sym (along_joined a xs ys)) in
      subst (Heard h) is (other.heard (all ++ faults_along a xs) (one.heard all heard));
}

pub step_on : (st next : State) (faults : NameFaults) (s : Step) → step_read st s ≡ Ok next
    → Passes st faults (s ∷ []) next faults
step_on st next faults s is = record {
  known = sym (ap (behind st) is);
  heard = λ all heard. subst (λ r. Heard faults (all ++ (fault_in r ++ []))) (sym is)
      (subst (Heard faults) (sym (append-nil all)) heard);
}

pub step_over : (st next : State) (before now : NameFaults) (s : Step) (fault : NameFault) → step_read st s ≡ Err fault
    → next ≡ st
    → Hears before (fault ∷ []) now → Passes st before (s ∷ []) next now
step_over st next before now s fault is same hears = record {
  known = same ∙ sym (ap (behind st) is);
  heard = λ all heard. subst (λ r. Heard now (all ++ (fault_in r ++ []))) (sym is) (hears all heard);
}

-- ---- the faults that are collected

pub first_more : {A : Type 0} (most : ℕ) (all first : List A) (x : A) → first ≡ take most all → length first < most
    → first ++ x ∷ [] ≡ take most (all ++ x ∷ [])
first_more most all first x is few =
    let long = ap length is ∙ length-take most all in
    let within : length all ≤ most = omega (arith, long, few) in
    let more = length-append all (x ∷ []) in
    let all_within : length (all ++ x ∷ []) ≤ most = omega (arith, long, few, more) in
    ap (λ l. l ++ x ∷ []) (is ∙ take_all most all within) ∙ sym (take_all most (all ++ x ∷ []) all_within)

pub first_full : {A : Type 0} (most : ℕ) (all first : List A) (x : A) → first ≡ take most all → most ≤ length first
    → first ≡ take most (all ++ x ∷ [])
first_full most all first x is many =
    let long = ap length is ∙ length-take most all in
    let within : most ≤ length all = omega (arith, long, many) in
    is ∙ sym (take-append-le most all (x ∷ []) within)

-- ---- steps that rise

reaches : (m : ℕ) (s : Step) → Follows m s → m ≤ reached m s
reaches m (DeclaresConst c) f = omega arith
reaches m (HasBase l name) f = omega arith
reaches m s f = omega arith

low_by : (st : State) (s : Step) → Follows (latest st.entries) s → (r : StateOrFault) → step_read st s ≡ r
    → latest (behind st r).entries ≤ reached (latest st.entries) s
low_by st s follows (Ok next) is = step_low st next s is follows
low_by st s follows (Err fault) is = reaches (latest st.entries) s follows

-- what rises behind steps rises behind what is known where those that are refused are passed over
pub rises_over : (st : State) (xs ys : List Step) → Rises (latest st.entries) (xs ++ ys)
    → Rises (latest (passed_over st xs).entries) ys
rises_over st [] ys rises = rises
rises_over st (s ∷ xs) ys rises =
    let next = behind st (step_read st s) in
    let low = low_by st s rises.0 (step_read st s) refl in
    rises_over next xs ys (Rises-mono (latest next.entries) (reached (latest st.entries) s) (xs ++ ys) low rises.1)

pub rises_passed : (st next : State) (before now : NameFaults) (xs ys : List Step) → Passes st before xs next now
    → Rises (latest st.entries) (xs ++ ys) → Rises (latest next.entries) ys
rises_passed st next before now xs ys passes rises =
    subst (λ s. Rises (latest s.entries) ys) (sym passes.known) (rises_over st xs ys rises)

-- ---- what is still to come

-- whatever passes what is left passes all
abbrev pub Continues : State → NameFaults → List Step → State → NameFaults → List Step → Type 0
Continues a f all b g rest = (c : State) (h : NameFaults) → Passes b g rest c h → Passes a f all c h

pub continues_on : (a b c : State) (f g h : NameFaults) (all xs ys rest : List Step) → Continues a f all b g rest
    → rest ≡ xs ++ ys → Passes b g xs c h
    → Continues a f all c h ys
continues_on a b c f g h all xs ys rest before is passes d i more =
    before d i (subst (λ steps. Passes b g steps d i) (sym is) (passes_joined b c d g h i xs ys passes more))

pub continues_done : (a b : State) (f g : NameFaults) (all rest : List Step) → Continues a f all b g rest → rest ≡ []
    → Passes a f all b g
continues_done a b f g all rest before is =
    before b g (subst (λ steps. Passes b g steps b g) (sym is) (passes_none b g))

abbrev pub Remains : State → NameFaults → NameFaults → ℕ → Type 0
Remains st before now k = (all : List NameFault) → Heard before all
    → (heard : List NameFault)
    × (Heard now heard × (heard ++ faults_left st k (drop k st.entries) ≡ all ++ faults_behind st))

pub remains_on : (st : State) (before now next : NameFaults) (k : ℕ) (e : Entry)
    → drop k st.entries ≡ e ∷ drop (k + 1) st.entries
    → Remains st before now k → Hears now (fault_left st k e) next → Remains st before next (k + 1)
remains_on st before now next k e is remains hears all heard =
    let (some, both) = remains all heard in
    let here = both.0 in
    let whole = both.1 in
    let rest = faults_left st (k + 1) (drop (k + 1) st.entries) in
    let place : suc k ≡ k + 1 = omega arith in (
      some ++ fault_left st k e,
      (
        hears some here,
        append_assoc some (fault_left st k e) rest
            ∙ ap (λ n. some ++ (fault_left st k e ++ faults_left st n (drop (k + 1) st.entries))) (sym place)
            ∙ ap (λ es. some ++ faults_left st k es) (sym is) ∙ whole,
      ),
    )

pub left_on : (st : State) (before now next : NameFaults) (k : ℕ) → k < length st.entries → Remains st before now k
    → IfSome (slice_get st.entries k) (λ e. Hears now (fault_left st k e) next) → Remains st before next (k + 1)
left_on st before now next k lt remains hears =
    let e = get_or st.entries k blank in
    let place : suc k ≡ k + 1 = omega arith in
    let split = drop-cons st.entries k blank lt ∙ ap (λ i. e ∷ drop i st.entries) place in
    remains_on st before now next k e split remains
    (subst (λ o. IfSome o (λ e. Hears now (fault_left st k e) next)) (slice_get-get_or st.entries k blank lt) hears)

pub remains_done : (st : State) (before now : NameFaults) (k : ℕ) → length st.entries ≤ k → Remains st before now k
    → Hears before (faults_behind st) now
remains_done st before now k end remains all heard =
    let (some, both) = remains all heard in
    let here = both.0 in
    let whole = both.1 in
    subst (Heard now) (sym (append-nil some) ∙ ap (λ es. some ++ faults_left st k es) (sym (drop_all k st.entries end))
    ∙ whole) here

-- ---- the first is the one that is told

left_step : (st : State) (p : ℕ) (e : Entry) (es : List Entry)
    → first_of (faults_left st (suc p) es) ≡ fault_of (passed st (never_defined (left_open st (suc p) es)))
    → (test : Bool) → first_of ((if test then fault_in (never_defined (at_entry (Some e))) else [])
    ++ faults_left st (suc p) es)
    ≡ fault_of (passed st (never_defined (if test then at_entry (Some e) else left_open st (suc p) es)))
left_step st p e es ih true = refl
left_step st p e es ih false = ih

left_first : (st : State) (p : ℕ) (es : List Entry)
    → first_of (faults_left st p es) ≡ fault_of (passed st (never_defined (left_open st p es)))
left_first st p [] = refl
left_first st p (e ∷ es) = left_step st p e es (left_first st (suc p) es) (is_left_open st p e)

abbrev last : State → StateOrFault
last st = passed st (never_defined (left_open st 0 st.entries))

step_first : (st : State) (ss : List Step)
    → ((next : State) → first_of (faults_along next ss ++ faults_behind (passed_over next ss))
    ≡ fault_of (steps_read next ss >> last)) → (r : StateOrFault)
    → first_of ((fault_in r ++ faults_along (behind st r) ss) ++ faults_behind (passed_over (behind st r) ss))
    ≡ fault_of ((r >> λ next. steps_read next ss) >> last)
step_first st ss ih (Ok next) = ih next
step_first st ss ih (Err fault) = refl

steps_first : (ss : List Step) (st : State) → first_of (faults_along st ss ++ faults_behind (passed_over st ss))
    ≡ fault_of (steps_read st ss >> last)
steps_first [] st = left_first st 0 st.entries
steps_first (s ∷ ss) st = step_first st ss (steps_first ss) (step_read st s)

same_fault : (r : StateOrFault)
    → fault_of r ≡ fault_of (r >> λ st. let names : Result FileNames NameFault = Ok (file_names st) in names)
same_fault (Ok st) = refl
same_fault (Err fault) = refl

pub first_is_told : (definitions : List Definition)
    → first_of (all_faults definitions) ≡ fault_of (names_of definitions)
first_is_told definitions = steps_first (steps_of definitions) nothing_yet ∙ same_fault (specification_read definitions)
