-- Readings of steps and parts one behind another.
use Rattle.std.proofs.Common.{◌≡◌, ◌∙◌, ℕ, suc, ◌+◌, ◌<◌, ◌⊎◌, inl, inr, List, [], ◌∷◌, drop, get_or, length, map, false, Option, Some, None, slice_get, Result, Ok, Err, IfSome, Bool, subst, true, Vec, Global, refl, sym, ap, arith}
use Rattle.std.specs.Prelude.{Box, if◌then◌else◌}
use Rattle.std.proofs.lemmas.Option.{slice_get-get_or}
use Rattle.idl_tree.specs.declared.names.Leaf.{Leaf}
use Rattle.idl_tree.specs.declared.expression.Expr.{Expr, Chain}
use Rattle.idl_tree.specs.declared.expression.Operand.{Operand}
use Rattle.idl_tree.proofs.Rows.{chain_walk}
use Rattle.idl_tree.specs.declared.kinds.EntryKind.TheVariants.{Module as ModuleKind}
use Rattle.name_table.specs.declared.entry.Meaning.{Meaning}
use Rattle.name_table.specs.Entry.{Entry, named}
use Rattle.name_table.specs.Search.{word}
use Rattle.name_table.proofs.MergedBases.{drop_at}
use Rattle.name_table.proofs.MergedBases.{split_at}
use Rattle.idl_tree.specs.declared.names.At.{At}
use Rattle.scoped_names.specs.declared.fault.NameFault.{NameFault}
use Rattle.scoped_names.specs.declared.fault.NameFault.TheVariants.{BadBase}
use Rattle.scoped_names.specs.declared.fault.Unfit.TheVariants.{NotDefined, NamedTwice, FeatureTwice}
use Rattle.scoped_names.specs.Faults.{declared_as, declares_over, entry_in, free_test, is_left_open, left_open, reappears, step_read, steps_read, taken_by}
use Rattle.scoped_names.specs.Reading.{Checks, Keeps, State, Tells, Test, ◌>>◌}
use Rattle.name_steps.specs.Steps.{Step}
use Rattle.scoped_names.specs.Tests.{at_entry, names_test, operand_test, operands_test}

-- ---- one behind another

pub steps_at : {T : Type 0} (step : T → Step) (xs : List T) (k : ℕ) (x : T) → k < length xs → x ≡ get_or xs k x
    → map step (drop k xs) ≡ step x ∷ map step (drop (k + 1) xs)
steps_at step xs k x lt here = ap (map step) (split_at xs k x lt here)

pub steps_on : {T : Type 0} (step : T → Step) (st next : State) (xs : List T) (k : ℕ) (x : T) → k < length xs
    → x ≡ get_or xs k x
    → step_read st (step x) ≡ Ok next → steps_read next (map step (drop (k + 1) xs))
    ≡ steps_read st (map step (drop k xs))
steps_on step st next xs k x lt here is =
    sym (ap (steps_read st) (steps_at step xs k x lt here)
    ∙ ap (λ r. r >> λ behind. steps_read behind (map step (drop (k + 1) xs))) is)

pub steps_off : {T : Type 0} (step : T → Step) (st : State) (xs : List T) (k : ℕ) (x : T) (fault : NameFault)
    → k < length xs → x ≡ get_or xs k x
    → step_read st (step x) ≡ Err fault → steps_read st (map step (drop k xs)) ≡ Err fault
steps_off step st xs k x fault lt here is =
    ap (steps_read st) (steps_at step xs k x lt here)
    ∙ ap (λ r. r >> λ behind. steps_read behind (map step (drop (k + 1) xs))) is

abbrev pub all : {T : Type 0} → (T → Test) → List T → Test
all test [] = Ok tt
all test (x ∷ xs) = test x >> λ u. all test xs

-- ---- clauses of functions

pub or_told : {A B C : Type 0} → A ⊎ B → (B → C) → A ⊎ C
or_told (inl a) tells = inl a
or_told (inr b) tells = inr (tells b)

-- what a test lets pass, and then a value
pub checked_then : {T S : Type 0} (r : Result T NameFault) (test : Test) (x : S) → Checks r test
    → Tells r x (test >> λ u. Ok x)
checked_then (Ok y) test x h = ap (λ t. t >> λ u. Ok x) h
checked_then (Err fault) test x (inl memory) = inl memory
checked_then (Err fault) test x (inr is) = inr (ap (λ t. t >> λ u. Ok x) is)

-- what changes nothing keeps it
pub keeps_same : {T S : Type 0} (r : Result T NameFault) (x : S) → Keeps r x x
keeps_same (Ok y) x = tt
keeps_same (Err fault) x = inr refl

-- ---- what is left open

pub blank : Entry
blank = record {
  scope = 0;
  name = [];
  token = 0;
  kind = ModuleKind;
  bases = [];
  worth = None;
  stands_for = None;
  line =
      0;
  identifier = 0;
  prefix = [];
}

opened : State → ℕ → Entry → Bool → Option At
opened st k e b = if b then at_entry (Some e) else left_open st (suc k) (drop (suc k) st.entries)

pub open_on : (st : State) (k : ℕ) (r : Bool) → k < length st.entries
    → IfSome (slice_get st.entries k) (λ e. r ≡ is_left_open st k e) → r ≡ false
    → left_open st (k + 1) (drop (k + 1) st.entries) ≡ left_open st k (drop k st.entries)
unfolding opened
open_on st k r lt tested is =
    let e = get_or st.entries k blank in
    let here = slice_get-get_or st.entries k blank lt in
    let same : r ≡ is_left_open st k e = subst (λ o. IfSome o (λ e. r ≡ is_left_open st k e)) here tested in
    let next : suc k ≡ k + 1 = omega arith in
    sym (ap (left_open st k) (drop_at st.entries k e here) ∙ ap (opened st k e) (sym same ∙ is)
    ∙ ap (λ j. left_open st j (drop j st.entries)) next)

pub open_off : (st : State) (k : ℕ) (r : Bool) → k < length st.entries
    → IfSome (slice_get st.entries k) (λ e. r ≡ is_left_open st k e) → r ≡ true
    → left_open st k (drop k st.entries) ≡ at_entry (slice_get st.entries k)
unfolding opened
open_off st k r lt tested is =
    let e = get_or st.entries k blank in
    let here = slice_get-get_or st.entries k blank lt in
    let same : r ≡ is_left_open st k e = subst (λ o. IfSome o (λ e. r ≡ is_left_open st k e)) here tested in
    ap (left_open st k) (drop_at st.entries k e here) ∙ ap (opened st k e) (sym same ∙ is) ∙ sym (ap at_entry here)

-- ---- what is declared again

pub told_again : {T : Type 0} (m : Meaning) (st : State) (l : Leaf) (n : ℕ) (r : Result T NameFault)
    → n < length st.entries → free_test l (taken_by st (word l)) ≡ Ok tt
    → named st.entries st.scope (word l) ≡ Some n
    → IfSome (slice_get st.entries n) (λ e. Tells r st (reappears m.kind st l e)) → Tells r st (declared_as m st l)
told_again m st l n r lt free there tells =
    let e = get_or st.entries n blank in
    let here = slice_get-get_or st.entries n blank lt in
    let one : Tells r st (reappears m.kind st l e) =
    subst (λ o. IfSome o (λ e. Tells r st (reappears m.kind st l e))) here tells in
    let is : declared_as m st l ≡ reappears m.kind st l e =
    ap (λ t. t >> λ u. declares_over m st l (entry_in st.entries (named st.entries st.scope (word l)))) free
    ∙ ap (λ o. declares_over m st l (entry_in st.entries o)) there ∙ ap (declares_over m st l) here in
    subst (Tells r st) (sym is) one

-- ---- bases

-- whether it isn't defined, is named twice, and has a feature twice
abbrev pub fitness : At → Bool → Bool → Bool → Test
fitness here open_ twice clashes =
    if open_ then Err (BadBase here NotDefined)
    else if twice then Err (BadBase here NamedTwice)
    else if clashes then Err (BadBase here FeatureTwice)
    else Ok tt

-- ---- chains

pub names_told : (es : List Entry) (scope : ℕ) (first : Box Expr Global) (rest : Vec Operand Global)
    → names_test es scope (Chain first rest)
    ≡ (names_test es scope first.value >> λ u. all (operand_test es scope) rest.items)
names_told es scope first rest =
    chain_walk (names_test es scope) (λ n row. operands_test es scope row)
    (λ e others. names_test es scope e >> λ u. others) (Ok tt)
    (λ x others. operand_test es scope x >> λ u. others) (all (operand_test es scope))
    (λ p e shape row. refl) refl (λ n x row. refl) refl (λ x xs. refl) first rest
