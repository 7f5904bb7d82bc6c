-- Each case of a union has a label or more, so that a union has no more cases than labels.
use Rattle.std.proofs.Common.{◌≡◌, ℕ, suc, ◌+◌, ◌≤◌, Bool, true, false, List, [], ◌∷◌, ◌++◌, length, length-append, map}
use Rattle.std.proofs.Common.{Option, Some, None, Result, Ok, refl, ap, subst, arith, ℤ, pos, int_lt}
use Rattle.std.specs.Prelude.{if◌then◌else◌, option_to_list}
use Rattle.std.specs.Option.{option_or}
use Rattle.std.proofs.lemmas.List.{length-map}
use Rattle.idl_tree.specs.declared.names.At.{At}
use Rattle.idl_tree.specs.declared.types.Label.{Label}
use Rattle.idl_tree.specs.declared.types.Label.TheVariants.{Case as CaseLabel, Default}
use Rattle.idl_tree.specs.Starts.{expr_start, leaf_at}
use Rattle.type_graph.specs.declared.fault.GraphLimit.TheVariants.{Members as MembersLimit}
use Rattle.type_graph.specs.declared.node.Node.TheVariants.{Union}
use Rattle.name_table.specs.Entry.{Entry}
use Rattle.scoped_names.specs.Reading.{◌>>◌}
use Rattle.lowered_types.specs.declared.fault.BuildFault.{BuildFault}
use Rattle.lowered_types.specs.Faults.{at_most, each, max_members}
use Rattle.lowered_types.specs.Labels.{Arms, CaseLabels, default_added, default_before, keyword_at, label_added, label_value, labelled, no_arms, once_test, taken_at, value_added}
use Rattle.lowered_types.specs.Labels.{switched, with_arm, with_arms, with_case, with_default}
use Rattle.lowered_types.specs.Types.{arm_at, default_number, numbered_arm}
use Rattle.lowered_types.specs.Lowered.{unlowered}
use Rattle.model_builder.specs.PartNames.{HaveNames}
use Rattle.model_builder.proofs.NamedNodes.{then_done}

-- what a function takes
abbrev pub domain : {A B : Type 0} → (A → B) → Type 0
domain {A = A} f = A

-- and what it gives
abbrev codomain : {A B : Type 0} → (A → B) → Type 0
codomain {B = B} f = B

abbrev Arm : Type 0
Arm = domain arm_at

abbrev LabelValue : Type 0
LabelValue = codomain (labelled (pos 0))

abbrev pub Switch : Type 0
Switch = domain (switched (unlowered 0))

abbrev pub one_if : {T : Type 0} → Option T → ℕ
one_if None = 0
one_if (Some x) = 1

-- how many labels a union has, and a case
abbrev pub labels_in : Arms → ℕ
labels_in a = length a.arms + one_if a.default

abbrev pub labels_read : CaseLabels → ℕ
labels_read ls = length ls.values + one_if ls.default

-- there is a default at most once
abbrev pub IsFree : Arms → CaseLabels → Type 0
IsFree a ls = (k : At) → ls.default ≡ Some k → a.default ≡ None

pub record AreRead (a : Arms) (ls : CaseLabels) (count : ℕ) : Type 0 where
  pub long : labels_read ls ≡ count
  pub free : IsFree a ls

neither_there : (arm : domain keyword_at) (read : Option At) → option_or (keyword_at arm) read ≡ None
    → (arm ≡ None) × (read ≡ None)
neither_there None read h = (refl, h)
neither_there (Some d) read h = absurd cc

abbrev Read : Type 0
Read = Result CaseLabels BuildFault

abbrev value_behind : Arms → CaseLabels → At → ℤ → Read
value_behind a ls at n = at_most max_members MembersLimit at (length a.arms + length ls.values + 1) >> λ count.
    Ok (record ls { values = ls.values ++ labelled n at ∷ [] })

value_read : (a : Arms) (ls more : CaseLabels) (count : ℕ) (at : At) (n : ℤ) → AreRead a ls count
    → value_added a ls at n ≡ Ok more → AreRead a more (count + 1)
value_read a ls more count at n read h = by (taken_at a ls n) h
  where
    by : (o : Option At) → (once_test at o >> λ u. value_behind a ls at n) ≡ Ok more → AreRead a more (count + 1)
    by (Some other) h = absurd cc
    by None h =
        let room = at_most max_members MembersLimit at (length a.arms + length ls.values + 1) in
        let (k, fits, told) = then_done room _ more h in
        let same : record ls { values = ls.values ++ labelled n at ∷ [] } ≡ more = cc in
        let long = read.long in
        let longer = length-append ls.values (labelled n at ∷ []) in
        subst (λ z. AreRead a z (count + 1)) same (record { long = omega (arith, long, longer); free = read.free })

default_read : (a : Arms) (ls more : CaseLabels) (count : ℕ) (at : At) → AreRead a ls count
    → default_added a ls at ≡ Ok more
    → AreRead a more (count + 1)
default_read a ls more count at read h = by (default_before a ls) refl h
  where
    by : (o : Option At) → default_before a ls ≡ o
        → (once_test at o >> λ u. Ok (record ls { default = Some at })) ≡ Ok more → AreRead a more (count + 1)
    by (Some other) is h = absurd cc
    by None is h =
        let (first, second) = neither_there a.default ls.default is in
        let same : record ls { default = Some at } ≡ more = cc in
        let long = read.long in
        let none : one_if ls.default ≡ 0 = ap one_if second in
        let all : labels_read (record ls { default = Some at }) ≡ count + 1 = omega (arith, long, none) in
        subst (λ z. AreRead a z (count + 1)) same (record { long = all; free = λ k told. first })

label_read : (es : List Entry) (scope : ℕ) (s : Switch) (a : Arms) (ls more : CaseLabels) (count : ℕ) (l : Label)
    → AreRead a ls count
    → label_added es scope s a ls l ≡ Ok more → AreRead a more (count + 1)
label_read es scope s a ls more count (CaseLabel e) read h =
    let (n, is, told) = then_done (label_value es scope s e.expr) _ more h in
    value_read a ls more count (leaf_at (expr_start e.expr)) n read told
label_read es scope s a ls more count (Default word) read h = default_read a ls more count (leaf_at word) read h

pub labels_are_read : (es : List Entry) (scope : ℕ) (s : Switch) (a : Arms) (ls more : CaseLabels) (count : ℕ)
    (xs : List Label) → AreRead a ls count
    → each (label_added es scope s a) ls xs ≡ Ok more → AreRead a more (count + length xs)
labels_are_read es scope s a ls more count [] read h =
    let same : ls ≡ more = cc in
    let long = read.long in
    subst (λ z. AreRead a z (count + 0)) same (record { long = omega (arith, long); free = read.free })
labels_are_read es scope s a ls more count (x ∷ xs) read h =
    let (next, first, rest) = then_done (label_added es scope s a ls x) _ more h in
    let one = label_read es scope s a ls next count x read first in
    let all = labels_are_read es scope s a next more (count + 1) xs one rest in
    let long = all.long in
    record { long = omega (arith, long); free = all.free }

-- ---- a case has its arms

arm_more : (arms : List Arm) (new : Arm) → length (with_arm arms new) ≡ length arms + 1
arm_more [] new = omega arith
arm_more (arm ∷ arms) new = by (int_lt new.label arm.label) (arm_more arms new)
  where
    by : (b : Bool) → length (with_arm arms new) ≡ length arms + 1
        → length (if b then new ∷ arm ∷ arms else arm ∷ with_arm arms new) ≡ length (arm ∷ arms) + 1
    by true others = omega arith
    by false others = omega (arith, others)

arms_more : (arms : List Arm) (number : ℕ) (at : At) (ns : List LabelValue)
    → length (with_arms arms number at ns) ≡ length arms + length ns
arms_more arms number at [] = omega arith
arms_more arms number at (n ∷ ns) =
    let new : Arm = record { label = n.value; label_at = n.at; number = number; at = at } in
    let one = arm_more arms new in
    let others = arms_more (with_arm arms new) number at ns in
    omega (arith, one, others)

pub case_more : (a : Arms) (ls : CaseLabels) (count : ℕ) (name : List ℕ) (number : ℕ) (at : At) → AreRead a ls count
    → 1 ≤ count
    → labels_in a + 1 ≤ labels_in (with_case a name number at ls)
case_more a ls count name number at read some = by ls.default read.long read.free
  where
    by : (d : Option At) → length ls.values + one_if d ≡ count → ((k : At) → d ≡ Some k → a.default ≡ None)
        → labels_in a + 1 ≤ length (with_arms a.arms number at ls.values) + one_if
        (with_default a.default number at d)
    by None long free = let more = arms_more a.arms number at ls.values in omega (arith, more, long, some)
    by (Some k) long free =
        let more = arms_more a.arms number at ls.values in
        let none : one_if a.default ≡ 0 = ap one_if (free k refl) in
        omega (arith, more, none)

-- the node of a union with so many cases
pub union_names : (switch : ℕ) (a : Arms) (cases : ℕ) → labels_in no_arms + suc cases ≤ labels_in a
    → HaveNames (Union switch (map numbered_arm a.arms) (default_number a.default)) (suc cases)
union_names switch a cases most =
    let long = length-map a.arms numbered_arm in
    let told = by a.default in
    (omega arith, omega (arith, long, told, most))
  where
    by : (d : domain default_number) → length (option_to_list (default_number d)) ≡ one_if d
    by None = refl
    by (Some d) = refl
