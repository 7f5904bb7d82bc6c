-- The arms of a union rise, each by a label that is a value of the discriminator, and lead to types that are there.
use Rattle.std.proofs.Common.{◌≡◌, ◌∙◌, ℕ, ◌+◌, ◌≤◌, Bool, true, false, List, [], ◌∷◌, ◌++◌, length, length-append, Option, Some, None, Ok, refl, ap, arith, ℤ, int_lt}
use Rattle.std.specs.Prelude.{◌||◌, if◌then◌else◌, IfSome}
use Rattle.std.specs.List.{AllByRecursion, list_any}
use Rattle.std.specs.Option.{option_or}
use Rattle.std.specs.Ordering.{int_eq}
use Rattle.std.proofs.lemmas.Int.{ints}
use Rattle.idl_tree.specs.declared.names.At.{At}
use Rattle.type_graph.specs.declared.node.Node.{Node}
use Rattle.type_graph.specs.declared.fault.GraphLimit.TheVariants.{Members as MembersLimit}
use Rattle.type_graph.specs.GraphRules.{IsPart}
use Rattle.scoped_names.specs.Reading.{◌>>◌}
use Rattle.lowered_types.specs.declared.arms.Arm.{Arm}
use Rattle.lowered_types.specs.declared.arms.DefaultArm.{DefaultArm}
use Rattle.lowered_types.specs.declared.labels.LabelValue.{LabelValue}
use Rattle.lowered_types.specs.declared.labels.Switch.{Switch}
use Rattle.lowered_types.specs.Faults.{at_most, max_members}
use Rattle.lowered_types.specs.Labels.{Arms, CaseLabels, arm_label_at, is_value, labelled, once_test, taken_at, value_added, value_at, with_arm, with_arms, with_case, with_default}
use Rattle.lowered_types.proofs.Fine.{Fine, and_then, at_most_fine}
use Rattle.lowered_types.proofs.Growing.{Grows, part_stays}

-- an arm has the label
abbrev pub is_label : List Arm → ℤ → Bool
is_label arms n = list_any (λ arm. int_eq arm.label n) arms

-- ---- each label is less than those behind it

abbrev pub Rise : List Arm → Type 0
Rise [] = Unit {0}
Rise (arm ∷ arms) = AllByRecursion (λ other. int_lt arm.label other.label ≡ true) arms × Rise arms

all_with_arm : (P : Arm → Type 0) (arms : List Arm) (new : Arm) → P new → AllByRecursion P arms
    → AllByRecursion P (with_arm arms new)
all_with_arm P [] new h hs = (h, tt)
all_with_arm P (arm ∷ arms) new h (first, rest) = by (int_lt new.label arm.label) (all_with_arm P arms new h rest)
  where
    by : (b : Bool) → AllByRecursion P (with_arm arms new)
        → AllByRecursion P (if b then new ∷ arm ∷ arms else arm ∷ with_arm arms new)
    by true others = (h, (first, rest))
    by false others = (first, others)

less_on : (a b c : ℤ) → int_lt a b ≡ true → int_lt b c ≡ true → int_lt a c ≡ true
less_on a b c first second = grind (arith, ints)

all_less : (a b : ℤ) (arms : List Arm) → int_lt a b ≡ true → AllByRecursion (λ other. int_lt b other.label ≡ true) arms
    → AllByRecursion (λ other. int_lt a other.label ≡ true) arms
all_less a b [] less h = tt
all_less a b (arm ∷ arms) less (h, hs) = (less_on a b arm.label less h, all_less a b arms less hs)

-- another number that isn't less is greater
greater : (new old : ℤ) → int_lt new old ≡ false → int_eq old new ≡ false → int_lt old new ≡ true
greater new old not_less differs = grind (arith, ints)

or_false : (a b : Bool) → (a || b) ≡ false → (a ≡ false) × (b ≡ false)
or_false true b h = absurd cc
or_false false b h = (refl, h)

rise_with : (arms : List Arm) (new : Arm) → Rise arms → is_label arms new.label ≡ false → Rise (with_arm arms new)
rise_with [] new h free = (tt, tt)
rise_with (arm ∷ arms) new (first, rest) free =
    let apart = or_false (int_eq arm.label new.label) (is_label arms new.label) free in
    by (int_lt new.label arm.label) refl apart.0 (rise_with arms new rest apart.1)
  where
    by : (b : Bool) → int_lt new.label arm.label ≡ b → int_eq arm.label new.label ≡ false → Rise (with_arm arms new)
        → Rise (if b then new ∷ arm ∷ arms else arm ∷ with_arm arms new)
    by true less differs others = ((less, all_less new.label arm.label arms less first), (first, rest))
    by false not_less differs others = (
      all_with_arm (λ other. int_lt arm.label other.label ≡ true) arms new
          (greater new.label arm.label not_less differs) first,
      others,
    )

-- ---- arms and the labels of a case

pub record AreArms (graph : List Node) (s : Switch) (a : Arms) : Type 0 where
  pub limited : length a.arms ≤ max_members
  pub rise : Rise a.arms
  pub each : AllByRecursion (λ arm. IsPart graph arm.number × (is_value s.values arm.label ≡ true)) a.arms
  pub default : IfSome a.default (λ d. IsPart graph d.number)

-- no two of them are one
abbrev pub Apart : List LabelValue → Type 0
Apart [] = Unit {0}
Apart (l ∷ ls) = AllByRecursion (λ m. int_eq l.value m.value ≡ false) ls × Apart ls

pub record AreLabels (s : Switch) (a : Arms) (ls : CaseLabels) : Type 0 where
  pub limited : length a.arms + length ls.values ≤ max_members
  pub values : AllByRecursion (λ l. (is_value s.values l.value ≡ true) × (is_label a.arms l.value ≡ false)) ls.values
  pub apart : Apart ls.values

abbrev IsLabelOf : Switch → Arms → LabelValue → Type 0
IsLabelOf s a l = (is_value s.values l.value ≡ true) × (is_label a.arms l.value ≡ false)

all_end : {T : Type 0} (P : T → Type 0) (xs : List T) (x : T) → AllByRecursion P xs → P x
    → AllByRecursion P (xs ++ x ∷ [])
all_end P [] x h has = (has, tt)
all_end P (y ∷ ys) x (h, hs) has = (h, all_end P ys x hs has)

apart_end : (ls : List LabelValue) (l : LabelValue) → Apart ls → list_any (λ m. int_eq m.value l.value) ls ≡ false
    → Apart (ls ++ l ∷ [])
apart_end [] l h free = (tt, tt)
apart_end (m ∷ ms) l (first, rest) free =
    let parts = or_false (int_eq m.value l.value) (list_any (λ k. int_eq k.value l.value) ms) free in
    (all_end (λ k. int_eq m.value k.value ≡ false) ms l first parts.0, apart_end ms l rest parts.1)

-- what stands nowhere isn't there
arm_nowhere : (arms : List Arm) (n : ℤ) → arm_label_at arms n ≡ None → is_label arms n ≡ false
arm_nowhere [] n is = refl
arm_nowhere (arm ∷ arms) n is = by (int_eq arm.label n) is (arm_nowhere arms n)
  where
    by : (b : Bool) → (if b then Some arm.label_at else arm_label_at arms n) ≡ None
        → (arm_label_at arms n ≡ None → is_label arms n ≡ false) → (b || is_label arms n) ≡ false
    by true is others = absurd cc
    by false is others = others is

value_nowhere : (ls : List LabelValue) (n : ℤ) → value_at ls n ≡ None → list_any (λ l. int_eq l.value n) ls ≡ false
value_nowhere [] n is = refl
value_nowhere (l ∷ ls) n is = by (int_eq l.value n) is (value_nowhere ls n)
  where
    by : (b : Bool) → (if b then Some l.at else value_at ls n) ≡ None
        → (value_at ls n ≡ None → list_any (λ l. int_eq l.value n) ls ≡ false)
        → (b || list_any (λ l. int_eq l.value n) ls) ≡ false
    by true is others = absurd cc
    by false is others = others is

neither : (o p : Option At) → option_or o p ≡ None → (o ≡ None) × (p ≡ None)
neither None p is = (refl, is)
neither (Some x) p is = absurd cc

not_taken : (a : Arms) (ls : CaseLabels) (n : ℤ) → taken_at a ls n ≡ None
    → (is_label a.arms n ≡ false) × (list_any (λ l. int_eq l.value n) ls.values ≡ false)
not_taken a ls n is =
    let (arm, value) = neither (arm_label_at a.arms n) (value_at ls.values n) is in
    (arm_nowhere a.arms n arm, value_nowhere ls.values n value)

-- a value that no arm and no label before has
pub value_fine : (s : Switch) (a : Arms) (ls : CaseLabels) (at : At) (n : ℤ) → AreLabels s a ls
    → is_value s.values n ≡ true → Fine (AreLabels s a) (value_added a ls at n)
value_fine s a ls at n h value = by (taken_at a ls n) refl
  where
    by : (o : Option At) → taken_at a ls n ≡ o → Fine (AreLabels s a) (once_test at o >> λ u.
        at_most max_members MembersLimit at (length a.arms + length ls.values + 1) >> λ count. Ok
        (record ls { values = ls.values ++ labelled n at ∷ [] }))
    by (Some other) taken = tt
    by None free =
        let parts = not_taken a ls n free in
        let more = length-append ls.values (labelled n at ∷ []) in
        and_then (λ k. (k ≡ length a.arms + length ls.values + 1)
        × (length a.arms + length ls.values + 1 ≤ max_members)) (AreLabels s a)
        (at_most max_members MembersLimit at (length a.arms + length ls.values + 1))
        (λ count. Ok (record ls { values = ls.values ++ labelled n at ∷ [] }))
        (at_most_fine max_members MembersLimit at (length a.arms + length ls.values + 1)) (λ k fits.
        let le = fits.1 in
        record {
          limited = omega (arith, more, le);
          values = all_end (IsLabelOf s a) ls.values (labelled n at) h.values (value, parts.0);
          apart = apart_end ls.values (labelled n at) h.apart parts.1;
        })

-- ---- a case has its arms

arm_label : (arms : List Arm) (new : Arm) (n : ℤ) → is_label arms n ≡ false → int_eq new.label n ≡ false
    → is_label (with_arm arms new) n ≡ false
arm_label [] new n free differs = ap (λ b. b || false) differs
arm_label (arm ∷ arms) new n free differs =
    let parts = or_false (int_eq arm.label n) (is_label arms n) free in
    by (int_lt new.label arm.label) parts.0 (arm_label arms new n parts.1 differs)
  where
    by : (b : Bool) → int_eq arm.label n ≡ false → is_label (with_arm arms new) n ≡ false
        → is_label (if b then new ∷ arm ∷ arms else arm ∷ with_arm arms new) n ≡ false
    by true first others = ap (λ b. b || is_label (arm ∷ arms) n) differs ∙ free
    by false first others = ap (λ b. b || is_label (with_arm arms new) n) first ∙ others

length_with : (arms : List Arm) (new : Arm) → length (with_arm arms new) ≡ length arms + 1
length_with [] new = omega arith
length_with (arm ∷ arms) new = by (int_lt new.label arm.label) (length_with arms new)
  where
    by : (b : Bool) → length (with_arm arms new) ≡ length arms + 1
        → length (if b then new ∷ arm ∷ arms else arm ∷ with_arm arms new) ≡ length (arm ∷ arms) + 1
    by true others = omega arith
    by false others = omega (arith, others)

-- arms that rise, where these labels are free
abbrev IsFree : Switch → List Arm → LabelValue → Type 0
IsFree s arms l = (is_value s.values l.value ≡ true) × (is_label arms l.value ≡ false)

still_free : (s : Switch) (arms : List Arm) (new : Arm) (ls : List LabelValue) → AllByRecursion (IsFree s arms) ls
    → AllByRecursion (λ m. int_eq new.label m.value ≡ false) ls
    → AllByRecursion (IsFree s (with_arm arms new)) ls
still_free s arms new [] h apart = tt
still_free s arms new (l ∷ ls) (h, hs) (differs, rest) =
    ((h.0, arm_label arms new l.value h.1 differs), still_free s arms new ls hs rest)

pub record AreRisen (graph : List Node) (s : Switch) (count : ℕ) (arms : List Arm) : Type 0 where
  pub long : length arms ≡ count
  pub rise : Rise arms
  pub each : AllByRecursion (λ arm. IsPart graph arm.number × (is_value s.values arm.label ≡ true)) arms

risen_with : (graph : List Node) (s : Switch) (count : ℕ) (arms : List Arm) (number : ℕ) (at : At)
    (ls : List LabelValue) → AreRisen graph s count arms → IsPart graph number
    → AllByRecursion (IsFree s arms) ls → Apart ls → AreRisen graph s (count + length ls) (with_arms arms number at ls)
risen_with graph s count arms number at [] h part free apart =
    record { long = let long = h.long in omega (arith, long); rise = h.rise; each = h.each }
risen_with graph s count arms number at (l ∷ ls) h part (free, rest) (differ, apart) =
    let new : Arm = record { label = l.value; label_at = l.at; number = number; at = at } in
    let one : AreRisen graph s (count + 1) (with_arm arms new) = record {
      long = let long = h.long in omega (arith, long, length_with arms new);
      rise = rise_with arms new h.rise free.1;
      each = all_with_arm (λ arm. IsPart graph arm.number × (is_value s.values arm.label ≡ true)) arms new
          (part, free.0) h.each;
    } in
    let all = risen_with graph s (count + 1) (with_arm arms new) number at ls one part
    (still_free s arms new ls rest differ) apart in
    record { long = let long = all.long in omega (arith, long); rise = all.rise; each = all.each }

pub case_arms : (graph : List Node) (s : Switch) (a : Arms) (name : List ℕ) (number : ℕ) (at : At) (ls : CaseLabels)
    → AreArms graph s a → AreLabels s a ls → IsPart graph number
    → AreArms graph s (with_case a name number at ls)
case_arms graph s a name number at ls h labels part =
    let all = risen_with graph s (length a.arms) a.arms number at ls.values
    (record { long = refl; rise = h.rise; each = h.each }) part labels.values labels.apart in
    let long = all.long in
    let fits = labels.limited in
    record {
      limited = omega (arith, long, fits);
      rise = all.rise;
      each = all.each;
      default =
          by a.default ls.default h.default;
    }
  where
    by : (old : Option DefaultArm) (keyword : Option At) → IfSome old (λ d. IsPart graph d.number)
        → IfSome (with_default old number at keyword) (λ d. IsPart graph d.number)
    by old None before = before
    by old (Some keyword) before = part

-- where more is lowered
pub arms_stay : (graph later : List Node) → Grows graph later → (s : Switch) (a : Arms) → AreArms graph s a
    → AreArms later s a
arms_stay graph later grows s a h =
    record { limited = h.limited; rise = h.rise; each = all a.arms h.each; default = by a.default h.default }
  where
    all : (arms : List Arm) → AllByRecursion (λ arm. IsPart graph arm.number × (is_value s.values arm.label ≡ true))
        arms
        → AllByRecursion (λ arm. IsPart later arm.number × (is_value s.values arm.label ≡ true)) arms
    all [] hs = tt
    all (arm ∷ arms) (first, rest) = ((part_stays graph later grows arm.number first.0, first.1), all arms rest)

    by : (o : Option DefaultArm) → IfSome o (λ d. IsPart graph d.number) → IfSome o (λ d. IsPart later d.number)
    by None before = tt
    by (Some d) before = part_stays graph later grows d.number before
