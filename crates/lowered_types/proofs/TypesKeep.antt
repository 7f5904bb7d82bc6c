-- Structures, unions and their members: what is kept stays so.
use Rattle.std.proofs.Common.{◌≡◌, ◌∙◌, ℕ, ◌+◌, ◌≤◌, Bool, true, false, List, [], ◌∷◌, ◌++◌, length, length-append, Option, Some, None, Result, Ok, Err, refl, sym, ap, subst, arith, ℤ}
use Rattle.std.specs.Prelude.{◌&&◌, if◌then◌else◌, slice_get}
use Rattle.std.specs.List.{AllByRecursion, flat_map}
use Rattle.std.proofs.lemmas.List.Elements.{All-push}
use Rattle.idl_tree.specs.declared.names.At.{At}
use Rattle.idl_tree.specs.declared.names.Listed.{Listed}
use Rattle.idl_tree.specs.declared.types.Declarator.{Declarator}
use Rattle.idl_tree.specs.declared.types.Label.{Label}
use Rattle.idl_tree.specs.declared.types.Label.TheVariants.{Case as CaseLabel, Default}
use Rattle.idl_tree.specs.declared.types.SwitchType.{SwitchType}
use Rattle.idl_tree.specs.declared.types.SwitchType.TheVariants as SwitchTypes
use Rattle.idl_tree.specs.declared.types.TypeSpec.{TypeSpec}
use Rattle.idl_tree.specs.Lists.{parts}
use Rattle.idl_tree.specs.Starts.{expr_start, leaf_at}
use Rattle.type_graph.specs.declared.fault.GraphLimit.TheVariants.{Members as MembersLimit}
use Rattle.type_graph.specs.declared.node.Node.{Node}
use Rattle.type_graph.specs.declared.values.Values.{Values}
use Rattle.type_graph.specs.GraphRules.{AreMembers, IsPart}
use Rattle.name_table.specs.declared.const_values.constant.Constant.{Constant}
use Rattle.name_table.specs.declared.const_values.kind.ConstKind.{ConstKind}
use Rattle.name_table.specs.Kinds.{fits}
use Rattle.idl_tree.specs.declared.kinds.EntryKind.TheVariants as Kinds
use Rattle.name_table.specs.Entry.{Entry}
use Rattle.name_table.specs.Search.{word}
use Rattle.scoped_names.specs.Introductions.{Introduction}
use Rattle.name_steps.specs.Steps.{declarator_steps, label_steps, size_step, switch_steps, type_steps}
use Rattle.scoped_names.specs.Reading.{◌>>◌}
use Rattle.scoped_names.specs.Tests.{value_read}
use Rattle.name_steps.proofs.Asks.{declarator_asks, label_asks, type_asks}
use Rattle.scoped_names.proofs.OnlyMemory.{there_is}
use Rattle.scoped_names.proofs.Parts.{Closed, both_closed, closed, each_closed}
use Rattle.lowered_types.specs.declared.fault.BuildFault.{BuildFault}
use Rattle.lowered_types.specs.declared.fault.BuildFault.TheVariants.{Types}
use Rattle.lowered_types.specs.declared.fault.TypeKind.{TypeKind}
use Rattle.lowered_types.specs.declared.labels.Switch.{Switch}
use Rattle.lowered_types.specs.TypeKinds.{kind_of}
use Rattle.lowered_types.specs.Faults.{at_most, each, max_members, of_names}
use Rattle.lowered_types.specs.Labels.{Arms, CaseLabels, Switched, is_value, label_added, label_number, label_value, label_within, no_labels, switch_kind, switch_at, switch_of, switch_read, switch_type, switched, value_added, values_of, default_before, once_test, out_of_range}
use Rattle.lowered_types.specs.Members.{Members}
use Rattle.lowered_types.specs.SimpleTypes.{array_type, declarator_at, declarator_name, entry_found, entry_of, integer_number, type_found}
use Rattle.lowered_types.specs.Types.{Cases, WithMembers, case_added, member_added, members_added, with_declarator, with_declarators, with_members_of}
use Rattle.lowered_types.specs.Lowered.{Numbered, Lowered, already}
use Rattle.lowered_types.proofs.RisingArms.{AreArms, AreLabels, arms_stay, case_arms, value_fine}
use Rattle.lowered_types.proofs.Fine.{Fine, and_then, at_most_fine, given, weaker}
use Rattle.lowered_types.proofs.Each.{each_keeps}
use Rattle.lowered_types.proofs.Growing.{part_stays, parts_stay}
use Rattle.lowered_types.proofs.Keeping.{Keeps, Later, later_none, later_on}
use Rattle.lowered_types.proofs.Naming.{IsSilent, all_silent, each_silent, entered, entry_is, finds_entry, finds_type, silent_keeps}
use Rattle.lowered_types.proofs.Settled.{AllSettled, behind, both, both_behind}
use Rattle.lowered_types.proofs.SimpleKeep.{Wrote, array_keeps, basic_part, enum_keeps, integer_part, still_fine}
use Rattle.lowered_types.proofs.Unions.{IsSwitchIn, switch_stays}
use Rattle.lowered_types.proofs.Lowering.{Adds}

-- ---- members

-- the first of `before` comes first, and there are so many at least
pub record AreRight (graph : List Node) (before : List ℕ) (least : ℕ) (ms : Members) : Type 0 where
  pub members : AreMembers graph ms.numbers
  pub first : (n : ℕ) → slice_get before 0 ≡ Some n → slice_get ms.numbers 0 ≡ Some n
  pub some : least ≤ length ms.numbers

pub record HasMembers (es : List Entry) (g : List Introduction) (begun : ℕ → Type 0) (w : Lowered) (before : List ℕ)
    (least : ℕ) (m : WithMembers) : Type 0 where
  pub keeps : Keeps es g begun m.lowered
  pub later : Later w m.lowered
  pub right : AreRight m.lowered.nodes before least m.members

first_end : (ns : List ℕ) (m n : ℕ) → slice_get ns 0 ≡ Some n → slice_get (ns ++ m ∷ []) 0 ≡ Some n
first_end [] m n is = absurd cc
first_end (k ∷ ns) m n is = is

pub member_fine : (graph : List Node) (before : List ℕ) (least : ℕ) (ms : Members) (name : List ℕ) (number : ℕ)
    (at : At) → AreRight graph before least ms → IsPart graph number
    → Fine (AreRight graph before 1) (member_added ms name number at)
member_fine graph before least ms name number at h part =
    and_then (λ k. (k ≡ length ms.numbers + 1) × (length ms.numbers + 1 ≤ max_members)) (AreRight graph before 1)
    (at_most max_members MembersLimit at (length ms.numbers + 1)) _
    (at_most_fine max_members MembersLimit at (length ms.numbers + 1)) (λ k fits.
    let long = length-append ms.numbers (number ∷ []) in
    let le = fits.1 in
    record {
      members = record {
        limited = omega (arith, long, le);
        parts =
            All-push (IsPart graph) ms.numbers number h.members.parts part;
      };
      first = λ n is. first_end ms.numbers number n (h.first n is);
      some = omega (arith, long);
    })

pub right_later : (w v : Lowered) (before : List ℕ) (least : ℕ) (ms : Members) → Later w v
    → AreRight w.nodes before least ms → AreRight v.nodes before least ms
right_later w v before least ms l h = record {
  members = record {
    limited = h.members.limited;
    parts =
        parts_stay w.nodes v.nodes l.nodes ms.numbers h.members.parts;
  };
  first = h.first;
  some = h.some;
}

-- a member of the type that has the number
declarator_keeps : (es : List Entry) (g : List Introduction) (begun : ℕ → Type 0) (w : Lowered) (before : List ℕ)
    (least scope number : ℕ) (m : WithMembers) (d : Declarator)
    → HasMembers es g begun w before least m → IsPart w.nodes number → AllSettled es g scope (declarator_steps d)
    → Fine (HasMembers es (behind es g scope (declarator_steps d)) begun w before 1)
    (with_declarator es scope number m d)
declarator_keeps es g begun w before least scope number m d h part (s, ss) =
    let more = behind es g scope (declarator_steps d) in
    let there = part_stays w.nodes m.lowered.nodes h.later.nodes number part in
    and_then (Adds es g begun m.lowered) (HasMembers es more begun w before 1)
    (array_type es scope (already m.lowered number) d) _
    (array_keeps es g _ begun m.lowered scope (already m.lowered number) d
    (still_fine es g begun m.lowered number h.keeps there) ss) (λ a adds.
    and_then (AreRight a.lowered.nodes before 1) (HasMembers es more begun w before 1)
    (member_added m.members (declarator_name d) a.number (declarator_at d))
    (λ ms. Ok (with_members_of a.lowered ms))
    (member_fine a.lowered.nodes before least m.members (declarator_name d) a.number (declarator_at d)
    (right_later m.lowered a.lowered before least m.members adds.later h.right) adds.part) (λ ms right.
    record {
      keeps = silent_keeps es g begun a.lowered scope (declarator_steps d)
          (tt, each_silent size_step (λ size. tt) d.sizes.items) (s, ss) adds.keeps;
      later = later_on w m.lowered a.lowered h.later adds.later;
      right = right;
    }))

pub declarator_closed : (d : Declarator) → Closed (declarator_steps d)
declarator_closed d = closed (declarator_asks {ls = []} d)

declarators_closed : (ds : List Declarator) → Closed (flat_map declarator_steps ds)
declarators_closed ds = each_closed declarator_steps declarator_closed ds

-- a first declarator, and others
declarators_keep : (es : List Entry) (g : List Introduction) (begun : ℕ → Type 0) (before : List ℕ) (least scope : ℕ)
    (t : Numbered) (ms : Members) (l : Listed Declarator)
    → Keeps es g begun t.lowered → AreRight t.lowered.nodes before least ms → IsPart t.lowered.nodes t.number
    → AllSettled es g scope (flat_map declarator_steps (parts l))
    → Fine (HasMembers es (behind es g scope (flat_map declarator_steps (parts l))) begun t.lowered before 1)
    (with_declarators es scope t ms l)
declarators_keep es g begun before least scope t ms l keeps right part s =
    let w = t.lowered in
    let first = declarator_steps l.first in
    let others = flat_map declarator_steps l.rest.items in
    let split = both es g scope first others (declarator_closed l.first) s in
    let mid = behind es g scope first in
    let start : HasMembers es g begun w before least (with_members_of w ms) =
    record { keeps = keeps; later = later_none w; right = right } in
    subst (λ k. Fine (HasMembers es k begun w before 1) (with_declarators es scope t ms l))
    (sym (both_behind es g scope first others (declarator_closed l.first) split.0))
    (and_then (HasMembers es mid begun w before 1) (HasMembers es (behind es mid scope others) begun w before 1)
    (with_declarator es scope t.number (with_members_of w ms) l.first)
    (λ next. each (with_declarator es scope t.number) next l.rest.items)
    (declarator_keeps es g begun w before least scope t.number (with_members_of w ms) l.first start part split.0)
    (λ next h.
    each_keeps es (λ k m. HasMembers es k begun w before 1 m) (with_declarator es scope t.number) declarator_steps scope
    declarator_closed
    (λ k m d settled has. declarator_keeps es k begun w before 1 scope t.number m d has part settled) mid next
    l.rest.items split.1 h))

members_on : (es : List Entry) (g : List Introduction) (begun : ℕ → Type 0) (w v : Lowered) (before : List ℕ)
    (least : ℕ) (m : WithMembers) → Later w v
    → HasMembers es g begun v before least m → HasMembers es g begun w before least m
members_on es g begun w v before least m l h =
    record { keeps = h.keeps; later = later_on w v m.lowered l h.later; right = h.right }

-- members of one type more, which is lowered behind w
pub added_members : (es : List Entry) (g more : List Introduction) (begun : ℕ → Type 0) (w : Lowered) (before : List ℕ)
    (least scope : ℕ) (ms : Members) (type : Result Numbered BuildFault)
    (l : Listed Declarator) → AreRight w.nodes before least ms → Fine (Wrote es more begun w) type
    → AllSettled es more scope (flat_map declarator_steps (parts l))
    → Fine (HasMembers es (behind es more scope (flat_map declarator_steps (parts l))) begun w before 1)
    (members_added es scope ms type l)
added_members es g more begun w before least scope ms type l right typed s =
    let last = behind es more scope (flat_map declarator_steps (parts l)) in
    and_then (Wrote es more begun w) (HasMembers es last begun w before 1) type (λ t. with_declarators es scope t ms l)
    typed (λ t wrote.
    weaker (HasMembers es last begun t.lowered before 1) (HasMembers es last begun w before 1)
    (with_declarators es scope t ms l)
    (λ m h. members_on es last begun w t.lowered before 1 m wrote.later h)
    (declarators_keep es more begun before least scope t ms l wrote.keeps
    (right_later w t.lowered before least ms wrote.later right) wrote.part s))

-- ---- discriminators

pub record Chosen (es : List Entry) (g : List Introduction) (begun : ℕ → Type 0) (w : Lowered) (s : Switched) : Type 0
  where
    pub keeps : Keeps es g begun s.lowered
    pub later : Later w s.lowered
    pub switch : IsSwitchIn s.lowered.nodes s.switch

of_adds : (es : List Entry) (g : List Introduction) (begun : ℕ → Type 0) (w : Lowered) (n : Numbered)
    → Adds es g begun w n → Wrote es g begun w n
of_adds es g begun w n a = record { keeps = a.keeps; later = a.later; part = a.part }

switch_type_keeps : (es : List Entry) (g : List Introduction) (begun : ℕ → Type 0) (w : Lowered) (scope : ℕ)
    (s : SwitchType) → Keeps es g begun w
    → AllSettled es g scope (switch_steps s)
    → Fine (Wrote es (behind es g scope (switch_steps s)) begun w) (switch_type es w scope s)
switch_type_keeps es g begun w scope (SwitchTypes.Integer t) i h =
    of_adds es g begun w (already w (integer_number t))
    (still_fine es g begun w (integer_number t) i (integer_part es g begun w t i))
switch_type_keeps es g begun w scope SwitchTypes.Char i h =
    of_adds es g begun w (already w 1) (still_fine es g begun w 1 i (basic_part es g begun w 1 _ i refl tt))
switch_type_keeps es g begun w scope SwitchTypes.Boolean i h =
    of_adds es g begun w (already w 2) (still_fine es g begun w 2 i (basic_part es g begun w 2 _ i refl tt))
switch_type_keeps es g begun w scope (SwitchTypes.Enum e) i h = enum_keeps es g begun w scope e i h
switch_type_keeps es g begun w scope (SwitchTypes.Name name) i h =
    let (n, found, part) = finds_type es g begun w scope name i h.0 in
    given (Wrote es g begun w) (type_found es w scope name) n (λ n. Ok (already w n)) found
    (of_adds es g begun w (already w n) (still_fine es g begun w n i part))

switch_kind_fine : (es : List Entry) (g : List Introduction) (scope : ℕ) (s : SwitchType)
    → AllSettled es g scope (switch_steps s) → Fine (λ kind. Unit {0}) (switch_kind es scope s)
switch_kind_fine es g scope (SwitchTypes.Integer t) h = tt
switch_kind_fine es g scope SwitchTypes.Char h = tt
switch_kind_fine es g scope SwitchTypes.Boolean h = tt
switch_kind_fine es g scope (SwitchTypes.Enum e) h =
    let d = entered es g scope e.identifier Kinds.Enum h.0.holds.entries.0 h.0.new in
    given (λ kind. Unit {0}) (entry_of es scope e.identifier) d.entry _ (entry_is es scope e.identifier d.entry d.is) tt
switch_kind_fine es g scope (SwitchTypes.Name name) h =
    let (e, found) = finds_entry es scope name h.0.holds in
    given (λ kind. Unit {0}) (entry_found es scope name) e _ found tt

switch_of_fine : (at : At) (found : Option TypeKind) (n : ℕ) (kind : Option ConstKind) (values : Option Values)
    → Fine (λ s. (s.number ≡ n) × (values ≡ Some s.values)) (switch_of at found n kind values)
switch_of_fine at found n (Some kind) (Some values) = (refl, refl)
switch_of_fine at found n (Some kind) None = tt
switch_of_fine at found n None values = tt

pub switch_keeps : (es : List Entry) (g : List Introduction) (begun : ℕ → Type 0) (w : Lowered) (scope : ℕ) (at : At)
    (s : SwitchType) → Keeps es g begun w
    → AllSettled es g scope (switch_steps s)
    → Fine (Chosen es (behind es g scope (switch_steps s)) begun w) (switch_read es w scope at s)
switch_keeps es g begun w scope at s i h =
    let more = behind es g scope (switch_steps s) in
    and_then (Wrote es more begun w) (Chosen es more begun w) (switch_type es w scope s) _
    (switch_type_keeps es g begun w scope s i h) (λ t wrote.
    and_then (λ kind. Unit {0}) (Chosen es more begun w) (switch_kind es scope s) _ (switch_kind_fine es g scope s h)
    (λ kind u.
    let values = values_of (slice_get t.lowered.nodes t.number) in
    let found = kind_of t.number (slice_get t.lowered.nodes t.number) in
    and_then (λ s. (s.number ≡ t.number) × (values ≡ Some s.values)) (Chosen es more begun w)
    (switch_of (switch_at s at) found t.number kind values)
    (λ switch. Ok (switched t.lowered switch)) (switch_of_fine (switch_at s at) found t.number kind values)
    (λ switch is.
    record {
      keeps = wrote.keeps;
      later = wrote.later;
      switch = ap (λ n. values_of (slice_get t.lowered.nodes n)) is.0
          ∙ is.1;
    })))

-- ---- labels

label_within_fine : (s : Switch) (at : At) (c : Constant) (o : Option ℤ)
    → Fine (λ n. is_value s.values n ≡ true) (label_within s at c o)
label_within_fine s at c None = tt
label_within_fine s at c (Some n) = by (fits s.kind c) (is_value s.values n) refl
  where
    by : (b v : Bool) → is_value s.values n ≡ v
        → Fine (λ n. is_value s.values n ≡ true) (if b && v then Ok n else Err (Types (out_of_range s at c)))
    by true true is = is
    by true false is = tt
    by false v is = tt

label_fine : (es : List Entry) (g : List Introduction) (scope : ℕ) (s : Switch) (a : Arms) (ls : CaseLabels) (l : Label)
    → AllSettled es g scope (label_steps l) → AreLabels s a ls
    → Fine (AreLabels s a) (label_added es scope s a ls l)
label_fine es g scope s a ls (CaseLabel e) h are =
    let at = leaf_at (expr_start e.expr) in
    let (c, is) = there_is (value_read es scope e.expr) h.0.holds.answered in
    and_then (λ n. is_value s.values n ≡ true) (AreLabels s a) (label_value es scope s e.expr)
    (λ n. value_added a ls at n)
    (given (λ n. is_value s.values n ≡ true) (of_names (value_read es scope e.expr)) c
    (λ c. label_within s at c (label_number c)) (ap of_names is)
    (label_within_fine s at c (label_number c))) (λ n value. value_fine s a ls at n are value)
label_fine es g scope s a ls (Default word) h are = by (default_before a ls)
  where
    by : (o : Option At) → Fine (AreLabels s a)
        (once_test (leaf_at word) o >> λ u. Ok (record ls { default = Some (leaf_at word) }))
    by (Some other) = tt
    by None = record { limited = are.limited; values = are.values; apart = are.apart }

pub label_closed : (l : Label) → Closed (label_steps l)
label_closed l = closed (label_asks {ls = []} l)

labels_closed : (ls : List Label) → Closed (flat_map label_steps ls)
labels_closed ls = each_closed label_steps label_closed ls

label_silent : (l : Label) → AllByRecursion IsSilent (label_steps l)
label_silent (CaseLabel e) = (tt, tt)
label_silent (Default word) = tt

no_labels_are : (graph : List Node) (s : Switch) (a : Arms) → AreArms graph s a → AreLabels s a no_labels
no_labels_are graph s a h = let le = h.limited in record { limited = omega (arith, le); values = tt; apart = tt }

-- ---- cases

pub record HasCases (es : List Entry) (g : List Introduction) (begun : ℕ → Type 0) (w : Lowered) (s : Switch)
    (c : Cases) : Type 0 where
  pub keeps : Keeps es g begun c.lowered
  pub later : Later w c.lowered
  pub switch : IsSwitchIn c.lowered.nodes s
  pub arms : AreArms c.lowered.nodes s c.arms

pub type_closed : (t : TypeSpec) → Closed (type_steps t)
type_closed t = closed (type_asks {ls = []} t)

-- a case more, whose type is lowered behind w
pub added_case : (es : List Entry) (g : List Introduction) (begun : ℕ → Type 0) (w : Lowered) (scope : ℕ) (s : Switch)
    (c : Cases) (labels : Listed Label)
    (type : Lowered → Result Numbered BuildFault) (t : TypeSpec) (d : Declarator) → HasCases es g begun w s c
    → AllSettled es g scope (flat_map label_steps (parts labels) ++ type_steps t ++ declarator_steps d)
    → ((k : List Introduction) → Keeps es k begun c.lowered → AllSettled es k scope (type_steps t)
    → Fine (Wrote es (behind es k scope (type_steps t)) begun c.lowered) (type c.lowered))
    → Fine (HasCases es (behind es g scope (flat_map label_steps (parts labels) ++ type_steps t ++ declarator_steps d))
    begun w s) (case_added es scope s c labels type d)
added_case es g begun w scope s c labels type t d h settled typed =
    let ls = flat_map label_steps (parts labels) in
    let ts = type_steps t in
    let ds = declarator_steps d in
    let front_closed = both_closed (labels_closed (parts labels)) (type_closed t) in
    let last = both es g scope (ls ++ ts) ds front_closed settled in
    let first = both es g scope ls ts (labels_closed (parts labels)) last.0 in
    let labelled = behind es g scope ls in
    let behind_type = behind es labelled scope ts in
    let front : behind es g scope (ls ++ ts) ≡ behind_type =
    both_behind es g scope ls ts (labels_closed (parts labels)) first.0 in
    let whole : behind es g scope (ls ++ ts ++ ds) ≡ behind es behind_type scope ds =
    both_behind es g scope (ls ++ ts) ds front_closed last.0 ∙ ap (λ k. behind es k scope ds) front in
    let all = behind es behind_type scope ds in
    let settled_ds = subst (λ k. AllSettled es k scope ds) front last.1 in
    subst (λ k. Fine (HasCases es k begun w s) (case_added es scope s c labels type d)) (sym whole)
    (and_then (AreLabels s c.arms) (HasCases es all begun w s)
    (each (label_added es scope s c.arms) no_labels (parts labels)) _
    (each_keeps es (λ k m. AreLabels s c.arms m) (label_added es scope s c.arms) label_steps scope label_closed
    (λ k m l hs are. label_fine es k scope s c.arms m l hs are) g no_labels (parts labels) first.0
    (no_labels_are c.lowered.nodes s c.arms h.arms)) (λ m are.
    let silent = silent_keeps es g begun c.lowered scope ls (all_silent label_steps label_silent (parts labels)) first.0
    h.keeps in
    and_then (Wrote es behind_type begun c.lowered) (HasCases es all begun w s) (type c.lowered) _
    (typed labelled silent first.1) (λ n wrote.
    and_then (Adds es behind_type begun n.lowered) (HasCases es all begun w s) (array_type es scope n d) _
    (array_keeps es behind_type _ begun n.lowered scope n d
    (still_fine es behind_type begun n.lowered n.number wrote.keeps wrote.part) settled_ds.1) (λ a adds.
    let on = later_on c.lowered n.lowered a.lowered wrote.later adds.later in
    record {
      keeps = silent_keeps es behind_type begun a.lowered scope ds
          (tt, each_silent size_step (λ size. tt) d.sizes.items) settled_ds adds.keeps;
      later = later_on w c.lowered a.lowered h.later on;
      switch = switch_stays c.lowered.nodes a.lowered.nodes on.nodes s h.switch;
      arms = case_arms a.lowered.nodes s c.arms (declarator_name d) a.number (declarator_at d) m
          (arms_stay c.lowered.nodes a.lowered.nodes on.nodes s c.arms h.arms) are adds.part;
    }))))
