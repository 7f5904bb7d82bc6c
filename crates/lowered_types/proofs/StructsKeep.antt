-- Structures and unions, from their declarations to their definitions: what is kept stays so.
use Rattle.std.proofs.Common.{◌≡◌, ◌∙◌, inl, inr, ℕ, suc, ◌+◌, ◌≤◌, true, List, [], ◌∷◌, ◌++◌, length, map, Option, Some, None, Result, Ok, refl, sym, ap, subst, arith}
use Rattle.std.specs.Prelude.{slice_get}
use Rattle.std.specs.List.{flat_map}
use Rattle.std.proofs.lemmas.List.Elements.{All-nil}
use Rattle.std.proofs.lemmas.List.{length-map}
use Rattle.std.proofs.lemmas.Option.{slice_get_within}
use Rattle.idl_tree.specs.declared.names.At.{At}
use Rattle.idl_tree.specs.declared.names.Leaf.{Leaf}
use Rattle.idl_tree.specs.declared.names.Listed.{Listed}
use Rattle.idl_tree.specs.declared.types.Declarator.{Declarator}
use Rattle.idl_tree.specs.declared.types.SimpleType.{SimpleType}
use Rattle.idl_tree.specs.declared.types.TypeSpec.{TypeSpec, Simple, Struct as StructSpec, Union as UnionSpec, Enum as EnumSpec}
use Rattle.idl_tree.specs.declared.types.StructType.{StructType, StructType', Row_of-Member, end_of-Member, more_of-Member}
use Rattle.idl_tree.specs.declared.types.UnionType.{UnionType, UnionType', Row_of-Case, end_of-Case, more_of-Case}
use Rattle.idl_tree.specs.Lists.{parts}
use Rattle.type_graph.specs.declared.fault.GraphLimit.TheVariants.{Nodes}
use Rattle.type_graph.specs.declared.node.Node.{Node}
use Rattle.type_graph.specs.declared.node.Node.TheVariants.{Struct, Union}
use Rattle.type_graph.specs.GraphRules.{IsNoFrame, IsNode, IsPart, all_members, members_in}
use Rattle.idl_tree.specs.declared.kinds.EntryKind.{EntryKind}
use Rattle.idl_tree.specs.declared.kinds.EntryKind.TheVariants as Kinds
use Rattle.idl_tree.specs.Starts.{leaf_at}
use Rattle.name_table.specs.Entry.{Entry, named}
use Rattle.name_table.specs.Search.{word}
use Rattle.scoped_names.specs.Faults.{has_body}
use Rattle.scoped_names.specs.Introductions.{Introduction, Stands, Body}
use Rattle.scoped_names.specs.Reading.{◌>>◌}
use Rattle.name_steps.specs.Steps.{cases_steps, declarator_steps, label_steps, members_steps, simple_type_steps, struct_steps, switch_steps, type_steps, union_steps}
use Rattle.scoped_names.specs.Tests.{is_of}
use Rattle.name_steps.proofs.Asks.{cases_ask, members_ask, switch_asks}
use Rattle.scoped_names.proofs.Parts.{Closed, both_closed, closed, each_closed}
use Rattle.lowered_types.specs.declared.fault.BuildFault.{BuildFault}
use Rattle.lowered_types.specs.declared.labels.Switch.{Switch}
use Rattle.lowered_types.specs.declared.place.Place.{Place}
use Rattle.lowered_types.specs.declared.place.Place.TheVariants.{Typed}
use Rattle.lowered_types.specs.Faults.{at_most, max_nodes}
use Rattle.lowered_types.specs.Labels.{no_arms, switch_read}
use Rattle.lowered_types.specs.SimpleTypes.{declarator_at, entry_of, simple_type}
use Rattle.lowered_types.specs.Types.{Cases, WithMembers, arm_at, case_added, cases_of, default_sites, default_number, default_test, members_added, no_members, numbered_arm, struct_defined, struct_type, type_spec, union_defined, union_type, with_cases, with_members, with_members_of}
use Rattle.lowered_types.specs.Lowered.{Numbered, Lowered, added, already, counted, named_type, next, node_set, one_site, opened, opened_as, placed, type_in, undefined, with_node}
use Rattle.lowered_types.proofs.Defining.{define_kept, define_later, node_set_is, open_kept, open_later, with_defined, with_open}
use Rattle.lowered_types.proofs.Fine.{Fine, and_then, at_most_fine, given, weaker}
use Rattle.lowered_types.proofs.Keeping.{HasBody, HasPlace, Keeps, Later, NeedsNothing, begins, body_placed, later_none, later_on, more_known, with_begun}
use Rattle.lowered_types.proofs.Naming.{Entered, Goes, entered, entry_is, silent_keeps, widens}
use Rattle.lowered_types.proofs.Settled.{AllSettled, IsDone, Known, behind, both, both_behind, done_stays, inside}
use Rattle.lowered_types.proofs.SimpleKeep.{Wrote, enum_keeps, simple_keeps, simple_silent}
use Rattle.lowered_types.proofs.Spots.{set_here, there_at}
use Rattle.lowered_types.proofs.TypesKeep.{AreRight, Chosen, HasCases, HasMembers, added_case, added_members, declarator_closed, label_closed, switch_keeps, type_closed}
use Rattle.lowered_types.proofs.Unions.{IsNeeded, default_fine, union_right}
use Rattle.lowered_types.proofs.RisingArms.{AreArms}
use Rattle.lowered_types.proofs.Lowering.{Adds, Counts, counted_fine, placed_is}

-- ---- declarations

-- what is lowered behind the declaration of a structure or a union
pub record Opens (es : List Entry) (g : List Introduction) (begun : ℕ → Type 0) (w : Lowered) (e : ℕ) (o : Numbered) :
    Type 0 where
  pub keeps : Keeps es g begun o.lowered
  pub later : Later w o.lowered
  pub place : slice_get o.lowered.places e ≡ Some (Some (Typed o.number))

-- declared before, which has its number
again_opens : (es : List Entry) (g : List Introduction) (begun : ℕ → Type 0) (w : Lowered) (scope : ℕ) (l : Leaf)
    (kind : EntryKind) (d : Entered es g scope l kind) (n : ℕ)
    → Keeps es g begun w → has_body kind ≡ true → slice_get w.places d.entry ≡ Some (Some (Typed n))
    → Opens es (Stands scope l kind ∷ g) begun w d.entry (already w n)
again_opens es g begun w scope l kind d n i body there = record {
  keeps = more_known es g begun w (Stands scope l kind) i (λ f y stands at. by f y stands at) (λ f never. absurd never);
  later = later_none w;
  place = there;
}
  where
    typed : (k : EntryKind) (b : Type 0) (o : Option (Option Place)) → has_body k ≡ true → o ≡ Some (Some (Typed n))
        → HasPlace k b o
    typed Kinds.Struct b o is h = (n, h)
    typed Kinds.Union b o is h = (n, h)
    typed k b o is h = absurd cc

    by : NeedsNothing es begun w (Stands scope l kind)
    by f y stands at =
        let first = d.is in
        let same : f ≡ d.entry = cc in
        let here : slice_get es d.entry ≡ Some y = subst (λ k. slice_get es k ≡ Some y) same at in
        let there_too = d.there in
        let one : d.value ≡ y = cc in
        typed y.kind (begun f) (slice_get w.places f) (ap (λ z. has_body z.kind) (sym one) ∙ ap has_body d.kind_is
        ∙ body)
        (ap (slice_get w.places) same ∙ there)

first_opens : (es : List Entry) (g : List Introduction) (begun : ℕ → Type 0) (w : Lowered) (scope : ℕ) (l : Leaf)
    (kind : EntryKind) (d : Entered es g scope l kind) (at : At)
    → Keeps es g begun w → has_body kind ≡ true → slice_get w.places d.entry ≡ Some None → (Known es g d.entry → ⊥)
    → Fine (Opens es (Stands scope l kind ∷ g) begun w d.entry) (named_type w d.entry undefined [] at)
first_opens es g begun w scope l kind d at i body none new =
    let opens = Opens es (Stands scope l kind ∷ g) begun w d.entry in
    let sites = one_site at in
    let n = next w in
    and_then (λ a. (a ≡ already (with_node w undefined [] sites) n) × (n + 1 ≤ max_nodes)) opens
    (added w undefined [] sites) _
    (and_then (λ k. (k ≡ n + 1) × (n + 1 ≤ max_nodes))
    (λ a. (a ≡ already (with_node w undefined [] sites) n) × (n + 1 ≤ max_nodes))
    (at_most max_nodes Nodes at (n + 1)) _
    (at_most_fine max_nodes Nodes at (n + 1)) (λ k fits. (refl, fits.1))) (λ a is.
    subst (λ a. Fine opens (placed a.lowered d.entry (Typed a.number) >> λ there. Ok (already there a.number)))
    (sym is.0)
    (given opens (placed (with_node w undefined [] sites) d.entry (Typed n)) (with_open w d.entry sites)
    (λ there. Ok (already there n))
    (placed_is (with_node w undefined [] sites) d.entry (Typed n) none)
    (record {
      keeps = open_kept es g (Stands scope l kind ∷ g) begun w d.entry d.value sites i
          (widens es g scope l kind d.entry d.is) none d.there (ap has_body d.kind_is ∙ body) new is.1;
      later = open_later w d.entry sites none;
      place = set_here w.places d.entry None (Some (Typed n)) none;
    })))

pub opens_fine : (es : List Entry) (g : List Introduction) (begun : ℕ → Type 0) (w : Lowered) (scope : ℕ) (l : Leaf)
    (kind : EntryKind) (d : Entered es g scope l kind) (at : At)
    → Keeps es g begun w → has_body kind ≡ true
    → Fine (Opens es (Stands scope l kind ∷ g) begun w d.entry) (opened w d.entry at)
opens_fine es g begun w scope l kind d at i body =
    let within = slice_get_within es d.entry d.value d.there in
    let long = i.long in
    let (o, is) = there_at w.places d.entry (omega (arith, within, long)) in
    by o is
  where
    none_known : slice_get w.places d.entry ≡ Some None → Known es g d.entry → ⊥
    none_known none knows =
        let kind_has : has_body d.value.kind ≡ true = ap has_body d.kind_is ∙ body in
        let (n, there) = body_placed d.value.kind (begun d.entry) (slice_get w.places d.entry) kind_has
        (i.has d.entry d.value knows d.there) in
        cc

    when : (o : Option (Option Place)) → slice_get w.places d.entry ≡ o
        → Fine (Opens es (Stands scope l kind ∷ g) begun w d.entry) (opened_as w d.entry at (type_in o))
        → Fine (Opens es (Stands scope l kind ∷ g) begun w d.entry) (opened w d.entry at)
    when o is h = subst (λ k. Fine (Opens es (Stands scope l kind ∷ g) begun w d.entry)
        (opened_as w d.entry at (type_in k))) (sym is) h

    by : (o : Option Place) → slice_get w.places d.entry ≡ Some o
        → Fine (Opens es (Stands scope l kind ∷ g) begun w d.entry) (opened w d.entry at)
    by None is = when (Some None) is (first_opens es g begun w scope l kind d at i body is (none_known is))
    by (Some p) is =
        let kind_has : has_body d.value.kind ≡ true = ap has_body d.kind_is ∙ body in
        let (n, there) = body_placed d.value.kind (begun d.entry) (slice_get w.places d.entry) kind_has
        (i.has d.entry d.value (i.known d.entry p is) d.there) in
        when (Some (Some (Typed n))) there (again_opens es g begun w scope l kind d n i body there)

-- ---- definitions

pub defined_fine : (es : List Entry) (g : List Introduction) (begun : ℕ → Type 0) (w : Lowered) (e number : ℕ)
    (node : Node) (names : List (List ℕ)) (held : List At) (at : At)
    → Keeps es g (with_begun e begun) w → HasBody es e → slice_get w.places e ≡ Some (Some (Typed number))
    → (begun e → ⊥) → IsDone g (suc e)
    → IsNode w.nodes node → (node ≡ undefined → ⊥) → IsNoFrame node
    → Fine (Goes es g begun w) (counted w (members_in node) at >> λ v. node_set v number node names held)
defined_fine es g begun w e number node names held at i body place ended done right defined plain =
    and_then (Counts es g (with_begun e begun) w (members_in node)) (Goes es g begun w) (counted w (members_in node) at)
    (λ v. node_set v number node names held)
    (counted_fine es g (with_begun e begun) w (members_in node) at i) (λ v counts.
    let there : slice_get v.places e ≡ Some (Some (Typed number)) = ap (λ ps. slice_get ps e) counts.places ∙ place in
    let open_yet = counts.keeps.ahead e number body there (inr (inl refl)) in
    let right_there = subst (λ graph. IsNode graph node) (sym counts.nodes) right in
    let room : all_members v.nodes + members_in node ≤ v.members =
    subst (λ graph. all_members graph + members_in node ≤ v.members) (sym counts.nodes) counts.room in
    subst (Fine (Goes es g begun w)) (sym (node_set_is v number node names held open_yet))
    (record {
      keeps = define_kept es g begun v e number node names held counts.keeps body there ended done right_there defined
          plain room;
      later = later_on w v (with_defined v number node names held) counts.later
          (define_later v number node names held open_yet plain);
    }))

goes_wrote : (es : List Entry) (g : List Introduction) (begun : ℕ → Type 0) (w v : Lowered) (e n : ℕ)
    → Goes es g begun w v → slice_get w.places e ≡ Some (Some (Typed n))
    → Wrote es g begun w (already v n)
goes_wrote es g begun w v e n goes place =
    record {
      keeps = goes.keeps;
      later = goes.later;
      part =
          goes.keeps.right e (Typed n) (goes.later.places e (Typed n) place);
    }

wrote_on : (es : List Entry) (g : List Introduction) (begun : ℕ → Type 0) (w v : Lowered) (n : Numbered) → Later w v
    → Wrote es g begun v n → Wrote es g begun w n
wrote_on es g begun w v n l h = record { keeps = h.keeps; later = later_on w v n.lowered l h.later; part = h.part }

-- a structure or a union whose definition begins
record Begins (es : List Entry) (g : List Introduction) (begun : ℕ → Type 0) (w : Lowered) (e : ℕ) (o : Numbered) : Type
    0 where
  keeps : Keeps es g (with_begun e begun) o.lowered
  later : Later w o.lowered
  place : slice_get o.lowered.places e ≡ Some (Some (Typed o.number))
  body : HasBody es e
  ended : begun e → ⊥

begins_fine : (es : List Entry) (g : List Introduction) (begun : ℕ → Type 0) (w : Lowered) (scope : ℕ) (at : At)
    (l : Leaf) (kind : EntryKind) (d : Entered es g scope l kind) (e : ℕ)
    → Keeps es g begun w → has_body kind ≡ true → named es scope (word l) ≡ Some e
    → (IsDone (Stands scope l kind ∷ g) (suc e) → ⊥) → (begun e → ⊥)
    → Fine (Begins es (Body (suc e) ∷ Stands scope l kind ∷ g) begun w e) (opened w e at)
begins_fine es g begun w scope at l kind d e i body is new ended =
    let first = d.is in
    let same : d.entry ≡ e = cc in
    let has : HasBody es e = subst (HasBody es) same (ap (is_of has_body) d.there ∙ ap has_body d.kind_is ∙ body) in
    weaker (Opens es (Stands scope l kind ∷ g) begun w e) (Begins es (Body (suc e) ∷ Stands scope l kind ∷ g) begun w e)
    (opened w e at) (λ o h. record {
      keeps = begins es (Stands scope l kind ∷ g) begun o.lowered e h.keeps (inl is) has new;
      later = h.later;
      place = h.place;
      body = has;
      ended = ended;
    })
    (subst (λ k. Fine (Opens es (Stands scope l kind ∷ g) begun w k) (opened w k at)) same
    (opens_fine es g begun w scope l kind d at i body))

-- ---- closing

struct_closes : (es : List Entry) (g : List Introduction) (begun : ℕ → Type 0) (w : Lowered) (e : ℕ) (at : At)
    (o : Numbered) (m : WithMembers) → Begins es g begun w e o
    → (more : List Introduction) → HasMembers es more (with_begun e begun) o.lowered [] 1 m → IsDone more (suc e)
    → Fine (Wrote es more begun w) (struct_defined m o.number at >> λ behind. Ok (already behind o.number))
struct_closes es g begun w e at o m b more h done =
    let number = o.number in
    let v = m.lowered in
    let place = h.later.places e (Typed number) b.place in
    let node = Struct m.members.numbers in
    let some = h.right.some in
    and_then (Goes es more begun v) (Wrote es more begun w) (struct_defined m number at)
    (λ behind. Ok (already behind number))
    (defined_fine es more begun v e number node m.members.names m.members.sites at h.keeps b.body place b.ended done
    (omega (arith, some), h.right.members) (defined m.members.numbers some) tt)
    (λ u goes. wrote_on es more begun w v (already u number) (later_on w o.lowered v b.later h.later)
    (goes_wrote es more begun v u e number goes place))
  where
    defined : (ns : List ℕ) → 1 ≤ length ns → Struct ns ≡ undefined → ⊥
    defined [] some is = omega (arith, some)
    defined (n ∷ ns) some is = cc

union_closes : (es : List Entry) (g : List Introduction) (begun : ℕ → Type 0) (w : Lowered) (e : ℕ) (at : At)
    (o : Numbered) (s : Switch) (c : Cases) → Begins es g begun w e o
    → (more : List Introduction) → HasCases es more (with_begun e begun) o.lowered s c → IsDone more (suc e)
    → Fine (Wrote es more begun w) (union_defined s c o.number at >> λ behind. Ok (already behind o.number))
union_closes es g begun w e at o s c b more h done =
    let number = o.number in
    let v = c.lowered in
    let count = length c.arms.arms in
    let arms = map numbered_arm c.arms.arms in
    let node = Union s.number arms (default_number c.arms.default) in
    let held = map arm_at c.arms.arms ++ default_sites c.arms.default in
    let place = h.later.places e (Typed number) b.place in
    and_then (Goes es more begun v) (Wrote es more begun w) (union_defined s c number at)
    (λ behind. Ok (already behind number))
    (and_then (λ u. IsNeeded s count c.arms.default) (Goes es more begun v) (default_test s count c.arms.default) _
    (default_fine s count c.arms.default) (λ u needed.
    subst (λ k. Fine (Goes es more begun v) (counted v k at >> λ x. node_set x number node c.arms.names held))
    (length-map c.arms.arms numbered_arm)
    (defined_fine es more begun v e number node c.arms.names held at h.keeps b.body place b.ended done
    (union_right v.nodes s c.arms h.switch h.arms needed) (λ is. cc) tt)))
    (λ u goes. wrote_on es more begun w v (already u number) (later_on w o.lowered v b.later h.later)
    (goes_wrote es more begun v u e number goes place))

-- ---- types

pub none_right : (graph : List Node) → AreRight graph [] 0 no_members
none_right graph = record {
  members = record { limited = omega arith; parts = All-nil (IsPart graph) };
  first =
      λ n is. cc;
  some = omega arith;
}

no_arms_right : (graph : List Node) (s : Switch) → AreArms graph s no_arms
no_arms_right graph s = record { limited = omega arith; rise = tt; each = tt; default = tt }

members_closed : {n : _} → (row : Row_of-Member n) → Closed (members_steps row)
members_closed row = closed (members_ask {ls = []} row)

cases_closed : {n : _} → (row : Row_of-Case n) → Closed (cases_steps row)
cases_closed row = closed (cases_ask {ls = []} row)

-- the entry of a definition, and that it isn't begun
definition_entered : (es : List Entry) (g : List Introduction) (begun : ℕ → Type 0) (w : Lowered) (scope : ℕ) (l : Leaf)
    (kind : EntryKind) (d : Entered es g scope l kind) (e : ℕ)
    → Keeps es g begun w → has_body kind ≡ true → named es scope (word l) ≡ Some e
    → (IsDone (Stands scope l kind ∷ g) (suc e) → ⊥) → begun e → ⊥
definition_entered es g begun w scope l kind d e i body is new b =
    let first = d.is in
    let same : d.entry ≡ e = cc in
    let has : HasBody es e = subst (HasBody es) same (ap (is_of has_body) d.there ∙ ap has_body d.kind_is ∙ body) in
    new (inr (i.begun_done e b has))

-- members of one type more, behind which others are settled
module _ (es : List Entry) (begun : ℕ → Type 0) where
  pub first_members : (g : List Introduction) (w : Lowered) (before : List ℕ) (least scope : ℕ) (m : WithMembers)
      (t : TypeSpec) (l : Listed Declarator) (type : Result Numbered BuildFault)
      → HasMembers es g begun w before least m
      → AllSettled es g scope (type_steps t ++ flat_map declarator_steps (parts l))
      → Fine (Wrote es (behind es g scope (type_steps t)) begun m.lowered) type
      → Fine (HasMembers es (behind es g scope (type_steps t ++ flat_map declarator_steps (parts l))) begun w before 1)
      (members_added es scope m.members type l)
  first_members g w before least scope m t l type h settled typed =
      let ds = flat_map declarator_steps (parts l) in
      let split = both es g scope (type_steps t) ds (type_closed t) settled in
      let mid = behind es g scope (type_steps t) in
      subst (λ k. Fine (HasMembers es k begun w before 1) (members_added es scope m.members type l))
      (sym (both_behind es g scope (type_steps t) ds (type_closed t) split.0))
      (weaker (HasMembers es (behind es mid scope ds) begun m.lowered before 1)
      (HasMembers es (behind es mid scope ds) begun w before 1) (members_added es scope m.members type l)
      (λ n k. record { keeps = k.keeps; later = later_on w m.lowered n.lowered h.later k.later; right = k.right })
      (added_members es g mid begun m.lowered before least scope m.members type l h.right typed split.1))

simple_wrote : (es : List Entry) (g : List Introduction) (begun : ℕ → Type 0) (w : Lowered) (scope : ℕ) (at : At)
    (t : SimpleType) → Keeps es g begun w
    → AllSettled es g scope (simple_type_steps t)
    → Fine (Wrote es (behind es g scope (simple_type_steps t)) begun w) (simple_type es w scope at t)
simple_wrote es g begun w scope at t i h =
    weaker (Adds es g begun w) (Wrote es (behind es g scope (simple_type_steps t)) begun w)
    (simple_type es w scope at t) (λ n a. record {
      keeps = silent_keeps es g begun n.lowered scope (simple_type_steps t) (simple_silent t) h a.keeps;
      later = a.later;
      part = a.part;
    }) (simple_keeps es g begun w scope at t i h)

mutual
  pub spec_keeps : (es : List Entry) (g : List Introduction) (begun : ℕ → Type 0) (w : Lowered) (scope : ℕ) (at : At)
      (t : TypeSpec) → Keeps es g begun w
      → AllSettled es g scope (type_steps t)
      → Fine (Wrote es (behind es g scope (type_steps t)) begun w) (type_spec es w scope at t)
  spec_keeps es g begun w scope at (Simple t) i h = simple_wrote es g begun w scope at t i h
  spec_keeps es g begun w scope at (StructSpec s) i h = struct_keeps es g begun w scope s i h
  spec_keeps es g begun w scope at (UnionSpec u) i h = union_keeps es g begun w scope u i h
  spec_keeps es g begun w scope at (EnumSpec e) i h = enum_keeps es g begun w scope e i h

  pub struct_keeps : (es : List Entry) (g : List Introduction) (begun : ℕ → Type 0) (w : Lowered) (scope : ℕ)
      (s : StructType) → Keeps es g begun w
      → AllSettled es g scope (struct_steps s)
      → Fine (Wrote es (behind es g scope (struct_steps s)) begun w) (struct_type es w scope s)
  struct_keeps es g begun w scope (StructType' id p t declarators shape rest) i settled =
      let first = type_steps t ++ flat_map declarator_steps (parts declarators) in
      let others = members_steps rest in
      let first_closed = both_closed (type_closed t)
      (each_closed declarator_steps declarator_closed (parts declarators)) in
      let body = inside es g scope id Kinds.Struct (first ++ others) (both_closed first_closed (members_closed rest))
      settled in
      let e = body.entry in
      let d = entered es g scope id Kinds.Struct settled.0.holds.entries.0 settled.0.new in
      let at = Body (suc e) ∷ Stands scope id Kinds.Struct ∷ g in
      let split = both es at (e + 1) first others first_closed body.inner in
      let more = behind es at (e + 1) (first ++ others) in
      let mid = behind es at (e + 1) first in
      let on = both_behind es at (e + 1) first others first_closed split.0 in
      let site = declarator_at declarators.first in
      let wrote = Wrote es more begun w in
      let done = done_stays es at (e + 1) (first ++ others) (suc e) (inl refl) in
      subst (λ k. Fine (Wrote es k begun w) (struct_type es w scope (StructType' id p t declarators shape rest)))
      (sym body.whole)
      (given wrote (entry_of es scope id) e _ (entry_is es scope id e body.is)
      (and_then (Begins es at begun w e) wrote (opened w e (leaf_at id)) _
      (begins_fine es g begun w scope (leaf_at id) id Kinds.Struct d e i refl body.is body.new
      (definition_entered es g begun w scope id Kinds.Struct d e i refl body.is body.new)) (λ o b.
      let start : HasMembers es at (with_begun e begun) o.lowered [] 0 (with_members_of o.lowered no_members) =
      record { keeps = b.keeps; later = later_none o.lowered; right = none_right o.lowered.nodes } in
      let parts_of_type = both es at (e + 1) (type_steps t) (flat_map declarator_steps (parts declarators))
      (type_closed t) split.0 in
      and_then (HasMembers es mid (with_begun e begun) o.lowered [] 1) wrote
      (members_added es (e + 1) no_members (type_spec es o.lowered (e + 1) site t) declarators) _
      (first_members es (with_begun e begun) at o.lowered [] 0 (e + 1) (with_members_of o.lowered no_members) t
      declarators (type_spec es o.lowered (e + 1) site t) start split.0
      (spec_keeps es at (with_begun e begun) o.lowered (e + 1) site t b.keeps parts_of_type.0)) (λ m h.
      and_then (HasMembers es more (with_begun e begun) o.lowered [] 1) wrote (with_members es (e + 1) m rest) _
      (subst (λ k. Fine (HasMembers es k (with_begun e begun) o.lowered [] 1) (with_members es (e + 1) m rest)) (sym on)
      (members_keep es mid (with_begun e begun) o.lowered [] (e + 1) m rest h split.1)) (λ n all.
      struct_closes es at begun w e (leaf_at id) o n b more all done)))))

  pub union_keeps : (es : List Entry) (g : List Introduction) (begun : ℕ → Type 0) (w : Lowered) (scope : ℕ)
      (u : UnionType) → Keeps es g begun w
      → AllSettled es g scope (union_steps u)
      → Fine (Wrote es (behind es g scope (union_steps u)) begun w) (union_type es w scope u)
  union_keeps es g begun w scope (UnionType' id switch p labels t declarator shape rest) i settled =
      let chosen = switch_steps switch.value in
      let first = flat_map label_steps (parts labels) ++ type_steps t ++ declarator_steps declarator in
      let others = cases_steps rest in
      let chosen_closed = closed (switch_asks {ls = []} switch.value) in
      let first_closed = both_closed (both_closed (each_closed label_steps label_closed (parts labels)) (type_closed t))
      (declarator_closed declarator) in
      let front_closed = both_closed chosen_closed first_closed in
      let body = inside es g scope id Kinds.Union ((chosen ++ first) ++ others)
      (both_closed front_closed (cases_closed rest)) settled in
      let e = body.entry in
      let d = entered es g scope id Kinds.Union settled.0.holds.entries.0 settled.0.new in
      let at = Body (suc e) ∷ Stands scope id Kinds.Union ∷ g in
      let last = both es at (e + 1) (chosen ++ first) others front_closed body.inner in
      let front = both es at (e + 1) chosen first chosen_closed last.0 in
      let more = behind es at (e + 1) ((chosen ++ first) ++ others) in
      let behind_switch = behind es at (e + 1) chosen in
      let behind_first = behind es behind_switch (e + 1) first in
      let front_is : behind es at (e + 1) (chosen ++ first) ≡ behind_first =
      both_behind es at (e + 1) chosen first chosen_closed front.0 in
      let whole_is : more ≡ behind es behind_first (e + 1) others =
      both_behind es at (e + 1) (chosen ++ first) others front_closed last.0
      ∙ ap (λ k. behind es k (e + 1) others) front_is in
      let site = declarator_at declarator in
      let wrote = Wrote es more begun w in
      let done = done_stays es at (e + 1) ((chosen ++ first) ++ others) (suc e) (inl refl) in
      let now = with_begun e begun in
      subst (λ k. Fine (Wrote es k begun w)
      (union_type es w scope (UnionType' id switch p labels t declarator shape rest))) (sym body.whole)
      (given wrote (entry_of es scope id) e _ (entry_is es scope id e body.is)
      (and_then (Begins es at begun w e) wrote (opened w e (leaf_at id)) _
      (begins_fine es g begun w scope (leaf_at id) id Kinds.Union d e i refl body.is body.new
      (definition_entered es g begun w scope id Kinds.Union d e i refl body.is body.new)) (λ o b.
      and_then (Chosen es behind_switch now o.lowered) wrote
      (switch_read es o.lowered (e + 1) (leaf_at id) switch.value) _
      (switch_keeps es at now o.lowered (e + 1) (leaf_at id) switch.value b.keeps front.0) (λ s chose.
      let start : HasCases es behind_switch now o.lowered s.switch (cases_of s.lowered no_arms) =
      record {
        keeps = chose.keeps;
        later = chose.later;
        switch = chose.switch;
        arms =
            no_arms_right s.lowered.nodes s.switch;
      } in
      and_then (HasCases es behind_first now o.lowered s.switch) wrote
      (case_added es (e + 1) s.switch (cases_of s.lowered no_arms) labels (λ v. type_spec es v (e + 1) site t)
      declarator) _
      (added_case es behind_switch now o.lowered (e + 1) s.switch (cases_of s.lowered no_arms) labels
      (λ v. type_spec es v (e + 1) site t) t declarator start front.1
      (λ k keeps hs. spec_keeps es k now s.lowered (e + 1) site t keeps hs)) (λ c h.
      and_then (HasCases es more now o.lowered s.switch) wrote (with_cases es (e + 1) s.switch c rest) _
      (subst (λ k. Fine (HasCases es k now o.lowered s.switch) (with_cases es (e + 1) s.switch c rest)) (sym whole_is)
      (cases_keep es behind_first now o.lowered (e + 1) s.switch c rest h
      (subst (λ k. AllSettled es k (e + 1) others) front_is last.1))) (λ c all.
      union_closes es at begun w e (leaf_at id) o s.switch c b more all done))))))

  members_keep : {n : _} → (es : List Entry) (g : List Introduction) (begun : ℕ → Type 0) (w : Lowered)
      (before : List ℕ) (scope : ℕ) (m : WithMembers) (row : Row_of-Member n)
      → HasMembers es g begun w before 1 m → AllSettled es g scope (members_steps row)
      → Fine (HasMembers es (behind es g scope (members_steps row)) begun w before 1) (with_members es scope m row)
  members_keep es g begun w before scope m end_of-Member h settled = h
  members_keep es g begun w before scope m (more_of-Member t declarators rest) h settled =
      let first = type_steps t ++ flat_map declarator_steps (parts declarators) in
      let first_closed = both_closed (type_closed t)
      (each_closed declarator_steps declarator_closed (parts declarators)) in
      let others = members_steps rest in
      let split = both es g scope first others first_closed settled in
      let mid = behind es g scope first in
      let site = declarator_at declarators.first in
      let parts_of_type = both es g scope (type_steps t) (flat_map declarator_steps (parts declarators)) (type_closed t)
      split.0 in
      subst (λ k. Fine (HasMembers es k begun w before 1) (with_members es scope m (more_of-Member t declarators rest)))
      (sym (both_behind es g scope first others first_closed split.0))
      (and_then (HasMembers es mid begun w before 1) (HasMembers es (behind es mid scope others) begun w before 1)
      (members_added es scope m.members (type_spec es m.lowered scope site t) declarators) _
      (first_members es begun g w before 1 scope m t declarators (type_spec es m.lowered scope site t) h split.0
      (spec_keeps es g begun m.lowered scope site t h.keeps parts_of_type.0))
      (λ next has. members_keep es mid begun w before scope next rest has split.1))

  cases_keep : {n : _} → (es : List Entry) (g : List Introduction) (begun : ℕ → Type 0) (w : Lowered) (scope : ℕ)
      (s : Switch) (c : Cases) (row : Row_of-Case n)
      → HasCases es g begun w s c → AllSettled es g scope (cases_steps row)
      → Fine (HasCases es (behind es g scope (cases_steps row)) begun w s) (with_cases es scope s c row)
  cases_keep es g begun w scope s c end_of-Case h settled = h
  cases_keep es g begun w scope s c (more_of-Case labels t declarator rest) h settled =
      let first = flat_map label_steps (parts labels) ++ type_steps t ++ declarator_steps declarator in
      let first_closed = both_closed (both_closed (each_closed label_steps label_closed (parts labels)) (type_closed t))
      (declarator_closed declarator) in
      let others = cases_steps rest in
      let split = both es g scope first others first_closed settled in
      let mid = behind es g scope first in
      let at = declarator_at declarator in
      subst (λ k. Fine (HasCases es k begun w s) (with_cases es scope s c (more_of-Case labels t declarator rest)))
      (sym (both_behind es g scope first others first_closed split.0))
      (and_then (HasCases es mid begun w s) (HasCases es (behind es mid scope others) begun w s)
      (case_added es scope s c labels (λ v. type_spec es v scope at t) declarator) _
      (added_case es g begun w scope s c labels (λ v. type_spec es v scope at t) t declarator h split.0
      (λ k keeps hs. spec_keeps es k begun c.lowered scope at t keeps hs))
      (λ next has. cases_keep es mid begun w scope s next rest has split.1))
