-- The declarations of modules and interfaces: what is kept stays so.
use Rattle.std.proofs.Common.{◌≡◌, ◌∙◌, inl, ℕ, ◌+◌, ◌≤◌, true, List, [], ◌∷◌, ◌++◌, length, length-append, map, Option, Some, None, Result, Ok, Err, refl, sym, ap, subst, arith}
use Rattle.std.specs.Prelude.{slice_get}
use Rattle.std.specs.List.{flat_map}
use Rattle.std.proofs.lemmas.List.Elements.{All-cons, All-nil}
use Rattle.idl_tree.specs.declared.names.At.{At}
use Rattle.idl_tree.specs.declared.names.Leaf.{Leaf}
use Rattle.idl_tree.specs.declared.types.Declarator.{Declarator}
use Rattle.idl_tree.specs.declared.types.Member.{Member}
use Rattle.idl_tree.specs.declared.types.TypeSpec.{TypeSpec}
use Rattle.idl_tree.specs.declared.definitions.Const.{Const}
use Rattle.idl_tree.specs.declared.definitions.Declaration.{Declaration}
use Rattle.idl_tree.specs.declared.definitions.Declaration.TheVariants as Declarations
use Rattle.idl_tree.specs.declared.definitions.Except.{Except}
use Rattle.idl_tree.specs.declared.definitions.TypeDcl.{TypeDcl}
use Rattle.idl_tree.specs.declared.definitions.TypeDcl.TheVariants as TypeDcls
use Rattle.idl_tree.specs.Lists.{parts}
use Rattle.type_graph.specs.declared.fault.GraphLimit.TheVariants.{Nodes}
use Rattle.type_graph.specs.declared.node.Node.TheVariants.{Frame, Text}
use Rattle.type_graph.specs.GraphRules.{IsNode, IsPart, all_members}
use Rattle.idl_tree.specs.declared.kinds.EntryKind.{EntryKind}
use Rattle.idl_tree.specs.declared.kinds.EntryKind.TheVariants as Kinds
use Rattle.idl_tree.specs.Starts.{leaf_at}
use Rattle.name_table.specs.Entry.{Entry}
use Rattle.name_table.proofs.Stability.{get_push_last}
use Rattle.scoped_names.specs.Faults.{has_body}
use Rattle.scoped_names.specs.Introductions.{Introduction, Stands}
use Rattle.scoped_names.specs.Reading.{◌>>◌}
use Rattle.name_steps.specs.Steps.{Declares, DeclaresConst, DeclaresTypedef, IsNew as TestsNew, const_steps, const_type_steps, declaration_steps, declarator_steps, except_steps, member_steps, size_step, type_dcl_steps, type_steps, typedef_steps}
use Rattle.name_steps.proofs.Asks.{const_type_asks, sizes_ask}
use Rattle.scoped_names.proofs.Parts.{Closed, both_closed, closed, each_closed, one_closed}
use Rattle.type_paths.specs.Sites.{Sites}
use Rattle.lowered_types.specs.declared.fault.BuildFault.{BuildFault}
use Rattle.lowered_types.specs.declared.place.Place.{Place}
use Rattle.lowered_types.specs.declared.place.Place.TheVariants.{Raised, Typed}
use Rattle.lowered_types.specs.Declarations.{ahead, declaration, except, exception_added, id_member, type_dcl, with_typedef}
use Rattle.lowered_types.specs.Faults.{at_most, each, max_nodes}
use Rattle.lowered_types.specs.Sound.{BeginsWithText, IsIdFrame}
use Rattle.lowered_types.specs.SimpleTypes.{array_type, const_type, declarator_at, entry_of, enum_type}
use Rattle.lowered_types.specs.Types.{WithMembers, struct_type, type_spec, union_type, with_member, with_members_of}
use Rattle.lowered_types.specs.Lowered.{Numbered, Lowered, added, already, counted, next, opened, placed, raised_at, with_node}
use Rattle.lowered_types.proofs.Defining.{raise_kept, raised_is}
use Rattle.lowered_types.proofs.Each.{each_keeps}
use Rattle.lowered_types.proofs.Fine.{Fine, and_then, at_most_fine, given, weaker}
use Rattle.lowered_types.proofs.Growing.{part_stays}
use Rattle.lowered_types.proofs.Keeping.{IsUnplaced, Keeps, Later, begins_unplaced, later_none, later_on, with_begun}
use Rattle.lowered_types.proofs.Naming.{Goes, each_silent, entered, entry_is, silent_append, silent_keeps, type_named, unknown, unplaced}
use Rattle.lowered_types.proofs.Settled.{AllSettled, Known, behind, both, both_behind, within}
use Rattle.lowered_types.proofs.SimpleKeep.{Wrote, array_keeps, basic_part, const_keeps, const_silent, enum_keeps, still_fine}
use Rattle.lowered_types.proofs.Spots.{is_some_and}
use Rattle.lowered_types.proofs.StructsKeep.{Opens, first_members, opens_fine, spec_keeps, struct_keeps, union_keeps}
use Rattle.lowered_types.proofs.TypesKeep.{HasMembers, declarator_closed, type_closed}
use Rattle.lowered_types.proofs.Lowering.{Adds, Counts, counted_fine, node_kept, node_later, place_later, with_placed}

-- ---- names for types

sizes_closed : (d : Declarator) → Closed (map size_step d.sizes.items)
sizes_closed d = closed (sizes_ask {ls = []} d.sizes.items)

typedef_closed : (t : TypeSpec) (d : Declarator) → Closed (typedef_steps t d)
typedef_closed t d = both_closed (one_closed (DeclaresTypedef t d) tt) (sizes_closed d)

-- what is lowered behind w, where a type of w has the number
record Names (es : List Entry) (g : List Introduction) (begun : ℕ → Type 0) (w : Lowered) (number : ℕ) (v : Lowered) :
    Type 0 where
  keeps : Keeps es g begun v
  later : Later w v
  part : IsPart v.nodes number

typedef_keeps : (es : List Entry) (g : List Introduction) (begun : ℕ → Type 0) (w : Lowered) (scope number : ℕ)
    (t : TypeSpec) (v : Lowered) (d : Declarator)
    → AllSettled es g scope (typedef_steps t d) → Names es g begun w number v
    → Fine (Names es (behind es g scope (typedef_steps t d)) begun w number) (with_typedef es scope number v d)
typedef_keeps es g begun w scope number t v d (s, ss) n =
    let named = Stands scope d.identifier Kinds.Typedef ∷ g in
    let more = behind es named scope (map size_step d.sizes.items) in
    let e = entered es g scope d.identifier Kinds.Typedef s.holds.entries.0 s.new in
    and_then (Adds es g begun v) (Names es more begun w number) (array_type es scope (already v number) d) _
    (array_keeps es g named begun v scope (already v number) d (still_fine es g begun v number n.keeps n.part) ss)
    (λ a adds.
    given (Names es more begun w number) (entry_of es scope d.identifier) e.entry
    (λ e. placed a.lowered e (Typed a.number)) (entry_is es scope d.identifier e.entry e.is)
    (let told = type_named es g begun a.lowered scope d.identifier Kinds.Typedef a.number e adds.keeps refl adds.part in
    let u = with_placed a.lowered e.entry (Typed a.number) a.lowered.exceptions in
    let on = later_on v a.lowered u adds.later told.1.later in
    subst (Fine (Names es more begun w number)) (sym told.0)
    (record {
      keeps = silent_keeps es named begun u scope (map size_step d.sizes.items)
          (each_silent size_step (λ size. tt) d.sizes.items) ss told.1.keeps;
      later = later_on w v u n.later on;
      part = part_stays v.nodes u.nodes on.nodes number n.part;
    })))

ahead_keeps : (es : List Entry) (g : List Introduction) (begun : ℕ → Type 0) (w : Lowered) (scope : ℕ) (id : Leaf)
    (kind : EntryKind) → Keeps es g begun w → has_body kind ≡ true
    → AllSettled es g scope (Declares kind id ∷ [])
    → Fine (Goes es (Stands scope id kind ∷ g) begun w) (ahead es w scope id)
ahead_keeps es g begun w scope id kind i body (s, ss) =
    let d = entered es g scope id kind s.holds.entries.0 s.new in
    let goes = Goes es (Stands scope id kind ∷ g) begun w in
    given goes (entry_of es scope id) d.entry _ (entry_is es scope id d.entry d.is)
    (and_then (Opens es (Stands scope id kind ∷ g) begun w d.entry) goes (opened w d.entry (leaf_at id))
    (λ o. Ok o.lowered)
    (opens_fine es g begun w scope id kind d (leaf_at id) i body) (λ o h. record { keeps = h.keeps; later = h.later }))

wrote_goes : (es : List Entry) (g : List Introduction) (begun : ℕ → Type 0) (w : Lowered)
    (r : Result Numbered BuildFault) → Fine (Wrote es g begun w) r
    → Fine (Goes es g begun w) (r >> λ n. Ok n.lowered)
wrote_goes es g begun w r h =
    and_then (Wrote es g begun w) (Goes es g begun w) r (λ n. Ok n.lowered) h
    (λ n k. record { keeps = k.keeps; later = k.later })

type_dcl_keeps : (es : List Entry) (g : List Introduction) (begun : ℕ → Type 0) (w : Lowered) (scope : ℕ) (t : TypeDcl)
    → Keeps es g begun w
    → AllSettled es g scope (type_dcl_steps t)
    → Fine (Goes es (behind es g scope (type_dcl_steps t)) begun w) (type_dcl es w scope t)
type_dcl_keeps es g begun w scope (TypeDcls.Typedef t declarators) i h =
    let others = flat_map (typedef_steps t) (parts declarators) in
    let split = both es g scope (type_steps t) others (type_closed t) h in
    let mid = behind es g scope (type_steps t) in
    let last = behind es mid scope others in
    subst (λ k. Fine (Goes es k begun w) (type_dcl es w scope (TypeDcls.Typedef t declarators)))
    (sym (both_behind es g scope (type_steps t) others (type_closed t) split.0))
    (and_then (Wrote es mid begun w) (Goes es last begun w) (type_spec es w scope (declarator_at declarators.first) t)
    (λ n. each (with_typedef es scope n.number) n.lowered (parts declarators))
    (spec_keeps es g begun w scope (declarator_at declarators.first) t i split.0) (λ n wrote.
    weaker (Names es last begun w n.number) (Goes es last begun w)
    (each (with_typedef es scope n.number) n.lowered (parts declarators))
    (λ v h. record { keeps = h.keeps; later = h.later })
    (each_keeps es (λ k v. Names es k begun w n.number v) (with_typedef es scope n.number) (typedef_steps t) scope
    (typedef_closed t)
    (λ k v d settled has. typedef_keeps es k begun w scope n.number t v d settled has) mid n.lowered (parts declarators)
    split.1
    (record { keeps = wrote.keeps; later = wrote.later; part = wrote.part }))))
type_dcl_keeps es g begun w scope (TypeDcls.Struct s) i h =
    wrote_goes es _ begun w (struct_type es w scope s) (struct_keeps es g begun w scope s i h)
type_dcl_keeps es g begun w scope (TypeDcls.Union u) i h =
    wrote_goes es _ begun w (union_type es w scope u) (union_keeps es g begun w scope u i h)
type_dcl_keeps es g begun w scope (TypeDcls.Enum e) i h =
    wrote_goes es _ begun w (enum_type es w scope e) (enum_keeps es g begun w scope e i h)
type_dcl_keeps es g begun w scope (TypeDcls.StructAhead id) i h =
    ahead_keeps es g begun w scope id Kinds.Struct i refl h
type_dcl_keeps es g begun w scope (TypeDcls.UnionAhead id) i h = ahead_keeps es g begun w scope id Kinds.Union i refl h

-- ---- constants

const_lowered : (es : List Entry) (g : List Introduction) (begun : ℕ → Type 0) (w : Lowered) (scope : ℕ) (c : Const)
    → Keeps es g begun w
    → AllSettled es g scope (const_steps c)
    → Fine (Goes es (behind es g scope (const_steps c)) begun w)
    (const_type es w scope c.const_type >> λ n. Ok n.lowered)
const_lowered es g begun w scope c i h =
    let ts = const_type_steps c.const_type in
    let split = both es g scope ts (TestsNew c.identifier ∷ DeclaresConst c ∷ [])
    (closed (const_type_asks {ls = []} c.const_type)) h in
    let steps = const_steps c in
    and_then (Adds es g begun w) (Goes es (behind es g scope steps) begun w) (const_type es w scope c.const_type)
    (λ n. Ok n.lowered)
    (const_keeps es g begun w scope c.const_type i split.0) (λ n a. record {
      keeps = silent_keeps es g begun n.lowered scope steps
          (silent_append ts (TestsNew c.identifier ∷ DeclaresConst c ∷ []) (const_silent c.const_type) (tt, (tt, tt))) h
          a.keeps;
      later = a.later;
    })

-- ---- exceptions

pub member_keeps : (es : List Entry) (g : List Introduction) (begun : ℕ → Type 0) (w : Lowered) (before : List ℕ)
    (scope : ℕ) (m : WithMembers) (x : Member)
    → HasMembers es g begun w before 1 m → AllSettled es g scope (member_steps x)
    → Fine (HasMembers es (behind es g scope (member_steps x)) begun w before 1) (with_member es scope m x)
member_keeps es g begun w before scope m x h settled =
    let split = both es g scope (type_steps x.member_type) (flat_map declarator_steps (parts x.declarators))
    (type_closed x.member_type) settled in
    let at = declarator_at x.declarators.first in
    first_members es begun g w before 1 scope m x.member_type x.declarators
    (type_spec es m.lowered scope at x.member_type) h settled
    (spec_keeps es g begun m.lowered scope at x.member_type h.keeps split.0)

member_closed : (x : Member) → Closed (member_steps x)
member_closed x = both_closed (type_closed x.member_type)
    (each_closed declarator_steps declarator_closed (parts x.declarators))

-- a frame is no type that others refer to
pub record Frames (es : List Entry) (g : List Introduction) (begun : ℕ → Type 0) (w : Lowered) (ms : List ℕ)
    (n : Numbered) : Type 0 where
  pub keeps : Keeps es g begun n.lowered
  pub later : Later w n.lowered
  pub frame : slice_get n.lowered.nodes n.number ≡ Some (Frame ms)
  pub number : n.number ≡ length w.nodes
  pub more : length n.lowered.nodes ≡ length w.nodes + 1
  pub places : n.lowered.places ≡ w.places
  pub exceptions : n.lowered.exceptions ≡ w.exceptions

pub frame_fine : (es : List Entry) (g : List Introduction) (begun : ℕ → Type 0) (w : Lowered) (ms : List ℕ)
    (names : List (List ℕ)) (sites : Sites) (at : At) → Keeps es g begun w → IsNode w.nodes (Frame ms)
    → Fine (Frames es g begun w ms) (counted w (length ms) at >> λ v. added v (Frame ms) names sites)
frame_fine es g begun w ms names sites at i right =
    and_then (Counts es g begun w (length ms)) (Frames es g begun w ms) (counted w (length ms) at)
    (λ v. added v (Frame ms) names sites)
    (counted_fine es g begun w (length ms) at i) (λ v counts.
    and_then (λ k. (k ≡ next v + 1) × (next v + 1 ≤ max_nodes)) (Frames es g begun w ms)
    (at_most max_nodes Nodes sites.at (next v + 1)) _
    (at_most_fine max_nodes Nodes sites.at (next v + 1)) (λ k fits.
    let right_there = subst (λ graph. IsNode graph (Frame ms)) (sym counts.nodes) right in
    let room = subst (λ graph. all_members graph + length ms ≤ v.members) (sym counts.nodes) counts.room in
    record {
      keeps = node_kept es g begun v (Frame ms) names sites counts.keeps right_there (λ is. cc) fits.1 room;
      later = later_on w v (with_node v (Frame ms) names sites) counts.later (node_later v (Frame ms) names sites);
      frame = get_push_last v.nodes (Frame ms);
      number = ap length counts.nodes;
      more = length-append v.nodes (Frame ms ∷ []) ∙ ap (λ graph. length graph + 1) counts.nodes;
      places = counts.places;
      exceptions = counts.exceptions;
    }))

exception_fine : (es : List Entry) (g : List Introduction) (begun : ℕ → Type 0) (w : Lowered) (e : ℕ) (site : At)
    (x : Entry) (m : WithMembers)
    → HasMembers es g (with_begun e begun) w (9 ∷ []) 1 m → slice_get es e ≡ Some x → x.kind ≡ Kinds.Exception
    → (begun e → ⊥)
    → Fine (Goes es g begun w) (exception_added m e site)
exception_fine es g begun w e site x m h at kind ended =
    let ms = m.members.numbers in
    let v = m.lowered in
    let sites : Sites = record { at = site; held = m.members.sites } in
    subst (Fine (Goes es g begun w)) regrouped
    (and_then (Frames es g (with_begun e begun) v ms) (Goes es g begun w)
    (counted v (length ms) site >> λ u. added u (Frame ms) m.members.names sites)
    (λ frame. raised_at frame.lowered e frame.number)
    (frame_fine es g (with_begun e begun) v ms m.members.names sites site h.keeps h.right.members) (λ f frames.
    let none = no_place x.kind (slice_get f.lowered.places e) kind (frames.keeps.unplaced e x (inl refl) at) in
    let knows = frames.keeps.begun_known e (inl refl) in
    let text = frames.keeps.basic 9 (Text 0) refl in
    let id : IsIdFrame f.lowered.nodes f.number =
    is_some_and (slice_get f.lowered.nodes f.number) (BeginsWithText f.lowered.nodes) (Frame ms) frames.frame
    (is_some_and (slice_get ms 0) (λ n. slice_get f.lowered.nodes n ≡ Some (Text 0)) 9 (h.right.first 9 refl) text) in
    let raised = with_placed f.lowered e (Raised f.number (length f.lowered.exceptions))
    (f.lowered.exceptions ++ (e, f.number) ∷ []) in
    let long = length-append f.lowered.exceptions ((e, f.number) ∷ []) in
    let few = h.keeps.sound.exceptions in
    let same = ap length frames.exceptions in
    let more = frames.more in
    let room : length f.lowered.exceptions + 1 ≤ length f.lowered.nodes = omega (arith, few, same, more) in
    subst (Fine (Goes es g begun w)) (sym (raised_is f.lowered e f.number none))
    (record {
      keeps = raise_kept es g begun f.lowered e f.number x frames.keeps knows none at kind ended room id;
      later = later_on w v raised h.later (later_on v f.lowered raised frames.later
          (place_later f.lowered e (Raised f.number (length f.lowered.exceptions))
          (f.lowered.exceptions ++ (e, f.number) ∷ []) none (omega (arith, long))));
    })))
  where
    no_place : (k : EntryKind) (o : Option (Option Place)) → k ≡ Kinds.Exception → IsUnplaced k o → o ≡ Some None
    no_place Kinds.Exception o is h = h
    no_place k o is h = absurd cc

    regrouped : ((counted m.lowered (length m.members.numbers) site >> λ u. added u (Frame m.members.numbers)
        m.members.names (record { at = site; held = m.members.sites })) >> λ frame. raised_at frame.lowered e
        frame.number)
        ≡ exception_added m e site
    regrouped = by (counted m.lowered (length m.members.numbers) site)
      where
        by : (r : Result Lowered BuildFault)
            → ((r >> λ u. added u (Frame m.members.numbers) m.members.names
            (record { at = site; held = m.members.sites })) >> λ frame. raised_at frame.lowered e frame.number)
            ≡ (r >> λ u. added u (Frame m.members.numbers) m.members.names
            (record { at = site; held = m.members.sites }) >> λ frame. raised_at frame.lowered e frame.number)
        by (Ok u) = refl
        by (Err fault) = refl

except_keeps : (es : List Entry) (g : List Introduction) (begun : ℕ → Type 0) (w : Lowered) (scope : ℕ) (x : Except)
    → Keeps es g begun w
    → AllSettled es g scope (except_steps x)
    → Fine (Goes es (behind es g scope (except_steps x)) begun w) (except es w scope x)
except_keeps es g begun w scope x i (declares, rest) =
    let id = x.identifier in
    let d = entered es g scope id Kinds.Exception declares.holds.entries.0 declares.new in
    let named = Stands scope id Kinds.Exception ∷ g in
    let inner = flat_map member_steps x.members.items in
    let inside = within es named scope id inner (each_closed member_steps member_closed x.members.items) rest in
    let e = inside.entry in
    let first = d.is in
    let second = inside.is in
    let same : d.entry ≡ e = cc in
    let at : slice_get es e ≡ Some d.value = subst (λ k. slice_get es k ≡ Some d.value) same d.there in
    let new : Known es g e → ⊥ = subst (λ k. Known es g k → ⊥) same (unknown d refl) in
    let ended : begun e → ⊥ = λ b. new (i.begun_known e b) in
    let begins = begins_unplaced es g begun w e d.value scope id i second at d.kind_is
    (unplaced es g begun w e d.value i at new) in
    let more = behind es named (e + 1) inner in
    let start : HasMembers es named (with_begun e begun) w (9 ∷ []) 1 (with_members_of w (id_member (leaf_at id))) =
    record {
      keeps = begins;
      later = later_none w;
      right = record {
        members = record {
          limited = omega arith;
          parts = All-cons (IsPart w.nodes) 9 [] (basic_part es g begun w 9 _ i refl tt) (All-nil (IsPart w.nodes));
        };
        first = λ n is. is;
        some = omega arith;
      };
    } in
    subst (λ k. Fine (Goes es k begun w) (except es w scope x)) (sym inside.whole)
    (given (Goes es more begun w) (entry_of es scope id) e _ (entry_is es scope id e second)
    (and_then (HasMembers es more (with_begun e begun) w (9 ∷ []) 1) (Goes es more begun w)
    (each (with_member es (e + 1)) (with_members_of w (id_member (leaf_at id))) x.members.items)
    (λ m. exception_added m e (leaf_at id))
    (each_keeps es (λ k m. HasMembers es k (with_begun e begun) w (9 ∷ []) 1 m) (with_member es (e + 1)) member_steps
    (e + 1) member_closed
    (λ k m y settled has. member_keeps es k (with_begun e begun) w (9 ∷ []) (e + 1) m y has settled) named
    (with_members_of w (id_member (leaf_at id))) x.members.items inside.inner start)
    (λ m h. exception_fine es more begun w e (leaf_at id) d.value m h at d.kind_is ended)))

-- ---- declarations

pub declaration_keeps : (es : List Entry) (g : List Introduction) (begun : ℕ → Type 0) (w : Lowered) (scope : ℕ)
    (x : Declaration) → Keeps es g begun w
    → AllSettled es g scope (declaration_steps x)
    → Fine (Goes es (behind es g scope (declaration_steps x)) begun w) (declaration es w scope x)
declaration_keeps es g begun w scope (Declarations.TypeDcl t) i h = type_dcl_keeps es g begun w scope t i h
declaration_keeps es g begun w scope (Declarations.Const c) i h = const_lowered es g begun w scope c i h
declaration_keeps es g begun w scope (Declarations.Except x) i h = except_keeps es g begun w scope x i h
