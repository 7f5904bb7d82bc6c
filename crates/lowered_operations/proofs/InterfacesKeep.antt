-- Interfaces and modules, and whole files: what is kept stays so.
use Rattle.std.proofs.Common.{◌≡◌, ◌∙◌, inl, ℕ, zero, suc, ◌+◌, ◌-◌, ◌<◌, ◌≤◌, le_refl, Bool, true, false, cond, nat_eq, nat_lt, List, [], ◌∷◌, ◌++◌, length, All, map, Option, Some, None, Ok, Err, append_assoc, refl, sym, ap, subst, arith}
use Rattle.std.specs.Prelude.{if◌then◌else◌, slice_get, slice_set, IfSome}
use Rattle.std.specs.List.{AllByRecursion, flat_map, fold, list_any, range_with_len}
use Rattle.std.proofs.lemmas.Bool.{lt-ltb}
use Rattle.std.proofs.lemmas.List.{length-set}
use Rattle.std.proofs.lemmas.List.Elements.{All-append, All-cons, All-nil, All-set}
use Rattle.std.proofs.lemmas.Option.{slice_get_within}
use Rattle.idl_tree.specs.declared.names.Leaf.{Leaf}
use Rattle.idl_tree.specs.declared.names.Listed.{Listed}
use Rattle.idl_tree.specs.declared.names.ScopedName.{ScopedName}
use Rattle.idl_tree.specs.declared.definitions.Export.{Export}
use Rattle.idl_tree.specs.declared.definitions.Export.TheVariants as Exports
use Rattle.idl_tree.specs.declared.definitions.Interface.{Interface}
use Rattle.idl_tree.specs.declared.definitions.Interface.TheVariants.{Ahead, Defined as Body}
use Rattle.idl_tree.specs.declared.definitions.Definition.{Definition, Pragma, Declaration as Declared, Interface as InterfaceDcl, Module', Row_of-Definition, end_of-Definition, more_of-Definition}
use Rattle.name_table.specs.declared.entry.Base.{Base}
use Rattle.idl_tree.specs.declared.kinds.EntryKind.{EntryKind}
use Rattle.idl_tree.specs.declared.kinds.EntryKind.TheVariants as Kinds
use Rattle.name_table.specs.Entry.{Entry, bases_in, named}
use Rattle.name_table.specs.Search.{word}
use Rattle.scoped_names.specs.Faults.{has_body}
use Rattle.scoped_names.specs.Introductions.{Introduction, Stands, Body as BodyOf}
use Rattle.scoped_names.specs.Reading.{◌>>◌}
use Rattle.name_steps.specs.Steps.{Declares, Defines, Enters, HasBase, IsUndefined, Leaves, definition_steps, definitions_steps, export_steps, interface_steps, optional_parts}
use Rattle.name_steps.proofs.Asks.{definition_asks, definitions_ask, export_asks}
use Rattle.scoped_names.proofs.Parts.{Closed, both_closed, closed, each_closed, each_step_closed, one_closed}
use Rattle.lowered_types.specs.declared.fault.BuildFault.TheVariants.{OtherNames}
use Rattle.lowered_types.specs.declared.place.Place.{Place}
use Rattle.lowered_types.specs.declared.place.Place.TheVariants.{Typed}
use Rattle.lowered_types.specs.Faults.{each}
use Rattle.lowered_types.specs.SimpleTypes.{entry_of}
use Rattle.lowered_types.specs.Lowered.{Lowered, place_in, placed}
use Rattle.lowered_types.proofs.Each.{each_keeps}
use Rattle.lowered_types.proofs.Fine.{Fine, and_then, given, weaker}
use Rattle.lowered_types.proofs.Keeping.{HasBody, HasPlace, Keeps, later_none, later_on, more_known, no_body_of}
use Rattle.lowered_types.proofs.Naming.{Entered, IsSilent, each_silent, entered, entry_is, place_given, silent_keeps, silent_name}
use Rattle.lowered_types.proofs.Settled.{AllSettled, Known, behind, both, both_behind, known_stays, within}
use Rattle.lowered_types.proofs.SimpleKeep.{basic_part}
use Rattle.lowered_types.proofs.Spots.{there_at}
use Rattle.lowered_types.proofs.Lowering.{with_placed}
use Rattle.lowered_operations.specs.declared.signature.Offered.{Offered}
use Rattle.lowered_operations.specs.Definitions.{definition, definitions_after}
use Rattle.lowered_operations.specs.Interfaces.{all_bases_of, as_reference, bases_in_all, export, from_on, inherited, interface, interface_as, interface_of, offered_in, offering, operations_in, operations_of, reference_at, with_base, with_base_and_above, with_interface, with_once}
use Rattle.lowered_operations.specs.Operations.{Defined, with_types}
use Rattle.lowered_operations.specs.Sound.{IsSoundOffer}
use Rattle.lowered_operations.proofs.AttributesKeep.{attribute_fine}
use Rattle.lowered_operations.proofs.Calls.{nothing_begun}
use Rattle.lowered_operations.proofs.OperationsKeep.{GoesAll, KeepsAll, declared_fine, goes_on_all, operation_fine, types_lowered}

-- the bases of each entry are among the entries
abbrev pub AreBased : List Entry → Type 0
AreBased es = (e : ℕ) → All (λ b. b.entry < length es) (bases_in (slice_get es e))

pub goes_none : (es : List Entry) (g : List Introduction) (d : Defined) → KeepsAll es g d → GoesAll es g d d
goes_none es g d h = record { keeps = h; later = later_none d.types; more = le_refl (length d.operations) }

-- where the types keep more
pub known_all : (es : List Entry) (g more : List Introduction) (d : Defined) → KeepsAll es g d
    → Keeps es more nothing_begun d.types → KeepsAll es more d
known_all es g more d h keeps =
    record { types_kept = keeps; long = h.long; signatures = h.signatures; offers = h.offers; few = h.few }

-- ---- what is inherited

abbrev Below : ℕ → ℕ → Type 0
Below count n = n < count

once_below : (count : ℕ) (xs : List ℕ) (n : ℕ) → All (Below count) xs → n < count → All (Below count) (with_once xs n)
once_below count xs n h lt = by (list_any (nat_eq n) xs)
  where
    by : (b : Bool) → All (Below count) (cond b xs (xs ++ n ∷ []))
    by true = h
    by false = All-append (Below count) xs (n ∷ []) h (All-cons (Below count) n [] lt (All-nil (Below count)))

each_below : (count : ℕ) (xs more : List ℕ) → All (Below count) xs → All (Below count) more
    → All (Below count) (fold with_once xs more)
each_below count xs [] h g = h
each_below count xs (n ∷ ns) h g =
    each_below count (with_once xs n) ns (once_below count xs n h (g 0 n (omega arith)))
    (λ k d lt. g (suc k) d (omega (arith, lt)))

range_below : (first len count : ℕ) → first + len ≤ count → All (Below count) (range_with_len first len)
range_below first zero count le = All-nil (Below count)
range_below first (suc len) count le =
    All-cons (Below count) first (range_with_len (first + 1) len) (omega (arith, le))
    (range_below (first + 1) len count (omega (arith, le)))

abbrev Offers : ℕ → ℕ → Option Offered → Type 0
Offers entries operations o = IfSome o (IsSoundOffer entries operations)

offered_there : (entries operations : ℕ) (xs : List (Option Offered)) (e : ℕ) → All (Offers entries operations) xs
    → All (Below operations) (operations_in (offered_in (slice_get xs e)))
    × All (Below entries) (bases_in_all (offered_in (slice_get xs e)))
offered_there entries operations [] e h = (All-nil (Below operations), All-nil (Below entries))
offered_there entries operations (None ∷ xs) zero h = (All-nil (Below operations), All-nil (Below entries))
offered_there entries operations (Some o ∷ xs) zero h = let sound : IsSoundOffer entries operations o =
    h 0 None (omega arith) in (sound.operations_there, sound.bases)
offered_there entries operations (x ∷ xs) (suc e) h =
    offered_there entries operations xs e (λ k d lt. h (suc k) d (omega (arith, lt)))

inherited_below : (entries : ℕ) (d : Defined) (places : List ℕ) (bases : List Base)
    → All (Offers entries (length d.operations)) d.interfaces → All (Below (length d.operations)) places
    → All (Below (length d.operations)) (fold (with_base d) places bases)
inherited_below entries d places [] offers h = h
inherited_below entries d places (b ∷ bases) offers h =
    inherited_below entries d (with_base d places b) bases offers
    (each_below (length d.operations) places (operations_of d b.entry) h
    (offered_there entries (length d.operations) d.interfaces b.entry offers).0)

above_below : (entries : ℕ) (d : Defined) (found : List ℕ) (bases : List Base)
    → All (Offers entries (length d.operations)) d.interfaces → All (λ b. b.entry < entries) bases
    → All (Below entries) found → All (Below entries) (fold (with_base_and_above d) found bases)
above_below entries d found [] offers based h = h
above_below entries d found (b ∷ bases) offers based h =
    let here = once_below entries found b.entry h (based 0 b (omega arith)) in
    above_below entries d (with_base_and_above d found b) bases offers (λ k x lt. based (suc k) x (omega (arith, lt)))
    (each_below entries (with_once found b.entry) (all_bases_of d b.entry) here
    (offered_there entries (length d.operations) d.interfaces b.entry offers).1)

offer_sound : (entries : ℕ) (d : Defined) (first : ℕ) (bases : List Base) → first ≤ length d.operations
    → All (Offers entries (length d.operations)) d.interfaces → All (λ b. b.entry < entries) bases
    → IsSoundOffer entries (length d.operations) (offering d first bases)
offer_sound entries d first bases le offers based = record {
  operations_there = All-append (Below (length d.operations)) (inherited d bases) (from_on first d)
      (inherited_below entries d [] bases offers (All-nil (Below (length d.operations))))
      (range_below first (length d.operations - first) (length d.operations) (omega (arith, le)));
  bases = above_below entries d [] bases offers based (All-nil (Below entries));
}

interface_lowered : (es : List Entry) (g : List Introduction) (d : Defined) (e first : ℕ) (bases : List Base)
    → KeepsAll es g d → e < length es → first ≤ length d.operations
    → All (λ b. b.entry < length es) bases → Fine (GoesAll es g d) (with_interface d e (offering d first bases))
interface_lowered es g d e first bases h lt le based =
    let o = offering d first bases in
    let long = h.long in
    let there : nat_lt e (length d.interfaces) ≡ true = lt-ltb e (length d.interfaces) (omega (arith, lt, long)) in
    let sound = offer_sound (length es) d first bases le h.offers based in
    let next : Defined = record d { interfaces = slice_set d.interfaces e (Some o) } in
    subst (λ b. Fine (GoesAll es g d) (if b then Ok (record d { interfaces = slice_set d.interfaces e (Some o) })
    else Err OtherNames)) (sym there)
    (record {
      keeps = record {
        types_kept = h.types_kept;
        long = length-set d.interfaces e (Some o) ∙ h.long;
        signatures = h.signatures;
        offers = All-set (Offers (length es) (length d.operations)) d.interfaces e (Some o) sound h.offers;
        few = h.few;
      };
      later = later_none d.types;
      more = le_refl (length d.operations);
    })

-- ---- references

reference_fine : (es : List Entry) (g : List Introduction) (d : Defined) (scope : ℕ) (l : Leaf)
    (n : Entered es g scope l Kinds.Interface) → KeepsAll es g d
    → Fine (GoesAll es (Stands scope l Kinds.Interface ∷ g) d) (as_reference d n.entry)
reference_fine es g d scope l n h =
    let within = slice_get_within es n.entry n.value n.there in
    let i = h.types_kept in
    let long = i.long in
    let (o, is) = there_at d.types.places n.entry (omega (arith, within, long)) in
    by o is
  where
    has_place : Known es g n.entry → slice_get d.types.places n.entry ≡ Some (Some (Typed 13))
    has_place knows = kind n.value.kind (slice_get d.types.places n.entry) n.kind_is
        (h.types_kept.has n.entry n.value knows n.there)
      where
        kind : (k : EntryKind) (o : Option (Option Place)) → k ≡ Kinds.Interface → HasPlace k ⊥ o
            → o ≡ Some (Some (Typed 13))
        kind Kinds.Interface o is has = has
        kind k o is has = absurd cc

    at : (o : Option (Option Place)) → slice_get d.types.places n.entry ≡ o
        → Fine (GoesAll es (Stands scope l Kinds.Interface ∷ g) d) (reference_at d n.entry (place_in o))
        → Fine (GoesAll es (Stands scope l Kinds.Interface ∷ g) d) (as_reference d n.entry)
    at o is fine = subst (λ k. Fine (GoesAll es (Stands scope l Kinds.Interface ∷ g) d)
        (reference_at d n.entry (place_in k))) (sym is) fine

    by : (o : Option Place) → slice_get d.types.places n.entry ≡ Some o
        → Fine (GoesAll es (Stands scope l Kinds.Interface ∷ g) d) (as_reference d n.entry)
    by None is =
        let new : Known es g n.entry → ⊥ = λ knows. let there = has_place knows in cc in
        let i = h.types_kept in
        let told = place_given es g nothing_begun d.types scope l Kinds.Interface (Typed 13) n i new refl refl
        (basic_part es g nothing_begun d.types 13 _ i refl tt) in
        at (Some None) is
        (given (GoesAll es (Stands scope l Kinds.Interface ∷ g) d) (placed d.types n.entry (Typed 13))
        (with_placed d.types n.entry (Typed 13) d.types.exceptions) (λ w. Ok (with_types d w)) told.0
        (types_lowered es g (Stands scope l Kinds.Interface ∷ g) d
        (with_placed d.types n.entry (Typed 13) d.types.exceptions) h told.1))
    by (Some p) is =
        let i = h.types_kept in
        let there = has_place (i.known n.entry p is) in
        let keeps = more_known es g nothing_begun d.types (Stands scope l Kinds.Interface) i
        (λ f y stands here. needs f y stands here there) (λ f never. absurd never) in
        at (Some (Some (Typed 13))) there
        (goes_none es (Stands scope l Kinds.Interface ∷ g) d
        (known_all es g (Stands scope l Kinds.Interface ∷ g) d h keeps))
      where
        placed_so : (k : EntryKind) (o : Option (Option Place)) → k ≡ Kinds.Interface → o ≡ Some (Some (Typed 13))
            → HasPlace k ⊥ o
        placed_so k o is there = subst (λ j. HasPlace j ⊥ o) (sym is) there

        needs : (f : ℕ) (y : Entry) → named es scope (word l) ≡ Some f → slice_get es f ≡ Some y
            → slice_get d.types.places n.entry ≡ Some (Some (Typed 13))
            → HasPlace y.kind ⊥ (slice_get d.types.places f)
        needs f y stands here there =
            let first = n.is in
            let same : f ≡ n.entry = cc in
            let at_it : slice_get es n.entry ≡ Some y = subst (λ k. slice_get es k ≡ Some y) same here in
            let value = n.there in
            let one : n.value ≡ y = cc in
            placed_so y.kind (slice_get d.types.places f) (sym (ap (λ z. z.kind) one) ∙ n.kind_is)
            (ap (slice_get d.types.places) same ∙ there)

-- ---- what stands in an interface

export_closed : (x : Export) → Closed (export_steps x)
export_closed x = closed (export_asks {ls = []} x)

export_fine : (es : List Entry) (g : List Introduction) (d : Defined) (scope : ℕ) (x : Export) → KeepsAll es g d
    → AllSettled es g scope (export_steps x)
    → Fine (GoesAll es (behind es g scope (export_steps x)) d) (export es scope d x)
export_fine es g d scope (Exports.Pragma l) h settled = goes_none es g d h
export_fine es g d scope (Exports.Declaration x) h settled = declared_fine es g d scope x h settled
export_fine es g d scope (Exports.Attribute a) h settled = attribute_fine es g d scope a h settled
export_fine es g d scope (Exports.Operation o) h settled = operation_fine es g d scope o h settled

exports_fine : (es : List Entry) (g : List Introduction) (d : Defined) (scope : ℕ) (xs : List Export) → KeepsAll es g d
    → AllSettled es g scope (flat_map export_steps xs)
    → Fine (GoesAll es (behind es g scope (flat_map export_steps xs)) d) (each (export es scope) d xs)
exports_fine es g d scope xs h settled =
    each_keeps es (λ k b. GoesAll es k d b) (export es scope) export_steps scope export_closed
    (λ k b x s goes. weaker (GoesAll es (behind es k scope (export_steps x)) b)
    (GoesAll es (behind es k scope (export_steps x)) d) (export es scope b x)
    (λ c more. goes_on_all es (behind es k scope (export_steps x)) d b c goes.later goes.more more)
    (export_fine es k b scope x goes.keeps s)) g d xs settled (goes_none es g d h)

-- the definition of an interface isn't one of a structure or a union
interface_defined : (es : List Entry) (g : List Introduction) (w : Lowered) (e : ℕ) (x : Entry)
    → Keeps es g nothing_begun w → Known es g e → slice_get es e ≡ Some x → x.kind ≡ Kinds.Interface
    → Keeps es (BodyOf (e + 1) ∷ g) nothing_begun w
interface_defined es g w e x i knows at kind =
    more_known es g nothing_begun w (BodyOf (e + 1)) i (λ f y never there. absurd never) bodies
  where
    bodies : (f : ℕ) → suc f ≡ e + 1 → Known es g f × (HasBody es f → ⊥)
    bodies f is =
        let same : f ≡ e = omega (arith, is) in (
          subst (Known es g) (sym same) knows,
          λ has. no_body_of es e x at (ap has_body kind)
              (subst (HasBody es) same has),
        )

bases_silent : (id : Leaf) (names : List ScopedName) → AllByRecursion IsSilent (map (HasBase id) names)
bases_silent id names = each_silent (HasBase id) (λ name. tt) names

body_fine : (es : List Entry) (based : AreBased es) (g : List Introduction) (d : Defined) (scope : ℕ) (id : Leaf)
    (bases : Option (Listed ScopedName)) (exports : List Export) → KeepsAll es g d
    → AllSettled es g scope (Declares Kinds.Interface id ∷ IsUndefined id
    ∷ (map (HasBase id) (optional_parts bases) ++ Enters id ∷ Defines id ∷ flat_map export_steps exports) ++ Leaves
    ∷ [])
    → Fine (GoesAll es (behind es g scope
    (Declares Kinds.Interface id ∷ IsUndefined id
    ∷ (map (HasBase id) (optional_parts bases) ++ Enters id ∷ Defines id ∷ flat_map export_steps exports) ++ Leaves
    ∷ [])) d)
    (entry_of es scope id >> λ e. interface_of es d e exports)
body_fine es based g d scope id bases exports h (declares, (undefined, rest)) =
    let n = entered es g scope id Kinds.Interface declares.holds.entries.0 declares.new in
    let g1 = Stands scope id Kinds.Interface ∷ g in
    let names = map (HasBase id) (optional_parts bases) in
    let inner = flat_map export_steps exports in
    let front = Enters id ∷ Defines id ∷ inner in
    let names_closed = each_step_closed (HasBase id) (λ name. tt) (optional_parts bases) in
    let regrouped = append_assoc names front (Leaves ∷ []) in
    let split = both es g1 scope names (front ++ Leaves ∷ []) names_closed
    (subst (AllSettled es g1 scope) regrouped rest) in
    let g2 = behind es g1 scope names in
    let inner_closed = each_closed export_steps export_closed exports in
    let inside = within es g2 scope id (Defines id ∷ inner) (both_closed (one_closed (Defines id) tt) inner_closed)
    split.1 in
    let e = inside.entry in
    let g3 = BodyOf (e + 1) ∷ g2 in
    let last = behind es g3 (e + 1) inner in
    let whole : behind es g1 scope ((names ++ front) ++ Leaves ∷ []) ≡ last =
    ap (behind es g1 scope) regrouped ∙ both_behind es g1 scope names (front ++ Leaves ∷ []) names_closed split.0
    ∙ inside.whole in
    let first = n.is in
    let second = inside.is in
    let same : n.entry ≡ e = cc in
    let at : slice_get es e ≡ Some n.value = subst (λ k. slice_get es k ≡ Some n.value) same n.there in
    let lt = slice_get_within es e n.value at in
    subst (λ k. Fine (GoesAll es k d) (entry_of es scope id >> λ e. interface_of es d e exports)) (sym whole)
    (given (GoesAll es last d) (entry_of es scope id) e (λ e. interface_of es d e exports)
    (entry_is es scope id e second)
    (and_then (GoesAll es g1 d) (GoesAll es last d) (as_reference d e) _
    (subst (λ k. Fine (GoesAll es g1 d) (as_reference d k)) same (reference_fine es g d scope id n h)) (λ r goes.
    let keeps2 = silent_keeps es g1 nothing_begun r.types scope names (bases_silent id (optional_parts bases)) split.0
    goes.keeps.types_kept in
    let knows = known_stays es g1 scope names e (inl second) in
    let keeps3 = interface_defined es g2 r.types e n.value keeps2 knows at n.kind_is in
    let kept = known_all es g1 g3 r goes.keeps keeps3 in
    and_then (GoesAll es last r) (GoesAll es last d) (each (export es (e + 1)) r exports) _
    (exports_fine es g3 r (e + 1) exports kept inside.inner.1) (λ b more.
    let le = goes.more in
    let le_too = more.more in
    weaker (GoesAll es last b) (GoesAll es last d)
    (with_interface b e (offering b (length d.operations) (bases_in (slice_get es e))))
    (λ c goes_c. goes_on_all es last d b c (later_on d.types r.types b.types goes.later more.later)
    (omega (arith, le, le_too)) goes_c)
    (interface_lowered es last b e (length d.operations) (bases_in (slice_get es e)) more.keeps lt
    (omega (arith, le, le_too)) (based e))))))

interface_fine : (es : List Entry) (based : AreBased es) (g : List Introduction) (d : Defined) (scope : ℕ)
    (i : Interface) → KeepsAll es g d → AllSettled es g scope (interface_steps i)
    → Fine (GoesAll es (behind es g scope (interface_steps i)) d) (interface es scope d i)
interface_fine es based g d scope (Ahead id) h (s, ss) =
    let n = entered es g scope id Kinds.Interface s.holds.entries.0 s.new in
    given (GoesAll es (Stands scope id Kinds.Interface ∷ g) d) (entry_of es scope id) n.entry
    (λ e. interface_as es d e None) (entry_is es scope id n.entry n.is) (reference_fine es g d scope id n h)
interface_fine es based g d scope (Body id bases exports) h settled =
    body_fine es based g d scope id bases exports.items h settled

-- ---- modules

definitions_closed : {n : _} → (row : Row_of-Definition n) → Closed (definitions_steps row)
definitions_closed row = closed (definitions_ask {ls = []} row)

pub definition_closed : (x : Definition) → Closed (definition_steps x)
definition_closed x = closed (definition_asks {ls = []} x)

mutual
  pub definition_fine : (es : List Entry) (based : AreBased es) (g : List Introduction) (d : Defined) (scope : ℕ)
      (x : Definition) → KeepsAll es g d → AllSettled es g scope (definition_steps x)
      → Fine (GoesAll es (behind es g scope (definition_steps x)) d) (definition es scope d x)
  definition_fine es based g d scope (Pragma l) h settled = goes_none es g d h
  definition_fine es based g d scope (Declared x) h settled = declared_fine es g d scope x h settled
  definition_fine es based g d scope (InterfaceDcl i) h settled = interface_fine es based g d scope i h settled
  definition_fine es based g d scope (Module' id shape definitions) h (declares, rest) =
      let g1 = Stands scope id Kinds.Module ∷ g in
      let inside = within es g1 scope id (definitions_steps definitions) (definitions_closed definitions) rest in
      let e = inside.entry in
      let last = behind es g1 (e + 1) (definitions_steps definitions) in
      let keeps = silent_name es g nothing_begun d.types scope id Kinds.Module h.types_kept declares.holds.entries.0
      refl in
      subst (λ k. Fine (GoesAll es k d) (definition es scope d (Module' id shape definitions))) (sym inside.whole)
      (given (GoesAll es last d) (entry_of es scope id) e (λ e. definitions_after es (e + 1) d definitions)
      (entry_is es scope id e inside.is)
      (definitions_fine es based g1 d (e + 1) definitions (known_all es g g1 d h keeps) inside.inner))

  definitions_fine : {n : _} → (es : List Entry) (based : AreBased es) (g : List Introduction) (d : Defined) (scope : ℕ)
      (row : Row_of-Definition n) → KeepsAll es g d
      → AllSettled es g scope (definitions_steps row)
      → Fine (GoesAll es (behind es g scope (definitions_steps row)) d) (definitions_after es scope d row)
  definitions_fine es based g d scope end_of-Definition h settled = goes_none es g d h
  definitions_fine es based g d scope (more_of-Definition x rest) h settled =
      let first = definition_steps x in
      let others = definitions_steps rest in
      let split = both es g scope first others (definition_closed x) settled in
      let mid = behind es g scope first in
      let last = behind es mid scope others in
      subst (λ k. Fine (GoesAll es k d) (definitions_after es scope d (more_of-Definition x rest)))
      (sym (both_behind es g scope first others (definition_closed x) split.0))
      (and_then (GoesAll es mid d) (GoesAll es last d) (definition es scope d x)
      (λ next. definitions_after es scope next rest) (definition_fine es based g d scope x h split.0) (λ b goes.
      weaker (GoesAll es last b) (GoesAll es last d) (definitions_after es scope b rest)
      (λ c more. goes_on_all es last d b c goes.later goes.more more)
      (definitions_fine es based mid b scope rest goes.keeps split.1)))
