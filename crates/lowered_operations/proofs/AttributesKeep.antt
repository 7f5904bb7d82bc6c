-- Attributes: what is kept stays so.
use Rattle.std.proofs.Common.{◌≡◌, ◌∙◌, inl, inr, ℕ, ◌+◌, ◌<◌, le_refl, Bool, true, false, List, [], ◌∷◌, ◌++◌, length, length-append, All, map, Some, None, Ok, refl, sym, ap, subst, subst₂, arith}
use Rattle.std.specs.Prelude.{slice_get}
use Rattle.std.specs.List.{AllByRecursion}
use Rattle.std.proofs.lemmas.List.Elements.{All-nil, All-push}
use Rattle.idl_tree.specs.declared.names.At.{At}
use Rattle.idl_tree.specs.declared.names.Leaf.{Leaf}
use Rattle.idl_tree.specs.declared.names.ScopedName.{ScopedName}
use Rattle.idl_tree.specs.declared.definitions.Attribute.{Attribute}
use Rattle.idl_tree.specs.declared.definitions.Attributes.{Attributes}
use Rattle.idl_tree.specs.declared.definitions.Attributes.TheVariants.{Silent, Readonly, Get, Set}
use Rattle.idl_tree.specs.declared.definitions.Direction.TheVariants.{In, Out}
use Rattle.idl_tree.specs.Lists.{parts}
use Rattle.type_graph.specs.GraphRules.{IsPart}
use Rattle.idl_tree.specs.declared.kinds.EntryKind.TheVariants as Kinds
use Rattle.idl_tree.specs.Starts.{leaf_at}
use Rattle.name_table.specs.Entry.{Entry, named}
use Rattle.name_table.specs.Search.{word}
use Rattle.scoped_names.specs.Introductions.{Introduction, Stands}
use Rattle.name_steps.specs.Steps.{DeclaresFeature, Step, attribute_steps, attributes_steps, optional_parts, param_type_steps, raises_steps}
use Rattle.name_steps.specs.Steps.{NamesException}
use Rattle.name_steps.proofs.Asks.{param_type_asks}
use Rattle.scoped_names.proofs.Parts.{closed, each_step_closed}
use Rattle.lowered_types.specs.declared.place.Place.TheVariants.{Got, GotAndSet}
use Rattle.lowered_types.specs.Faults.{each}
use Rattle.lowered_types.specs.Sound.{IsFrameAt, IsPlaceAmong}
use Rattle.lowered_types.specs.SimpleTypes.{entry_of, param_type}
use Rattle.lowered_types.specs.Lowered.{Lowered, placed}
use Rattle.lowered_types.proofs.Fine.{Fine, and_then, given, weaker}
use Rattle.lowered_types.proofs.Growing.{frame_stays, part_stays}
use Rattle.lowered_types.proofs.Keeping.{Keeps, later_none, later_on}
use Rattle.lowered_types.proofs.Naming.{IsSilent, entered, entry_is, silent_append, silent_keeps}
use Rattle.lowered_types.proofs.Settled.{AllSettled, Settled, behind, both, both_behind}
use Rattle.lowered_types.proofs.SimpleKeep.{param_keeps, param_silent}
use Rattle.lowered_types.proofs.Lowering.{Adds, placed_is, with_placed}
use Rattle.lowered_operations.specs.declared.signature.Role.TheVariants as Roles
use Rattle.lowered_operations.specs.Frames.{nothing_carried, result_name, with_carried}
use Rattle.lowered_operations.specs.Operations.{Defined, Requested, attribute, attribute_identifiers, get_raises, is_set, raised, set_raises, with_access, with_attribute, with_call, with_get, with_place, with_set, with_types}
use Rattle.lowered_operations.specs.Sound.{IsSoundSignature}
use Rattle.lowered_operations.proofs.Calls.{AreCarried, carried_fine, nothing_begun, nothing_right, raised_fine, same_parts}
use Rattle.lowered_operations.proofs.OperationsKeep.{GoesAll, IsCalled, KeepsAll, Pending, call_fine, feature_placed, features_silent, goes_on_all, more_lowered, pending_here, place_of_here, raises_silent, signature, signatures_stay, silent_all, sound_call, types_lowered}

abbrev AreBelow : Lowered → List ℕ → Type 0
AreBelow w raises = All (λ k. k < length w.exceptions) raises

-- ---- getting and setting

get_fine : (es : List Entry) (g : List Introduction) (d : Defined) (number : ℕ) (raises : List ℕ) (e : ℕ) (at : At)
    → Keeps es g nothing_begun d.types → IsPart d.types.nodes number
    → Fine (IsCalled es g d (signature e Roles.Getting false raises)) (with_get d number raises e at)
get_fine es g d number raises e at i part =
    and_then (AreCarried d.types.nodes) (IsCalled es g d (signature e Roles.Getting false raises))
    (with_carried nothing_carried result_name Out number at)
    (λ c. with_call d c false raises Roles.Getting e at)
    (carried_fine d.types.nodes nothing_carried result_name Out number at (nothing_right d.types.nodes) part)
    (λ c h. call_fine es g d c false raises Roles.Getting e at i h)

set_fine : (es : List Entry) (g : List Introduction) (d : Defined) (name : List ℕ) (number : ℕ) (raises : List ℕ)
    (e : ℕ) (at : At) → Keeps es g nothing_begun d.types → IsPart d.types.nodes number
    → Fine (IsCalled es g d (signature e Roles.Setting false raises)) (with_set d name number raises e at)
set_fine es g d name number raises e at i part =
    and_then (AreCarried d.types.nodes) (IsCalled es g d (signature e Roles.Setting false raises))
    (with_carried nothing_carried name In number at)
    (λ c. with_call d c false raises Roles.Setting e at)
    (carried_fine d.types.nodes nothing_carried name In number at (nothing_right d.types.nodes) part)
    (λ c h. call_fine es g d c false raises Roles.Setting e at i h)

-- only got
got_fine : (es : List Entry) (g : List Introduction) (d : Defined) (raises : List ℕ) (e : ℕ) (r : Requested)
    → KeepsAll es g d → AreBelow d.types raises → Pending es g d.types e
    → IsCalled es g d (signature e Roles.Getting false raises) r
    → Fine (GoesAll es g d) (with_place r.defined e (Got r.request))
got_fine es g d raises e r h below pending called =
    let sig = signature e Roles.Getting false raises r.request in
    let framed = called.framed in
    let w = r.defined.types in
    let p = Got r.request in
    let none : slice_get w.places e ≡ Some None = ap (λ ps. slice_get ps e) framed.places ∙ pending.none in
    let u = with_placed w e p w.exceptions in
    let goes = feature_placed es g w e pending.value p framed.keeps pending.knows none pending.there pending.feature
    (framed.request, framed.reply) in
    let later = later_on d.types w u framed.later goes.later in
    let one = sound_call es g d.types w u r.request e pending.value Roles.Getting false raises framed goes.later
    pending.there below (inl (place_of_here w e p none)) in
    let all = All-push (IsSoundSignature (length es) u) d.operations sig
    (signatures_stay (length es) d.types u later d.operations h.signatures) one in
    let long = length-append d.operations (sig ∷ []) in
    let few = h.few in
    let more = framed.more in
    given (GoesAll es g d) (placed w e p) u (λ v. Ok (with_types r.defined v)) (placed_is w e p none)
    (subst₂ (λ os is. GoesAll es g d (record { types = u; operations = os; interfaces = is })) (sym called.operations)
    (sym called.interfaces)
    (more_lowered es g g d u (d.operations ++ sig ∷ []) h goes.keeps later all (omega (arith, long))
    (omega (arith, long, few, more))))

-- and set too
both_fine : (es : List Entry) (g : List Introduction) (d : Defined) (gets sets : List ℕ) (e : ℕ) (r t : Requested)
    → KeepsAll es g d → AreBelow d.types gets → AreBelow d.types sets
    → Pending es g d.types e → IsCalled es g d (signature e Roles.Getting false gets) r
    → IsCalled es g r.defined (signature e Roles.Setting false sets) t
    → Fine (GoesAll es g d) (with_place t.defined e (GotAndSet r.request))
both_fine es g d gets sets e r t h below below_too pending called called_too =
    let get = signature e Roles.Getting false gets r.request in
    let set = signature e Roles.Setting false sets t.request in
    let first = called.framed in
    let second = called_too.framed in
    let v = r.defined.types in
    let w = t.defined.types in
    let p = GotAndSet r.request in
    let none : slice_get w.places e ≡ Some None = ap (λ ps. slice_get ps e) (second.places ∙ first.places)
    ∙ pending.none in
    let u = with_placed w e p w.exceptions in
    let start = first.start in
    let start_too = second.start in
    let more = first.more in
    let more_too = second.more in
    let behind_it : t.request ≡ r.request + 2 = omega (arith, start, start_too, more) in
    let reply_behind : t.request + 1 ≡ r.request + 3 = omega (arith, behind_it) in
    let right : IsPlaceAmong w.nodes (length w.exceptions) p = (
      frame_stays v.nodes w.nodes second.later.nodes r.request first.request,
      frame_stays v.nodes w.nodes second.later.nodes (r.request + 1) first.reply,
      subst (IsFrameAt w.nodes) behind_it second.request,
      subst (IsFrameAt w.nodes) reply_behind second.reply,
    ) in
    let goes = feature_placed es g w e pending.value p second.keeps pending.knows none pending.there pending.feature
    right in
    let later_v = later_on v w u second.later goes.later in
    let later = later_on d.types v u first.later later_v in
    let here = place_of_here w e p none in
    let one = sound_call es g d.types v u r.request e pending.value Roles.Getting false gets first later_v pending.there
    below (inr here) in
    let same = ap length first.exceptions in
    let below_v : AreBelow v sets = λ k x lt. let less = below_too k x lt in omega (arith, less, same) in
    let other = sound_call es g v w u t.request e pending.value Roles.Setting false sets second goes.later pending.there
    below_v (r.request, here, behind_it) in
    let ops = d.operations ++ get ∷ [] in
    let old = signatures_stay (length es) d.types u later d.operations h.signatures in
    let all = All-push (IsSoundSignature (length es) u) ops set
    (All-push (IsSoundSignature (length es) u) d.operations get old one) other in
    let long = length-append d.operations (get ∷ []) in
    let longer = length-append ops (set ∷ []) in
    let few = h.few in
    let told : t.defined.operations ≡ ops ++ set ∷ [] = called_too.operations
    ∙ ap (λ os. os ++ set ∷ []) called.operations in
    given (GoesAll es g d) (placed w e p) u (λ v. Ok (with_types t.defined v)) (placed_is w e p none)
    (subst₂ (λ os is. GoesAll es g d (record { types = u; operations = os; interfaces = is })) (sym told)
    (sym (called_too.interfaces ∙ called.interfaces))
    (more_lowered es g g d u (ops ++ set ∷ []) h goes.keeps later all (omega (arith, long, longer))
    (omega (arith, long, longer, few, more, more_too))))

access_fine : (es : List Entry) (g : List Introduction) (d : Defined) (name : List ℕ) (number : ℕ) (set : Bool)
    (gets sets : List ℕ) (e : ℕ) (at : At) (r : Requested) → KeepsAll es g d → IsPart d.types.nodes number
    → AreBelow d.types gets → AreBelow d.types sets → Pending es g d.types e
    → IsCalled es g d (signature e Roles.Getting false gets) r
    → Fine (GoesAll es g d) (with_access r name number set sets e at)
access_fine es g d name number false gets sets e at r h part below below_too pending called =
    got_fine es g d gets e r h below pending called
access_fine es g d name number true gets sets e at r h part below below_too pending called =
    let framed = called.framed in
    and_then (IsCalled es g r.defined (signature e Roles.Setting false sets)) (GoesAll es g d)
    (with_set r.defined name number sets e at) (λ set. with_place set.defined e (GotAndSet r.request))
    (set_fine es g r.defined name number sets e at framed.keeps
    (part_stays d.types.nodes r.defined.types.nodes framed.later.nodes number part))
    (λ t called_too. both_fine es g d gets sets e r t h below below_too pending called called_too)

-- ---- one attribute

one_fine : (es : List Entry) (g : List Introduction) (d : Defined) (scope number : ℕ) (a : Attributes) (id : Leaf)
    (e : ℕ) → KeepsAll es g d → IsPart d.types.nodes number
    → Fine (AreBelow d.types) (raised es d.types scope (get_raises a))
    → Fine (AreBelow d.types) (raised es d.types scope (set_raises a)) → Pending es g d.types e
    → named es scope (word id) ≡ Some e → Fine (GoesAll es g d) (with_attribute es scope number a d id)
one_fine es g d scope number a id e h part get set pending is =
    and_then (AreBelow d.types) (GoesAll es g d) (raised es d.types scope (get_raises a)) _ get (λ gets below.
    and_then (AreBelow d.types) (GoesAll es g d) (raised es d.types scope (set_raises a)) _ set (λ sets below_too.
    given (GoesAll es g d) (entry_of es scope id) e _ (entry_is es scope id e is)
    (and_then (IsCalled es g d (signature e Roles.Getting false gets)) (GoesAll es g d)
    (with_get d number gets e (leaf_at id)) (λ got. with_access got (word id) number (is_set a) sets e (leaf_at id))
    (get_fine es g d number gets e (leaf_at id) h.types_kept part)
    (λ r called. access_fine es g d (word id) number (is_set a) gets sets e (leaf_at id) r h part below below_too
    pending called))))

feature_all : (es : List Entry) (g : List Introduction) (d : Defined) (scope : ℕ) (id : Leaf) → KeepsAll es g d
    → Settled es g scope (DeclaresFeature Kinds.Attribute id)
    → KeepsAll es (Stands scope id Kinds.Attribute ∷ g) d
feature_all es g d scope id h s = record {
  types_kept = features_silent es g d.types scope id Kinds.Attribute refl h.types_kept s;
  long = h.long;
  signatures = h.signatures;
  offers = h.offers;
  few = h.few;
}

-- one whose declaration is settled, and what it raises behind it
named_fine : (es : List Entry) (g : List Introduction) (d : Defined) (scope number : ℕ) (a : Attributes) (id : Leaf)
    → KeepsAll es g d → IsPart d.types.nodes number
    → Settled es g scope (DeclaresFeature Kinds.Attribute id)
    → (Keeps es (Stands scope id Kinds.Attribute ∷ g) nothing_begun d.types
    → Fine (AreBelow d.types) (raised es d.types scope (get_raises a)))
    → (Keeps es (Stands scope id Kinds.Attribute ∷ g) nothing_begun d.types
    → Fine (AreBelow d.types) (raised es d.types scope (set_raises a)))
    → Fine (GoesAll es (Stands scope id Kinds.Attribute ∷ g) d) (with_attribute es scope number a d id)
named_fine es g d scope number a id h part s get set =
    let more = Stands scope id Kinds.Attribute ∷ g in
    let all = feature_all es g d scope id h s in
    let e = entered es g scope id Kinds.Attribute s.holds.entries.0 s.new in
    let pending = pending_here es g more d.types d.types scope id Kinds.Attribute e h.types_kept refl refl (inl e.is)
    refl in
    one_fine es more d scope number a id e.entry all part (get all.types_kept) (set all.types_kept) pending e.is

-- ---- attributes that are declared together

none_below : (w : Lowered) → AreBelow w []
none_below w = All-nil (λ k. k < length w.exceptions)

listed_fine : (es : List Entry) (g : List Introduction) (d b : Defined) (scope number : ℕ) (a : Attributes)
    (ids : List Leaf) → get_raises a ≡ [] → set_raises a ≡ []
    → IsPart d.types.nodes number → AllSettled es g scope (map (DeclaresFeature Kinds.Attribute) ids) → GoesAll es g d b
    → Fine (GoesAll es (behind es g scope (map (DeclaresFeature Kinds.Attribute) ids)) d)
    (each (with_attribute es scope number a) b ids)
listed_fine es g d b scope number a [] gets sets part settled h = h
listed_fine es g d b scope number a (id ∷ ids) gets sets part (s, ss) h =
    let more = Stands scope id Kinds.Attribute ∷ g in
    let last = behind es more scope (map (DeclaresFeature Kinds.Attribute) ids) in
    let there = part_stays d.types.nodes b.types.nodes h.later.nodes number part in
    let silent : (names : List ScopedName) → names ≡ [] → Fine (AreBelow b.types) (raised es b.types scope names) =
    λ names is. subst (λ ns. Fine (AreBelow b.types) (raised es b.types scope ns)) (sym is) (none_below b.types) in
    and_then (GoesAll es more b) (GoesAll es last d) (with_attribute es scope number a b id)
    (λ next. each (with_attribute es scope number a) next ids)
    (named_fine es g b scope number a id h.keeps there s (λ i. silent (get_raises a) gets)
    (λ i. silent (set_raises a) sets)) (λ next goes.
    listed_fine es more d next scope number a ids gets sets part ss (goes_on_all es more d b next h.later h.more goes))

raises_fine : (es : List Entry) (g : List Introduction) (w : Lowered) (scope : ℕ) (names other : List ScopedName)
    → AllSettled es g scope (raises_steps names ++ raises_steps other)
    → Keeps es g nothing_begun w → Fine (AreBelow w) (raised es w scope names)
    × Fine (AreBelow w) (raised es w scope other)
raises_fine es g w scope names other settled i =
    let split = both es g scope (raises_steps names) (raises_steps other)
    (each_step_closed NamesException (λ name. tt) names) settled in
    let behind_names = silent_keeps es g nothing_begun w scope (raises_steps names) (raises_silent names) split.0 i in (
      raised_fine es g w scope names i split.0,
      raised_fine es (behind es g scope (raises_steps names)) w scope other
          behind_names split.1,
    )

-- the one that is declared, and steps behind it that introduce nothing
last_fine : (es : List Entry) (g : List Introduction) (d : Defined) (scope number : ℕ) (a : Attributes) (id : Leaf)
    (steps : List Step) → AllByRecursion IsSilent steps → AllSettled es g scope steps
    → Fine (GoesAll es g d) (with_attribute es scope number a d id)
    → Fine (GoesAll es (behind es g scope steps) d) (each (with_attribute es scope number a) d (id ∷ []))
last_fine es g d scope number a id steps silent settled h =
    and_then (GoesAll es g d) (GoesAll es (behind es g scope steps) d) (with_attribute es scope number a d id)
    (λ next. Ok next) h (λ b goes. silent_all es g d b scope steps silent settled goes)

declared_together : (es : List Entry) (g : List Introduction) (d : Defined) (scope number : ℕ) (a : Attributes)
    → KeepsAll es g d → IsPart d.types.nodes number
    → AllSettled es g scope (attributes_steps a)
    → Fine (GoesAll es (behind es g scope (attributes_steps a)) d)
    (each (with_attribute es scope number a) d (attribute_identifiers a))
declared_together es g d scope number (Silent only ids) h part settled =
    listed_fine es g d d scope number (Silent only ids) (parts ids) refl refl part settled
    (record { keeps = h; later = later_none d.types; more = le_refl (length d.operations) })
declared_together es g d scope number (Readonly id names) h part (s, ss) =
    let more = Stands scope id Kinds.Attribute ∷ g in
    last_fine es more d scope number (Readonly id names) id (raises_steps (parts names)) (raises_silent (parts names))
    ss
    (named_fine es g d scope number (Readonly id names) id h part s
    (λ i. raised_fine es more d.types scope (parts names) i ss) (λ i. none_below d.types))
declared_together es g d scope number (Get id get set) h part (s, ss) =
    let more = Stands scope id Kinds.Attribute ∷ g in
    let raises = raises_steps (parts get) ++ raises_steps (optional_parts set) in
    last_fine es more d scope number (Get id get set) id raises
    (silent_append (raises_steps (parts get)) (raises_steps (optional_parts set)) (raises_silent (parts get))
    (raises_silent (optional_parts set))) ss
    (named_fine es g d scope number (Get id get set) id h part s
    (λ i. (raises_fine es more d.types scope (parts get) (optional_parts set) ss i).0)
    (λ i. subst (λ ns. Fine (AreBelow d.types) (raised es d.types scope ns)) (same_parts set)
    (raises_fine es more d.types scope (parts get) (optional_parts set) ss i).1))
declared_together es g d scope number (Set id set) h part (s, ss) =
    let more = Stands scope id Kinds.Attribute ∷ g in
    last_fine es more d scope number (Set id set) id (raises_steps (parts set)) (raises_silent (parts set)) ss
    (named_fine es g d scope number (Set id set) id h part s (λ i. none_below d.types)
    (λ i. raised_fine es more d.types scope (parts set) i ss))

pub attribute_fine : (es : List Entry) (g : List Introduction) (d : Defined) (scope : ℕ) (a : Attribute)
    → KeepsAll es g d → AllSettled es g scope (attribute_steps a)
    → Fine (GoesAll es (behind es g scope (attribute_steps a)) d) (attribute es scope d a)
attribute_fine es g d scope a h settled =
    let types = param_type_steps a.attribute_type in
    let others = attributes_steps a.declared in
    let types_closed = closed (param_type_asks {ls = []} a.attribute_type) in
    let split = both es g scope types others types_closed settled in
    let mid = behind es g scope types in
    let last = behind es mid scope others in
    subst (λ k. Fine (GoesAll es k d) (attribute es scope d a))
    (sym (both_behind es g scope types others types_closed split.0))
    (and_then (Adds es g nothing_begun d.types) (GoesAll es last d) (param_type es d.types scope a.attribute_type) _
    (param_keeps es g nothing_begun d.types scope a.attribute_type h.types_kept split.0) (λ t adds.
    let keeps = silent_keeps es g nothing_begun t.lowered scope types (param_silent a.attribute_type) split.0 adds.keeps
    in
    let typed = types_lowered es g mid d t.lowered h (record { keeps = keeps; later = adds.later }) in
    let dt = with_types d t.lowered in
    weaker (GoesAll es last dt) (GoesAll es last d)
    (each (with_attribute es scope t.number a.declared) dt (attribute_identifiers a.declared))
    (λ b goes. goes_on_all es last d dt b adds.later (le_refl (length d.operations)) goes)
    (declared_together es mid dt scope t.number a.declared typed.keeps adds.part split.1)))
