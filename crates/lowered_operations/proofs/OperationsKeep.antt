-- Operations and attributes: what is kept stays so.
use Rattle.std.proofs.Common.{◌≡◌, ◌∙◌, inl, inr, ℕ, ◌+◌, ◌<◌, ◌≤◌, le_refl, Bool, true, false, List, [], ◌∷◌, ◌++◌, length, length-append, All, Option, Some, None, Result, Ok, Err, refl, sym, ap, subst, subst₂, arith}
use Rattle.std.specs.Prelude.{◌&&◌, if◌then◌else◌, slice_get, IfSome}
use Rattle.std.specs.List.{AllByRecursion, flat_map}
use Rattle.std.proofs.lemmas.List.Elements.{All-push, All-weaker}
use Rattle.std.proofs.lemmas.Option.{slice_get_within}
use Rattle.idl_tree.specs.declared.names.At.{At}
use Rattle.idl_tree.specs.declared.names.Leaf.{Leaf}
use Rattle.idl_tree.specs.declared.names.ScopedName.{ScopedName}
use Rattle.idl_tree.specs.declared.definitions.Declaration.{Declaration}
use Rattle.idl_tree.specs.declared.definitions.Operation.{Operation}
use Rattle.idl_tree.specs.declared.definitions.Param.{Param}
use Rattle.idl_tree.specs.declared.types.ParamType.{ParamType}
use Rattle.idl_tree.specs.declared.kinds.EntryKind.{EntryKind}
use Rattle.idl_tree.specs.declared.kinds.EntryKind.TheVariants as Kinds
use Rattle.idl_tree.specs.Starts.{leaf_at}
use Rattle.name_table.specs.Entry.{Entry, named}
use Rattle.name_table.specs.Search.{word}
use Rattle.scoped_names.specs.Faults.{has_body, may_reappear}
use Rattle.scoped_names.specs.Introductions.{Introduction, Stands}
use Rattle.scoped_names.specs.Reading.{◌>>◌}
use Rattle.name_steps.specs.Steps.{DeclaresFeature, NamesException, Step, declaration_steps, operation_steps, optional_parts, param_steps, raises_steps, result_steps}
use Rattle.name_steps.proofs.Asks.{param_asks, result_asks}
use Rattle.scoped_names.proofs.Parts.{Closed, both_closed, closed, each_closed, one_closed}
use Rattle.lowered_types.specs.declared.place.Place.{Place}
use Rattle.lowered_types.specs.declared.place.Place.TheVariants.{Called, Got, GotAndSet}
use Rattle.lowered_types.specs.declared.fault.FirstAnswer.{FirstAnswer}
use Rattle.lowered_types.specs.declared.fault.BuildFault.{BuildFault}
use Rattle.lowered_types.specs.declared.fault.BuildFault.TheVariants.{Types}
use Rattle.lowered_types.specs.Faults.{each}
use Rattle.lowered_types.specs.Declarations.{declaration}
use Rattle.lowered_types.specs.Sound.{IsPlaceAmong}
use Rattle.lowered_types.specs.SimpleTypes.{entry_of}
use Rattle.lowered_types.specs.Lowered.{Lowered, place_in, place_of, placed}
use Rattle.lowered_types.proofs.DeclarationsKeep.{declaration_keeps}
use Rattle.lowered_types.proofs.Fine.{Fine, and_then, given, weaker}
use Rattle.lowered_types.proofs.Growing.{frame_stays, grows_long}
use Rattle.lowered_types.proofs.Keeping.{HasPlace, Keeps, Later, later_on}
use Rattle.lowered_types.proofs.Naming.{Entered, Goes, IsSilent, each_silent, entered, entry_is, exceptions_stay, needs_place, silent_keeps, silent_name, unknown, unplaced}
use Rattle.lowered_types.proofs.Settled.{AllSettled, Known, Settled, behind, both, both_behind, known_stays}
use Rattle.lowered_types.proofs.Spots.{set_here}
use Rattle.lowered_types.proofs.SimpleKeep.{param_silent}
use Rattle.lowered_types.proofs.Lowering.{place_kept, place_later, placed_is, with_placed}
use Rattle.lowered_operations.specs.declared.frames.Carried.{Carried}
use Rattle.lowered_operations.specs.declared.signature.Offered.{Offered}
use Rattle.lowered_operations.specs.declared.signature.Role.{Role}
use Rattle.lowered_operations.specs.declared.signature.Role.TheVariants as Roles
use Rattle.lowered_operations.specs.declared.signature.Signature.{Signature}
use Rattle.lowered_operations.specs.Frames.{all_carried, frames_added, result_carried, with_param}
use Rattle.lowered_operations.specs.Oneway.{answer_of, answer_test, oneway_test, parts_of}
use Rattle.lowered_operations.specs.Operations.{Defined, Requested, declared, operation, raised, with_call, with_operation, with_place, with_types}
use Rattle.lowered_operations.specs.Sound.{HasFrames, IsSoundOffer, IsSoundSignature}
use Rattle.lowered_operations.proofs.Calls.{AreCarried, AreFramed, Carries, frames_fine, nothing_begun, params_carried, raised_fine, result_fine, same_parts}

-- ---- what is kept

pub record KeepsAll (es : List Entry) (g : List Introduction) (d : Defined) : Type 0 where
  pub types_kept : Keeps es g nothing_begun d.types
  pub long : length d.interfaces ≡ length es
  pub signatures : All (IsSoundSignature (length es) d.types) d.operations
  pub offers : All (λ o. IfSome o (IsSoundOffer (length es) (length d.operations))) d.interfaces
  pub few : length d.operations ≤ length d.types.nodes

-- what is lowered behind d
pub record GoesAll (es : List Entry) (g : List Introduction) (d b : Defined) : Type 0 where
  pub keeps : KeepsAll es g b
  pub later : Later d.types b.types
  pub more : length d.operations ≤ length b.operations

pub goes_on_all : (es : List Entry) (g : List Introduction) (d b c : Defined) → Later d.types b.types
    → length d.operations ≤ length b.operations → GoesAll es g b c → GoesAll es g d c
goes_on_all es g d b c l le h =
    record {
      keeps = h.keeps;
      later = later_on d.types b.types c.types l h.later;
      more = let more = h.more in
          omega (arith, le, more);
    }

place_there : (o : Option (Option Place)) (p : Place) → place_in o ≡ Some p → o ≡ Some (Some p)
place_there None p is = absurd cc
place_there (Some o) p is = ap Some is

place_kept_in : (w v : Lowered) (e : ℕ) (p : Place) → Later w v → place_of w e ≡ Some p → place_of v e ≡ Some p
place_kept_in w v e p l is = ap place_in (l.places e p (place_there (slice_get w.places e) p is))

frames_kept : (w v : Lowered) (e : ℕ) (role : Role) (request : ℕ) → Later w v → HasFrames role request (place_of w e)
    → HasFrames role request (place_of v e)
frames_kept w v e Roles.Operation request l is = place_kept_in w v e (Called request) l is
frames_kept w v e Roles.Getting request l (inl is) = inl (place_kept_in w v e (Got request) l is)
frames_kept w v e Roles.Getting request l (inr is) = inr (place_kept_in w v e (GotAndSet request) l is)
frames_kept w v e Roles.Setting request l (got, is, number) = (got, place_kept_in w v e (GotAndSet got) l is, number)

pub signature_stays : (entries : ℕ) (w v : Lowered) → Later w v → (s : Signature) → IsSoundSignature entries w s
    → IsSoundSignature entries v s
signature_stays entries w v l s h = record {
  entry = h.entry;
  request = frame_stays w.nodes v.nodes l.nodes s.request h.request;
  reply = frame_stays w.nodes v.nodes l.nodes (s.request + 1) h.reply;
  raises = let more = l.exceptions in λ k d lt. let below = h.raises k d lt in omega (arith, below, more);
  named = frames_kept w v s.entry s.role s.request l h.named;
}

pub signatures_stay : (entries : ℕ) (w v : Lowered) → Later w v → (ss : List Signature)
    → All (IsSoundSignature entries w) ss → All (IsSoundSignature entries v) ss
signatures_stay entries w v l ss h =
    All-weaker (IsSoundSignature entries w) (IsSoundSignature entries v) (signature_stays entries w v l) ss h

offers_stay : (entries m n : ℕ) → m ≤ n → (os : List (Option Offered)) → All (λ o. IfSome o (IsSoundOffer entries m)) os
    → All (λ o. IfSome o (IsSoundOffer entries n)) os
offers_stay entries m n le os h =
    All-weaker (λ o. IfSome o (IsSoundOffer entries m)) (λ o. IfSome o (IsSoundOffer entries n)) by os h
  where
    by : (o : Option Offered) → IfSome o (IsSoundOffer entries m) → IfSome o (IsSoundOffer entries n)
    by None h = tt
    by (Some o) h = record {
      operations_there = λ k d lt. let below = h.operations_there k d lt in
          omega (arith, below, le);
      bases = h.bases;
    }

-- types and operations more
pub more_lowered : (es : List Entry) (g more : List Introduction) (d : Defined) (v : Lowered) (ss : List Signature)
    → KeepsAll es g d → Keeps es more nothing_begun v → Later d.types v
    → All (IsSoundSignature (length es) v) ss → length d.operations ≤ length ss → length ss ≤ length v.nodes
    → GoesAll es more d (record { types = v; operations = ss; interfaces = d.interfaces })
more_lowered es g more d v ss h keeps later sound le few = record {
  keeps = record {
    types_kept = keeps;
    long = h.long;
    signatures = sound;
    offers = offers_stay (length es) (length d.operations) (length ss) le d.interfaces h.offers;
    few = few;
  };
  later = later;
  more = le;
}

-- types more
pub types_lowered : (es : List Entry) (g more : List Introduction) (d : Defined) (v : Lowered) → KeepsAll es g d
    → Goes es more nothing_begun d.types v → GoesAll es more d (with_types d v)
types_lowered es g more d v h goes =
    let long = grows_long d.types.nodes v.nodes goes.later.nodes in
    let few = h.few in
    more_lowered es g more d v d.operations h goes.keeps goes.later
    (signatures_stay (length es) d.types v goes.later d.operations h.signatures) (le_refl (length d.operations))
    (omega (arith, few, long))

pub declared_fine : (es : List Entry) (g : List Introduction) (d : Defined) (scope : ℕ) (x : Declaration)
    → KeepsAll es g d → AllSettled es g scope (declaration_steps x)
    → Fine (GoesAll es (behind es g scope (declaration_steps x)) d) (declared es scope d x)
declared_fine es g d scope x h settled =
    let more = behind es g scope (declaration_steps x) in
    and_then (Goes es more nothing_begun d.types) (GoesAll es more d) (declaration es d.types scope x)
    (λ w. Ok (with_types d w)) (declaration_keeps es g nothing_begun d.types scope x h.types_kept settled)
    (λ w goes. types_lowered es g more d w h goes)

-- ---- an operation or an attribute has its place

abbrev pub is_feature_kind : EntryKind → Bool
is_feature_kind Kinds.Operation = true
is_feature_kind Kinds.Attribute = true
is_feature_kind kind = false

feature_bodiless : (kind : EntryKind) → is_feature_kind kind ≡ true → has_body kind ≡ false
feature_bodiless Kinds.Operation is = refl
feature_bodiless Kinds.Attribute is = refl
feature_bodiless kind is = absurd cc

feature_place : (kind : EntryKind) (p : Place) → is_feature_kind kind ≡ true → HasPlace kind ⊥ (Some (Some p))
feature_place Kinds.Operation p is = tt
feature_place Kinds.Attribute p is = tt
feature_place kind p is = absurd cc

pub feature_placed : (es : List Entry) (g : List Introduction) (w : Lowered) (e : ℕ) (x : Entry) (p : Place)
    → Keeps es g nothing_begun w → Known es g e → slice_get w.places e ≡ Some None
    → slice_get es e ≡ Some x → is_feature_kind x.kind ≡ true → IsPlaceAmong w.nodes (length w.exceptions) p
    → Goes es g nothing_begun w (with_placed w e p w.exceptions)
feature_placed es g w e x p i knows none at feature right = record {
  keeps = place_kept es g g nothing_begun nothing_begun w e x p w.exceptions i
      (record { grows = λ f k. k; only = λ f k. inr k; here = knows; done = λ s d. d; undone = λ s d. d }) none at
      (feature_bodiless x.kind feature)
      (feature_place x.kind p feature) (λ b. b) (λ f b. b) (λ f differs b. b) (le_refl (length w.exceptions))
      i.sound.exceptions right (exceptions_stay es g nothing_begun w e p i none);
  later = place_later w e p w.exceptions none (le_refl (length w.exceptions));
}

-- the entry of an operation or an attribute, from its declaration to its place
pub record Pending (es : List Entry) (g : List Introduction) (w : Lowered) (e : ℕ) : Type 0 where
  pub value : Entry
  pub there : slice_get es e ≡ Some value
  pub feature : is_feature_kind value.kind ≡ true
  pub knows : Known es g e
  pub none : slice_get w.places e ≡ Some None

pub place_of_here : (w : Lowered) (e : ℕ) (p : Place) → slice_get w.places e ≡ Some None
    → place_of (with_placed w e p w.exceptions) e ≡ Some p
place_of_here w e p none = ap place_in (set_here w.places e None (Some p) none)

-- ---- one call

-- behind the frames of a call
pub record IsCalled (es : List Entry) (g : List Introduction) (d : Defined) (sig : ℕ → Signature) (r : Requested) : Type
    0 where
  pub framed : AreFramed es g d.types (record { number = r.request; lowered = r.defined.types })
  pub operations : r.defined.operations ≡ d.operations ++ sig r.request ∷ []
  pub interfaces : r.defined.interfaces ≡ d.interfaces

abbrev pub signature : ℕ → Role → Bool → List ℕ → ℕ → Signature
signature e role oneway raises request =
    record { entry = e; role = role; is_oneway = oneway; request = request; raises = raises }

pub call_fine : (es : List Entry) (g : List Introduction) (d : Defined) (c : Carried) (oneway : Bool) (raises : List ℕ)
    (role : Role) (e : ℕ) (at : At) → Keeps es g nothing_begun d.types
    → AreCarried d.types.nodes c
    → Fine (IsCalled es g d (signature e role oneway raises)) (with_call d c oneway raises role e at)
call_fine es g d c oneway raises role e at i h =
    and_then (AreFramed es g d.types) (IsCalled es g d (signature e role oneway raises)) (frames_added d.types c at) _
    (frames_fine es g d.types c at i h)
    (λ f framed. record { framed = framed; operations = refl; interfaces = refl })

-- a call whose frames the entry has
pub sound_call : (es : List Entry) (g : List Introduction) (w v u : Lowered) (n e : ℕ) (x : Entry) (role : Role)
    (oneway : Bool) (raises : List ℕ)
    → AreFramed es g w (record { number = n; lowered = v }) → Later v u → slice_get es e ≡ Some x
    → All (λ k. k < length w.exceptions) raises → HasFrames role n (place_of u e)
    → IsSoundSignature (length es) u (signature e role oneway raises n)
sound_call es g w v u n e x role oneway raises h l at below frames = record {
  entry = slice_get_within es e x at;
  request = frame_stays v.nodes u.nodes l.nodes n h.request;
  reply = frame_stays v.nodes u.nodes l.nodes (n + 1) h.reply;
  raises =
      let same = ap length h.exceptions in
      let more = l.exceptions in
      λ k d lt. let less = below k d lt in omega (arith, less, same, more);
  named = frames;
}

-- ---- operations

-- behind a call its entry has the frames
called_fine : (es : List Entry) (g : List Introduction) (d : Defined) (c : Carried) (oneway : Bool) (raises : List ℕ)
    (e : ℕ) (at : At) → KeepsAll es g d → AreCarried d.types.nodes c
    → All (λ k. k < length d.types.exceptions) raises → Pending es g d.types e
    → Fine (GoesAll es g d) (with_call d c oneway raises Roles.Operation e at >> λ r. with_place r.defined e
    (Called r.request))
called_fine es g d c oneway raises e at h carried below pending =
    let sig = signature e Roles.Operation oneway raises in
    and_then (IsCalled es g d sig) (GoesAll es g d) (with_call d c oneway raises Roles.Operation e at)
    (λ r. with_place r.defined e (Called r.request))
    (call_fine es g d c oneway raises Roles.Operation e at h.types_kept carried) (λ r called.
    let framed = called.framed in
    let w = r.defined.types in
    let p = Called r.request in
    let none : slice_get w.places e ≡ Some None = ap (λ ps. slice_get ps e) framed.places ∙ pending.none in
    let u = with_placed w e p w.exceptions in
    let goes = feature_placed es g w e pending.value p framed.keeps pending.knows none pending.there pending.feature
    (framed.request, framed.reply) in
    let later = later_on d.types w u framed.later goes.later in
    let ops = d.operations ++ sig r.request ∷ [] in
    let one = sound_call es g d.types w u r.request e pending.value Roles.Operation oneway raises framed goes.later
    pending.there below (place_of_here w e p none) in
    let all = All-push (IsSoundSignature (length es) u) d.operations (sig r.request)
    (signatures_stay (length es) d.types u later d.operations h.signatures) one in
    let long = length-append d.operations (sig r.request ∷ []) in
    let few = h.few in
    let more = framed.more in
    given (GoesAll es g d) (placed w e p) u (λ v. Ok (with_types r.defined v)) (placed_is w e p none)
    (subst₂ (λ os is. GoesAll es g d (record { types = u; operations = os; interfaces = is })) (sym called.operations)
    (sym called.interfaces)
    (more_lowered es g g d u ops h goes.keeps later all (omega (arith, long)) (omega (arith, long, few, more)))))

pub features_silent : (es : List Entry) (g : List Introduction) (w : Lowered) (scope : ℕ) (l : Leaf) (kind : EntryKind)
    → needs_place kind ≡ false → Keeps es g nothing_begun w
    → Settled es g scope (DeclaresFeature kind l) → Keeps es (Stands scope l kind ∷ g) nothing_begun w
features_silent es g w scope l kind none i s = silent_name es g nothing_begun w scope l kind i s.holds.entries.0 none

pub pending_here : (es : List Entry) (g more : List Introduction) (w v : Lowered) (scope : ℕ) (l : Leaf)
    (kind : EntryKind) (d : Entered es g scope l kind) → Keeps es g nothing_begun w
    → is_feature_kind kind ≡ true → may_reappear kind kind ≡ false → Known es more d.entry → v.places ≡ w.places
    → Pending es more v d.entry
pending_here es g more w v scope l kind d i feature once knows same = record {
  value = d.value;
  there = d.there;
  feature = ap is_feature_kind d.kind_is ∙ feature;
  knows = knows;
  none = ap (λ ps. slice_get ps d.entry) same
      ∙ unplaced es g nothing_begun w d.entry d.value i d.there (unknown d once);
}

result_silent : (o : Option ParamType) → AllByRecursion IsSilent (result_steps o)
result_silent None = tt
result_silent (Some t) = param_silent t

params_closed : (id : Leaf) (ps : List Param) → Closed (flat_map (param_steps id) ps)
params_closed id ps = each_closed (param_steps id) (λ p. closed (param_asks {ls = []} id p)) ps

all_carried_fine : (es : List Entry) (g : List Introduction) (w : Lowered) (scope : ℕ) (o : Operation)
    → Keeps es g nothing_begun w → AllSettled es g scope (result_steps o.result_type)
    → Settled es (behind es g scope (result_steps o.result_type)) scope (DeclaresFeature Kinds.Operation o.identifier)
    → AllSettled es (Stands scope o.identifier Kinds.Operation ∷ behind es g scope (result_steps o.result_type)) scope
    (flat_map (param_steps o.identifier) (optional_parts o.params))
    → Fine (Carries es (behind es
    (Stands scope o.identifier Kinds.Operation ∷ behind es g scope (result_steps o.result_type)) scope
    (flat_map (param_steps o.identifier) (optional_parts o.params))) w)
    (all_carried es w scope o)
all_carried_fine es g w scope o i result feature params =
    let id = o.identifier in
    let g1 = behind es g scope (result_steps o.result_type) in
    let g2 = Stands scope id Kinds.Operation ∷ g1 in
    let g3 = behind es g2 scope (flat_map (param_steps id) (optional_parts o.params)) in
    and_then (Carries es g w) (Carries es g3 w) (result_carried es w scope (leaf_at id) o.result_type)
    (λ c. each (with_param es scope) c (parts_of o.params))
    (result_fine es g w scope (leaf_at id) o.result_type i result) (λ c has.
    let keeps = silent_keeps es g nothing_begun c.types scope (result_steps o.result_type) (result_silent o.result_type)
    result has.keeps in
    let start : Carries es g2 w c = record {
      keeps = features_silent es g1 c.types scope id Kinds.Operation refl keeps feature;
      later = has.later;
      places = has.places;
      exceptions = has.exceptions;
      right = has.right;
    } in
    subst (λ ps. Fine (Carries es g3 w) (each (with_param es scope) c ps)) (same_parts o.params)
    (params_carried es g2 w scope id c (optional_parts o.params) params start))

oneway_fine : (o : Operation) → Fine (λ u. Unit {0}) (oneway_test o)
oneway_fine o = by o.is_oneway (answer_of o)
  where
    by : (b : Bool) (a : Option FirstAnswer)
        → (let r : Result (Unit {0}) BuildFault = if b then answer_test o a else Ok tt in Fine (λ u. Unit {0}) r)
    by true None = tt
    by true (Some answer) = tt
    by false a = tt

behind_call : (es : List Entry) (g : List Introduction) (d : Defined) (scope : ℕ) (c : Carried) (o : Operation) (e : ℕ)
    → KeepsAll es g d → AreCarried d.types.nodes c
    → AllSettled es g scope (raises_steps (parts_of o.raises)) → Pending es g d.types e
    → named es scope (word o.identifier) ≡ Some e
    → Fine (GoesAll es g d) (with_operation es scope d c o)
behind_call es g d scope c o e h carried settled pending is =
    let id = o.identifier in
    and_then (All (λ k. k < length d.types.exceptions)) (GoesAll es g d) (raised es d.types scope (parts_of o.raises)) _
    (raised_fine es g d.types scope (parts_of o.raises) h.types_kept settled) (λ raises below.
    given (GoesAll es g d) (entry_of es scope id) e _ (entry_is es scope id e is)
    (called_fine es g d c o.is_oneway raises e (leaf_at id) h carried below pending))

-- behind steps that introduce nothing that has a place
pub silent_all : (es : List Entry) (g : List Introduction) (d b : Defined) (scope : ℕ) (steps : List Step)
    → AllByRecursion IsSilent steps → AllSettled es g scope steps → GoesAll es g d b
    → GoesAll es (behind es g scope steps) d b
silent_all es g d b scope steps silent settled h = record {
  keeps = record {
    types_kept = silent_keeps es g nothing_begun b.types scope steps silent settled h.keeps.types_kept;
    long = h.keeps.long;
    signatures = h.keeps.signatures;
    offers = h.keeps.offers;
    few = h.keeps.few;
  };
  later = h.later;
  more = h.more;
}

pub raises_silent : (names : List ScopedName) → AllByRecursion IsSilent (raises_steps names)
raises_silent names = each_silent NamesException (λ name. tt) names

pub operation_fine : (es : List Entry) (g : List Introduction) (d : Defined) (scope : ℕ) (o : Operation)
    → KeepsAll es g d → AllSettled es g scope (operation_steps o)
    → Fine (GoesAll es (behind es g scope (operation_steps o)) d) (operation es scope d o)
operation_fine es g d scope o h settled =
    let id = o.identifier in
    let feature = DeclaresFeature Kinds.Operation id in
    let result = result_steps o.result_type in
    let params = flat_map (param_steps id) (optional_parts o.params) in
    let raises = raises_steps (optional_parts o.raises) in
    let result_closed = closed (result_asks {ls = []} o.result_type) in
    let front_closed = both_closed result_closed
    (both_closed (one_closed feature tt) (params_closed id (optional_parts o.params))) in
    let last = both es g scope (result ++ feature ∷ params) raises front_closed settled in
    let front = both es g scope result (feature ∷ params) result_closed last.0 in
    let g1 = behind es g scope result in
    let g2 = Stands scope id Kinds.Operation ∷ g1 in
    let g3 = behind es g2 scope params in
    let front_is : behind es g scope (result ++ feature ∷ params) ≡ g3 =
    both_behind es g scope result (feature ∷ params) result_closed front.0 in
    let whole : behind es g scope (operation_steps o) ≡ behind es g3 scope raises =
    both_behind es g scope (result ++ feature ∷ params) raises front_closed last.0
    ∙ ap (λ k. behind es k scope raises) front_is in
    let settled_raises = subst (λ k. AllSettled es k scope raises) front_is last.1 in
    let w = d.types in
    let keeps1 = silent_keeps es g nothing_begun w scope result (result_silent o.result_type) front.0 h.types_kept in
    let e = entered es g1 scope id Kinds.Operation front.1.0.holds.entries.0 front.1.0.new in
    let goes = GoesAll es (behind es g3 scope raises) d in
    subst (λ k. Fine (GoesAll es k d) (operation es scope d o)) (sym whole)
    (and_then (λ u. Unit {0}) goes (oneway_test o) _ (oneway_fine o) (λ u t.
    and_then (Carries es g3 w) goes (all_carried es w scope o)
    (λ c. with_operation es scope (with_types d c.types) c.carried o)
    (all_carried_fine es g w scope o h.types_kept front.0 front.1.0 front.1.1) (λ c carries.
    let typed = types_lowered es g g3 d c.types h (record { keeps = carries.keeps; later = carries.later }) in
    let dc = with_types d c.types in
    let pending = pending_here es g1 g3 w c.types scope id Kinds.Operation e keeps1 refl refl
    (known_stays es g2 scope params e.entry (inl e.is)) carries.places in
    let names = subst (λ ns. AllSettled es g3 scope (raises_steps ns)) (same_parts o.raises) settled_raises in
    weaker (GoesAll es g3 dc) goes (with_operation es scope dc c.carried o)
    (λ b has. silent_all es g3 d b scope raises (raises_silent (optional_parts o.raises)) settled_raises
    (goes_on_all es g3 d dc b carries.later (le_refl (length d.operations)) has))
    (behind_call es g3 dc scope c.carried o e.entry typed.keeps carries.right names pending e.is))))
