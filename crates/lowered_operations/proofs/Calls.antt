-- What requests and replies carry, their frames, and what is raised: what is kept stays so.
use Rattle.std.proofs.Common.{◌≡◌, ◌∙◌, inl, inr, ℕ, ◌+◌, ◌<◌, true, List, [], ◌∷◌, ◌++◌, length, All, Option, Some, None, Ok, refl, ap, subst, arith}
use Rattle.std.specs.Prelude.{slice_get}
use Rattle.std.specs.List.{AllByRecursion, flat_map}
use Rattle.std.proofs.lemmas.List.Elements.{All-nil, All-push}
use Rattle.idl_tree.specs.declared.names.At.{At}
use Rattle.idl_tree.specs.declared.names.Leaf.{Leaf}
use Rattle.idl_tree.specs.declared.names.Listed.{Listed}
use Rattle.idl_tree.specs.declared.names.ScopedName.{ScopedName}
use Rattle.idl_tree.specs.declared.types.ParamType.{ParamType}
use Rattle.idl_tree.specs.declared.definitions.Direction.{Direction}
use Rattle.idl_tree.specs.declared.definitions.Direction.TheVariants.{In, Out, InOut}
use Rattle.idl_tree.specs.declared.definitions.Param.{Param}
use Rattle.type_graph.specs.declared.node.Node.{Node}
use Rattle.type_graph.specs.declared.node.Node.TheVariants.{Frame}
use Rattle.type_graph.specs.GraphRules.{IsPart}
use Rattle.idl_tree.specs.declared.kinds.EntryKind.{EntryKind}
use Rattle.idl_tree.specs.declared.kinds.EntryKind.TheVariants as Kinds
use Rattle.idl_tree.specs.Starts.{leaf_at}
use Rattle.name_table.specs.Entry.{Entry}
use Rattle.name_table.specs.Search.{word}
use Rattle.scoped_names.specs.Introductions.{Introduction}
use Rattle.scoped_names.specs.Reading.{◌>>◌}
use Rattle.name_steps.specs.Steps.{Enters, HasMember, Leaves, NamesException, optional_parts, param_steps, param_type_steps, raises_steps, result_steps}
use Rattle.scoped_names.specs.Tests.{is_exception}
use Rattle.name_steps.proofs.Asks.{param_asks}
use Rattle.scoped_names.proofs.OnlyMemory.{finds_one}
use Rattle.scoped_names.proofs.Parts.{Closed, closed}
use Rattle.lowered_types.specs.declared.place.Place.{Place}
use Rattle.lowered_types.specs.declared.place.Place.TheVariants.{Raised}
use Rattle.lowered_types.specs.Faults.{each, of_names}
use Rattle.lowered_types.specs.Members.{Members}
use Rattle.lowered_types.specs.Sound.{IsFrame, IsFrameAt}
use Rattle.lowered_types.specs.SimpleTypes.{entry_found, param_type}
use Rattle.lowered_types.specs.Types.{member_added}
use Rattle.lowered_types.specs.Lowered.{Numbered, Lowered, already, place_in, place_of}
use Rattle.lowered_types.proofs.DeclarationsKeep.{Frames, frame_fine}
use Rattle.lowered_types.proofs.Each.{each_keeps}
use Rattle.lowered_types.proofs.Fine.{Fine, and_then, given, weaker}
use Rattle.lowered_types.proofs.Growing.{frame_stays, node_stays}
use Rattle.lowered_types.proofs.Keeping.{HasPlace, IsRaised, Keeps, Later, later_none, later_on}
use Rattle.lowered_types.proofs.Naming.{IsSilent, of_kind, silent_append, silent_keeps}
use Rattle.lowered_types.proofs.Settled.{AllSettled, Settled, behind, split}
use Rattle.lowered_types.proofs.SimpleKeep.{param_keeps, param_silent}
use Rattle.lowered_types.proofs.Spots.{is_some_and}
use Rattle.lowered_types.proofs.StructsKeep.{none_right}
use Rattle.lowered_types.proofs.TypesKeep.{AreRight, member_fine, right_later}
use Rattle.lowered_types.proofs.Walks.{goes_on}
use Rattle.lowered_types.proofs.Lowering.{Adds}
use Rattle.lowered_operations.specs.declared.frames.Carried.{Carried}
use Rattle.lowered_operations.specs.declared.frames.Carrying.{Carrying}
use Rattle.lowered_operations.specs.Frames.{carrying, frame_added, frames_added, nothing_carried, result_carried, result_name, with_carried, with_param}
use Rattle.lowered_operations.specs.Oneway.{parts_of}
use Rattle.lowered_operations.specs.Operations.{exception_found, exception_in, raised, with_exception}

-- no definition is begun between operations
abbrev pub nothing_begun : ℕ → Type 0
nothing_begun e = ⊥

pub same_parts : {T : Type 0} (o : Option (Listed T)) → optional_parts o ≡ parts_of o
same_parts None = refl
same_parts (Some l) = refl

-- ---- what is carried

pub record AreCarried (graph : List Node) (c : Carried) : Type 0 where
  pub request : AreRight graph [] 0 c.request
  pub reply : AreRight graph [] 0 c.reply

pub record Carries (es : List Entry) (g : List Introduction) (w : Lowered) (c : Carrying) : Type 0 where
  pub keeps : Keeps es g nothing_begun c.types
  pub later : Later w c.types
  pub places : c.types.places ≡ w.places
  pub exceptions : c.types.exceptions ≡ w.exceptions
  pub right : AreCarried c.types.nodes c.carried

any_many : (graph : List Node) (ms : Members) → AreRight graph [] 1 ms → AreRight graph [] 0 ms
any_many graph ms h = record { members = h.members; first = h.first; some = omega arith }

more_fine : (graph : List Node) (ms : Members) (name : List ℕ) (number : ℕ) (at : At) → AreRight graph [] 0 ms
    → IsPart graph number → Fine (AreRight graph [] 0) (member_added ms name number at)
more_fine graph ms name number at h part =
    weaker (AreRight graph [] 1) (AreRight graph [] 0) (member_added ms name number at)
    (λ more is. any_many graph more is) (member_fine graph [] 0 ms name number at h part)

pub carried_fine : (graph : List Node) (c : Carried) (name : List ℕ) (d : Direction) (number : ℕ) (at : At)
    → AreCarried graph c → IsPart graph number → Fine (AreCarried graph) (with_carried c name d number at)
carried_fine graph c name In number at h part =
    and_then (AreRight graph [] 0) (AreCarried graph) (member_added c.request name number at)
    (λ ms. Ok (record c { request = ms })) (more_fine graph c.request name number at h.request part)
    (λ ms is. record { request = is; reply = h.reply })
carried_fine graph c name Out number at h part =
    and_then (AreRight graph [] 0) (AreCarried graph) (member_added c.reply name number at)
    (λ ms. Ok (record c { reply = ms })) (more_fine graph c.reply name number at h.reply part)
    (λ ms is. record { request = h.request; reply = is })
carried_fine graph c name InOut number at h part =
    and_then (AreRight graph [] 0) (AreCarried graph) (member_added c.request name number at) _
    (more_fine graph c.request name number at h.request part) (λ request is.
    and_then (AreRight graph [] 0) (AreCarried graph) (member_added c.reply name number at)
    (λ reply. Ok (record { request = request; reply = reply }))
    (more_fine graph c.reply name number at h.reply part) (λ reply also. record { request = is; reply = also }))

pub nothing_right : (graph : List Node) → AreCarried graph nothing_carried
nothing_right graph = record { request = none_right graph; reply = none_right graph }

carried_later : (w v : Lowered) (c : Carried) → Later w v → AreCarried w.nodes c → AreCarried v.nodes c
carried_later w v c l h =
    record { request = right_later w v [] 0 c.request l h.request; reply = right_later w v [] 0 c.reply l h.reply }

-- a type more is carried, where it is lowered
type_carried : (es : List Entry) (g : List Introduction) (w : Lowered) (c : Carrying) (t : Numbered) (name : List ℕ)
    (d : Direction) (at : At) → Carries es g w c → Adds es g nothing_begun c.types t
    → Fine (Carries es g w) (with_carried c.carried name d t.number at >> λ more. Ok (carrying t.lowered more))
type_carried es g w c t name d at h a =
    and_then (AreCarried t.lowered.nodes) (Carries es g w) (with_carried c.carried name d t.number at)
    (λ more. Ok (carrying t.lowered more))
    (carried_fine t.lowered.nodes c.carried name d t.number at
    (carried_later c.types t.lowered c.carried a.later h.right) a.part) (λ more is. record {
      keeps = a.keeps;
      later = later_on w c.types t.lowered h.later a.later;
      places = a.places ∙ h.places;
      exceptions = a.exceptions ∙ h.exceptions;
      right = is;
    })

param_closed : (id : Leaf) (p : Param) → Closed (param_steps id p)
param_closed id p = closed (param_asks {ls = []} id p)

param_silence : (id : Leaf) (p : Param) → AllByRecursion IsSilent (param_steps id p)
param_silence id p = silent_append (param_type_steps p.param_type) (Enters id ∷ HasMember p.identifier ∷ Leaves ∷ [])
    (param_silent p.param_type) (tt, (tt, (tt, tt)))

param_carried : (es : List Entry) (g : List Introduction) (w : Lowered) (scope : ℕ) (id : Leaf) (c : Carrying)
    (p : Param) → AllSettled es g scope (param_steps id p) → Carries es g w c
    → Fine (Carries es (behind es g scope (param_steps id p)) w) (with_param es scope c p)
param_carried es g w scope id c p settled h =
    let parts = split es g scope (param_type_steps p.param_type) (Enters id ∷ HasMember p.identifier ∷ Leaves ∷ [])
    settled in
    and_then (Adds es g nothing_begun c.types) (Carries es (behind es g scope (param_steps id p)) w)
    (param_type es c.types scope p.param_type) _
    (param_keeps es g nothing_begun c.types scope p.param_type h.keeps parts.0) (λ t a.
    weaker (Carries es g w) (Carries es (behind es g scope (param_steps id p)) w)
    (with_carried c.carried (word p.identifier) p.direction t.number (leaf_at p.identifier) >> λ more. Ok
    (carrying t.lowered more))
    (λ k is. record {
      keeps = silent_keeps es g nothing_begun k.types scope (param_steps id p) (param_silence id p) settled is.keeps;
      later = is.later;
      places = is.places;
      exceptions = is.exceptions;
      right = is.right;
    }) (type_carried es g w c t (word p.identifier) p.direction (leaf_at p.identifier) h a))

pub params_carried : (es : List Entry) (g : List Introduction) (w : Lowered) (scope : ℕ) (id : Leaf) (c : Carrying)
    (ps : List Param) → AllSettled es g scope (flat_map (param_steps id) ps)
    → Carries es g w c → Fine (Carries es (behind es g scope (flat_map (param_steps id) ps)) w)
    (each (with_param es scope) c ps)
params_carried es g w scope id c ps settled h =
    each_keeps es (λ k c. Carries es k w c) (with_param es scope) (param_steps id) scope (param_closed id)
    (λ k c p s has. param_carried es k w scope id c p s has) g c ps settled h

pub result_fine : (es : List Entry) (g : List Introduction) (w : Lowered) (scope : ℕ) (at : At) (o : Option ParamType)
    → Keeps es g nothing_begun w → AllSettled es g scope (result_steps o)
    → Fine (Carries es g w) (result_carried es w scope at o)
result_fine es g w scope at None i h =
    record { keeps = i; later = later_none w; places = refl; exceptions = refl; right = nothing_right w.nodes }
result_fine es g w scope at (Some t) i h =
    let start : Carries es g w (carrying w nothing_carried) =
    record { keeps = i; later = later_none w; places = refl; exceptions = refl; right = nothing_right w.nodes } in
    and_then (Adds es g nothing_begun w) (Carries es g w) (param_type es w scope t) _
    (param_keeps es g nothing_begun w scope t i h)
    (λ n a. type_carried es g w (carrying w nothing_carried) n result_name Out at start a)

-- ---- frames

pub record AreFramed (es : List Entry) (g : List Introduction) (w : Lowered) (n : Numbered) : Type 0 where
  pub keeps : Keeps es g nothing_begun n.lowered
  pub later : Later w n.lowered
  pub request : IsFrameAt n.lowered.nodes n.number
  pub reply : IsFrameAt n.lowered.nodes (n.number + 1)
  pub start : n.number ≡ length w.nodes
  pub more : length n.lowered.nodes ≡ length w.nodes + 2
  pub places : n.lowered.places ≡ w.places
  pub exceptions : n.lowered.exceptions ≡ w.exceptions

frame_at : (graph : List Node) (n : ℕ) (ms : List ℕ) → slice_get graph n ≡ Some (Frame ms) → IsFrameAt graph n
frame_at graph n ms is = is_some_and (slice_get graph n) IsFrame (Frame ms) is tt

pub frames_fine : (es : List Entry) (g : List Introduction) (w : Lowered) (c : Carried) (at : At)
    → Keeps es g nothing_begun w → AreCarried w.nodes c
    → Fine (AreFramed es g w) (frames_added w c at)
frames_fine es g w c at i h =
    and_then (Frames es g nothing_begun w c.request.numbers) (AreFramed es g w) (frame_added w c.request at) _
    (frame_fine es g nothing_begun w c.request.numbers c.request.names (record { at = at; held = c.request.sites }) at i
    h.request.members) (λ first a.
    let v = first.lowered in
    and_then (Frames es g nothing_begun v c.reply.numbers) (AreFramed es g w) (frame_added v c.reply at)
    (λ reply. Ok (already reply.lowered first.number))
    (frame_fine es g nothing_begun v c.reply.numbers c.reply.names (record { at = at; held = c.reply.sites }) at a.keeps
    (node_stays w.nodes v.nodes a.later.nodes (Frame c.reply.numbers) h.reply.members)) (λ second b.
    let at = a.number in
    let more = a.more in
    let at_too = b.number in
    let more_too = b.more in
    let next : second.number ≡ first.number + 1 = omega (arith, at, more, at_too) in
    record {
      keeps = b.keeps;
      later = later_on w v second.lowered a.later b.later;
      request = frame_stays v.nodes second.lowered.nodes b.later.nodes first.number
          (frame_at v.nodes first.number c.request.numbers a.frame);
      reply = subst (IsFrameAt second.lowered.nodes) next
          (frame_at second.lowered.nodes second.number c.reply.numbers b.frame);
      start = a.number;
      more = omega (arith, more, more_too);
      places = b.places ∙ a.places;
      exceptions = b.exceptions ∙ a.exceptions;
    }))

-- ---- what is raised

raised_kind : (kind : EntryKind) (o : Option (Option Place)) → is_exception kind ≡ true → HasPlace kind ⊥ o → IsRaised o
raised_kind Kinds.Exception o is (inl none) = absurd none
raised_kind Kinds.Exception o is (inr h) = h
raised_kind kind o is h = absurd cc

exception_fine : (es : List Entry) (g : List Introduction) (w : Lowered) (scope : ℕ) (name : ScopedName)
    → Keeps es g nothing_begun w → Settled es g scope (NamesException name)
    → (place : ℕ) × (exception_found es w scope name ≡ Ok place) × (place < length w.exceptions)
exception_fine es g w scope name i s =
    let (e, found, is_a) = finds_one is_exception es scope name s.holds.answered in
    let (x, at, kind) = of_kind is_exception (slice_get es e) is_a in
    let (frame, place, there) = raised_kind x.kind (slice_get w.places e) kind (i.has e x (s.finds e found) at) in
    let told : entry_found es scope name ≡ Ok e = ap of_names found in
    let placed : place_of w e ≡ Some (Raised frame place) = ap place_in there in (
      place,
      goes_on (entry_found es scope name) e (λ e. exception_in (place_of w e)) told
          ∙ ap exception_in placed,
      (i.right e (Raised frame place) there).1,
    )

names_fine : (es : List Entry) (g : List Introduction) (w : Lowered) (scope : ℕ) (places : List ℕ)
    (names : List ScopedName) → Keeps es g nothing_begun w
    → AllSettled es g scope (raises_steps names) → All (λ k. k < length w.exceptions) places
    → Fine (All (λ k. k < length w.exceptions)) (each (with_exception es w scope) places names)
names_fine es g w scope places [] i h are = are
names_fine es g w scope places (name ∷ names) i (h, hs) are =
    let (place, found, lt) = exception_fine es g w scope name i h in
    given (All (λ k. k < length w.exceptions)) (with_exception es w scope places name) (places ++ place ∷ [])
    (λ next. each (with_exception es w scope) next names)
    (goes_on (exception_found es w scope name) place (λ place. Ok (places ++ place ∷ [])) found)
    (names_fine es g w scope (places ++ place ∷ []) names i hs
    (All-push (λ k. k < length w.exceptions) places place are lt))

pub raised_fine : (es : List Entry) (g : List Introduction) (w : Lowered) (scope : ℕ) (names : List ScopedName)
    → Keeps es g nothing_begun w → AllSettled es g scope (raises_steps names)
    → Fine (All (λ k. k < length w.exceptions)) (raised es w scope names)
raised_fine es g w scope names i h = names_fine es g w scope [] names i h (All-nil (λ k. k < length w.exceptions))
