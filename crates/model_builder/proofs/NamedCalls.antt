-- Operations and attributes: the names of what their frames carry are apart, and one for one for it.
use Rattle.std.proofs.Common.{◌≡◌, ℕ, Bool, true, false, List, [], ◌∷◌, ◌++◌, length, append_assoc, append-nil, Option, Some, None, Ok, refl, sym, subst}
use Rattle.std.specs.List.{AllByRecursion, IsDistinct, flat_map}
use Rattle.idl_tree.specs.declared.names.At.{At}
use Rattle.idl_tree.specs.declared.names.Leaf.{Leaf}
use Rattle.idl_tree.specs.declared.names.Listed.{Listed}
use Rattle.idl_tree.specs.declared.types.ParamType.{ParamType}
use Rattle.idl_tree.specs.declared.definitions.Attribute.{Attribute}
use Rattle.idl_tree.specs.declared.definitions.Attributes.{Attributes}
use Rattle.idl_tree.specs.declared.definitions.Direction.{Direction}
use Rattle.idl_tree.specs.declared.definitions.Direction.TheVariants.{In, Out, InOut}
use Rattle.idl_tree.specs.declared.definitions.Operation.{Operation}
use Rattle.idl_tree.specs.declared.definitions.Param.{Param}
use Rattle.idl_tree.specs.Starts.{leaf_at}
use Rattle.idl_tree.specs.declared.kinds.EntryKind.TheVariants as Kinds
use Rattle.type_graph.specs.declared.node.Node.TheVariants.{Frame}
use Rattle.name_table.specs.Entry.{Entry}
use Rattle.name_table.specs.Entries.{scope_of}
use Rattle.name_table.specs.Search.{word}
use Rattle.scoped_names.specs.Introductions.{introduced}
use Rattle.name_steps.specs.Steps.{DeclaresFeature, Enters, HasMember, Leaves as LeavesScope, operation_steps, optional_parts, param_steps, param_type_steps, raises_steps, result_steps}
use Rattle.name_steps.proofs.Asks.{param_asks, param_type_asks, result_asks}
use Rattle.scoped_names.proofs.Parts.{Closed, both_closed, closed, each_closed, one_closed}
use Rattle.type_model.specs.PartNamesNames.{AreApart}
use Rattle.lowered_types.specs.declared.place.Place.{Place}
use Rattle.lowered_types.specs.declared.place.Place.TheVariants.{Called, Got, GotAndSet}
use Rattle.lowered_types.specs.Faults.{each}
use Rattle.lowered_types.specs.Members.{Members}
use Rattle.lowered_types.specs.Lowered.{Lowered, counted, placed}
use Rattle.lowered_types.specs.SimpleTypes.{entry_of, param_type}
use Rattle.lowered_types.specs.Types.{member_added}
use Rattle.lowered_operations.specs.declared.signature.Role.{Role}
use Rattle.lowered_operations.specs.declared.signature.Role.TheVariants as Roles
use Rattle.lowered_operations.specs.Frames.{all_carried, carrying, frame_added, frames_added, nothing_carried, result_carried, result_name, with_carried, with_param}
use Rattle.lowered_operations.specs.Oneway.{oneway_test, parts_of}
use Rattle.lowered_operations.specs.Operations.{Defined, Requested, attribute, attribute_identifiers, get_raises, is_set, operation, raised, set_raises, with_access, with_attribute, with_call, with_get, with_place, with_set, with_types}
use Rattle.model_builder.proofs.EntryWords.{IsNameWord}
use Rattle.model_builder.proofs.Good.{Good, good_both, good_tail, good_walk}
use Rattle.model_builder.proofs.Labelled.{domain}
use Rattle.model_builder.proofs.NamedNodes.{Has, HasAll, Leaves, added_named, and_then, behind, counted_named, none_apart, placed_named}
use Rattle.model_builder.proofs.NamedTypes.{AreMembers, member_named, param_named}
use Rattle.model_builder.proofs.NamedDeclarations.{marked_apart, picked_words}
use Rattle.model_builder.proofs.Picked.{Picked, picked_apart, picked_behind}
use Rattle.model_builder.proofs.PickedNames.{each_picked}

abbrev Carried : Type 0
Carried = domain with_carried

abbrev Carrying : Type 0
Carrying = domain (with_param [] 0)

-- what is lowered behind a part of an interface
abbrev pub HasTypes : Defined → Type 0
HasTypes d = Has d.types

abbrev HasRequested : Requested → Type 0
HasRequested r = HasTypes r.defined

pub with_place_named : (d : Defined) (e : ℕ) (p : Place) → HasTypes d → Leaves HasTypes (with_place d e p)
with_place_named d e p h = and_then Has HasTypes (placed d.types e p) _ (placed_named d.types e p h) (λ w k. k)

-- ---- what is carried

-- what a parameter's name is among, in a request and in its reply
abbrev sent_by : Direction → List ℕ → List (List ℕ)
sent_by In name = name ∷ []
sent_by Out name = []
sent_by InOut name = name ∷ []

abbrev back_by : Direction → List ℕ → List (List ℕ)
back_by In name = []
back_by Out name = name ∷ []
back_by InOut name = name ∷ []

record AreCarried (sent back : List (List ℕ)) (c : Carried) : Type 0 where
  request : AreMembers sent c.request
  reply : AreMembers back c.reply

record HasCarried (sent back : List (List ℕ)) (c : Carrying) : Type 0 where
  has : Has c.types
  carried : AreCarried sent back c.carried

no_more : (names : List (List ℕ)) (ms : Members) → AreMembers names ms → AreMembers (names ++ []) ms
no_more names ms h = subst (λ ns. AreMembers ns ms) (sym (append-nil names)) h

carried_named : (sent back : List (List ℕ)) (c : Carried) (name : List ℕ) (d : Direction) (number : ℕ) (at : At)
    → AreCarried sent back c
    → Leaves (AreCarried (sent ++ sent_by d name) (back ++ back_by d name)) (with_carried c name d number at)
carried_named sent back c name In number at h =
    and_then (AreMembers (sent ++ name ∷ [])) (AreCarried (sent ++ name ∷ []) (back ++ []))
    (member_added c.request name number at) _
    (member_named sent c.request name number at h.request)
    (λ ms are. record { request = are; reply = no_more back c.reply h.reply })
carried_named sent back c name Out number at h =
    and_then (AreMembers (back ++ name ∷ [])) (AreCarried (sent ++ []) (back ++ name ∷ []))
    (member_added c.reply name number at) _
    (member_named back c.reply name number at h.reply)
    (λ ms are. record { request = no_more sent c.request h.request; reply = are })
carried_named sent back c name InOut number at h =
    and_then (AreMembers (sent ++ name ∷ [])) (AreCarried (sent ++ name ∷ []) (back ++ name ∷ []))
    (member_added c.request name number at) _
    (member_named sent c.request name number at h.request) (λ request are.
    and_then (AreMembers (back ++ name ∷ [])) (AreCarried (sent ++ name ∷ []) (back ++ name ∷ []))
    (member_added c.reply name number at) _
    (member_named back c.reply name number at h.reply) (λ reply also. record { request = are; reply = also }))

nothing_named : AreCarried [] [] nothing_carried
nothing_named = record { request = record { long = refl; are = refl }; reply = record { long = refl; are = refl } }

-- ---- parameters

abbrev sent_of : Param → List (List ℕ)
sent_of p = sent_by p.direction (word p.identifier)

abbrev back_of : Param → List (List ℕ)
back_of p = back_by p.direction (word p.identifier)

carried_param : (es : List Entry) (scope : ℕ) (sent back : List (List ℕ)) (c : Carrying) (p : Param)
    → HasCarried sent back c
    → Leaves (HasCarried (sent ++ sent_of p) (back ++ back_of p)) (with_param es scope c p)
carried_param es scope sent back c p h =
    let goal = HasCarried (sent ++ sent_of p) (back ++ back_of p) in
    and_then HasAll goal (param_type es c.types scope p.param_type) _ (param_named es c.types scope p.param_type h.has)
    (λ t k.
    and_then (AreCarried (sent ++ sent_of p) (back ++ back_of p)) goal
    (with_carried c.carried (word p.identifier) p.direction t.number (leaf_at p.identifier)) _
    (carried_named sent back c.carried (word p.identifier) p.direction t.number (leaf_at p.identifier) h.carried)
    (λ more are. record { has = k; carried = are }))

carried_params : (es : List Entry) (scope : ℕ) (sent back : List (List ℕ)) (c : Carrying) (ps : List Param)
    → HasCarried sent back c
    → Leaves (HasCarried (sent ++ flat_map sent_of ps) (back ++ flat_map back_of ps)) (each (with_param es scope) c ps)
carried_params es scope sent back c [] h =
    subst (λ ns. HasCarried ns (back ++ []) c) (sym (append-nil sent))
    (subst (λ ns. HasCarried sent ns c) (sym (append-nil back)) h)
carried_params es scope sent back c (p ∷ ps) h =
    let to = sent ++ sent_of p in
    let from = back ++ back_of p in
    and_then (HasCarried to from) (HasCarried (sent ++ flat_map sent_of (p ∷ ps)) (back ++ flat_map back_of (p ∷ ps)))
    (with_param es scope c p) _
    (carried_param es scope sent back c p h) (λ next k.
    subst (λ ns. Leaves (HasCarried ns (back ++ flat_map back_of (p ∷ ps))) (each (with_param es scope) next ps))
    (append_assoc sent (sent_of p) (flat_map sent_of ps))
    (subst (λ ns. Leaves (HasCarried (to ++ flat_map sent_of ps) ns) (each (with_param es scope) next ps))
    (append_assoc back (back_of p) (flat_map back_of ps))
    (carried_params es scope to from next ps k)))

abbrev result_names : Option ParamType → List (List ℕ)
result_names None = []
result_names (Some t) = result_name ∷ []

carried_result : (es : List Entry) (w : Lowered) (scope : ℕ) (at : At) (o : Option ParamType) → Has w
    → Leaves (HasCarried [] (result_names o)) (result_carried es w scope at o)
carried_result es w scope at None h = record { has = h; carried = nothing_named }
carried_result es w scope at (Some t) h =
    let goal = HasCarried [] (result_name ∷ []) in
    and_then HasAll goal (param_type es w scope t) _ (param_named es w scope t h) (λ n k.
    and_then (AreCarried [] (result_name ∷ [])) goal (with_carried nothing_carried result_name Out n.number at)
    (λ c. Ok (carrying n.lowered c))
    (carried_named [] [] nothing_carried result_name Out n.number at nothing_named)
    (λ c are. record { has = k; carried = are }))

abbrev reply_names : Operation → List (List ℕ)
reply_names o = result_names o.result_type ++ flat_map back_of (parts_of o.params)

abbrev request_names : Operation → List (List ℕ)
request_names o = flat_map sent_of (parts_of o.params)

carried_all : (es : List Entry) (w : Lowered) (scope : ℕ) (o : Operation) → Has w
    → Leaves (HasCarried (request_names o) (reply_names o)) (all_carried es w scope o)
carried_all es w scope o h =
    and_then (HasCarried [] (result_names o.result_type)) (HasCarried (request_names o) (reply_names o))
    (result_carried es w scope (leaf_at o.identifier) o.result_type) _
    (carried_result es w scope (leaf_at o.identifier) o.result_type h)
    (λ c k. carried_params es scope [] (result_names o.result_type) c (parts_of o.params) k)

-- ---- they are apart

param_closed : (id : Leaf) (p : Param) → Closed (param_steps id p)
param_closed id p = closed (param_asks {ls = []} id p)

-- a parameter is a member of the scope of its operation
param_picked : (es : List Entry) (scope : ℕ) (id : Leaf) (p : Param) → Good es scope (param_steps id p)
    → Picked (scope_of es scope id) (word p.identifier ∷ []) (introduced es scope (param_steps id p))
param_picked es scope id p g =
    let typed = param_type_steps p.param_type in
    let own = Enters id ∷ HasMember p.identifier ∷ LeavesScope ∷ [] in
    let s = scope_of es scope id in
    let names = word p.identifier ∷ [] in
    subst (Picked s names) (sym (good_walk es scope typed own (closed (param_type_asks {ls = []} p.param_type)) g))
    (picked_behind s names (introduced es scope typed) (introduced es scope own) ([], p.identifier, [], refl, refl, tt))

sent_picked : (es : List Entry) (scope : ℕ) (id : Leaf) (p : Param) → Good es scope (param_steps id p)
    → Picked (scope_of es scope id) (sent_of p) (introduced es scope (param_steps id p))
sent_picked es scope id p g = by p.direction (param_picked es scope id p g)
  where
    by : (d : Direction) → Picked (scope_of es scope id) (word p.identifier ∷ [])
        (introduced es scope (param_steps id p))
        → Picked (scope_of es scope id) (sent_by d (word p.identifier)) (introduced es scope (param_steps id p))
    by In h = h
    by Out h = tt
    by InOut h = h

back_picked : (es : List Entry) (scope : ℕ) (id : Leaf) (p : Param) → Good es scope (param_steps id p)
    → Picked (scope_of es scope id) (back_of p) (introduced es scope (param_steps id p))
back_picked es scope id p g = by p.direction (param_picked es scope id p g)
  where
    by : (d : Direction) → Picked (scope_of es scope id) (word p.identifier ∷ [])
        (introduced es scope (param_steps id p))
        → Picked (scope_of es scope id) (back_by d (word p.identifier)) (introduced es scope (param_steps id p))
    by In h = tt
    by Out h = h
    by InOut h = h

record AreApartAll (o : Operation) : Type 0 where
  request : AreApart (request_names o)
  reply : AreApart (reply_names o)

-- parts that are the same
params_alike : (o : Operation) → optional_parts o.params ≡ parts_of o.params
params_alike o = by o.params
  where
    by : (ps : Option (Listed Param)) → optional_parts ps ≡ parts_of ps
    by None = refl
    by (Some l) = refl

params_apart : (es : List Entry) (scope : ℕ) (o : Operation)
    → Good es scope (flat_map (param_steps o.identifier) (parts_of o.params)) → AreApartAll o
params_apart es scope o g =
    let id = o.identifier in
    let ps = parts_of o.params in
    let s = scope_of es scope id in
    let xs = introduced es scope (flat_map (param_steps id) ps) in
    let sent = each_picked es s scope (param_steps id) sent_of (param_closed id) (sent_picked es scope id) ps g in
    let back = each_picked es s scope (param_steps id) back_of (param_closed id) (back_picked es scope id) ps g in
    let returned = flat_map back_of ps in
    record {
      request = picked_apart s (request_names o) xs g.apart sent;
      reply = with_result o.result_type returned (picked_words s returned xs g.words back)
          (picked_apart s returned xs g.apart back);
    }
  where
    with_result : (t : Option ParamType) (ns : List (List ℕ)) → AllByRecursion IsNameWord ns → AreApart ns
        → AreApart (result_names t ++ ns)
    with_result None ns words apart = apart
    with_result (Some t) ns words apart = marked_apart result_name refl ns words apart

operation_apart : (es : List Entry) (scope : ℕ) (o : Operation) → Good es scope (operation_steps o) → AreApartAll o
operation_apart es scope o g =
    let result = result_steps o.result_type in
    let feature = DeclaresFeature Kinds.Operation o.identifier in
    let params = flat_map (param_steps o.identifier) (optional_parts o.params) in
    let raises = raises_steps (optional_parts o.raises) in
    let result_closed : Closed result = closed (result_asks {ls = []} o.result_type) in
    let params_closed : Closed params =
    each_closed (param_steps o.identifier) (param_closed o.identifier) (optional_parts o.params) in
    let named_closed : Closed (feature ∷ params) = both_closed (one_closed feature tt) params_closed in
    let front = good_both es scope (result ++ feature ∷ params) raises (both_closed result_closed named_closed) g in
    let named = good_both es scope result (feature ∷ params) result_closed front.0 in
    let own = (good_tail es scope feature params tt named.1).1 in
    params_apart es scope o (subst (λ ps. Good es scope (flat_map (param_steps o.identifier) ps)) (params_alike o) own)

-- ---- frames

frame_named : (w : Lowered) (names : List (List ℕ)) (ms : Members) (at : At) → Has w → AreMembers names ms
    → AreApart names → Leaves HasAll (frame_added w ms at)
frame_named w names ms at h are apart =
    and_then Has HasAll (counted w (length ms.numbers) at) _ (counted_named w (length ms.numbers) at h) (λ v k.
    added_named v (Frame ms.numbers) ms.names (record { at = at; held = ms.sites }) k
    (subst AreApart (sym are.are) apart) are.long)

call_named : (d : Defined) (sent back : List (List ℕ)) (c : Carried) (oneway : Bool) (raises : List ℕ) (role : Role)
    (e : ℕ) (at : At) → HasTypes d → AreCarried sent back c
    → AreApart sent → AreApart back → Leaves HasRequested (with_call d c oneway raises role e at)
call_named d sent back c oneway raises role e at h are apart also =
    and_then HasAll HasRequested (frames_added d.types c at) _
    (and_then HasAll HasAll (frame_added d.types c.request at) _
    (frame_named d.types sent c.request at h are.request apart) (λ request k.
    and_then HasAll HasAll (frame_added request.lowered c.reply at) _
    (frame_named request.lowered back c.reply at k are.reply also) (λ reply m. m)))
    (λ f k. k)

-- ---- operations

pub operation_named : (es : List Entry) (scope : ℕ) (d : Defined) (o : Operation) → HasTypes d
    → Good es scope (operation_steps o) → Leaves HasTypes (operation es scope d o)
operation_named es scope d o h g =
    let at = leaf_at o.identifier in
    let apart = operation_apart es scope o g in
    behind HasTypes (oneway_test o) _ (λ u is.
    and_then (HasCarried (request_names o) (reply_names o)) HasTypes (all_carried es d.types scope o) _
    (carried_all es d.types scope o h) (λ c k.
    behind HasTypes (raised es c.types scope (parts_of o.raises)) _ (λ raises found.
    behind HasTypes (entry_of es scope o.identifier) _ (λ e told.
    and_then HasRequested HasTypes (with_call (with_types d c.types) c.carried o.is_oneway raises Roles.Operation e at)
    _
    (call_named (with_types d c.types) (request_names o) (reply_names o) c.carried o.is_oneway raises Roles.Operation e
    at k.has k.carried apart.request apart.reply)
    (λ r m. with_place_named r.defined e (Called r.request) m)))))

-- ---- attributes

one_apart : (n : List ℕ) → AreApart (n ∷ [])
unfolding IsDistinct
one_apart n = (tt, tt)

get_named : (d : Defined) (number : ℕ) (raises : List ℕ) (e : ℕ) (at : At) → HasTypes d
    → Leaves HasRequested (with_get d number raises e at)
get_named d number raises e at h =
    and_then (AreCarried [] (result_name ∷ [])) HasRequested (with_carried nothing_carried result_name Out number at) _
    (carried_named [] [] nothing_carried result_name Out number at nothing_named)
    (λ c are. call_named d [] (result_name ∷ []) c false raises Roles.Getting e at h are none_apart
    (one_apart result_name))

set_named : (d : Defined) (name : List ℕ) (number : ℕ) (raises : List ℕ) (e : ℕ) (at : At) → HasTypes d
    → Leaves HasRequested (with_set d name number raises e at)
set_named d name number raises e at h =
    and_then (AreCarried (name ∷ []) []) HasRequested (with_carried nothing_carried name In number at) _
    (carried_named [] [] nothing_carried name In number at nothing_named)
    (λ c are. call_named d (name ∷ []) [] c false raises Roles.Setting e at h are (one_apart name) none_apart)

access_named : (got : Requested) (name : List ℕ) (number : ℕ) (set : Bool) (raises : List ℕ) (e : ℕ) (at : At)
    → HasRequested got
    → Leaves HasTypes (with_access got name number set raises e at)
access_named got name number false raises e at h = with_place_named got.defined e (Got got.request) h
access_named got name number true raises e at h =
    and_then HasRequested HasTypes (with_set got.defined name number raises e at) _
    (set_named got.defined name number raises e at h)
    (λ r k. with_place_named r.defined e (GotAndSet got.request) k)

one_named : (es : List Entry) (scope number : ℕ) (a : Attributes) (d : Defined) (id : Leaf) → HasTypes d
    → Leaves HasTypes (with_attribute es scope number a d id)
one_named es scope number a d id h =
    behind HasTypes (raised es d.types scope (get_raises a)) _ (λ get is.
    behind HasTypes (raised es d.types scope (set_raises a)) _ (λ set also.
    behind HasTypes (entry_of es scope id) _ (λ e told.
    and_then HasRequested HasTypes (with_get d number get e (leaf_at id)) _ (get_named d number get e (leaf_at id) h)
    (λ got k. access_named got (word id) number (is_set a) set e (leaf_at id) k))))

each_attribute_named : (es : List Entry) (scope number : ℕ) (a : Attributes) (d : Defined) (ids : List Leaf)
    → HasTypes d → Leaves HasTypes (each (with_attribute es scope number a) d ids)
each_attribute_named es scope number a d [] h = h
each_attribute_named es scope number a d (id ∷ ids) h =
    and_then HasTypes HasTypes (with_attribute es scope number a d id) _ (one_named es scope number a d id h)
    (λ next k. each_attribute_named es scope number a next ids k)

pub attribute_named : (es : List Entry) (scope : ℕ) (d : Defined) (a : Attribute) → HasTypes d
    → Leaves HasTypes (attribute es scope d a)
attribute_named es scope d a h =
    and_then HasAll HasTypes (param_type es d.types scope a.attribute_type) _
    (param_named es d.types scope a.attribute_type h)
    (λ t k. each_attribute_named es scope t.number a.declared (with_types d t.lowered)
    (attribute_identifiers a.declared) k)
