-- Operations and attributes of one shape are lowered to the same.
use Rattle.std.proofs.Common.{◌∙◌, if◌then◌else◌, ◌≡◌, ℕ, Bool, true, false, not, List, [], ◌∷◌, ◌++◌, Option, Some, None, Ok, Err, refl, ap}
use Rattle.std.specs.Option.{option_or}
use Rattle.idl_tree.specs.declared.names.Leaf.{Leaf}
use Rattle.idl_tree.specs.declared.names.Listed.{Listed}
use Rattle.idl_tree.specs.declared.names.ScopedName.{ScopedName}
use Rattle.idl_tree.specs.declared.types.ParamType.{ParamType}
use Rattle.idl_tree.specs.declared.definitions.Attribute.{Attribute}
use Rattle.idl_tree.specs.declared.definitions.Attributes.{Attributes}
use Rattle.idl_tree.specs.declared.definitions.Attributes.TheVariants.{Silent, Readonly, Get, Set}
use Rattle.idl_tree.specs.declared.definitions.Direction.{Direction}
use Rattle.idl_tree.specs.declared.definitions.Direction.TheVariants.{In, Out, InOut}
use Rattle.idl_tree.specs.declared.definitions.Operation.{Operation}
use Rattle.idl_tree.specs.declared.definitions.Param.{Param}
use Rattle.idl_tree.specs.declared.names.At.{At}
use Rattle.idl_tree.specs.Starts.{leaf_at}
use Rattle.name_table.specs.Entry.{Entry}
use Rattle.scoped_names.specs.Reading.{◌>>◌}
use Rattle.lowered_types.specs.declared.fault.FirstAnswer.{FirstAnswer}
use Rattle.lowered_types.specs.declared.fault.FirstAnswer.TheVariants.{Parameter}
use Rattle.lowered_types.specs.declared.fault.BuildFault.TheVariants.{Types}
use Rattle.lowered_types.specs.declared.fault.TypeFault.TheVariants.{BadOneway}
use Rattle.lowered_types.specs.declared.place.Place.TheVariants.{Called}
use Rattle.lowered_types.specs.Lowered.{Lowered, place_of}
use Rattle.lowered_operations.specs.declared.signature.Role.TheVariants as Roles
use Rattle.lowered_operations.specs.Oneway.{parts_of, is_in, result_answer, param_answer, raises_answer, answer_of, answer_test, oneway_test}
use Rattle.lowered_operations.specs.Frames.{carrying, nothing_carried, with_carried, with_param, result_carried, result_name, all_carried}
use Rattle.lowered_operations.specs.Operations.{Defined, exception_in, with_exception, raised, with_place, with_call, with_operation, operation, with_types, is_set, get_raises, set_raises, with_get, with_access, with_attribute, attribute_identifiers, attribute}
use Rattle.idl_tree.specs.Shapes.{bool_shape, leaf_shape, optional_shape, list_shape, listed_shape, name_shape, names_shape}
use Rattle.idl_tree.specs.TypeShapes.{param_type_shape}
use Rattle.idl_tree.specs.DefinitionShapes.{attributes_shape, attribute_shape, direction_shape, param_shape, operation_shape}
use Rattle.shape_laws.proofs.Apart.{apart}
use Rattle.shape_laws.proofs.PartLists.{each_same, parts_of_shape}
use Rattle.shape_laws.proofs.NameWords.{word_same}
use Rattle.shape_laws.proofs.Starts.{leaf_same}
use Rattle.shape_laws.proofs.TypeParts.{entry_same, entry_found_same, param_type_same}

bool_same : (a b : Bool) → bool_shape a ≡ bool_shape b → a ≡ b
bool_same true true h = refl
bool_same false false h = refl
bool_same a b h = apart h refl

direction_same : (a b : Direction) → direction_shape a ≡ direction_shape b → a ≡ b
direction_same In In h = refl
direction_same Out Out h = refl
direction_same InOut InOut h = refl
direction_same a b h = apart h refl

-- ---- what an operation is made of

name_of : (a b : Operation) → operation_shape a ≡ operation_shape b → leaf_shape a.identifier ≡ leaf_shape b.identifier
name_of a b h = cc

place_at : (a b : Operation) → operation_shape a ≡ operation_shape b → leaf_at a.identifier ≡ leaf_at b.identifier
place_at a b h = leaf_same a.identifier b.identifier (name_of a b h)

oneway_of : (a b : Operation) → operation_shape a ≡ operation_shape b → a.is_oneway ≡ b.is_oneway
oneway_of a b h = bool_same a.is_oneway b.is_oneway cc

result_of : (a b : Operation) → operation_shape a ≡ operation_shape b
    → optional_shape param_type_shape a.result_type ≡ optional_shape param_type_shape b.result_type
result_of a b h = cc

params_of : (a b : Operation) → operation_shape a ≡ operation_shape b
    → list_shape param_shape (parts_of a.params) ≡ list_shape param_shape (parts_of b.params)
params_of a b h =
    let params : optional_shape (listed_shape param_shape) a.params
    ≡ optional_shape (listed_shape param_shape) b.params = cc in
    parts_of_shape param_shape a.params b.params params

raises_of : (a b : Operation) → operation_shape a ≡ operation_shape b
    → optional_shape names_shape a.raises ≡ optional_shape names_shape b.raises
raises_of a b h = cc

-- ---- which are oneway

result_answer_same : (a b : Option ParamType) → optional_shape param_type_shape a ≡ optional_shape param_type_shape b
    → result_answer a ≡ result_answer b
result_answer_same None None h = refl
result_answer_same (Some a) (Some b) h = refl
result_answer_same a b h = absurd cc

param_answer_same : (a b : List Param) → list_shape param_shape a ≡ list_shape param_shape b
    → param_answer a ≡ param_answer b
param_answer_same [] [] h = refl
param_answer_same (x ∷ xs) (y ∷ ys) h =
    let directions : direction_shape x.direction ≡ direction_shape y.direction = cc in
    let names : leaf_shape x.identifier ≡ leaf_shape y.identifier = cc in
    let rest : list_shape param_shape xs ≡ list_shape param_shape ys = cc in
    λ i. (if is_in (direction_same x.direction y.direction directions i) then param_answer_same xs ys rest i
    else Some (Parameter (leaf_same x.identifier y.identifier names i)))
param_answer_same a b h = absurd cc

raises_answer_same : (a b : Option (Listed ScopedName)) → optional_shape names_shape a ≡ optional_shape names_shape b
    → raises_answer a ≡ raises_answer b
raises_answer_same None None h = refl
raises_answer_same (Some a) (Some b) h = refl
raises_answer_same a b h = absurd cc

answer_same : (a b : Operation) → operation_shape a ≡ operation_shape b → answer_of a ≡ answer_of b
answer_same a b h =
    let result = result_answer_same a.result_type b.result_type (result_of a b h) in
    let params = param_answer_same (parts_of a.params) (parts_of b.params) (params_of a b h) in
    let raises = raises_answer_same a.raises b.raises (raises_of a b h) in
    λ i. option_or (result i) (option_or (params i) (raises i))

answer_test_same : (a b : Operation) → operation_shape a ≡ operation_shape b → (x : Option FirstAnswer)
    → answer_test a x ≡ answer_test b x
answer_test_same a b h None = refl
answer_test_same a b h (Some answer) = λ i. Err (Types (BadOneway (place_at a b h i) answer))

oneway_same : (a b : Operation) → operation_shape a ≡ operation_shape b → oneway_test a ≡ oneway_test b
oneway_same a b h =
    (λ i. (if oneway_of a b h i then answer_test a (answer_same a b h i) else Ok tt))
    ∙ (λ i. (if b.is_oneway then answer_test_same a b h (answer_of b) i else Ok tt))

-- ---- what is carried

with_param_same : (es : List Entry) (scope : ℕ) (c : _) (a b : Param) → param_shape a ≡ param_shape b
    → with_param es scope c a ≡ with_param es scope c b
with_param_same es scope c a b h =
    let types : param_type_shape a.param_type ≡ param_type_shape b.param_type = cc in
    let directions : direction_shape a.direction ≡ direction_shape b.direction = cc in
    let names : leaf_shape a.identifier ≡ leaf_shape b.identifier = cc in
    λ i. param_type_same es c.types scope a.param_type b.param_type types i >> λ t.
    with_carried c.carried (word_same a.identifier b.identifier names i)
    (direction_same a.direction b.direction directions i) t.number (leaf_same a.identifier b.identifier names i) >>
    λ more.
    Ok (carrying t.lowered more)

result_carried_same : (es : List Entry) (w : Lowered) (scope : ℕ) (at to : At) → at ≡ to → (a b : Option ParamType)
    → optional_shape param_type_shape a ≡ optional_shape param_type_shape b
    → result_carried es w scope at a ≡ result_carried es w scope to b
result_carried_same es w scope at to p None None h = refl
result_carried_same es w scope at to p (Some a) (Some b) h =
    let types : param_type_shape a ≡ param_type_shape b = cc in
    λ i. param_type_same es w scope a b types i >> λ t. with_carried nothing_carried result_name Out t.number (p i) >>
    λ c. Ok (carrying t.lowered c)
result_carried_same es w scope at to p a b h = absurd cc

carried_same : (es : List Entry) (w : Lowered) (scope : ℕ) (a b : Operation) → operation_shape a ≡ operation_shape b
    → all_carried es w scope a ≡ all_carried es w scope b
carried_same es w scope a b h =
    λ i. result_carried_same es w scope _ _ (place_at a b h) a.result_type b.result_type (result_of a b h) i >> λ c.
    each_same param_shape (with_param es scope) (with_param es scope) (with_param_same es scope) c (parts_of a.params)
    (parts_of b.params) (params_of a b h) i

-- ---- what is raised

with_exception_same : (es : List Entry) (w : Lowered) (scope : ℕ) (places : List ℕ) (a b : ScopedName)
    → name_shape a ≡ name_shape b
    → with_exception es w scope places a ≡ with_exception es w scope places b
with_exception_same es w scope places a b h =
    λ i. (entry_found_same es scope a b h i >> λ e. exception_in (place_of w e)) >> λ place. Ok (places ++ place ∷ [])

raised_same : (es : List Entry) (w : Lowered) (scope : ℕ) (a b : List ScopedName)
    → list_shape name_shape a ≡ list_shape name_shape b
    → raised es w scope a ≡ raised es w scope b
raised_same es w scope a b h =
    each_same name_shape (with_exception es w scope) (with_exception es w scope) (with_exception_same es w scope) [] a b
    h

-- ---- operations

with_operation_same : (es : List Entry) (scope : ℕ) (d : Defined) (c : _) (a b : Operation)
    → operation_shape a ≡ operation_shape b
    → with_operation es scope d c a ≡ with_operation es scope d c b
with_operation_same es scope d c a b h =
    λ i. raised_same es d.types scope (parts_of a.raises) (parts_of b.raises)
    (parts_of_shape name_shape a.raises b.raises (raises_of a b h)) i >> λ raises.
    entry_same es scope a.identifier b.identifier (name_of a b h) i >> λ e.
    with_call d c (oneway_of a b h i) raises Roles.Operation e (place_at a b h i) >> λ r. with_place r.defined e
    (Called r.request)

pub operation_same : (es : List Entry) (scope : ℕ) (d : Defined) (a b : Operation)
    → operation_shape a ≡ operation_shape b
    → operation es scope d a ≡ operation es scope d b
operation_same es scope d a b h =
    λ i. oneway_same a b h i >> λ u. carried_same es d.types scope a b h i >> λ c.
    with_operation_same es scope (with_types d c.types) c.carried a b h i

-- ---- attributes

is_set_same : (a b : Attributes) → attributes_shape a ≡ attributes_shape b → is_set a ≡ is_set b
is_set_same (Silent a l) (Silent b m) h = ap not (bool_same a b cc)
is_set_same (Readonly l a) (Readonly m b) h = refl
is_set_same (Get l a s) (Get m b t) h = refl
is_set_same (Set l a) (Set m b) h = refl
is_set_same a b h = apart h refl

get_raises_shape : (a b : Attributes) → attributes_shape a ≡ attributes_shape b
    → list_shape name_shape (get_raises a) ≡ list_shape name_shape (get_raises b)
get_raises_shape (Silent a l) (Silent b m) h = refl
get_raises_shape (Readonly l a) (Readonly m b) h = cc
get_raises_shape (Get l a s) (Get m b t) h = cc
get_raises_shape (Set l a) (Set m b) h = refl
get_raises_shape a b h = apart h refl

set_raises_shape : (a b : Attributes) → attributes_shape a ≡ attributes_shape b
    → list_shape name_shape (set_raises a) ≡ list_shape name_shape (set_raises b)
set_raises_shape (Silent a l) (Silent b m) h = refl
set_raises_shape (Readonly l a) (Readonly m b) h = refl
set_raises_shape (Get l a s) (Get m b t) h = parts_of_shape name_shape s t cc
set_raises_shape (Set l a) (Set m b) h = cc
set_raises_shape a b h = apart h refl

identifiers_shape : (a b : Attributes) → attributes_shape a ≡ attributes_shape b
    → list_shape leaf_shape (attribute_identifiers a) ≡ list_shape leaf_shape (attribute_identifiers b)
identifiers_shape (Silent a l) (Silent b m) h = cc
identifiers_shape (Readonly l a) (Readonly m b) h = cc
identifiers_shape (Get l a s) (Get m b t) h = cc
identifiers_shape (Set l a) (Set m b) h = cc
identifiers_shape a b h = apart h refl

with_attribute_same : (es : List Entry) (scope number : ℕ) (a b : Attributes) → attributes_shape a ≡ attributes_shape b
    → (d : Defined) (l m : Leaf) → leaf_shape l ≡ leaf_shape m
    → with_attribute es scope number a d l ≡ with_attribute es scope number b d m
with_attribute_same es scope number a b h d l m k =
    let at = leaf_same l m k in
    λ i. raised_same es d.types scope (get_raises a) (get_raises b) (get_raises_shape a b h) i >> λ get.
    raised_same es d.types scope (set_raises a) (set_raises b) (set_raises_shape a b h) i >> λ set.
    entry_same es scope l m k i >> λ e. with_get d number get e (at i) >> λ got.
    with_access got (word_same l m k i) number (is_set_same a b h i) set e (at i)

pub attribute_same : (es : List Entry) (scope : ℕ) (d : Defined) (a b : Attribute)
    → attribute_shape a ≡ attribute_shape b
    → attribute es scope d a ≡ attribute es scope d b
attribute_same es scope d a b h =
    let types : param_type_shape a.attribute_type ≡ param_type_shape b.attribute_type = cc in
    let declared : attributes_shape a.declared ≡ attributes_shape b.declared = cc in
    λ i. param_type_same es d.types scope a.attribute_type b.attribute_type types i >> λ t.
    each_same leaf_shape (with_attribute es scope t.number a.declared) (with_attribute es scope t.number b.declared)
    (with_attribute_same es scope t.number a.declared b.declared declared) (with_types d t.lowered)
    (attribute_identifiers a.declared) (attribute_identifiers b.declared)
    (identifiers_shape a.declared b.declared declared) i
