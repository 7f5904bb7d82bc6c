-- What is looked up is there.
use Rattle.std.proofs.Common.{◌≡◌, ℕ, zero, suc, ◌+◌, ◌<◌, Bool, true, false, cond, List, [], ◌∷◌, length, refl, sym, ap, subst, ◌∙◌, arith}
use Rattle.std.proofs.Common.{Option, Some, None, slice_get, IfSome}
use Rattle.std.specs.List.{AllByRecursion}
use Rattle.std.specs.Str.{bytes_eq}
use Rattle.std.proofs.lemmas.List.Elements.{recursion_from_All}
use Rattle.type_model.specs.declared.signatures.Interface.{Interface}
use Rattle.type_model.specs.declared.signatures.Operation.{Operation}
use Rattle.type_model.specs.declared.signatures.Exception.{Exception}
use Rattle.type_model.specs.Names.{IsNamed}
use Rattle.type_model.specs.ModelRules.{Parts, IsModel, IsOperation, IsException}
use Rattle.broker_answers.specs.Replies.{IsThrown}
use Rattle.broker_answers.specs.Objects.{Objects, served, place_from, object_with, interface_at, interface_of, has_name, first_named, operation_named, AreServed}

some_is : {A : Type 0} (a b : A) → Some a ≡ Some b → a ≡ b
some_is a b e = cc

none_isnt : {A : Type 0} (a : A) → None ≡ Some a → ⊥
none_isnt a e = absurd (cc)

false_isnt : false ≡ true → ⊥
false_isnt e = absurd (cc)

all_at : {A : Type 0} (P : A → Type 0) (xs : List A) (i : ℕ) (x : A) → AllByRecursion P xs → slice_get xs i ≡ Some x
    → P x
all_at P [] i x all e = absurd (none_isnt x e)
all_at P (y ∷ ys) zero x all e = subst P (some_is y x e) all.0
all_at P (y ∷ ys) (suc i) x all e = all_at P ys i x all.1 e

-- the place of an object is in range
record Within (n p : ℕ) (objects : Objects) : Type 0 where
  pub i : ℕ
  pub at : p ≡ n + i
  pub less : i < length objects

within_by : (n p : ℕ) (object : List ℕ × ℕ) (more : Objects) (b : Bool) (further : Option ℕ)
    → cond b (Some n) further ≡ Some p → (further ≡ Some p → Within (suc n) p more) → Within n p (object ∷ more)
within_by n p object more true further e there =
    record { i = 0; at = omega (arith, some_is n p e); less = omega arith }
within_by n p object more false further e there =
    let w = there e in
    record { i = suc w.i; at = omega (arith, w.at); less = omega (arith, w.less) }

place_within : (n p : ℕ) (key : List ℕ) (objects : Objects) → place_from n key objects ≡ Some p → Within n p objects
place_within n p key [] e = absurd (none_isnt p e)
place_within n p key (object ∷ more) e =
    within_by n p object more (bytes_eq object.0 key) (place_from (suc n) key more) e (place_within (suc n) p key more)

get_within : {A : Type 0} (xs : List A) (i : ℕ) → i < length xs → slice_get xs i ≡ None → ⊥
get_within [] i less e = omega (arith, less)
get_within (x ∷ xs) zero less e = absurd (none_isnt x (sym e))
get_within (x ∷ xs) (suc i) less e = get_within xs i (omega (arith, less)) e

interface_within : (model : Parts) (object : Option (List ℕ × ℕ)) → (object ≡ None → ⊥)
    → IfSome object (λ o. o.1 < length model.interfaces) → interface_at model object ≡ None → ⊥
interface_within model None there less e = there refl
interface_within model (Some object) there less e = get_within model.interfaces object.1 less e

if_some : {A : Type 0} (P : A → Type 0) (o : Option A) → ((x : A) → o ≡ Some x → P x) → IfSome o P
if_some P None h = tt
if_some P (Some x) h = h x refl

pub interface_there : (model : Parts) (objects : Objects) (key : Option (List ℕ)) (place : ℕ) → AreServed model objects
    → object_with objects key ≡ Some place → interface_of (served model objects) place ≡ None → ⊥
interface_there model objects None place rules e none = none_isnt place e
interface_there model objects (Some key) place rules e none =
    let w = place_within 0 place key objects e in
    let P : List ℕ × ℕ → Type 0 = λ o. o.1 < length model.interfaces in
    interface_within model (slice_get objects place)
    (λ gone. get_within objects place (omega (arith, w.at, w.less)) gone)
    (if_some P (slice_get objects place)
    (λ x there. all_at P objects place x (recursion_from_All P objects rules.within) there)) none

named_by : (model : Parts) (name : List ℕ) (number other : ℕ) (b : Bool) (further : Option ℕ)
    → has_name name (slice_get model.operations other) ≡ b → cond b (Some other) further ≡ Some number
    → (further ≡ Some number → slice_get model.operations number ≡ None → ⊥)
    → slice_get model.operations number ≡ None → ⊥
named_by model name number other true further has e there none =
    let same = some_is other number e in
    false_isnt (sym (ap (has_name name) (ap (slice_get model.operations) same ∙ none)) ∙ has)
named_by model name number other false further has e there none = there e none

first_there : (model : Parts) (name numbers : List ℕ) (number : ℕ) → first_named model name numbers ≡ Some number
    → slice_get model.operations number ≡ None → ⊥
first_there model name [] number e none = none_isnt number e
first_there model name (other ∷ more) number e none =
    named_by model name number other (has_name name (slice_get model.operations other)) (first_named model name more)
    refl
    e (first_there model name more number) none

-- an operation that an interface has is there
pub operation_there : (model : Parts) (interface : Interface) (name : List ℕ) (number : ℕ)
    → operation_named model interface name ≡ Some number → slice_get model.operations number ≡ None → ⊥
operation_there model interface name number e none = first_there model name interface.operations number e none

-- and the frame of its request has a name
pub request_named : (model : Parts) (number : ℕ) (operation : Operation) → IsModel model
    → slice_get model.operations number ≡ Some operation → IsNamed model.names operation.request
request_named model number operation rules there =
    let P = IsOperation model.graph model.names (length model.exceptions) in
    (all_at P model.operations number operation (recursion_from_All P model.operations rules.declared.each_operation)
    there).request.named

-- the exceptions of an operation are there
pub exception_there : (model : Parts) (number place exception : ℕ) (operation : Operation) → IsModel model
    → slice_get model.operations number ≡ Some operation → slice_get operation.exceptions place ≡ Some exception
    → slice_get model.exceptions exception ≡ None → ⊥
exception_there model number place exception operation rules there listed none =
    let P = IsOperation model.graph model.names (length model.exceptions) in
    let is = all_at P model.operations number operation
    (recursion_from_All P model.operations rules.declared.each_operation) there in
    let Q : ℕ → Type 0 = λ n. n < length model.exceptions in
    get_within model.exceptions exception
    (all_at Q operation.exceptions place exception (recursion_from_All Q operation.exceptions is.raises) listed) none

-- the frames of an exception and of a reply have names
pub frame_named : (model : Parts) (number : ℕ) (exception : Exception) → IsModel model
    → slice_get model.exceptions number ≡ Some exception → IsNamed model.names exception.frame
frame_named model number exception rules there =
    let P = IsException model.graph model.names in
    (all_at P model.exceptions number exception (recursion_from_All P model.exceptions rules.declared.each_exception)
    there).frame.named

pub thrown_named : (model : Parts) (operation : Operation) (place : ℕ) (exception : Exception) → IsModel model
    → IsThrown model operation place exception → IsNamed model.names exception.frame
thrown_named model operation place exception rules thrown = frame_named model thrown.number exception rules thrown.there
