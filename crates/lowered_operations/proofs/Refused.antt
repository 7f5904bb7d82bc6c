-- Operations that are refused, and where that is told.
use Rattle.std.proofs.Common.{◌≡◌, ◌∙◌, ℕ, ◌+◌, Bool, true, false, List, ◌∷◌, [], length, Option, Some, None, Ok, Err, refl, ap}
use Rattle.std.specs.Option.{option_or}
use Rattle.std.specs.Prelude.{◌&&◌, if◌then◌else◌, is_some, nat_lt}
use Rattle.idl_tree.specs.declared.names.At.{At}
use Rattle.idl_tree.specs.declared.names.Listed.{Listed}
use Rattle.idl_tree.specs.declared.names.ScopedName.{ScopedName}
use Rattle.idl_tree.specs.declared.types.ParamType.{ParamType}
use Rattle.idl_tree.specs.declared.definitions.Direction.TheVariants.{Out}
use Rattle.idl_tree.specs.declared.definitions.Operation.{Operation}
use Rattle.idl_tree.specs.Starts.{leaf_at}
use Rattle.type_graph.specs.declared.fault.GraphLimit.TheVariants.{Members as MembersLimit}
use Rattle.name_table.specs.Entry.{Entry}
use Rattle.lowered_types.specs.declared.fault.FirstAnswer.{FirstAnswer}
use Rattle.lowered_types.specs.declared.fault.FirstAnswer.TheVariants.{Exceptions, Result as ResultAnswer}
use Rattle.lowered_types.specs.declared.fault.BuildFault.TheVariants.{Types, OtherNames}
use Rattle.lowered_types.specs.declared.fault.TypeFault.TheVariants.{BadOneway}
use Rattle.lowered_types.specs.declared.place.Place.TheVariants.{Typed}
use Rattle.lowered_types.specs.Faults.{at_most, limit, max_members}
use Rattle.lowered_types.specs.Lowered.{Lowered, place_of}
use Rattle.lowered_types.specs.SimpleTypes.{entry_found}
use Rattle.lowered_types.specs.Types.{member_added}
use Rattle.lowered_types.proofs.Walks.{goes_on, stops}
use Rattle.lowered_operations.specs.declared.frames.Carried.{Carried}
use Rattle.lowered_operations.specs.Oneway.{answer_of, answer_test, oneway_test, param_answer, parts_of, raises_answer, result_answer}
use Rattle.lowered_operations.specs.Frames.{with_carried}
use Rattle.lowered_operations.specs.Operations.{Defined, exception_found, exception_in, operation, raised, with_exception}

-- ---- oneway operations

-- one that answers something
pub answers : (es : List Entry) (scope : ℕ) (d : Defined) (o : Operation) (answer : FirstAnswer) → o.is_oneway ≡ true
    → answer_of o ≡ Some answer
    → operation es scope d o ≡ Err (Types (BadOneway (leaf_at o.identifier) answer))
answers es scope d o answer oneway is =
    let fault = Types (BadOneway (leaf_at o.identifier) answer) in
    let told : oneway_test o ≡ Err fault = ap (λ b. if b then answer_test o (answer_of o) else Ok tt) oneway
    ∙ ap (answer_test o) is in
    stops (oneway_test o) fault _ told

pub has_result : (es : List Entry) (scope : ℕ) (d : Defined) (o : Operation) (t : ParamType) → o.is_oneway ≡ true
    → o.result_type ≡ Some t
    → operation es scope d o ≡ Err (Types (BadOneway (leaf_at o.identifier) ResultAnswer))
has_result es scope d o t oneway is =
    answers es scope d o ResultAnswer oneway
    (ap (λ r. option_or (result_answer r) (option_or (param_answer (parts_of o.params)) (raises_answer o.raises))) is)

-- what comes behind is answered, or something before it
behind_some : (o : Option FirstAnswer) (behind : FirstAnswer) → (answer : FirstAnswer) × (option_or o (Some behind) ≡ Some answer)
behind_some None behind = (behind, refl)
behind_some (Some answer) behind = (answer, refl)

-- a parameter isn't an `in` one
pub has_out : (es : List Entry) (scope : ℕ) (d : Defined) (o : Operation) (p : FirstAnswer) → o.is_oneway ≡ true
    → param_answer (parts_of o.params) ≡ Some p
    → (answer : FirstAnswer) × (operation es scope d o ≡ Err (Types (BadOneway (leaf_at o.identifier) answer)))
has_out es scope d o p oneway is =
    let (answer, some) = behind_some (result_answer o.result_type) p in (
      answer,
      answers es scope d o answer oneway
          (ap (λ r. option_or (result_answer o.result_type) (option_or r (raises_answer o.raises))) is ∙ some),
    )

pub has_raises : (es : List Entry) (scope : ℕ) (d : Defined) (o : Operation) (names : Listed ScopedName)
    → o.is_oneway ≡ true → o.raises ≡ Some names
    → (answer : FirstAnswer) × (operation es scope d o ≡ Err (Types (BadOneway (leaf_at o.identifier) answer)))
has_raises es scope d o names oneway is =
    let (inner, some_inner) = behind_some (param_answer (parts_of o.params)) Exceptions in
    let (answer, some) = behind_some (result_answer o.result_type) inner in (
      answer,
      answers es scope d o answer oneway
          (ap (λ r. option_or (result_answer o.result_type)
          (option_or (param_answer (parts_of o.params)) (raises_answer r))) is
          ∙ ap (option_or (result_answer o.result_type)) some_inner ∙ some),
    )

-- a oneway operation that is lowered answers nothing
pub oneway_kept : (es : List Entry) (scope : ℕ) (d behind : Defined) (o : Operation)
    → operation es scope d o ≡ Ok behind → o.is_oneway ≡ true
    → answer_of o ≡ None
oneway_kept es scope d behind o lowered oneway = by (answer_of o) (λ answer. answers es scope d o answer oneway)
  where
    by : (a : Option FirstAnswer)
        → ((answer : FirstAnswer) → a ≡ Some answer → operation es scope d o
        ≡ Err (Types (BadOneway (leaf_at o.identifier) answer))) → a ≡ None
    by None refused = refl
    by (Some answer) refused = let told = refused answer refl in absurd cc

-- ---- what is raised

-- a type in the place of an exception
pub no_exception : (es : List Entry) (w : Lowered) (scope : ℕ) (name : ScopedName) (names : List ScopedName) (e n : ℕ)
    → entry_found es scope name ≡ Ok e → place_of w e ≡ Some (Typed n)
    → raised es w scope (name ∷ names) ≡ Err OtherNames
no_exception es w scope name names e n found is =
    stops (with_exception es w scope [] name) OtherNames _
    (stops (exception_found es w scope name) OtherNames _
    (goes_on (entry_found es scope name) e (λ e. exception_in (place_of w e)) found ∙ ap exception_in is))

-- ---- frames

-- one type more than a reply may carry
pub full_reply : (c : Carried) (name : List ℕ) (number : ℕ) (at : At)
    → nat_lt max_members (length c.reply.numbers + 1) ≡ true
    → with_carried c name Out number at ≡ Err (limit MembersLimit max_members at)
full_reply c name number at full =
    let fault = limit MembersLimit max_members at in
    let count = length c.reply.numbers + 1 in
    stops (member_added c.reply name number at) fault _
    (stops (at_most max_members MembersLimit at count) fault _ (ap (λ b. if b then Err fault else Ok count) full))
