-- What operations do, by their numbers and names.
use Rattle.std.proofs.Common.{◌≡◌, ℕ, Bool, true, false, cond, ◌||◌, nat_eq, List, [], ◌∷◌, ◌++◌, refl, sym, ap, subst, ◌∙◌, Option, Some, None, option_and_then, slice_get, codes, eqb-true, eq-eqb, ne_eqb}
use Rattle.std.specs.List.{list_any}
use Rattle.std.specs.Option.{option_map_or}
use Rattle.std.specs.Str.{bytes_eq}
use Rattle.type_graph.specs.declared.node.Node.{Node}
use Rattle.type_graph.specs.Value.{node_at}
use Rattle.type_model.specs.declared.signatures.Operation.{Operation}
use Rattle.type_model.specs.ModelRules.{Parts}
use Rattle.broker_answers.specs.Objects.{first_named, has_name}
use Rattle.broker_answers.specs.declared.attribute_keeper.action.Action.{Action}
use Rattle.broker_answers.specs.declared.attribute_keeper.action.Action.TheVariants.{Get, Set, Echo, Nothing}
use Rattle.broker_answers.specs.Attributes.{attribute_named, action_at, action_by, action_or, action_where, frame_action, got_by, members_of, place_from, set_by, with_actions}
use Rattle.broker_answers.specs.Keeping.{action_in}
use Rattle.broker_answers.proofs.Names.{some_is, none_isnt, false_isnt, false_unless, same_name, equal_name, named_behind, sets_none, got_is}
use Rattle.broker_answers.proofs.Places.{one_name}

-- an operation of the object does what its number says
pub action_found : (model : Parts) (getters numbers : List ℕ) (number : ℕ)
    → action_in (with_actions model getters numbers) number
    ≡ cond (list_any (λ other. nat_eq other number) numbers) (action_at (attribute_named model getters) model number)
    Nothing
action_found model getters [] number = refl
action_found model getters (m ∷ more) number = by (nat_eq m number) refl (action_found model getters more number) where
  any : Bool
  any = list_any (λ other. nat_eq other number) more

  by : (b : Bool) → nat_eq m number ≡ b
      → action_in (with_actions model getters more) number
      ≡ cond any (action_at (attribute_named model getters) model number) Nothing
      → cond b (action_at (attribute_named model getters) model m) (action_in (with_actions model getters more) number)
      ≡ cond (b || any) (action_at (attribute_named model getters) model number) Nothing
  by true same further = ap (action_at (attribute_named model getters) model) (eqb-true m number same)
  by false same further = further

-- the first that has a name is one of them
pub record IsFound (model : Parts) (name numbers : List ℕ) (number : ℕ) : Type 0 where
  pub among : list_any (λ other. nat_eq other number) numbers ≡ true
  pub named : has_name name (slice_get model.operations number) ≡ true

pub first_found : (model : Parts) (name numbers : List ℕ) (number : ℕ) → first_named model name numbers ≡ Some number
    → IsFound model name numbers number
first_found model name [] number e = absurd (none_isnt number e)
first_found model name (m ∷ more) number e =
    by (has_name name (slice_get model.operations m)) refl e (first_found model name more number)
  where
    or_true : (b : Bool) → (b || true) ≡ true
    or_true true = refl
    or_true false = refl

    by : (b : Bool) → has_name name (slice_get model.operations m) ≡ b
        → cond b (Some m) (first_named model name more) ≡ Some number
        → (first_named model name more ≡ Some number → IsFound model name more number)
        → IsFound model name (m ∷ more) number
    by true is e further =
        let same = some_is m number e in
        record {
          among = ap (λ v. v || list_any (λ other. nat_eq other number) more) (eq-eqb m number same);
          named = ap (λ v. has_name name (slice_get model.operations v)) (sym same) ∙ is;
        }
    by false is e further =
        let found = further e in
        record {
          among = ap (λ v. nat_eq m number || v) found.among ∙ or_true (nat_eq m number);
          named = found.named;
        }

-- ---- what sets

-- whether a action sets the attribute at a place
abbrev pub sets_at : ℕ → Action → Bool
sets_at k (Set j) = nat_eq j k
sets_at k action = false

frames_set_none : (k : ℕ) (request reply : List ℕ) → sets_at k (action_by request reply) ≡ false
frames_set_none k request [] = refl
frames_set_none k request (member ∷ more) = by _ where
  by : (b : Bool) → sets_at k (cond b Echo Nothing) ≡ false
  by true = refl
  by false = refl

frame_sets_none : (k : ℕ) (graph : List Node) (operation : Operation) → sets_at k (frame_action graph operation) ≡ false
frame_sets_none k graph operation =
    frames_set_none k (members_of (node_at graph operation.request)) (members_of (node_at graph operation.reply))

got_sets_none : (k : ℕ) (got : Option ℕ) (other : Action) → sets_at k other ≡ false
    → sets_at k (action_or got None other) ≡ false
got_sets_none k None other e = e
got_sets_none k (Some j) other e = refl

-- the operation `_set_x` sets the attribute x
placed_sets : (model : Parts) (getters name y : List ℕ) (k : ℕ) (other : Action) → sets_at k other ≡ false
    → place_from model 0 name getters ≡ Some k → (p : Option ℕ) → place_from model 0 y getters ≡ p
    → sets_at k (action_or None p other) ≡ bytes_eq y name
placed_sets model getters name y k other e place None none = e ∙ sym (false_unless (bytes_eq y name) (λ t.
    none_isnt k (sym none ∙ ap (λ n. place_from model 0 n getters) (same_name y name t) ∙ place)))
placed_sets model getters name y k other e place (Some j) is = by (bytes_eq y name) refl where
  by : (b : Bool) → bytes_eq y name ≡ b → nat_eq j k ≡ b
  by true t = eq-eqb j k (some_is j k (sym is ∙ ap (λ n. place_from model 0 n getters) (same_name y name t) ∙ place))
  by false f = ne_eqb j k (λ same.
      let one = one_name model 0 k y name getters (is ∙ ap Some same) place in
      false_isnt (sym f ∙ ap (bytes_eq y) (sym one) ∙ equal_name y))

pub operation_sets : (model : Parts) (getters name : List ℕ) (k : ℕ) (operation : Operation)
    → place_from model 0 name getters ≡ Some k
    → sets_at k (action_where (attribute_named model getters) model.graph operation)
    ≡ bytes_eq operation.name (codes "_set_" ++ name)
operation_sets model getters name k operation place =
    by_got (got_by operation) refl ∙ sym (named_behind (codes "_set_") operation.name name)
  where
    frame : Action
    frame = frame_action model.graph operation

    none : sets_at k frame ≡ false
    none = frame_sets_none k model.graph operation

    is_name : Option (List ℕ) → Bool
    is_name o = option_map_or (λ other. bytes_eq other name) o false

    by_set : (set : Option (List ℕ))
        → sets_at k (action_or None (option_and_then (attribute_named model getters) set) frame) ≡ is_name set
    by_set None = none
    by_set (Some y) = placed_sets model getters name y k frame none place (place_from model 0 y getters) refl

    by_got : (got : Option (List ℕ)) → got_by operation ≡ got
        → sets_at k (action_or (option_and_then (attribute_named model getters) got)
        (option_and_then (attribute_named model getters) (set_by operation)) frame)
        ≡ is_name (set_by operation)
    by_got None e = by_set (set_by operation)
    by_got (Some x) e =
        subst (λ s. sets_at k (action_or (place_from model 0 x getters)
        (option_and_then (attribute_named model getters) s) frame) ≡ is_name s)
        (sym (sets_none operation x e)) (got_sets_none k (place_from model 0 x getters) frame none)

pub number_sets : (model : Parts) (getters name : List ℕ) (k : ℕ) (number : ℕ)
    → place_from model 0 name getters ≡ Some k
    → sets_at k (action_at (attribute_named model getters) model number)
    ≡ has_name (codes "_set_" ++ name) (slice_get model.operations number)
number_sets model getters name k number place = by (slice_get model.operations number) where
  by : (o : Option Operation)
      → sets_at k (option_map_or (action_where (attribute_named model getters) model.graph) o Nothing)
      ≡ has_name (codes "_set_" ++ name) o
  by None = refl
  by (Some operation) = operation_sets model getters name k operation place

-- ---- what gets

-- the operation `_get_x` gets the attribute x
pub number_gets : (model : Parts) (getters name : List ℕ) (k number : ℕ) → place_from model 0 name getters ≡ Some k
    → has_name (codes "_get_" ++ name) (slice_get model.operations number) ≡ true
    → action_at (attribute_named model getters) model number ≡ Get k
number_gets model getters name k number there = by (slice_get model.operations number) where
  by : (o : Option Operation) → has_name (codes "_get_" ++ name) o ≡ true
      → option_map_or (action_where (attribute_named model getters) model.graph) o Nothing ≡ Get k
  by None e = absurd (false_isnt e)
  by (Some operation) e =
      ap (λ o. action_or (option_and_then place o) set frame) (got_is operation name e)
      ∙ ap (λ o. action_or o set frame) there
    where
      place : List ℕ → Option ℕ
      place = attribute_named model getters

      set : Option ℕ
      set = option_and_then place (set_by operation)

      frame : Action
      frame = frame_action model.graph operation
