-- What is kept after many calls.
use Rattle.std.proofs.Common.{◌≡◌, ◌≢◌, ℕ, zero, suc, ◌<◌, Bool, true, false, cond, ◌&&◌, nat_eq, List, [], ◌∷◌, ◌++◌, length, map, refl, sym, ap, subst, ◌∙◌, arith, Some, slice_get, slice_index_or, slice_set, codes, eqb-true, zero-add}
use Rattle.std.proofs.lemmas.Bool.{eqb-false}
use Rattle.std.specs.List.{list_any}
use Rattle.std.specs.Option.{option_map_or}
use Rattle.std.proofs.lemmas.List.{get_or-set_same, get_or-set_other, length-set}
use Rattle.type_model.specs.ModelRules.{Parts}
use Rattle.broker_answers.specs.Objects.{Objects, Served, first_named, has_name}
use Rattle.broker_answers.specs.Servants.{Call, Done}
use Rattle.broker_answers.specs.declared.attribute_keeper.action.Action.{Action}
use Rattle.broker_answers.specs.declared.attribute_keeper.action.Action.TheVariants.{Get, Set, Empty, Echo, Nothing}
use Rattle.broker_answers.specs.Attributes.{attribute_named, action_at, first_tape, getters_of, operations_at, place_from}
use Rattle.broker_answers.specs.Keeping.{Keeping, after, all_actions, all_zeros, action, action_in, actions_of, first_keeping, kept_after, said, says, tape_at, tapes_at, with_tape, zeros_of}
use Rattle.broker_answers.specs.History.{after_all, is_setter, last_set, operations_served, sets}
use Rattle.broker_answers.proofs.Names.{none_isnt}
use Rattle.broker_answers.proofs.Places.{IsGot, got_there}
use Rattle.broker_answers.proofs.Actions.{action_found, first_found, IsFound, number_gets, number_sets, sets_at}

-- ---- at first

served_actions : (model : Parts) (objects : Objects) (object : ℕ)
    → slice_index_or (all_actions model objects) object []
    ≡ actions_of model (option_map_or (λ o. operations_at model o.1) (slice_get objects object) [])
served_actions model [] object = refl
served_actions model (o ∷ more) zero = refl
served_actions model (o ∷ more) (suc object) = served_actions model more object

served_zeros : (model : Parts) (objects : Objects) (object : ℕ)
    → slice_index_or (all_zeros model objects) object []
    ≡ zeros_of model (option_map_or (λ o. operations_at model o.1) (slice_get objects object) [])
served_zeros model [] object = refl
served_zeros model (o ∷ more) zero = refl
served_zeros model (o ∷ more) (suc object) = served_zeros model more object

zeros_there : (model : Parts) (objects : Objects) (object number : ℕ) (name : List ℕ)
    → first_named model name (option_map_or (λ o. operations_at model o.1) (slice_get objects object) []) ≡ Some number
    → object < length (all_zeros model objects)
zeros_there model [] object number name e = absurd (none_isnt number e)
zeros_there model (o ∷ more) zero number name e = omega arith
zeros_there model (o ∷ more) (suc object) number name e = let less = zeros_there model more object number name e in
    omega (arith, less)

mapped_at : {A B : Type 0} (f : A → B) (xs : List A) (k : ℕ) (x : A) (d : B) → slice_get xs k ≡ Some x
    → slice_index_or (map f xs) k d ≡ f x
mapped_at f [] k x d e = absurd (none_isnt x e)
mapped_at f (y ∷ ys) zero x d e = let same : y ≡ x = cc in ap f same
mapped_at f (y ∷ ys) (suc k) x d e = mapped_at f ys k x d e

mapped_within : {A B : Type 0} (f : A → B) (xs : List A) (k : ℕ) (x : A) → slice_get xs k ≡ Some x
    → k < length (map f xs)
mapped_within f [] k x e = absurd (none_isnt x e)
mapped_within f (y ∷ ys) zero x e = omega arith
mapped_within f (y ∷ ys) (suc k) x e = let less = mapped_within f ys k x e in omega (arith, less)

-- ---- a call

-- an object has an attribute at a place, and its operations do what they did at first
record IsReady (s : Served) (object k : ℕ) (kept : Keeping) : Type 0 where
  pub actions : kept.actions ≡ all_actions s.model s.objects
  pub there : object < length kept.tapes
  pub held : k < length (tapes_at kept object)

tapes_same : (kept : Keeping) (object j : ℕ) (tape : List ℕ) → object < length kept.tapes
    → tapes_at (with_tape kept object j tape) object ≡ slice_set (tapes_at kept object) j tape
tapes_same kept object j tape there =
    get_or-set_same kept.tapes object (slice_set (tapes_at kept object) j tape) [] there

tapes_other : (kept : Keeping) (object other j : ℕ) (tape : List ℕ) → other ≢ object
    → tapes_at (with_tape kept object j tape) other ≡ tapes_at kept other
tapes_other kept object other j tape apart =
    get_or-set_other kept.tapes object other (slice_set (tapes_at kept object) j tape) [] apart

set_ready : (s : Served) (object k : ℕ) (kept : Keeping) (at j : ℕ) (tape : List ℕ) (same : Bool)
    → nat_eq at object ≡ same
    → IsReady s object k kept → IsReady s object k (with_tape kept at j tape)
set_ready s object k kept at j tape true same r = record {
  actions = r.actions;
  there = subst (λ n. object < n) (sym (length-set kept.tapes at (slice_set (tapes_at kept at) j tape))) r.there;
  held = subst (λ o. k < length (tapes_at (with_tape kept o j tape) object)) (sym (eqb-true at object same))
      (subst (λ ts. k < length ts) (sym (tapes_same kept object j tape r.there))
      (subst (λ n. k < n) (sym (length-set (tapes_at kept object) j tape)) r.held));
}
set_ready s object k kept at j tape false apart r = record {
  actions = r.actions;
  there = subst (λ n. object < n) (sym (length-set kept.tapes at (slice_set (tapes_at kept at) j tape))) r.there;
  held = subst (λ ts. k < length ts) (sym (tapes_other kept at object j tape (λ e. eqb-false at object apart (sym e))))
      r.held;
}

stays_ready : (s : Served) (object k : ℕ) (kept : Keeping) (call : Call) (d : Action) → IsReady s object k kept
    → IsReady s object k (kept_after kept call d)
stays_ready s object k kept call (Get j) r = r
stays_ready s object k kept call (Set j) r =
    set_ready s object k kept call.object j call.arguments (nat_eq call.object object) refl r
stays_ready s object k kept call Empty r = r
stays_ready s object k kept call Echo r = r
stays_ready s object k kept call Nothing r = r

unset : (b : Bool) (tape other : List ℕ) → other ≡ cond (b && false) tape other
unset true tape other = refl
unset false tape other = refl

place_set : (tapes : List (List ℕ)) (j k : ℕ) (tape : List ℕ) (same : Bool) → nat_eq j k ≡ same → k < length tapes
    → slice_index_or (slice_set tapes j tape) k [] ≡ cond same tape (slice_index_or tapes k [])
place_set tapes j k tape true same held =
    ap (λ n. slice_index_or (slice_set tapes n tape) k []) (eqb-true j k same) ∙ get_or-set_same tapes k tape [] held
place_set tapes j k tape false apart held = get_or-set_other tapes j k tape [] (λ e. eqb-false j k apart (sym e))

tape_set : (s : Served) (object k : ℕ) (kept : Keeping) (at j : ℕ) (tape : List ℕ) (same : Bool)
    → nat_eq at object ≡ same
    → IsReady s object k kept
    → tape_at (with_tape kept at j tape) object k ≡ cond (same && nat_eq j k) tape (tape_at kept object k)
tape_set s object k kept at j tape true same r =
    ap (λ o. tape_at (with_tape kept o j tape) object k) (eqb-true at object same)
    ∙ ap (λ ts. slice_index_or ts k []) (tapes_same kept object j tape r.there)
    ∙ place_set (tapes_at kept object) j k tape (nat_eq j k) refl r.held
tape_set s object k kept at j tape false apart r =
    ap (λ ts. slice_index_or ts k []) (tapes_other kept at object j tape (λ e. eqb-false at object apart (sym e)))

-- a call sets the tape, or it stays
tape_after : (s : Served) (object k : ℕ) (kept : Keeping) (call : Call) (d : Action) → IsReady s object k kept
    → tape_at (kept_after kept call d) object k
    ≡ cond (nat_eq call.object object && sets_at k d) call.arguments (tape_at kept object k)
tape_after s object k kept call (Get j) r = unset (nat_eq call.object object) call.arguments (tape_at kept object k)
tape_after s object k kept call (Set j) r =
    tape_set s object k kept call.object j call.arguments (nat_eq call.object object) refl r
tape_after s object k kept call Empty r = unset (nat_eq call.object object) call.arguments (tape_at kept object k)
tape_after s object k kept call Echo r = unset (nat_eq call.object object) call.arguments (tape_at kept object k)
tape_after s object k kept call Nothing r = unset (nat_eq call.object object) call.arguments (tape_at kept object k)

-- what an operation does by its number
abbrev action_served_at : Served → ℕ → ℕ → Action
action_served_at s object number =
    action_at (attribute_named s.model (getters_of s.model (operations_served s object))) s.model number

-- what a call to an object does is by its number alone
action_served : (s : Served) (kept : Keeping) (call : Call) → kept.actions ≡ all_actions s.model s.objects
    → action kept call
    ≡ cond (list_any (λ other. nat_eq other call.operation) (operations_served s call.object))
    (action_served_at s call.object call.operation) Nothing
action_served s kept call actions =
    ap (λ ds. action_in (slice_index_or ds call.object []) call.operation) actions
    ∙ ap (λ rows. action_in rows call.operation) (served_actions s.model s.objects call.object)
    ∙ action_found s.model (getters_of s.model (operations_served s call.object)) (operations_served s call.object)
    call.operation

-- whether a call sets the attribute is by its operation's name
sets_by_name : (s : Served) (object k : ℕ) (name : List ℕ) (kept : Keeping) (call : Call)
    → kept.actions ≡ all_actions s.model s.objects
    → place_from s.model 0 name (getters_of s.model (operations_served s object)) ≡ Some k
    → (nat_eq call.object object && sets_at k (action kept call)) ≡ sets s object name call
sets_by_name s object k name kept call actions place = by (nat_eq call.object object) refl where
  among : (b : Bool) → sets_at k (cond b (action_served_at s object call.operation) Nothing)
      ≡ (b && has_name (codes "_set_" ++ name) (slice_get s.model.operations call.operation))
  among true = number_sets s.model (getters_of s.model (operations_served s object)) name k call.operation place
  among false = refl

  by : (same : Bool) → nat_eq call.object object ≡ same
      → (same && sets_at k (action kept call)) ≡ (same && is_setter s object name call.operation)
  by true same =
      ap (sets_at k) (action_served s kept call actions
      ∙ ap (λ o. cond (list_any (λ other. nat_eq other call.operation) (operations_served s o))
      (action_served_at s o call.operation) Nothing) (eqb-true call.object object same))
      ∙ among (list_any (λ other. nat_eq other call.operation) (operations_served s object))
  by false apart = refl

-- ---- many calls

all_ready : (s : Served) (object k : ℕ) (kept : Keeping) (calls : List Call) → IsReady s object k kept
    → IsReady s object k (after_all kept calls)
all_ready s object k kept [] r = r
all_ready s object k kept (call ∷ calls) r =
    all_ready s object k (after kept call) calls (stays_ready s object k kept call (action kept call) r)

all_set : (s : Served) (object k : ℕ) (name : List ℕ) (kept : Keeping) (calls : List Call) → IsReady s object k kept
    → place_from s.model 0 name (getters_of s.model (operations_served s object)) ≡ Some k
    → tape_at (after_all kept calls) object k ≡ last_set (sets s object name) (tape_at kept object k) calls
all_set s object k name kept [] r place = refl
all_set s object k name kept (call ∷ calls) r place =
    all_set s object k name (after kept call) calls (stays_ready s object k kept call (action kept call) r) place
    ∙ ap (λ tape. last_set (sets s object name) tape calls)
    (tape_after s object k kept call (action kept call) r
    ∙ ap (λ b. cond b call.arguments (tape_at kept object k)) (sets_by_name s object k name kept call r.actions place))

-- the call gets the attribute, whatever was called before
gets_then : (s : Served) (x : List ℕ) (call : Call) (k : ℕ) (kept : Keeping)
    → kept.actions ≡ all_actions s.model s.objects
    → place_from s.model 0 x (getters_of s.model (operations_served s call.object)) ≡ Some k
    → IsFound s.model (codes "_get_" ++ x) (operations_served s call.object) call.operation → action kept call ≡ Get k
gets_then s x call k kept actions place found =
    action_served s kept call actions
    ∙ ap (λ b. cond b (action_served_at s call.object call.operation) Nothing) found.among
    ∙ number_gets s.model (getters_of s.model (operations_served s call.object)) x k call.operation place found.named

pub says_last_set : (s : Served) (x : List ℕ) (call : Call) (before : List Call)
    → first_named s.model (codes "_get_" ++ x) (operations_served s call.object) ≡ Some call.operation
    → says (after_all (first_keeping s.model s.objects) before) call
    ≡ Done (last_set (sets s call.object x) (first_tape s.model call.operation) before)
says_last_set s x call before e =
    ap (said last call) (gets_then s x call got.k last ready_last.actions place
    (first_found s.model (codes "_get_" ++ x) numbers call.operation e))
    ∙ ap Done (all_set s call.object got.k x first before ready place
    ∙ ap (λ tape. last_set (sets s call.object x) tape before) zeros)
  where
    numbers : List ℕ
    numbers = operations_served s call.object

    first : Keeping
    first = first_keeping s.model s.objects

    last : Keeping
    last = after_all first before

    got : IsGot s.model 0 x call.operation (getters_of s.model numbers)
    got = got_there s.model 0 x numbers call.operation e

    place : place_from s.model 0 x (getters_of s.model numbers) ≡ Some got.k
    place = got.place ∙ ap Some (zero-add got.k)

    ready : IsReady s call.object got.k first
    ready = record {
      actions = refl;
      there = zeros_there s.model s.objects call.object call.operation (codes "_get_" ++ x) e;
      held = subst (λ ts. got.k < length ts) (sym (served_zeros s.model s.objects call.object))
          (mapped_within (first_tape s.model) (getters_of s.model numbers) got.k call.operation got.there);
    }

    ready_last : IsReady s call.object got.k last
    ready_last = all_ready s call.object got.k first before ready

    zeros : tape_at first call.object got.k ≡ first_tape s.model call.operation
    zeros =
        ap (λ ts. slice_index_or ts got.k []) (served_zeros s.model s.objects call.object)
        ∙ mapped_at (first_tape s.model) (getters_of s.model numbers) got.k call.operation [] got.there
