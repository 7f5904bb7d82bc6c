-- The places of attributes.
use Rattle.std.proofs.Common.{◌≡◌, ℕ, suc, ◌+◌, ◌≤◌, Bool, true, false, cond, List, [], ◌∷◌, ◌++◌, refl, sym, ap, subst, ◌∙◌, arith, Option, Some, None, slice_get, codes, is_some}
use Rattle.std.specs.Option.{option_map_or}
use Rattle.std.specs.Str.{bytes_eq}
use Rattle.type_model.specs.declared.signatures.Operation.{Operation}
use Rattle.type_model.specs.ModelRules.{Parts}
use Rattle.broker_answers.specs.Objects.{first_named, has_name}
use Rattle.broker_answers.specs.Attributes.{getters_of, gets, got_by, is_getter, is_getter_of, place_from}
use Rattle.broker_answers.proofs.Names.{some_is, none_isnt, false_isnt, same_name, named_behind, got_is}

pub gets_by_name : (model : Parts) (name : List ℕ) (number : ℕ)
    → is_getter_of model name number ≡ has_name (codes "_get_" ++ name) (slice_get model.operations number)
gets_by_name model name number = by (slice_get model.operations number) where
  by : (o : Option Operation) → option_map_or (gets name) o false ≡ has_name (codes "_get_" ++ name) o
  by None = refl
  by (Some operation) = sym (named_behind (codes "_get_") operation.name name)

getter_by_name : (model : Parts) (name : List ℕ) (number : ℕ)
    → has_name (codes "_get_" ++ name) (slice_get model.operations number) ≡ true → is_getter model number ≡ true
getter_by_name model name number = by (slice_get model.operations number) where
  by : (o : Option Operation) → has_name (codes "_get_" ++ name) o ≡ true
      → option_map_or (λ operation. is_some (got_by operation)) o false ≡ true
  by None e = absurd (false_isnt e)
  by (Some operation) e = ap is_some (got_is operation name e)

-- ---- one place has one name

one_got : (x y : List ℕ) (o : Option (List ℕ)) → option_map_or (λ other. bytes_eq other x) o false ≡ true
    → option_map_or (λ other. bytes_eq other y) o false ≡ true → x ≡ y
one_got x y None ex ey = absurd (false_isnt ex)
one_got x y (Some other) ex ey = sym (same_name other x ex) ∙ same_name other y ey

one_gotten : (x y : List ℕ) (o : Option Operation) → option_map_or (gets x) o false ≡ true
    → option_map_or (gets y) o false ≡ true → x ≡ y
one_gotten x y None ex ey = absurd (false_isnt ex)
one_gotten x y (Some operation) ex ey = one_got x y (got_by operation) ex ey

above : (model : Parts) (n k : ℕ) (name getters : List ℕ) → place_from model n name getters ≡ Some k → n ≤ k
above model n k name [] e = absurd (none_isnt k e)
above model n k name (getter ∷ more) e = by (is_getter_of model name getter) e (above model (suc n) k name more) where
  by : (b : Bool) → cond b (Some n) (place_from model (suc n) name more) ≡ Some k
      → (place_from model (suc n) name more ≡ Some k → suc n ≤ k) → n ≤ k
  by true e further = omega (arith, some_is n k e)
  by false e further = omega (arith, further e)

pub one_name : (model : Parts) (n k : ℕ) (x y getters : List ℕ) → place_from model n x getters ≡ Some k
    → place_from model n y getters ≡ Some k → x ≡ y
one_name model n k x y [] ex ey = absurd (none_isnt k ex)
one_name model n k x y (getter ∷ more) ex ey =
    by (is_getter_of model x getter) (is_getter_of model y getter) refl refl ex ey (one_name model (suc n) k x y more)
  where
    by : (b c : Bool) → is_getter_of model x getter ≡ b → is_getter_of model y getter ≡ c
        → cond b (Some n) (place_from model (suc n) x more) ≡ Some k
        → cond c (Some n) (place_from model (suc n) y more) ≡ Some k
        → (place_from model (suc n) x more ≡ Some k → place_from model (suc n) y more ≡ Some k → x ≡ y) → x ≡ y
    by true true tx ty ex ey further = one_gotten x y (slice_get model.operations getter) tx ty
    by true false tx ty ex ey further =
        let at = some_is n k ex in let past = above model (suc n) k y more ey in absurd (omega (arith, at, past))
    by false true tx ty ex ey further =
        let at = some_is n k ey in let past = above model (suc n) k x more ex in absurd (omega (arith, at, past))
    by false false tx ty ex ey further = further ex ey

-- ---- the attribute of a name is there

-- the first attribute of a name is got by this operation; n is the place of the first of all
pub record IsGot (model : Parts) (n : ℕ) (name : List ℕ) (getter : ℕ) (getters : List ℕ) : Type 0 where
  pub k : ℕ
  pub place : place_from model n name getters ≡ Some (n + k)
  pub there : slice_get getters k ≡ Some getter

pub got_there : (model : Parts) (n : ℕ) (name numbers : List ℕ) (getter : ℕ)
    → first_named model (codes "_get_" ++ name) numbers ≡ Some getter
    → IsGot model n name getter (getters_of model numbers)
got_there model n name [] getter e = absurd (none_isnt getter e)
got_there model n name (m ∷ more) getter e =
    by (has_name (codes "_get_" ++ name) (slice_get model.operations m)) refl e
    (λ n. got_there model n name more getter)
  where
    rest : List ℕ
    rest = getters_of model more

    with_first : (b : Bool) → is_getter model m ≡ b → IsGot model n name getter (cond b (m ∷ rest) rest)
        → IsGot model n name getter (getters_of model (m ∷ more))
    with_first b is got = subst (λ v. IsGot model n name getter (cond v (m ∷ rest) rest)) (sym is) got

    passed : (b : Bool) → is_getter_of model name m ≡ false
        → IsGot model (suc n) name getter rest → IsGot model n name getter rest
        → IsGot model n name getter (cond b (m ∷ rest) rest)
    passed true other next same = record {
      k = suc next.k;
      place = ap (λ v. cond v (Some n) (place_from model (suc n) name rest)) other ∙ next.place ∙ ap Some (omega arith);
      there = next.there;
    }
    passed false other next same = same

    by : (b : Bool) → has_name (codes "_get_" ++ name) (slice_get model.operations m) ≡ b
        → cond b (Some m) (first_named model (codes "_get_" ++ name) more) ≡ Some getter
        → ((n : ℕ) → first_named model (codes "_get_" ++ name) more ≡ Some getter → IsGot model n name getter rest)
        → IsGot model n name getter (getters_of model (m ∷ more))
    by true is e further = with_first true (getter_by_name model name m is) (record {
      k = 0;
      place = ap (λ v. cond v (Some n) (place_from model (suc n) name rest)) (gets_by_name model name m ∙ is)
          ∙ ap Some (omega arith);
      there = e;
    })
    by false is e further =
        with_first (is_getter model m) refl
        (passed (is_getter model m) (gets_by_name model name m ∙ is) (further (suc n) e) (further n e))
