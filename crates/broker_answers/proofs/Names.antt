-- Names and their fronts.
use Rattle.std.proofs.Common.{◌≡◌, ℕ, Bool, true, false, cond, ◌&&◌, nat_eq, List, [], ◌∷◌, ◌++◌, length, take, drop, refl, ap, Some, None, codes, eqb-true}
use Rattle.std.specs.Option.{option_map_or}
use Rattle.std.specs.Str.{bytes_eq}
use Rattle.std.proofs.lemmas.Slice.Eq.{bytes_eq-Decides}
use Rattle.type_model.specs.declared.signatures.Operation.{Operation}
use Rattle.broker_answers.specs.Attributes.{behind, got_by, set_by}

pub some_is : {A : Type 0} (a b : A) → Some a ≡ Some b → a ≡ b
some_is a b e = cc

pub none_isnt : {A : Type 0} (a : A) → None ≡ Some a → ⊥
none_isnt a e = absurd (cc)

pub false_isnt : false ≡ true → ⊥
false_isnt e = absurd (cc)

pub false_unless : (b : Bool) → (b ≡ true → ⊥) → b ≡ false
false_unless true h = absurd (h refl)
false_unless false h = refl

pub same_name : (one other : List ℕ) → bytes_eq one other ≡ true → one ≡ other
same_name one other e = (bytes_eq-Decides one other).0 e

pub equal_name : (name : List ℕ) → bytes_eq name name ≡ true
equal_name name = (bytes_eq-Decides name name).1 refl

-- a name is a front and what follows it, where that is the same
letter : (same : Bool) (fs ts name : List ℕ)
    → bytes_eq ts (fs ++ name) ≡ option_map_or (λ other. bytes_eq other name) (behind fs ts) false
    → (same && bytes_eq ts (fs ++ name))
    ≡ option_map_or (λ other. bytes_eq other name)
    (cond (same && bytes_eq (take (length fs) ts) fs) (Some (drop (length fs) ts)) None) false
letter true fs ts name e = e
letter false fs ts name e = refl

pub named_behind : (front text name : List ℕ)
    → bytes_eq text (front ++ name) ≡ option_map_or (λ other. bytes_eq other name) (behind front text) false
named_behind [] text name = refl
named_behind (f ∷ fs) [] name = refl
named_behind (f ∷ fs) (t ∷ ts) name = letter (nat_eq t f) fs ts name (named_behind fs ts name)

letter_is : (f t : ℕ) (same : Bool) (fs ts other : List ℕ) → nat_eq t f ≡ same
    → cond (same && bytes_eq (take (length fs) ts) fs) (Some (drop (length fs) ts)) None ≡ Some other
    → (behind fs ts ≡ Some other → ts ≡ fs ++ other) → t ∷ ts ≡ f ∷ (fs ++ other)
letter_is f t true fs ts other same e more = let one = eqb-true t f same in let rest = more e in cc
letter_is f t false fs ts other same e more = absurd (none_isnt other e)

pub behind_is : (front text other : List ℕ) → behind front text ≡ Some other → text ≡ front ++ other
behind_is [] text other e = some_is text other e
behind_is (f ∷ fs) [] other e = absurd (none_isnt other e)
behind_is (f ∷ fs) (t ∷ ts) other e = letter_is f t (nat_eq t f) fs ts other refl e (behind_is fs ts other)

-- an operation that gets an attribute sets none
pub sets_none : (operation : Operation) (x : List ℕ) → got_by operation ≡ Some x → set_by operation ≡ None
sets_none operation x e = ap (behind (codes "_set_")) (behind_is (codes "_get_") operation.name x e)

-- one that is named so gets the attribute
pub got_is : (operation : Operation) (x : List ℕ) → bytes_eq operation.name (codes "_get_" ++ x) ≡ true
    → got_by operation ≡ Some x
got_is operation x e = ap (behind (codes "_get_")) (same_name operation.name (codes "_get_" ++ x) e)
