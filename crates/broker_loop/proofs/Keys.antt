-- The numbers of connections that are kept.
use Rattle.std.proofs.Common.{◌≡◌, ◌≢◌, ℕ, zero, suc, Bool, true, false, cond, nat_eq, List, [], ◌∷◌, ◌++◌, Option, Some, None, length, refl, sym, ap, subst, ◌∙◌, arith}
use Rattle.std.specs.List.{All, Contains}
use Rattle.std.proofs.lemmas.Bool.{eq-eqb, eqb-true}
use Rattle.std.proofs.lemmas.List.Elements.{All-head, All-tail}
use Rattle.broker_answers.specs.Connections.{at, put, without}
use Rattle.broker_loop.specs.inner.Going.{keys}

none_some : {A B : Type 0} (a : A) → None ≡ Some a → B
none_some a e = absurd (cc)

some_is : {A : Type 0} (a b : A) → Some a ≡ Some b → a ≡ b
some_is a b e = cc

nil_cons : {A B : Type 0} (x : A) (xs : List A) → [] ≡ x ∷ xs → B
nil_cons x xs e = absurd (cc)

cons_head : {A : Type 0} (x y : A) (xs ys : List A) → x ∷ xs ≡ y ∷ ys → x ≡ y
cons_head x y xs ys e = cc

cons_tail : {A : Type 0} (x y : A) (xs ys : List A) → x ∷ xs ≡ y ∷ ys → xs ≡ ys
cons_tail x y xs ys e = cc

pub keys_put : {C : Type 0} (c : ℕ) (kept : C) (there : List (ℕ × C)) → keys (put c kept there) ≡ keys there
keys_put c kept [] = refl
keys_put {C} c kept (one ∷ more) = by (nat_eq c one.0) refl (keys_put c kept more) where
  by : (b : Bool) → nat_eq c one.0 ≡ b → keys (put c kept more) ≡ keys more
      → keys (cond b ((c, kept) ∷ more) (one ∷ put c kept more)) ≡ one.0 ∷ keys more
  by true is e = ap (λ (n : ℕ). n ∷ keys more) (eqb-true c one.0 is)
  by false is e = ap (λ (ns : List ℕ). one.0 ∷ ns) e

unequal : (c d : ℕ) (b : Bool) → nat_eq c d ≡ b → (d ≡ c → ⊥) → nat_eq c d ≡ false
unequal c d true is differs = absurd (differs (sym (eqb-true c d is)))
unequal c d false is differs = is

pub keys_without : {C : Type 0} (c : ℕ) (there : List (ℕ × C)) (front back : List ℕ) → keys there ≡ front ++ c ∷ back
    → All (λ n. n ≢ c) front → keys (without c there) ≡ front ++ back
keys_without c [] [] back e differs = nil_cons c back e
keys_without c [] (n ∷ front) back e differs = nil_cons n (front ++ c ∷ back) e
keys_without {C} c (one ∷ more) [] back e differs =
    ap (λ (b : Bool). keys (cond b more (one ∷ without c more)))
    (eq-eqb c one.0 (sym (cons_head one.0 c (keys more) back e)))
    ∙ cons_tail one.0 c (keys more) back e
keys_without {C} c (one ∷ more) (n ∷ front) back e differs =
    let is = cons_head one.0 n (keys more) (front ++ c ∷ back) e in
    let not_c : one.0 ≢ c = λ same. All-head (λ m. m ≢ c) n front differs (sym is ∙ same) in
    ap (λ (b : Bool). keys (cond b more (one ∷ without c more))) (unequal c one.0 (nat_eq c one.0) refl not_c)
    ∙ ap (λ (ns : List ℕ). one.0 ∷ ns)
    (keys_without c more front back (cons_tail one.0 n (keys more) (front ++ c ∷ back) e)
    (All-tail (λ m. m ≢ c) n front differs))
    ∙ ap (λ (m : ℕ). m ∷ front ++ back) is

pub at_absent : {C : Type 0} (c : ℕ) (there : List (ℕ × C)) → All (λ n. n ≢ c) (keys there) → at c there ≡ None
at_absent c [] differs = refl
at_absent c (one ∷ more) differs =
    ap (λ (b : Bool). cond b (Some one.1) (at c more))
    (unequal c one.0 (nat_eq c one.0) refl (All-head (λ m. m ≢ c) one.0 (keys more) differs))
    ∙ at_absent c more (All-tail (λ m. m ≢ c) one.0 (keys more) differs)

-- what is kept of a connection
abbrev pub IsKept : {C : Type 0} → ℕ → List (ℕ × C) → Type 0
IsKept {C} c there = (kept : C) × (at c there ≡ Some kept)

at_first : {C : Type 0} (c : ℕ) (one : ℕ × C) (more : List (ℕ × C)) (b : Bool) → nat_eq c one.0 ≡ b
    → Contains (one.0 ∷ keys more) c → (Contains (keys more) c → IsKept c more) → IsKept c (one ∷ more)
at_first c one more true is there further = (one.1, ap (λ (b : Bool). cond b (Some one.1) (at c more)) is)
at_first c one more false is (zero, lt, e) further =
    absurd (let both : true ≡ false = sym (eq-eqb c one.0 (sym e)) ∙ is in cc)
at_first c one more false is (suc k, lt, e) further =
    let found = further (k, omega (arith, lt), e) in
    (found.0, ap (λ (b : Bool). cond b (Some one.1) (at c more)) is ∙ found.1)

pub at_found : {C : Type 0} (c : ℕ) (there : List (ℕ × C)) → Contains (keys there) c → IsKept c there
at_found c [] (k, lt, e) = absurd (omega (arith, lt))
at_found c (one ∷ more) h = at_first c one more (nat_eq c one.0) refl h (at_found c more)

-- what holds of all holds of the first with the number
all_at_by : {C : Type 0} (P : ℕ × C → Type 0) (c : ℕ) (one : ℕ × C) (more : List (ℕ × C)) (kept : C) (b : Bool)
    → nat_eq c one.0 ≡ b
    → P one → (at c more ≡ Some kept → P (c, kept)) → cond b (Some one.1) (at c more) ≡ Some kept → P (c, kept)
all_at_by {C} P c one more kept true is p further e =
    subst (λ (x : C). P (c, x)) (some_is one.1 kept e) (subst (λ (n : ℕ). P (n, one.1)) (sym (eqb-true c one.0 is)) p)
all_at_by P c one more kept false is p further e = further e

pub all_at : {C : Type 0} (P : ℕ × C → Type 0) (c : ℕ) (there : List (ℕ × C)) (kept : C) → All P there
    → at c there ≡ Some kept
    → P (c, kept)
all_at P c [] kept h e = none_some kept e
all_at P c (one ∷ more) kept h e =
    all_at_by P c one more kept (nat_eq c one.0) refl (All-head P one more h)
    (all_at P c more kept (All-tail P one more h)) e

pub no_keys : {C : Type 0} (there : List (ℕ × C)) → keys there ≡ [] → there ≡ []
no_keys [] e = refl
no_keys (one ∷ more) e = nil_cons one.0 (keys more) (sym e)

pub no_items : {A : Type 0} (items : List A) → length items ≡ 0 → items ≡ []
no_items [] e = refl
no_items (x ∷ xs) e = absurd (omega (arith, e))

-- ---- what is kept of the others

pub at_put : {C : Type 0} (c : ℕ) (was kept : C) (there : List (ℕ × C)) → at c there ≡ Some was
    → at c (put c kept there) ≡ Some kept
at_put c was kept [] e = none_some was e
at_put {C} c was kept (one ∷ more) e = by (nat_eq c one.0) refl (at_put c was kept more) where
  by : (b : Bool) → nat_eq c one.0 ≡ b → (at c more ≡ Some was → at c (put c kept more) ≡ Some kept)
      → at c (cond b ((c, kept) ∷ more) (one ∷ put c kept more)) ≡ Some kept
  by true is further = ap (λ (b : Bool). cond b (Some kept) (at c more)) (eq-eqb c c refl)
  by false is further =
      ap (λ (b : Bool). cond b (Some one.1) (at c (put c kept more))) is
      ∙ further (sym (ap (λ (b : Bool). cond b (Some one.1) (at c more)) is) ∙ e)

pub at_put_other : {C : Type 0} (c d : ℕ) (kept : C) (there : List (ℕ × C)) → c ≢ d
    → at c (put d kept there) ≡ at c there
at_put_other c d kept [] differs = refl
at_put_other {C} c d kept (one ∷ more) differs = by (nat_eq d one.0) refl (at_put_other c d kept more differs) where
  by : (b : Bool) → nat_eq d one.0 ≡ b → at c (put d kept more) ≡ at c more
      → at c (cond b ((d, kept) ∷ more) (one ∷ put d kept more)) ≡ at c (one ∷ more)
  by true is e =
      ap (λ (b : Bool). cond b (Some kept) (at c more)) (unequal c d (nat_eq c d) refl (λ same. differs (sym same)))
      ∙ sym (ap (λ (b : Bool). cond b (Some one.1) (at c more))
      (unequal c one.0 (nat_eq c one.0) refl (λ same. differs (sym same ∙ sym (eqb-true d one.0 is)))))
  by false is e = ap (λ (k : Option C). cond (nat_eq c one.0) (Some one.1) k) e

pub at_without_other : {C : Type 0} (c d : ℕ) (there : List (ℕ × C)) → c ≢ d → at c (without d there) ≡ at c there
at_without_other c d [] differs = refl
at_without_other {C} c d (one ∷ more) differs = by (nat_eq d one.0) refl (at_without_other c d more differs) where
  by : (b : Bool) → nat_eq d one.0 ≡ b → at c (without d more) ≡ at c more
      → at c (cond b more (one ∷ without d more)) ≡ at c (one ∷ more)
  by true is e =
      sym (ap (λ (b : Bool). cond b (Some one.1) (at c more))
      (unequal c one.0 (nat_eq c one.0) refl (λ same. differs (sym same ∙ sym (eqb-true d one.0 is)))))
  by false is e = ap (λ (k : Option C). cond (nat_eq c one.0) (Some one.1) k) e

pub at_more_other : {C : Type 0} (c d : ℕ) (kept : C) (there : List (ℕ × C)) → c ≢ d
    → at c (there ++ (d, kept) ∷ []) ≡ at c there
at_more_other c d kept [] differs =
    ap (λ (b : Bool). cond b (Some kept) None) (unequal c d (nat_eq c d) refl (λ same. differs (sym same)))
at_more_other {C} c d kept (one ∷ more) differs =
    ap (λ (k : Option C). cond (nat_eq c one.0) (Some one.1) k) (at_more_other c d kept more differs)
