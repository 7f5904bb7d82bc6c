-- The algebra of relations: what is the same as what, where octets end, and what moves by 8.
use Rattle.std.proofs.Common.{◌≡◌, ℕ, zero, suc, ◌+◌, List, [], ◌∷◌, ◌++◌, length, map, replicate, refl, sym, ap, ◌∙◌, subst, append_assoc, append-nil, length-append, zero-add, arith}
use Rattle.std.specs.List.{AllByRecursion}
use Rattle.type_graph.specs.Relation.{Relation, Nothing, Then, Many, Chain}
use Rattle.type_graph.specs.Comparison.{Positions, Anywhere, Same, Ends, Moves}

-- where octets that are cut in two end
pub end_of_cut : (p : ℕ) (x x1 x2 : List ℕ) → x ≡ x1 ++ x2 → p + length x ≡ p + length x1 + length x2
end_of_cut p x x1 x2 e = rw e (omega (arith, length-append x1 x2))

-- each relates the same as itself
pub same_refl : {S : Positions} {R : Relation} → Same S R R
same_refl = record { to = λ p t x s r. r; from = λ p t x s r. r }

-- and the other way round
pub same_sym : {S : Positions} {R Q : Relation} → Same S R Q → Same S Q R
same_sym e = record { to = e.from; from = e.to }

-- through one between
pub same_trans : {S : Positions} {R Q V : Relation} → Same S R Q → Same S Q V → Same S R V
same_trans e f = record {
  to = λ p t x s r. f.to p t x s (e.to p t x s r);
  from = λ p t x s v. e.from p t x s (f.from p t x s v);
}

-- what is the same everywhere is the same at the positions of a set
pub same_at : {S : Positions} {R Q : Relation} → Same Anywhere R Q → Same S R Q
same_at e = record { to = λ p t x s r. e.to p t x tt r; from = λ p t x s r. e.from p t x tt r }

-- every end is somewhere
pub ends_anywhere : {S : Positions} {R : Relation} → Ends S Anywhere R
ends_anywhere = record { at = λ p t x s r. tt }

-- what is the same ends at the same positions
pub same_ends : {S X : Positions} {R Q : Relation} → Same S R Q → Ends S X R → Ends S X Q
same_ends e f = record { at = λ p t x s q. f.at p t x s (e.from p t x s q) }

-- the second ends where the whole does
pub then_ends : {S X Y : Positions} {R Q : Relation} → Ends S X R → Ends X Y Q → Ends S Y (Then R Q)
then_ends {Y = Y} e f = record {
  at = λ p t x s r. subst Y (sym (end_of_cut p x r.octets1 r.octets2 r.octets_is))
      (f.at (p + length r.octets1) r.tape2 r.octets2 (e.at p r.tape1 r.octets1 s r.first) r.second);
}

-- nothing ends where it starts
pub nothing_ends : {S : Positions} → Ends S S Nothing
nothing_ends {S} = record { at = λ p t x s r. let e : p ≡ p + length x = rw r.no_octets (omega arith) in subst S e s }

-- part by part
pub then_same : {S X : Positions} {R R' Q Q' : Relation} → Same S R R' → Ends S X R → Same X Q Q'
    → Same S (Then R Q) (Then R' Q')
then_same a e b = record {
  to = λ p t x s r. record {
    tape1 = r.tape1;
    tape2 = r.tape2;
    octets1 = r.octets1;
    octets2 = r.octets2;
    tape_is = r.tape_is;
    octets_is = r.octets_is;
    first = a.to p r.tape1 r.octets1 s r.first;
    second = b.to (p + length r.octets1) r.tape2 r.octets2 (e.at p r.tape1 r.octets1 s r.first) r.second;
  };
  from = λ p t x s r. let first = a.from p r.tape1 r.octets1 s r.first in record {
    tape1 = r.tape1;
    tape2 = r.tape2;
    octets1 = r.octets1;
    octets2 = r.octets2;
    tape_is = r.tape_is;
    octets_is = r.octets_is;
    first = first;
    second = b.from (p + length r.octets1) r.tape2 r.octets2 (e.at p r.tape1 r.octets1 s first) r.second;
  };
}

-- part by part, where both parts are the same everywhere
pub then_same_anywhere : {S : Positions} {R R' Q Q' : Relation} → Same Anywhere R R' → Same Anywhere Q Q'
    → Same S (Then R Q) (Then R' Q')
then_same_anywhere a b = then_same (same_at a) ends_anywhere b

-- one behind two is two behind one
pub then_assoc : {S : Positions} {A B C : Relation} → Same S (Then (Then A B) C) (Then A (Then B C))
then_assoc {C = C} = record {
  to = λ p t x s r. record {
    tape1 = r.first.tape1;
    tape2 = r.first.tape2 ++ r.tape2;
    octets1 = r.first.octets1;
    octets2 = r.first.octets2 ++ r.octets2;
    tape_is = r.tape_is ∙ ap (λ l. l ++ r.tape2) r.first.tape_is ∙ append_assoc r.first.tape1 r.first.tape2 r.tape2;
    octets_is = r.octets_is ∙ ap (λ l. l ++ r.octets2) r.first.octets_is
        ∙ append_assoc r.first.octets1 r.first.octets2 r.octets2;
    first = r.first.first;
    second = record {
      tape1 = r.first.tape2;
      tape2 = r.tape2;
      octets1 = r.first.octets2;
      octets2 = r.octets2;
      tape_is = refl;
      octets_is = refl;
      first = r.first.second;
      second = subst (λ q. C q r.tape2 r.octets2)
          (end_of_cut p r.octets1 r.first.octets1 r.first.octets2 r.first.octets_is) r.second;
    };
  };
  from = λ p t x s r. record {
    tape1 = r.tape1 ++ r.second.tape1;
    tape2 = r.second.tape2;
    octets1 = r.octets1 ++ r.second.octets1;
    octets2 = r.second.octets2;
    tape_is = r.tape_is ∙ ap (λ l. r.tape1 ++ l) r.second.tape_is
        ∙ sym (append_assoc r.tape1 r.second.tape1 r.second.tape2);
    octets_is = r.octets_is ∙ ap (λ l. r.octets1 ++ l) r.second.octets_is
        ∙ sym (append_assoc r.octets1 r.second.octets1 r.second.octets2);
    first = record {
      tape1 = r.tape1;
      tape2 = r.second.tape1;
      octets1 = r.octets1;
      octets2 = r.second.octets1;
      tape_is = refl;
      octets_is = refl;
      first = r.first;
      second = r.second.first;
    };
    second = subst (λ q. C q r.second.tape2 r.second.octets2)
        (sym (end_of_cut p (r.octets1 ++ r.second.octets1) r.octets1 r.second.octets1 refl)) r.second.second;
  };
}

-- nothing in front
pub nothing_then : {S : Positions} {R : Relation} → Same S (Then Nothing R) R
nothing_then {R = R} = record {
  to = λ p t x s r.
      let tape : r.tape2 ≡ t = sym (r.tape_is ∙ ap (λ l. l ++ r.tape2) r.first.no_tape) in
      let octets : r.octets2 ≡ x = sym (r.octets_is ∙ ap (λ l. l ++ r.octets2) r.first.no_octets) in
      let place : p + length r.octets1 ≡ p = rw r.first.no_octets (omega arith) in
      subst (λ y. R p t y) octets
      (subst (λ u. R p u r.octets2) tape (subst (λ q. R q r.tape2 r.octets2) place r.second));
  from = λ p t x s r. record {
    tape1 = [];
    tape2 = t;
    octets1 = [];
    octets2 = x;
    tape_is = refl;
    octets_is = refl;
    first = record { no_tape = refl; no_octets = refl };
    second = let place : p ≡ p + 0 = omega arith in subst (λ q. R q t x) place r;
  };
}

-- nothing behind
pub then_nothing : {S : Positions} {R : Relation} → Same S (Then R Nothing) R
then_nothing {R = R} = record {
  to = λ p t x s r.
      let tape : r.tape1 ≡ t = sym (r.tape_is ∙ ap (λ l. r.tape1 ++ l) r.second.no_tape ∙ append-nil r.tape1) in
      let octets : r.octets1 ≡ x =
      sym (r.octets_is ∙ ap (λ l. r.octets1 ++ l) r.second.no_octets ∙ append-nil r.octets1) in
      subst (λ y. R p t y) octets (subst (λ u. R p u r.octets1) tape r.first);
  from = λ p t x s r. record {
    tape1 = t;
    tape2 = [];
    octets1 = x;
    octets2 = [];
    tape_is = sym (append-nil t);
    octets_is = sym (append-nil x);
    first = r;
    second = record { no_tape = refl; no_octets = refl };
  };
}

-- the same piece each time
pub many_same : {S : Positions} {R Q : Relation} (n : ℕ) → Same S R Q → Ends S S R → Same S (Many n R) (Many n Q)
many_same zero a e = same_refl
many_same (suc n) a e = then_same a e (many_same n a e)

-- the same piece each time, where it is the same everywhere
pub many_same_anywhere : {S : Positions} {R Q : Relation} (n : ℕ) → Same Anywhere R Q → Same S (Many n R) (Many n Q)
many_same_anywhere n a = same_at (many_same n a ends_anywhere)

-- each time where it started
pub many_ends : {S : Positions} {R : Relation} (n : ℕ) → Ends S S R → Ends S S (Many n R)
many_ends zero e = nothing_ends
many_ends (suc n) e = then_ends e (many_ends n e)

-- m + n times, everywhere
many_add_anywhere : (R : Relation) (m n : ℕ) → Same Anywhere (Many (m + n) R) (Then (Many m R) (Many n R))
many_add_anywhere R zero n = rw zero-add (same_sym nothing_then)
many_add_anywhere R (suc m) n =
    let more : suc m + n ≡ suc (m + n) = omega arith in
    rw more (same_trans (then_same_anywhere same_refl (many_add_anywhere R m n)) (same_sym then_assoc))

-- m + n times is m times and then n times
pub many_add : {S : Positions} (R : Relation) (m n : ℕ) → Same S (Many (m + n) R) (Then (Many m R) (Many n R))
many_add R m n = same_at (many_add_anywhere R m n)

-- once
pub many_one : {S : Positions} {R : Relation} → Same S (Many 1 R) R
many_one = then_nothing

-- piece by piece, where the pieces of the list's elements are the same
pub chain_same_each : {A : Type 0} {S : Positions} (R Q : A → Relation) (es : List A)
    → AllByRecursion (λ a. Same S (R a) (Q a)) es → AllByRecursion (λ a. Ends S S (R a)) es
    → Same S (Chain R es) (Chain Q es)
chain_same_each R Q [] a e = same_refl
chain_same_each R Q (x ∷ es) a e = then_same a.0 e.0 (chain_same_each R Q es a.1 e.1)

-- piece by piece
pub chain_same : {A : Type 0} {S : Positions} {R Q : A → Relation} (es : List A)
    → ((a : A) → Same S (R a) (Q a)) → ((a : A) → Ends S S (R a)) → Same S (Chain R es) (Chain Q es)
chain_same [] a e = same_refl
chain_same (x ∷ es) a e = then_same (a x) (e x) (chain_same es a e)

-- piece by piece, where the pieces of the list's elements are the same everywhere
pub chain_same_anywhere : {A : Type 0} {S : Positions} (R Q : A → Relation) (es : List A)
    → AllByRecursion (λ a. Same Anywhere (R a) (Q a)) es → Same S (Chain R es) (Chain Q es)
chain_same_anywhere R Q [] a = same_refl
chain_same_anywhere R Q (x ∷ es) a = then_same_anywhere a.0 (chain_same_anywhere R Q es a.1)

-- each where the one before started
pub chain_ends : {A : Type 0} {S : Positions} {R : A → Relation} (es : List A) → ((a : A) → Ends S S (R a))
    → Ends S S (Chain R es)
chain_ends [] e = nothing_ends
chain_ends (x ∷ es) e = then_ends (e x) (chain_ends es e)

-- two lists one behind the other, everywhere
chain_add_anywhere : {A : Type 0} (R : A → Relation) (es fs : List A)
    → Same Anywhere (Chain R (es ++ fs)) (Then (Chain R es) (Chain R fs))
chain_add_anywhere R [] fs = same_sym nothing_then
chain_add_anywhere R (x ∷ es) fs =
    same_trans (then_same_anywhere same_refl (chain_add_anywhere R es fs)) (same_sym then_assoc)

-- two lists one behind the other
pub chain_add : {A : Type 0} {S : Positions} (R : A → Relation) (es fs : List A)
    → Same S (Chain R (es ++ fs)) (Then (Chain R es) (Chain R fs))
chain_add R es fs = same_at (chain_add_anywhere R es fs)

-- one alone
pub chain_one : {A : Type 0} {S : Positions} (R : A → Relation) (a : A) → Same S (Chain R (a ∷ [])) (R a)
chain_one R a = then_nothing

-- n copies are n times the piece
pub chain_many : {A : Type 0} {S : Positions} (R : A → Relation) (n : ℕ) (a : A)
    → Same S (Chain R (replicate n a)) (Many n (R a))
chain_many R zero a = same_refl
chain_many R (suc n) a = then_same same_refl ends_anywhere (chain_many R n a)

-- the pieces of what a function gives
pub chain-map : {A B : Type 0} {S : Positions} (R : B → Relation) (f : A → B) (es : List A)
    → Same S (Chain R (map f es)) (Chain (λ a. R (f a)) es)
chain-map R f [] = same_refl
chain-map R f (x ∷ es) = then_same same_refl ends_anywhere (chain-map R f es)

-- nothing is nothing everywhere
pub nothing_moves : Moves Nothing Nothing
nothing_moves = record { at = λ p q t x e r. record { no_tape = r.no_tape; no_octets = r.no_octets } }

-- part by part
pub then_moves : {R R' Q Q' : Relation} → Moves R R' → Moves Q Q' → Moves (Then R Q) (Then R' Q')
then_moves a b = record {
  at = λ p q t x e r. record {
    tape1 = r.tape1;
    tape2 = r.tape2;
    octets1 = r.octets1;
    octets2 = r.octets2;
    tape_is = r.tape_is;
    octets_is = r.octets_is;
    first = a.at p q r.tape1 r.octets1 e r.first;
    second = b.at (p + length r.octets1) (q + length r.octets1) r.tape2 r.octets2 (omega arith) r.second;
  };
}

-- each time
pub many_moves : {R Q : Relation} (n : ℕ) → Moves R Q → Moves (Many n R) (Many n Q)
many_moves zero a = nothing_moves
many_moves (suc n) a = then_moves a (many_moves n a)

-- piece by piece
pub chain_moves : {A : Type 0} {R Q : A → Relation} (es : List A) → ((a : A) → Moves (R a) (Q a))
    → Moves (Chain R es) (Chain Q es)
chain_moves [] a = nothing_moves
chain_moves (x ∷ es) a = then_moves (a x) (chain_moves es a)

-- piece by piece, where the pieces of the list's elements move
pub chain_moves_each : {A : Type 0} (R Q : A → Relation) (es : List A) → AllByRecursion (λ a. Moves (R a) (Q a)) es
    → Moves (Chain R es) (Chain Q es)
chain_moves_each R Q [] a = nothing_moves
chain_moves_each R Q (x ∷ es) a = then_moves a.0 (chain_moves_each R Q es a.1)

-- through one between
pub moves_trans : {R Q V : Relation} → Moves R Q → Moves Q V → Moves R V
moves_trans a b = record { at = λ p q t x e r. b.at q q t x refl (a.at p q t x e r) }

-- what moves to something that is the same moves
pub moves_same : {R Q V : Relation} → Moves R Q → Same Anywhere Q V → Moves R V
moves_same a e = record { at = λ p q t x h r. e.to q t x tt (a.at p q t x h r) }

-- what moves stands at 8 more
pub moves_eight : {R Q : Relation} → Moves R Q → (p : ℕ) (tape octets : List ℕ) → R p tape octets
    → Q (p + 8) tape octets
moves_eight a p t x r = a.at p (p + 8) t x (omega arith) r
