-- A scoped name from its front: what is left of it behind each identifier.
use Rattle.std.proofs.Common.{◌≡◌, ◌∙◌, ℕ, true, inl, inr, List, [], drop, ap, sym, refl, arith}
use Rattle.std.specs.Char.{is_ascii_alphabetic}
use Rattle.idl_lexer.specs.Octets.{is_blank, past}
use Rattle.idl_lexer.specs.Words.{IsIdentifier}
use Rattle.idl_lexer.specs.Directives.{IsName, IsScope, IsScopedName, plain, rooted, more}
use Rattle.idl_lexer.proofs.OneForm.{identifier_one}

-- nothing, or :: and an identifier, and so on
pub data IsTail : List ℕ → Type 0 where
  done : (s : List ℕ) → s ≡ [] → IsTail s
  next : (s a b : List ℕ) → IsScope s a → IsName a b → IsTail b → IsTail s

-- a whole name, from its front
pub data IsFront (s : List ℕ) : Type 0 where
  bare : (r : List ℕ) → IsName s r → IsTail r → IsFront s
  root : (a r : List ℕ) → IsScope s a → IsName a r → IsTail r → IsFront s

front_to : (s r : List ℕ) → IsScopedName s r → IsTail r → IsFront s
front_to s r (plain q name) tail = bare q name tail
front_to s r (rooted a q scope name) tail = root a q scope name tail
front_to s r (more a b q front scope name) tail = front_to s a front (next a b q scope name tail)

pub front_of : (s : List ℕ) → IsScopedName s [] → IsFront s
front_of s name = front_to s [] name (done [] refl)

pub name_one : (s a b : List ℕ) → IsName s a → IsName s b → a ≡ b
name_one s a b one other =
    one.rest ∙ ap (λ n. past is_blank (drop n s)) (identifier_one s one.long other.long one.name other.name)
    ∙ sym other.rest

pub scope_one : (s a b : List ℕ) → IsScope s a → IsScope s b → a ≡ b
scope_one s a b one other = one.rest ∙ sym other.rest

-- a name doesn't begin as a scope does
pub name_or_scope : (s a b : List ℕ) → IsName s a → IsScope s b → ⊥
name_or_scope s a b name scope = first name.name
  where
    first : {n : ℕ} → IsIdentifier s n → ⊥
    first (inl bare_name) = let colon : is_ascii_alphabetic 58 ≡ true = ap is_ascii_alphabetic (sym scope.first)
        ∙ bare_name.word.first in cc
    first (inr escaped) = omega (arith, scope.first, escaped.underscore)

no_scope : (a : List ℕ) → IsScope [] a → ⊥
no_scope a scope = omega (arith, scope.first)

-- behind a scope that is there, a tail goes on with a name
pub tail_next : (s a : List ℕ) → IsScope s a → IsTail s → (b : List ℕ) × IsName a b × IsTail b
tail_next s a scope (done s1 e) = absurd (no_scope a (rw e at scope))
tail_next s a scope (next s1 a2 b other name tail) = let same : a2 ≡ a = scope_one s a2 a other scope in
    (b, rw same at name, tail)

-- without one it is at its end
pub tail_end : (s : List ℕ) → ((a : List ℕ) → IsScope s a → ⊥) → IsTail s → s ≡ []
tail_end s none (done s1 e) = e
tail_end s none (next s1 a b scope name tail) = absurd (none a scope)
