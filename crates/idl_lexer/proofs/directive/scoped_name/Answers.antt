use Rattle.std.proofs.Common.{◌≡◌, List, ℕ, Option, Some, None, Bor, IfNone, IfSome, unwrap_or}
use Rattle.idl_lexer.specs.Directives.{IsName, IsScope, IsScopedName, plain, rooted, more}
use Rattle.idl_lexer.proofs.ScopedNames.{bare, front_of, name_one, name_or_scope, root, scope_one, tail_end, tail_next, IsFront, IsTail}
use Rattle.idl_lexer.proofs.directive.scoped_name.Goals as goal

begun : (whole : Bor (List ℕ)) (inner : Option (Bor (List ℕ))) (r : List ℕ)
    → IfSome inner (λ t. IsScope whole.now t.now) → IsName (unwrap_or inner whole).now r → IsScopedName whole.now r
begun whole None r scope name = plain r name
begun whole (Some t) r scope name = rooted t.now r scope name

-- the first identifier of a whole name stands where it is looked for
first_name : (whole : Bor (List ℕ)) (inner : Option (Bor (List ℕ))) → IfSome inner (λ t. IsScope whole.now t.now)
    → IfNone inner ((a : List ℕ) → IsScope whole.now a → ⊥) → IsFront whole.now
    → (r : List ℕ) × IsName (unwrap_or inner whole).now r × IsTail r
first_name whole None scope none (bare r name tail) = (r, name, tail)
first_name whole None scope none (root a r other name tail) = absurd (none a other)
first_name whole (Some t) scope none (bare r name tail) = absurd (name_or_scope whole.now r t.now name scope)
first_name whole (Some t) scope none (root a r other name tail) = let same : a ≡ t.now =
    scope_one whole.now a t.now other scope in (r, rw same at name, tail)

-- and its rest is what is left behind the one that is read
left_behind : (s r : List ℕ) → IsName s r → (q : List ℕ) × IsName s q × IsTail q → IsTail r
left_behind s r name (q, other, tail) = let same : q ≡ r = name_one s q r other name in rw same at tail

pub loop-inner-init : goal.loop-inner-init
loop-inner-init c = record {
  read = begun c.args.octets c.scope.result _ c.scope.ensures.form
      (rw c.unwrap_or.ensures at c.in_ok-rest.ensures.form);
  left = λ name. left_behind _ _ (rw c.unwrap_or.ensures at c.in_ok-rest.ensures.form)
      (first_name c.args.octets c.scope.result c.scope.ensures.form c.scope.ensures.none
      (front_of c.args.octets.now name));
}

pub loop-inner-preserved : goal.loop-inner-preserved
loop-inner-preserved c = record {
  read = more _ _ _ c.loop-inner.invariant.read c.in-Some.ensures.form c.in_ok-rest-2.ensures.form;
  left = λ name. left_behind _ _ c.in_ok-rest-2.ensures.form
      (tail_next c.loop-inner.rest.now c.in-Some.inner.now c.in-Some.ensures.form (c.loop-inner.invariant.left name));
}

pub returns-in_err-rest-clause-none : goal.returns-in_err-rest-clause-none
returns-in_err-rest-clause-none c =
    rw c.from_residual.ensures (λ name.
    let first = first_name c.args.octets c.scope.result c.scope.ensures.form c.scope.ensures.none
    (front_of c.args.octets.now name) in
    c.in_err-rest.ensures.none first.0 (rw c.unwrap_or.ensures first.1))

pub returns-in_err-rest-2-clause-none : goal.returns-in_err-rest-2-clause-none
returns-in_err-rest-2-clause-none c =
    rw c.from_residual-in_err-rest-2.ensures (λ name.
    let left = tail_next c.loop-inner.rest.now c.in-Some.inner.now c.in-Some.ensures.form
    (c.loop-inner.invariant.left name) in
    c.in_err-rest-2.ensures.none left.0 left.1)

pub returns-clause-end : goal.returns-clause-end
returns-clause-end c name = tail_end c.loop-inner.rest.now c.in_default.ensures.none (c.loop-inner.invariant.left name)
