use Rattle.std.proofs.Common.{◌≡◌, ◌∙◌, ℕ, suc, ◌+◌, List, [], ◌∷◌, ◌++◌, length, ap, sym, subst, append_assoc, All, IfSome, Option, Some, None, arith}
use Rattle.std.proofs.lemmas.List.Elements.{All-tail}
use Rattle.std.specs.Vec.Iter.{into_iter_items}
use Rattle.scoped_names.specs.FileNames.{FileNames}
use Rattle.lowered_operations.specs.declared.signature.Offered.{Offered}
use Rattle.model_builder.specs.Signatures.{interface_of, interfaces_from}
use Rattle.model_builder.specs.inner.Theirs.{IsOffered}
use Rattle.model_builder.proofs.signatures.interfaces_of.Goals as goal

pub overflow_add-entry : goal.overflow_add-entry
overflow_add-entry c =
    let left = ap length c.in-Some.ensures.steps.0 in
    omega (arith, left, c.loop-offered.invariant.count, c.args.offered.small)

-- the interface of one entry, and those of the entries behind it
one_more : (names : FileNames) (e : ℕ) (o : Option Offered) (rest : List (Option Offered))
    → interfaces_from names e (o ∷ []) ++ interfaces_from names (e + 1) rest ≡ interfaces_from names e (o ∷ rest)
one_more names e None rest = let next : e + 1 ≡ suc e = omega arith in ap (λ k. interfaces_from names k rest) next
one_more names e (Some o) rest =
    let next : e + 1 ≡ suc e = omega arith in ap (λ k. interface_of names e o ∷ interfaces_from names k rest) next

pub loop-offered-preserved : goal.loop-offered-preserved
loop-offered-preserved c =
    let Theirs = λ (offered : Option Offered). IfSome offered (IsOffered (length c.args.names.now.entries)) in
    let names = c.args.names.now in
    let done = c.loop-offered.list.items in
    let e = c.loop-offered.entry in
    let rest = into_iter_items c.next.new.self in
    let left = ap length c.in-Some.ensures.steps.0 in
    record {
      told = ap (λ l. l ++ interfaces_from names (e + 1) rest) c.in_ok-push_interface.ensures
          ∙ append_assoc done (interfaces_from names e (c.in-Some.offered ∷ [])) (interfaces_from names (e + 1) rest)
          ∙ ap (λ l. done ++ l) (one_more names e c.in-Some.offered rest)
          ∙ sym (ap (λ l. done ++ interfaces_from names e l) c.in-Some.ensures.steps.0) ∙ c.loop-offered.invariant.told;
      count = omega (arith, left, c.loop-offered.invariant.count);
      theirs = All-tail Theirs c.in-Some.offered rest
          (subst (All Theirs) c.in-Some.ensures.steps.0 c.loop-offered.invariant.theirs);
    }
