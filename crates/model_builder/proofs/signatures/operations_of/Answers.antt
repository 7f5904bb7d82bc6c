use Rattle.std.proofs.Common.{◌∙◌, ◌++◌, ◌∷◌, map, length, ap, sym, subst, All}
use Rattle.std.proofs.Math.Seq.{append_snoc}
use Rattle.std.proofs.lemmas.List.Elements.{All-tail}
use Rattle.std.specs.Vec.Iter.{into_iter_items}
use Rattle.model_builder.specs.Signatures.{operation_of}
use Rattle.model_builder.specs.inner.Theirs.{IsSignature}
use Rattle.model_builder.proofs.signatures.operations_of.Goals as goal

pub loop-signature-preserved : goal.loop-signature-preserved
loop-signature-preserved c =
    let Theirs = IsSignature (length c.args.names.now.entries) in
    let its = operation_of c.args.names.now.entries in
    let done = c.loop-signature.list.items in
    let rest = into_iter_items c.next.new.self in
    record {
      told = ap (λ l. l ++ map its rest) c.in_ok-push.ensures.items
          ∙ append_snoc done c.in_ok-operation_of.field-0 (map its rest)
          ∙ ap (λ o. done ++ o ∷ map its rest) c.in_ok-operation_of.ensures
          ∙ sym (ap (λ l. done ++ map its l) c.in-Some.ensures.steps.0)
          ∙ c.loop-signature.invariant.told;
      theirs = All-tail Theirs c.in-Some.signature rest
          (subst (All Theirs) c.in-Some.ensures.steps.0 c.loop-signature.invariant.theirs);
    }
