use Rattle.std.proofs.Common.{◌∙◌, ◌++◌, ◌∷◌, ap, sym, subst, All}
use Rattle.std.proofs.Math.Seq.{append_snoc}
use Rattle.std.proofs.lemmas.List.Elements.{All-head, All-tail}
use Rattle.std.specs.Vec.Iter.{into_iter_items}
use Rattle.type_model.specs.PartNamesNames.{AreApart}
use Rattle.model_builder.proofs.parts.parts_of.Goals as goal

pub loop-own-preserved : goal.loop-own-preserved
loop-own-preserved c =
    let done = c.loop-own.nodes.items in
    let rest = into_iter_items c.next.new.self in
    record {
      told = ap (λ l. l ++ rest) c.in_ok-push.ensures.items ∙ append_snoc done c.new.result rest
          ∙ ap (λ o. done ++ o ∷ rest) (c.new.ensures ∙ c.into_vec.ensures)
          ∙ sym (ap (λ l. done ++ l) c.in-Some.ensures.steps.0)
          ∙ c.loop-own.invariant.told;
      apart = All-tail AreApart c.in-Some.own rest
          (subst (All AreApart) c.in-Some.ensures.steps.0 c.loop-own.invariant.apart);
    }

pub new-requires : goal.new-requires
new-requires c =
    let rest = into_iter_items c.next.new.self in
    subst AreApart (sym c.into_vec.ensures)
    (All-head AreApart c.in-Some.own rest (subst (All AreApart) c.in-Some.ensures.steps.0 c.loop-own.invariant.apart))
