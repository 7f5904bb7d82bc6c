use Rattle.std.proofs.Common.{◌++◌, List, ℕ, ap, subst, sym, ◌∙◌}
use Rattle.type_graph.specs.Words.{AllBelow}
use Rattle.giop_types.specs.TapeParts.{tagged, IsTagged}
use Rattle.reference_texts.proofs.ListLaws.{tape_more, each_more, each_at, writing_weaker}
use Rattle.reference_texts.proofs.reference.push_profiles.Goals as goal

pub returns-in-Err-clause-refused : goal.returns-in-Err-clause-refused
returns-in-Err-clause-refused c =
    let one = c.loop-tag-item.result in
    writing_weaker c.in-Err.fault _ _
    (λ none all. none (subst (λ (octets : List ℕ). IsTagged (one.0, octets)) (sym c.as_slice.ensures.value)
    (each_at c.args.profiles.now c.loop-tag.tag-index one c.loop-tag-test.true c.loop-tag-item.is all)))
    c.in-Err.ensures.refused

pub loop-tag-preserved : goal.loop-tag-preserved
loop-tag-preserved c =
    let one = c.loop-tag-item.result in
    let added = c.in-Ok.ensures.added ∙ ap (λ (octets : List ℕ). c.loop-tag.tape.items ++ tagged (one.0, octets))
    c.as_slice.ensures.value in
    let fits = subst (λ (octets : List ℕ). IsTagged (one.0, octets)) c.as_slice.ensures.value c.in-Ok.ensures.fits in
    record {
      added = tape_more c.args.tape.now.items c.loop-tag.tape.items c.push_one.new.tape.items c.args.profiles.now
          c.loop-tag.tag-index one c.loop-tag-test.true c.loop-tag-item.is c.loop-tag.invariant.added added;
      each = each_more IsTagged c.args.profiles.now c.loop-tag.tag-index one c.loop-tag-test.true c.loop-tag-item.is
          c.loop-tag.invariant.each fits;
      octets = each_more (λ (one : ℕ × List ℕ). AllBelow 256 one.1) c.args.profiles.now c.loop-tag.tag-index one
          c.loop-tag-test.true c.loop-tag-item.is c.loop-tag.invariant.octets
          (subst (AllBelow 256) c.as_slice.ensures.value c.in-Ok.ensures.octets);
    }
