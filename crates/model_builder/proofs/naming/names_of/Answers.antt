use Rattle.std.proofs.Common.{◌<◌, ◌++◌, ◌∙◌, ap, length, subst}
use Rattle.model_builder.specs.Naming.{names_at, names_of_place}
use Rattle.model_builder.proofs.NamesMore.{given_more}
use Rattle.model_builder.proofs.naming.names_of.Goals as goal

pub loop-entry-preserved : goal.loop-entry-preserved
loop-entry-preserved c =
    let es = c.args.names.now.entries in
    given_more (names_at es c.args.types.now) c.loop-entry.list.items c.push_place.new.list.items _ c.loop-entry.entry
    (length es)
    (subst (λ n. c.loop-entry.entry < n) c.len-entry-end.ensures.count c.loop-entry-test.true)
    (c.in_ok-push_place.ensures ∙ ap (λ p. c.loop-entry.list.items ++ names_of_place es c.loop-entry.entry p)
    c.place.ensures) c.loop-entry.invariant
