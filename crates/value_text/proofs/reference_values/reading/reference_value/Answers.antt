use Rattle.std.proofs.Common.{subst, sym, ap, rules}
use Rattle.reference_texts.specs.References.{owned_pairs, reference_of}
use Rattle.value_text.specs.inner.Room.{HasRoom}
use Rattle.value_text.proofs.Spelled.{spelled_fits, no_room}
use Rattle.value_text.proofs.reference_values.reading.reference_value.Goals as goal

pub returns-then-not-has_room-clause-none : goal.returns-then-not-has_room-clause-none
returns-then-not-has_room-clause-none c =
    let depth = c.args.depth in
    let same = ap owned_pairs c.as_slice.ensures.value in
    let none : HasRoom (owned_pairs c.as_slice.result.now) depth → ⊥ = search rules in
    no_room c.args.text.now (reference_of c.in-Ok.ior) depth c.in-Ok.ensures.found
    (λ room. none (subst (λ l. HasRoom l depth) (sym same) room))

pub returns-in_ok-value_of-in-Ok-clause-fits : goal.returns-in_ok-value_of-in-Ok-clause-fits
returns-in_ok-value_of-in-Ok-clause-fits c =
    let depth = c.args.depth in
    let same = ap owned_pairs c.as_slice.ensures.value in
    let room : HasRoom (owned_pairs c.as_slice.result.now) depth = search rules in
    spelled_fits c.args.text.now _ (reference_of c.in-Ok.ior) depth c.in_ok-value_of-in-Ok.ensures c.in-Ok.ensures.found
    (subst (λ l. HasRoom l depth) same room)

pub returns-in-Err-BadIor-clause-none : goal.returns-in-Err-BadIor-clause-none
returns-in-Err-BadIor-clause-none c =
    let none = rw c.in-Err-BadIor.field-0-is at c.in-Err-BadIor.ensures in
    λ value spelled fits. none.refused spelled.reference spelled.spells
