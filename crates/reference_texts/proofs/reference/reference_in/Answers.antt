use Rattle.std.proofs.Common.{List, ap, ◌∙◌}
use Rattle.giop_types.specs.declared.tapes.reading.Tagged.{Tagged}
use Rattle.giop_types.specs.TapeParts.{pairs_of}
use Rattle.reference_texts.proofs.ListLaws.{front_found, front_behind, reading_weaker}
use Rattle.reference_texts.proofs.reference.reference_in.Goals as goal

pub returns-in-Err-clause-refused : goal.returns-in-Err-clause-refused
returns-in-Err-clause-refused c =
    reading_weaker c.in-Err.fault _ _
    (λ none reference rest h. none reference.profiles rest h.fits.profiles
    (front_behind c.args.tape.now c.in-Some.behind.now rest c.in-Some.type_id.now reference c.in-Some.ensures.found.0
    c.in-Some.ensures.found.1 h))
    c.in-Err.ensures.refused

pub returns-clause-found : goal.returns-clause-found
returns-clause-found c = (
  c.in-Ok.split.1.now,
  front_found c.args.tape.now c.in-Some.behind.now c.in-Ok.split.1.now c.in-Some.type_id.now _
      (pairs_of c.in-Ok.split.0.items) _
      c.in-Some.ensures.found.0 c.in-Some.ensures.found.1 c.in-Ok.ensures.found.0 c.in-Ok.ensures.found.1
      c.in_ok-from_slice.ensures.items
      (c.in_ok-owned.ensures ∙ ap (λ (all : List Tagged). pairs_of all) c.as_slice.ensures.value),
)
