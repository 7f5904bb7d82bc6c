use Rattle.std.proofs.Common.{◌==◌, ◌<◌, ◌∙◌, ℕ, Option, List, ap, sym, arith, inl, inr, length}
use Rattle.std.specs.List.{slice_split}
use Rattle.diagnostic_views.specs.PlaceViews.{place_parts}
use Rattle.diagnostic_views.specs.Places.{PlaceParts, behind_all, place_of}
use Rattle.diagnostic_views.proofs.Walks.{further, last, shorter}
use Rattle.diagnostic_views.proofs.source_places.places.place_at.Goals as goal

pub loop-line-preserved : goal.loop-line-preserved
loop-line-preserved c =
    let left = c.loop-line.left.now in
    let rest = c.in-Some.rest.now in
    let less : length rest < length left = shorter left c.in-Some.line.now rest c.in-Some.ensures in
    record {
      same = ap (λ (p : PlaceParts). behind_all p (slice_split (λ c. c == 10) rest)) c.following-place.ensures.value
          ∙ sym (further (place_parts c.loop-line.place) left c.in-Some.line.now rest c.in-Some.ensures)
          ∙ c.loop-line.invariant.same;
      fits = elim c.following-place.ensures.within [ inl small ↦ omega arith | inr next ↦ omega arith ];
      short = omega arith;
    }

pub returns : goal.returns
unfolding place_of
returns c =
    sym (last (place_parts c.loop-line.place) c.loop-line.left.now c.in_default.ensures) ∙ c.loop-line.invariant.same
    ∙ ap (λ (s : List ℕ). behind_all (record { file = Option.None; line = 1 }) (slice_split (λ c. c == 10) s))
    c.split_at.ensures.front
