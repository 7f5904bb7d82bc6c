use Rattle.std.proofs.Common.{◌∙◌, ◌+◌, ◌++◌, List, ℕ, ap, subst}
use Rattle.std.specs.String.{string_bytes}
use Rattle.reference_listing.specs.Pieces.{IsComponent}
use Rattle.reference_listing.proofs.LineLists.{pairs_more}
use Rattle.reference_listing.proofs.spelled_references.lines.component_lines.Goals as goal

pub loop-tag-preserved : goal.loop-tag-preserved
loop-tag-preserved c =
    let one = c.loop-tag-item.result in
    let line = string_bytes c.in_ok-line.line in
    let added = c.in_ok-push_str.ensures.bytes
    ∙ ap (λ (l : List ℕ). string_bytes c.loop-tag.lines ++ l) c.as_str.ensures.value in
    let here = subst (λ (n : ℕ). IsComponent n (one.0, one.1.items) line) c.loop-tag.invariant.number
    (subst (λ (o : List ℕ). IsComponent c.loop-tag.number (one.0, o) line) c.as_slice.ensures.value
    c.in_ok-line.ensures) in
    record {
      number = ap (λ n. n + 1) c.loop-tag.invariant.number;
      lines = pairs_more IsComponent c.args.components.now c.loop-tag.tag-index one (string_bytes c.loop-tag.lines)
          (string_bytes c.push_str.new.self) line c.loop-tag-test.true c.loop-tag-item.is c.loop-tag.invariant.lines
          added here;
    }
