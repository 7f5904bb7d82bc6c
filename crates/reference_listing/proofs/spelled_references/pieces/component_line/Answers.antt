use Rattle.std.proofs.Common.{◌∙◌, append_assoc}
use Rattle.std.proofs.lemmas.Result.{IfOk-weaker}
use Rattle.std.specs.String.{string_bytes}
use Rattle.reference_listing.proofs.spelled_references.pieces.component_line.Goals as goal

pub returns : goal.returns
returns c = IfOk-weaker c.format.result _ _
    (λ text h. record {
      tag = string_bytes c.in_ok-tag.tag;
      tag_is = c.in_ok-tag.ensures;
      line_is = h ∙ simp (append_assoc, c.in_ok-octets.ensures);
    }) c.format.ensures.ok
