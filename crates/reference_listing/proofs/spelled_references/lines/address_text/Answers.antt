use Rattle.std.proofs.Common.{◌∙◌, append_assoc}
use Rattle.std.proofs.lemmas.Result.{IfOk-weaker}
use Rattle.reference_listing.proofs.spelled_references.lines.address_text.Goals as goal

pub returns : goal.returns
returns c = IfOk-weaker c.format.result _ _
    (λ text h. h
    ∙ simp (
      append_assoc,
      c.in_ok-host.ensures,
      c.as_slice.ensures.value,
      c.in_ok-key.ensures,
      c.as_slice-2.ensures.value,
      c.in_ok-text.ensures,
      c.as_slice-3.ensures.value,
      c.order_name-order.ensures,
    )) c.format.ensures.ok
