use Rattle.std.proofs.Common.{◌∙◌, append_assoc}
use Rattle.std.proofs.lemmas.Result.{IfOk-weaker}
use Rattle.reference_listing.proofs.spelled_references.pieces.one_gap.Goals as goal

pub returns : goal.returns
returns c = IfOk-weaker c.format.result _ _ (λ text h. h ∙ simp (append_assoc, c.in_ok-octet.ensures))
    c.format.ensures.ok
