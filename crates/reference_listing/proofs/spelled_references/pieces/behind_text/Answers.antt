use Rattle.std.proofs.Common.{◌∙◌, append_assoc, sym}
use Rattle.std.proofs.lemmas.Result.{IfOk-weaker}
use Rattle.std.specs.String.{string_bytes}
use Rattle.reference_listing.proofs.Texts.{some_behind}
use Rattle.reference_listing.proofs.spelled_references.pieces.behind_text.Goals as goal

pub returns : goal.returns
returns c =
    let some = sym c.is_empty.ensures ∙ c.if-is_empty.false in
    IfOk-weaker c.format.result _ _
    (λ text h. some_behind c.args.indent.now c.args.octets.now (string_bytes c.in_ok-octets.octets) (string_bytes text)
    some
    c.in_ok-octets.ensures (h ∙ simp append_assoc))
    c.format.ensures.ok
