use Rattle.std.proofs.Common.{Bool, sym, ◌∙◌, subst}
use Rattle.std.specs.String.{string_bytes}
use Rattle.reference_texts.specs.References.{reference_of}
use Rattle.reference_listing.specs.Described.{IsToldBy}
use Rattle.reference_listing.proofs.spelled_references.described.described_reference.Goals as goal

pub returns-then-is_url-clause-described : goal.returns-then-is_url-clause-described
returns-then-is_url-clause-described c = record {
  reference = reference_of c.in-Ok.ior;
  spells = c.in-Ok.ensures.found;
  told = subst
      (λ (b : Bool). IsToldBy b c.args.text.now (reference_of c.in-Ok.ior) (string_bytes c.in_ok-told_of_url.field-0))
      (sym (sym c.is_url.ensures ∙ c.if-is_url.true)) c.in_ok-told_of_url.ensures;
}

pub returns-clause-described : goal.returns-clause-described
returns-clause-described c = record {
  reference = reference_of c.in-Ok.ior;
  spells = c.in-Ok.ensures.found;
  told = subst
      (λ (b : Bool). IsToldBy b c.args.text.now (reference_of c.in-Ok.ior) (string_bytes c.in_ok-described.field-0))
      (sym (sym c.is_url.ensures ∙ c.if-is_url.false)) c.in_ok-described.ensures;
}
