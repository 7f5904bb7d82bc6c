use Rattle.std.proofs.Common.{◌∙◌, List, ℕ, append_assoc, subst, sym}
use Rattle.std.proofs.lemmas.Result.{IfOk-weaker}
use Rattle.std.specs.String.{string_bytes}
use Rattle.reference_texts.specs.References.{reference_of}
use Rattle.reference_texts.specs.Texts.{Spells}
use Rattle.reference_texts.proofs.TextLaws.{text_read}
use Rattle.reference_listing.specs.Described.{IsToldOf}
use Rattle.reference_listing.proofs.spelled_references.described.told_of_url.Goals as goal

pub described-requires : goal.described-requires
described-requires c =
    let reference = reference_of c.args.ior.now in
    subst (λ (t : List ℕ). Spells t reference) (sym c.as_str.ensures.value)
    (text_read reference (string_bytes c.in-Ok.text) c.in-Ok.ensures.text)

pub returns-in_ok-rest-in-Ok : goal.returns-in_ok-rest-in-Ok
returns-in_ok-rest-in-Ok c =
    let rest = string_bytes c.in_ok-rest-in-Ok.rest in
    IfOk-weaker c.format.result _ _
    (λ lines h. record {
      digits = string_bytes c.in-Ok.text;
      text = c.in-Ok.ensures.text;
      rest = rest;
      lines_are = h ∙ simp append_assoc;
      told = subst (λ (t : List ℕ). IsToldOf t (reference_of c.args.ior.now) rest) c.as_str.ensures.value
          c.in_ok-rest-in-Ok.ensures;
    }) c.format.ensures.ok
