use Rattle.std.proofs.Common.{List, ℕ, sym, subst}
use Rattle.reference_texts.specs.Texts.{HasDigits}
use Rattle.reference_texts.proofs.Faults.{err_weaker}
use Rattle.reference_texts.proofs.TextLaws.{spelled_digits}
use Rattle.reference_texts.proofs.text.encapsulation_in.Goals as goal

pub returns-in_default-clause-refused : goal.returns-in_default-clause-refused
returns-in_default-clause-refused c = λ octets s.
    c.in_default.ensures.refused s.digits
    (subst (λ (t : List ℕ). HasDigits t s.digits) (sym c.as_bytes.ensures.value) s.behind)

pub returns-clause-refused : goal.returns-clause-refused
returns-clause-refused c =
    err_weaker c.octets_of.result _ _
    (λ none octets s. none octets (spelled_digits c.args.text.now c.as_bytes.result.now c.in-Some.digits.now octets
    c.as_bytes.ensures.value c.in-Some.ensures.found s)) c.octets_of.ensures.refused
