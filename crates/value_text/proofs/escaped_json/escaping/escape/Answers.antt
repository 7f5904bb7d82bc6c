use Rattle.std.proofs.Common.{◌≡◌, false, sym, ◌∙◌, subst, arith}
use Rattle.std.proofs.lemmas.Bool.{or_left, or_right, eq-eqb}
use Rattle.std.proofs.lemmas.Str.{IsUtf8-string_bytes}
use Rattle.std.specs.String.{string_bytes}
use Rattle.value_text.proofs.Passed.{pass, passed, unchanged}
use Rattle.value_text.proofs.escaped_json.escaping.escape.Goals as goal

pub returns-in-None : goal.returns-in-None
returns-in-None c =
    let text = string_bytes c.args.text in
    let octets = c.as_bytes.result.now in
    let same : octets ≡ text = c.as_bytes.ensures.value in
    let stays = unchanged octets
    (λ k below. (
      λ e. c.in-None.ensures k (omega arith) below (or_right _ _ (eq-eqb _ 194 e)),
      λ e. c.in-None.ensures k (omega arith) below (or_left _ _ (eq-eqb _ 127 e)),
    )) in
    sym (passed text (IsUtf8-string_bytes c.args.text) ∙ subst (λ l. pass false l ≡ l) same stays)
