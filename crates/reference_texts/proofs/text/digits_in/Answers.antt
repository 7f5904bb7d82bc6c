use Rattle.std.proofs.Common.{◌≡◌, false, true}
use Rattle.reference_texts.proofs.TextLaws.{no_digits}
use Rattle.reference_texts.proofs.text.digits_in.Goals as goal

pub returns-else-eq_ignore_ascii_case-clause-refused : goal.returns-else-eq_ignore_ascii_case-clause-refused
returns-else-eq_ignore_ascii_case-clause-refused c =
    no_digits c.args.text.now c.split_at.result.0.now c.split_at.result.1.now c.as_bytes.result.now
    c.split_at.ensures.front
    c.split_at.ensures.back c.split_at.ensures.front_len c.as_bytes.ensures.value
    (λ same. unlike (c.if-eq_ignore_ascii_case.ensures.test.1 same))
  where
    unlike : false ≡ true → ⊥
    unlike e = absurd (cc)
