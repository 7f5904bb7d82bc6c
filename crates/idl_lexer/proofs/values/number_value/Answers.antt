use Rattle.std.proofs.Common.{◌≡◌, ℕ, List, length, arith}
use Rattle.std.proofs.Math.Logic.{∥∥₁_elim}
use Rattle.std.proofs.lemmas.List.{take_all}
use Rattle.idl_lexer.specs.Numbers.{IsInteger, IsLiteral}
use Rattle.idl_lexer.proofs.values.number_value.Goals as goal

whole : (text octets : List ℕ) → octets ≡ text → IsInteger text (length text) → IsLiteral octets
whole text octets same i = rw same (rw (take_all (length text) text (omega arith)) at i.form)

pub unreachable-requires : goal.unreachable-requires
unreachable-requires c =
    ∥∥₁_elim c.requires (λ x y. absurd x) (λ form. let no =
    c.in-None.ensures.complete (whole c.args.text.now _ c.as_bytes.ensures.value form) in cc)
