use Rattle.std.proofs.Common.{◌≡◌, ℕ, List, length, drop}
use Rattle.std.proofs.Math.Logic.{∥∥₁_elim}
use Rattle.idl_lexer.specs.Literals.{IsCharacter, IsCharLiteral}
use Rattle.idl_lexer.proofs.Characters.{same_value}
use Rattle.idl_lexer.proofs.values.character_value.Goals as goal

inside : (text octets inner : List ℕ) (t : IsCharLiteral text (length text)) → octets ≡ text → inner ≡ drop 1 octets
    → IsCharacter 39 inner t.inner t.value
inside text octets inner t same behind = rw (behind, same) t.character

pub unreachable-requires : goal.unreachable-requires
unreachable-requires c =
    ∥∥₁_elim c.requires (λ x y. absurd x) (λ form. let no =
    c.in-Err.ensures.complete form.inner form.value
    (inside c.args.text.now _ _ form c.as_bytes.ensures.value c.behind_first.ensures) in cc)

pub returns : goal.returns
returns c literal =
    same_value 39 39 c.behind_first.result.now _ literal.inner _ literal.value c.in-Ok.ensures.form
    (inside c.args.text.now _ _ literal c.as_bytes.ensures.value c.behind_first.ensures)
