use Rattle.std.proofs.Common.{◌≡◌, ◌∙◌, ℕ, List, ◌++◌, Result, Ok, Err, IfOk, OnOk, length, ap, sym}
use Rattle.std.proofs.Math.Logic.{∥∥₁_elim}
use Rattle.std.proofs.Props.{props}
use Rattle.idl_lexer.specs.Literals.{IsTextLiteral}
use Rattle.idl_lexer.specs.Readings.{text_octets}
use Rattle.idl_lexer.proofs.Readings.{IsTextLiteral-octets}
use Rattle.idl_tree.proofs.names.Leaf.push_octets.Goals as goal

by_literal : {T E : Type 0} (r : Result T E) (text out old : List ℕ) → ∥ IsTextLiteral text (length text) ∥₁
    → IfOk r (λ _. (literal : IsTextLiteral text (length text)) → out ≡ old ++ literal.octets)
    → OnOk r (out ≡ old ++ text_octets text)
by_literal (Ok x) text out old form h =
    ∥∥₁_elim form (hlevel props) (λ literal. h literal ∙ ap (λ t. old ++ t) (sym (IsTextLiteral-octets text literal)))
by_literal (Err e) text out old form h = tt

pub returns-clause-ok : goal.returns-clause-ok
returns-clause-ok c =
    by_literal c.push_octets.result c.args.self.now.token.text.now c.push_octets.new.octets.items
    c.args.octets.now.items c.requires c.push_octets.ensures.ok
