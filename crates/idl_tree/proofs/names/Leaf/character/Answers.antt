use Rattle.std.proofs.Common.{◌∙◌, length, sym}
use Rattle.std.proofs.Math.Logic.{∥∥₁_elim}
use Rattle.std.proofs.Props.{props}
use Rattle.idl_lexer.proofs.Readings.{IsCharLiteral-octet}
use Rattle.idl_tree.proofs.names.Leaf.character.Goals as goal

pub returns : goal.returns
returns c =
    let text = c.args.self.now.token.text.now in
    ∥∥₁_elim c.requires (hlevel props) (λ literal. c.character_value.ensures literal
    ∙ sym (IsCharLiteral-octet text (length text) literal))
