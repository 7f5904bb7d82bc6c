-- The tokens of texts have the form of texts.
use Rattle.std.proofs.Common.{◌≡◌, Bool, true, List, [], ◌∷◌, refl, subst}
use Rattle.std.specs.List.{AllByRecursion}
use Rattle.std.proofs.lemmas.Bool.{and_parts}
use Rattle.idl_lexer.specs.Forms.{HasForm}
use Rattle.idl_lexer.specs.declared.token.Kind.{Kind}
use Rattle.idl_lexer.specs.declared.token.Kind.TheVariants.{Ident, Keyword, Punct, Number as NumberToken, CharLit, TextLit, Pragma}
use Rattle.idl_tree.specs.declared.names.Leaf.{Leaf}
use Rattle.idl_tree.specs.Forms.{IsLeafOf}
use Rattle.name_table.specs.Worth.{are_texts, is_text}

-- a token has the form of its kind
pub form_of_kind : (k : Kind) (l : Leaf) → l.token.kind ≡ k → IsLeafOf k l
form_of_kind k l is = subst (λ x. HasForm x l.token.text.now) is l.token.form

is_text_literal : (k : Kind) → is_text k ≡ true → k ≡ TextLit
is_text_literal TextLit h = refl
is_text_literal NumberToken h = cc
is_text_literal CharLit h = cc
is_text_literal Ident h = cc
is_text_literal Keyword h = cc
is_text_literal Punct h = cc
is_text_literal Pragma h = cc

pub text_forms : (ls : List Leaf) → are_texts ls ≡ true → AllByRecursion (IsLeafOf TextLit) ls
text_forms [] h = tt
text_forms (l ∷ ls) h =
    let two = and_parts (is_text l.token.kind) (are_texts ls) h in
    (form_of_kind TextLit l (is_text_literal l.token.kind two.0), text_forms ls two.1)
