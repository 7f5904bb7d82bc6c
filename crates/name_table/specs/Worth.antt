-- What a constant expression is worth (ISO/IEC 19500-1, constant declaration): a literal is worth what its token says,
-- an operator takes whole numbers alone, operators of one level group from the left, and a name is worth what the
-- function of names says.
use Rattle.std.specs.Prelude.{ℕ, Bool, true, false, ◌&&◌, List, [], ◌∷◌, Option, Some, None, ℤ, pos, negsuc, nat_lt}
use Rattle.idl_lexer.specs.declared.token.Kind.{Kind}
use Rattle.idl_lexer.specs.declared.token.Kind.TheVariants.{Ident, Keyword, Punct, Number as NumberToken, CharLit, TextLit, Pragma}
use Rattle.idl_lexer.specs.Numbers.{number_value}
use Rattle.idl_lexer.specs.Readings.{character_octet}
use Rattle.idl_tree.specs.declared.names.Leaf.{Leaf}
use Rattle.idl_tree.specs.declared.names.ScopedName.{ScopedName}
use Rattle.idl_tree.specs.declared.expression.Operator.{Operator}
use Rattle.idl_tree.specs.declared.expression.Sign.{Sign}
use Rattle.idl_tree.specs.declared.expression.Expr.{Expr, Name, Number, Character as CharacterLiteral, Text as Texts, Boolean as BooleanLiteral, Parenthesized', Signed', Chain', Row_of-Operand, end_of-Operand, more_of-Operand}
use Rattle.idl_tree.specs.Lists.{parts}
use Rattle.name_table.specs.declared.const_values.constant.Constant.{Constant}
use Rattle.name_table.specs.declared.const_values.constant.Constant.TheVariants.{Integer, Boolean, Character, Text, Enumerator}
use Rattle.name_table.specs.Arithmetic.{applied, signed, where_true}
use Rattle.name_table.specs.Texts.{joined_octets}

-- what each name is worth, if it stands for a constant
abbrev pub NamesWorth : Type 0
NamesWorth = ScopedName → Option Constant

-- the number, where the constant is a whole one
abbrev pub whole_number : Option Constant → Option ℤ
whole_number None = None
whole_number (Some (Integer z)) = Some z
whole_number (Some (Boolean b)) = None
whole_number (Some (Character c)) = None
whole_number (Some (Text t)) = None
whole_number (Some (Enumerator e k)) = None

abbrev pub whole_constant : Option ℤ → Option Constant
whole_constant None = None
whole_constant (Some z) = Some (Integer z)

abbrev pub sign_applied : Sign → Option ℤ → Option ℤ
sign_applied s None = None
sign_applied s (Some z) = signed s z

abbrev pub operator_applied : Operator → Option ℤ → Option ℤ → Option ℤ
operator_applied o None b = None
operator_applied o (Some a) None = None
operator_applied o (Some a) (Some b) = applied o a b

-- a token of a number or a character; the literals of an expression are of no other kind
abbrev pub token_worth : Kind → List ℕ → Option Constant
token_worth NumberToken text = Some (Integer (pos (number_value text)))
token_worth CharLit text = Some (Character (character_octet text))
token_worth TextLit text = None
token_worth Ident text = None
token_worth Keyword text = None
token_worth Punct text = None
token_worth Pragma text = None

abbrev pub literal_worth : Leaf → Option Constant
literal_worth l = token_worth l.token.kind l.token.text.now

abbrev pub is_text : Kind → Bool
is_text TextLit = true
is_text NumberToken = false
is_text CharLit = false
is_text Ident = false
is_text Keyword = false
is_text Punct = false
is_text Pragma = false

abbrev pub are_texts : List Leaf → Bool
are_texts [] = true
are_texts (l ∷ ls) = is_text l.token.kind && are_texts ls

-- text literals that stand one behind another are one text
abbrev pub text_worth : List Leaf → Option Constant
text_worth ls = where_true (are_texts ls) (Text (joined_octets ls))

abbrev mutual
  pub worth : NamesWorth → Expr → Option Constant
  worth names (Name n) = names n
  worth names (Number l) = literal_worth l
  worth names (CharacterLiteral l) = literal_worth l
  worth names (Texts ls) = text_worth (parts ls.value)
  worth names (BooleanLiteral b word) = Some (Boolean b)
  worth names (Parenthesized' l p inner) = worth names inner
  worth names (Signed' m s p inner) = whole_constant (sign_applied s (whole_number (worth names inner)))
  worth names (Chain' p first shape rest) = whole_constant (chain_worth names (whole_number (worth names first)) rest)

  -- what the operators and operands make of what stands before them
  pub chain_worth : {n : _} → NamesWorth → Option ℤ → Row_of-Operand n → Option ℤ
  chain_worth names before end_of-Operand = before
  chain_worth names before (more_of-Operand o e rest) =
      chain_worth names (operator_applied o before (whole_number (worth names e))) rest

-- a bound or a size: a whole number of at least 1
abbrev pub positive : Option ℤ → Option ℕ
positive None = None
positive (Some (negsuc n)) = None
positive (Some (pos n)) = where_true (nat_lt 0 n) n
