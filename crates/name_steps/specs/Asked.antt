-- What steps ask for, of what a specification spells: each identifier, literal and pragma.
use Rattle.std.specs.Prelude.{Bool, true, false, List, [], ◌++◌}
use Rattle.std.specs.List.{filter, flat_map}
use Rattle.idl_lexer.specs.declared.token.Kind.{Kind}
use Rattle.idl_lexer.specs.declared.token.Kind.TheVariants.{Ident, Keyword, Punct, Number, CharLit, TextLit, Pragma}
use Rattle.idl_tree.specs.Pieces.{Piece, leaf}
use Rattle.idl_tree.specs.Yields.{const_expr_yield, expr_yield, identifier, name_yield}
use Rattle.name_steps.specs.Steps.{Step, Declares, DeclaresEnum, DeclaresEnumerator, DeclaresTypedef, IsNew, DeclaresConst, DeclaresFeature, HasMember, IsUndefined, HasBase, Enters, Defines, Leaves, NamesType, NamesException, HasWorth, IsSize, Says}

abbrev pub is_asked : Kind → Bool
is_asked Ident = true
is_asked Keyword = false
is_asked Punct = false
is_asked Number = true
is_asked CharLit = true
is_asked TextLit = true
is_asked Pragma = true

abbrev pub asked : List Piece → List Piece
asked ps = filter (λ p. is_asked p.kind) ps

-- what a step is the first to ask for, or the only one
abbrev pub pieces_of : Step → List Piece
pieces_of (Declares kind l) = identifier l
pieces_of (DeclaresEnum l) = identifier l
pieces_of (DeclaresEnumerator l) = identifier l
pieces_of (DeclaresTypedef t d) = identifier d.identifier
pieces_of (IsNew l) = []
pieces_of (DeclaresConst c) = identifier c.identifier ++ const_expr_yield c.value
pieces_of (DeclaresFeature kind l) = identifier l
pieces_of (HasMember l) = identifier l
pieces_of (IsUndefined l) = []
pieces_of (HasBase l name) = name_yield name
pieces_of (Enters l) = []
pieces_of (Defines l) = []
pieces_of Leaves = []
pieces_of (NamesType name) = name_yield name
pieces_of (NamesException name) = name_yield name
pieces_of (HasWorth e) = expr_yield e
pieces_of (IsSize e) = expr_yield e
pieces_of (Says l) = leaf Pragma l

abbrev pub asked_by : List Step → List Piece
asked_by steps = flat_map (λ s. asked (pieces_of s)) steps
