-- The number of the fault of an IDL file, and its line.
use Rattle.std.specs.Prelude.{ℕ, Option, Some, None}
use Rattle.idl_lexer.specs.declared.fault.LexFault.{LexFault}
use Rattle.idl_lexer.specs.declared.fault.LexFault.TheVariants as lexing
use Rattle.idl_parser.specs.declared.fault.ParseFault.{ParseFault}
use Rattle.idl_parser.specs.declared.fault.ParseFault.TheVariants as parsing
use Rattle.scoped_names.specs.declared.fault.NameFault.{NameFault}
use Rattle.scoped_names.specs.declared.fault.NameFault.TheVariants as naming
use Rattle.lowered_types.specs.declared.fault.TypeFault.{TypeFault}
use Rattle.lowered_types.specs.declared.fault.TypeFault.TheVariants as typing
use Rattle.idl_compiler.specs.declared.fault.CompileFault.{CompileFault}
use Rattle.idl_compiler.specs.declared.fault.CompileFault.TheVariants.{Tokens, Grammar, Names, Types, TooLong, NoMemory}

abbrev pub Spot : Type 0
Spot = Option (ℕ × ℕ)

abbrev pub spot_of_tokens : LexFault → Spot
spot_of_tokens (lexing.BadChar line octet) = Some (1, line)
spot_of_tokens (lexing.OpenComment line octet) = Some (2, line)
spot_of_tokens (lexing.OpenLiteral line octet) = Some (3, line)
spot_of_tokens (lexing.BadNumber line octet) = Some (4, line)
spot_of_tokens (lexing.BadEscape line octet) = Some (5, line)
spot_of_tokens (lexing.BadDirective line octet) = Some (6, line)
spot_of_tokens (lexing.KeywordCase line octet) = Some (7, line)
spot_of_tokens lexing.NoMemory = None

abbrev pub spot_of_grammar : ParseFault → Spot
spot_of_grammar (parsing.Unexpected at line) = Some (10, line)
spot_of_grammar (parsing.EndOfFile line) = Some (11, line)
spot_of_grammar (parsing.LeftOut what at line) = Some (12, line)
spot_of_grammar (parsing.TooDeep at line) = Some (13, line)
spot_of_grammar parsing.NoMemory = None

abbrev pub spot_of_names : NameFault → Spot
spot_of_names (naming.Unknown at) = Some (20, at.line)
spot_of_names (naming.Collides at other) = Some (21, at.line)
spot_of_names (naming.CaseDiffers at other) = Some (22, at.line)
spot_of_names (naming.Ambiguous at one other) = Some (23, at.line)
spot_of_names (naming.NotAType at found) = Some (24, at.line)
spot_of_names (naming.IdTwice at other) = Some (25, at.line)
spot_of_names (naming.BadConstant at why) = Some (26, at.line)
spot_of_names (naming.BadBase at why) = Some (27, at.line)
spot_of_names (naming.PrefixInScope at) = Some (28, at.line)
spot_of_names (naming.PrefixDiffers at other) = Some (29, at.line)
spot_of_names naming.NoMemory = None

abbrev pub spot_of_types : TypeFault → Spot
spot_of_types (typing.SelfHeld at) = Some (30, at.line)
spot_of_types (typing.LabelTwice at other) = Some (31, at.line)
spot_of_types (typing.LabelRange at found kind values) = Some (32, at.line)
spot_of_types (typing.DefaultNeedless at) = Some (33, at.line)
spot_of_types (typing.BadSwitch at found) = Some (34, at.line)
spot_of_types (typing.Limit which most at) = Some (35, at.line)
spot_of_types (typing.BadOneway at answer) = Some (36, at.line)

abbrev pub spot_of : CompileFault → Spot
spot_of (Tokens fault) = spot_of_tokens fault
spot_of (Grammar fault) = spot_of_grammar fault
spot_of (Names fault) = spot_of_names fault
spot_of (Types fault) = spot_of_types fault
spot_of TooLong = None
spot_of NoMemory = None
