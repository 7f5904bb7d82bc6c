-- Why a text isn't compiled: the first step that finds a fault tells it, tokens before grammar, grammar before names,
-- names before types.
use Rattle.std.specs.Prelude.{◌≡◌, ◌≤◌, ◌⊎◌, ℕ, List, Err}
use Rattle.idl_lexer.specs.declared.fault.LexFault.{LexFault}
use Rattle.idl_lexer.specs.declared.fault.LexFault.TheVariants as Lexing
use Rattle.idl_lexer.specs.declared.token.Token.{Token}
use Rattle.idl_lexer.specs.Tokens.{HaveLines, Lexed}
use Rattle.idl_lexer.specs.Faults.{IsFault as IsLexFault}
use Rattle.idl_parser.specs.declared.fault.ParseFault.{ParseFault}
use Rattle.idl_parser.specs.declared.fault.ParseFault.TheVariants as Parsing
use Rattle.idl_tree.specs.declared.definitions.Definition.{Definition}
use Rattle.idl_tree.specs.Pieces.{Spell}
use Rattle.idl_tree.specs.DefinitionYields.{definitions_spelled}
use Rattle.idl_tree.specs.DefinitionLevels.{levels_of}
use Rattle.scoped_names.specs.declared.fault.NameFault.{NameFault}
use Rattle.scoped_names.specs.declared.fault.NameFault.TheVariants as Naming
use Rattle.scoped_names.specs.FileNames.{AreNames, FileNames, names_of}
use Rattle.lowered_types.specs.declared.fault.TypeFault.{TypeFault}
use Rattle.model_builder.specs.declared.fault.ModelFault.{ModelFault}
use Rattle.model_builder.specs.declared.fault.ModelFault.TheVariants as Modelling
use Rattle.model_builder.specs.Faults.{IsFault}
use Rattle.idl_compiler.specs.declared.fault.CompileFault.{CompileFault}
use Rattle.idl_compiler.specs.declared.fault.CompileFault.TheVariants.{Tokens, Grammar, Names, Types, TooLong, NoMemory}
use Rattle.idl_compiler.specs.declared.choice.Settled.{Settled}
use Rattle.idl_compiler.specs.Compiled.{IsCompiled, IsTextOf}

-- ---- the fault of a step as that of the compiler

abbrev pub of_tokens : LexFault → CompileFault
of_tokens Lexing.NoMemory = NoMemory
of_tokens fault = Tokens fault

abbrev pub of_grammar : ParseFault → CompileFault
of_grammar Parsing.NoMemory = NoMemory
of_grammar fault = Grammar fault

abbrev pub of_names : NameFault → CompileFault
of_names Naming.NoMemory = NoMemory
of_names fault = Names fault

abbrev pub of_types : ModelFault → CompileFault
of_types Modelling.NoMemory = NoMemory
of_types (Modelling.Types fault) = Types fault

-- ---- what a fault says of definitions

-- their names have no fault, and this is one of their types
pub record IsFaultOfTypes (definitions : List Definition) (fault : TypeFault) : Type 0 where
  pub names : FileNames
  pub named : AreNames definitions names
  pub is : IsFault definitions names fault

-- no tree has a fault of its tokens or its grammar
abbrev pub IsFaultOf : List Definition → CompileFault → Type 0
IsFaultOf definitions (Tokens fault) = ⊥
IsFaultOf definitions (Grammar fault) = ⊥
IsFaultOf definitions (Names fault) = names_of definitions ≡ Err fault
IsFaultOf definitions (Types fault) = IsFaultOfTypes definitions fault
IsFaultOf definitions TooLong = ⊥
IsFaultOf definitions NoMemory = Unit {0}

-- ---- what it says of a text

-- the text consists of tokens, and no definitions within 64 levels spell them
pub record HasNoTree (source : List ℕ) : Type 0 where
  pub tokens : List Token
  pub lexed : Lexed source tokens
  pub lines : HaveLines source tokens
  pub none : (definitions : List Definition) → Spell (definitions_spelled definitions) tokens
      → levels_of definitions ≤ 64 → ⊥

-- the text is one of definitions that have the fault
pub record HasFault (source : List ℕ) (fault : CompileFault) : Type 0 where
  pub definitions : List Definition
  pub text : IsTextOf source definitions
  pub is : IsFaultOf definitions fault

-- the text doesn't consist of tokens, and this is its fault
pub record HasNoTokens (source : List ℕ) (fault : LexFault) : Type 0 where
  pub none : (tokens : List Token) → Lexed source tokens → ⊥
  pub is : IsLexFault source fault

abbrev pub IsRefused : List ℕ → CompileFault → Type 0
IsRefused source (Tokens fault) = HasNoTokens source fault
IsRefused source (Grammar fault) = HasNoTree source
IsRefused source (Names fault) = HasFault source (Names fault)
IsRefused source (Types fault) = HasFault source (Types fault)
IsRefused source TooLong = ⊥
IsRefused source NoMemory = Unit {0}

-- no table is that of the text
abbrev pub HasNoTable : List ℕ → Type 0
HasNoTable source = (settled : Settled) → IsCompiled source settled → ⊥

-- want of memory aside, no table is that of a text that is refused
abbrev pub HasNoTableBut : List ℕ → CompileFault → Type 0
HasNoTableBut source fault = (fault ≡ NoMemory) ⊎ HasNoTable source
