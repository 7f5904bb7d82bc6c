-- What the pragmas of a specification say of repository ids (ISO/IEC 19500-1, pragma directives for repository ids):
-- prefixes are set in the file's scope, and `ID` and `version` name what is declared before them.
use Rattle.std.specs.Prelude.{ℕ, Bool, false, List, Option, Some, None, take, drop, codes, if◌then◌else◌}
use Rattle.std.specs.Str.{bytes_eq}
use Rattle.idl_lexer.specs.declared.token.Kind.{Kind}
use Rattle.idl_lexer.specs.declared.token.Kind.TheVariants.{Ident, Keyword, Punct, Number, CharLit, TextLit, Pragma as PragmaToken}
use Rattle.idl_lexer.specs.Directives.{before_quote, from_quote, pragma_rest, pragma_word, quoted_text, version_number, version_place}
use Rattle.idl_tree.specs.declared.names.Leaf.{Leaf}
use Rattle.scoped_names.specs.RepositoryIds.{GivenId, WholeId, VersionOf}

-- what a pragma for repository ids says: a prefix, or a name and what it gives to it
pub data Said : Type 0 where
  SetsPrefix : List ℕ → Said
  Gives : List ℕ → GivenId → Said

-- of its word, and what follows that
abbrev pub said_by_word : List ℕ → List ℕ → Said
said_by_word word rest =
    (if bytes_eq word (codes "prefix") then SetsPrefix (quoted_text rest)
    else if bytes_eq word (codes "ID") then Gives (before_quote rest) (WholeId (quoted_text (from_quote rest)))
    else Gives (take (version_place rest) rest) (VersionOf (version_number (drop (version_place rest) rest))))

-- of its text, from the `#` to the end of the line
abbrev pub said : List ℕ → Said
said line = said_by_word (pragma_word line) (pragma_rest line)

-- what a leaf of the tree says, where it is a pragma
abbrev pub said_by_kind : Kind → List ℕ → Option Said
said_by_kind PragmaToken line = Some (said line)
said_by_kind Ident line = None
said_by_kind Keyword line = None
said_by_kind Punct line = None
said_by_kind Number line = None
said_by_kind CharLit line = None
said_by_kind TextLit line = None

abbrev pub said_by : Leaf → Option Said
said_by l = said_by_kind l.token.kind l.token.text.now

-- whether two pragmas give the same
abbrev pub is_same_given : GivenId → GivenId → Bool
is_same_given (WholeId a) (WholeId b) = bytes_eq a b
is_same_given (WholeId a) (VersionOf b) = false
is_same_given (VersionOf a) (WholeId b) = false
is_same_given (VersionOf a) (VersionOf b) = bytes_eq a b
