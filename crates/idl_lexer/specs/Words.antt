-- Identifiers and keywords (lexical conventions, identifiers, keywords).
use Rattle.std.specs.Prelude.{◌≡◌, ℕ, ◌+◌, Bool, true, not, ◌⊎◌, List, [], ◌∷◌, take, drop, slice_index, codes, if◌then◌else◌, ◌==◌}
use Rattle.std.specs.Char.{is_ascii_alphabetic}
use Rattle.std.specs.List.{list_any}
use Rattle.std.specs.Str.{bytes_eq, str_eq_ignore_ascii_case}
use Rattle.idl_lexer.specs.Octets.{is_word, run}

-- the keywords of IDL
unfoldable pub keywords : List (List ℕ)
keywords =
    codes "abstract" ∷ codes "any" ∷ codes "attribute" ∷ codes "boolean" ∷ codes "case" ∷ codes "char"
    ∷ codes "component" ∷ codes "const" ∷ codes "consumes" ∷ codes "context" ∷ codes "custom"
    ∷ codes "default" ∷ codes "double" ∷ codes "emits" ∷ codes "enum" ∷ codes "eventtype"
    ∷ codes "exception" ∷ codes "factory" ∷ codes "FALSE" ∷ codes "finder" ∷ codes "fixed"
    ∷ codes "float" ∷ codes "getraises" ∷ codes "home" ∷ codes "import" ∷ codes "in" ∷ codes "inout"
    ∷ codes "interface" ∷ codes "local" ∷ codes "long" ∷ codes "module" ∷ codes "multiple"
    ∷ codes "native" ∷ codes "Object" ∷ codes "octet" ∷ codes "oneway" ∷ codes "out"
    ∷ codes "primarykey" ∷ codes "private" ∷ codes "provides" ∷ codes "public" ∷ codes "publishes"
    ∷ codes "raises" ∷ codes "readonly" ∷ codes "sequence" ∷ codes "setraises" ∷ codes "short"
    ∷ codes "string" ∷ codes "struct" ∷ codes "supports" ∷ codes "switch" ∷ codes "TRUE"
    ∷ codes "truncatable" ∷ codes "typedef" ∷ codes "typeid" ∷ codes "typeprefix" ∷ codes "union"
    ∷ codes "unsigned" ∷ codes "uses" ∷ codes "ValueBase" ∷ codes "valuetype" ∷ codes "void"
    ∷ codes "wchar" ∷ codes "wstring" ∷ []

abbrev pub is_keyword : List ℕ → Bool
is_keyword w = list_any (λ k. bytes_eq k w) keywords

abbrev pub is_keyword_in_some_case : List ℕ → Bool
is_keyword_in_some_case w = list_any (λ k. str_eq_ignore_ascii_case k w) keywords

-- s begins with a word of n octets: a letter, then letters, digits and underscores, as many as follow
pub record IsWord (s : List ℕ) (n : ℕ) : Type 0 where
  pub first : is_ascii_alphabetic (slice_index s 0) ≡ true
  pub whole : n ≡ run is_word s

pub record IsKeyword (s : List ℕ) (n : ℕ) : Type 0 where
  pub word : IsWord s n
  pub listed : is_keyword (take n s) ≡ true

-- a word that is no keyword, in whatever case
pub record IsPlainName (s : List ℕ) (n : ℕ) : Type 0 where
  pub word : IsWord s n
  pub unlisted : not (is_keyword_in_some_case (take n s)) ≡ true

-- an underscore and any word: the underscore only escapes
pub record IsEscapedName (s : List ℕ) (n : ℕ) : Type 0 where
  pub underscore : slice_index s 0 ≡ 95
  pub inner : ℕ
  pub word : IsWord (drop 1 s) inner
  pub length : n ≡ inner + 1

abbrev pub IsIdentifier : List ℕ → ℕ → Type 0
IsIdentifier s n = IsPlainName s n ⊎ IsEscapedName s n

-- the name that an identifier's text stands for
abbrev pub unescaped : List ℕ → List ℕ
unescaped [] = []
unescaped (c ∷ cs) = if c == 95 then cs else c ∷ cs
