-- Which fault a source has: that of the first place where it goes on with no token and with nothing that is skipped.
use Rattle.std.specs.Prelude.{◌≡◌, ◌≢◌, ℕ, ◌+◌, ◌<◌, ◌⊎◌, true, false, not, ◌||◌, ◌==◌, List, length, nat_lt, take, drop, slice_index, if◌then◌else◌}
use Rattle.std.specs.Char.{is_ascii, is_ascii_alphabetic, is_ascii_digit}
use Rattle.std.specs.List.{list_all}
use Rattle.idl_lexer.specs.declared.fault.LexFault.{LexFault}
use Rattle.idl_lexer.specs.declared.fault.Start.{Start}
use Rattle.idl_lexer.specs.declared.fault.LexFault.TheVariants.{BadChar, OpenComment, OpenLiteral, BadNumber, BadEscape, BadDirective, KeywordCase}
use Rattle.idl_lexer.specs.declared.token.Token.{Token}
use Rattle.idl_lexer.specs.Octets.{run}
use Rattle.idl_lexer.specs.Literals.{IsCharacter, AreCharacters}
use Rattle.idl_lexer.specs.Directives.{IsFresh, line_of}
use Rattle.idl_lexer.specs.Lexemes.{HasNoForm}
use Rattle.idl_lexer.specs.Tokens.{LexedPart, line_at}

-- where s begins with a backslash, but with no escape: the literal's line ends there, or it is no letter of an escape
abbrev pub escape_fault : List ℕ → Start → LexFault
escape_fault s start =
    (if nat_lt (length s) 2 || slice_index s 1 == 10 then OpenLiteral start.line start.octet
    else if is_ascii (slice_index s 1) then BadEscape start.line start.octet
    else BadChar start.line start.octet)

-- where s begins with no character between these quotes: the literal or its line ends there, or what stands there
-- isn't ASCII
abbrev pub character_fault : ℕ → List ℕ → Start → LexFault
character_fault quote s start =
    (if slice_index s 0 == 92 then escape_fault s start
    else if nat_lt (length s) 1 || slice_index s 0 == 10 || slice_index s 0 == quote
    then OpenLiteral start.line start.octet
    else BadChar start.line start.octet)

-- what stands before the next ' and the end of the line
abbrev pub before_end : List ℕ → List ℕ
before_end s = take (run (λ c. not (c == 39 || c == 10)) s) s

-- the fault, if a character literal goes on with ASCII alone
abbrev pub if_ascii : List ℕ → LexFault → Start → LexFault
if_ascii s fault start = if list_all is_ascii (before_end s) then fault else BadChar start.line start.octet

-- of a character literal: its character isn't closed, or there is none
pub data IsCharFault (s : List ℕ) (start : Start) (fault : LexFault) : Type 0 where
  open_char : (n v : ℕ) → IsCharacter 39 (drop 1 s) n v → slice_index s (n + 1) ≢ 39
      → fault ≡ if_ascii (drop (n + 1) s) (OpenLiteral start.line start.octet) start → IsCharFault s start fault
  no_char : ((n v : ℕ) → IsCharacter 39 (drop 1 s) n v → ⊥)
      → fault ≡ if_ascii (drop 1 s) (character_fault 39 (drop 1 s) start) start → IsCharFault s start fault

-- of a text literal: behind its characters stands neither its quote nor a character, or an escape of the zero octet
pub data IsTextFault (s : List ℕ) (start : Start) (fault : LexFault) : Type 0 where
  zero_char : (inner n : ℕ) (octets : List ℕ) → AreCharacters 34 (drop 1 s) inner octets
      → IsCharacter 34 (drop (inner + 1) s) n 0 → fault ≡ BadEscape start.line start.octet
      → IsTextFault s start fault
  no_more : (inner : ℕ) (octets : List ℕ) → AreCharacters 34 (drop 1 s) inner octets → slice_index s (inner + 1) ≢ 34
      → ((n v : ℕ) → IsCharacter 34 (drop (inner + 1) s) n v → ⊥)
      → fault ≡ character_fault 34 (drop (inner + 1) s) start → IsTextFault s start fault

-- of what begins with #: a directive of another form, or something that stands before it or in it
abbrev pub IsDirectiveFault : List ℕ → List ℕ → Start → LexFault → Type 0
IsDirectiveFault before s start fault =
    (IsFresh before × (list_all is_ascii (line_of s) ≡ true) × (fault ≡ BadDirective start.line start.octet))
    ⊎ ((IsFresh before → list_all is_ascii (line_of s) ≡ true → ⊥) × (fault ≡ BadChar start.line start.octet))

-- of what begins with a letter, or with nothing that a token begins with
abbrev pub IsWordFault : List ℕ → Start → LexFault → Type 0
IsWordFault s start fault =
    ((is_ascii_alphabetic (slice_index s 0) ≡ true) × (fault ≡ KeywordCase start.line start.octet))
    ⊎ ((is_ascii_alphabetic (slice_index s 0) ≡ false) × (fault ≡ BadChar start.line start.octet))

-- by the octets with which s begins behind `before`
pub data IsFaultAt (before s : List ℕ) (start : Start) (fault : LexFault) : Type 0 where
  of_directive : slice_index s 0 ≡ 35 → IsDirectiveFault before s start fault → IsFaultAt before s start fault
  of_comment : slice_index s 0 ≡ 47 → fault ≡ OpenComment start.line start.octet → IsFaultAt before s start fault
  of_char : slice_index s 0 ≡ 39 → IsCharFault s start fault → IsFaultAt before s start fault
  of_text : slice_index s 0 ≡ 34 → IsTextFault s start fault → IsFaultAt before s start fault
  of_number : is_ascii_digit (slice_index s 0) ≡ true → fault ≡ BadNumber start.line start.octet
      → IsFaultAt before s start fault
  of_word : slice_index s 0 ≢ 35 → slice_index s 0 ≢ 47 → slice_index s 0 ≢ 39 → slice_index s 0 ≢ 34
      → is_ascii_digit (slice_index s 0) ≡ false → IsWordFault s start fault → IsFaultAt before s start fault

-- a place and its line
abbrev pub start_at : List ℕ → ℕ → Start
start_at source place = record { line = line_at source place; octet = place }

-- the source consists of tokens and of what is skipped up to a place, where it goes on with neither: there is the fault
pub record IsFault (source : List ℕ) (fault : LexFault) : Type 0 where
  pub place : ℕ
  pub within : place < length source
  pub tokens : List Token
  pub read : LexedPart source 0 tokens place
  pub none : HasNoForm (take place source) (drop place source)
  pub told : IsFaultAt (take place source) (drop place source) (start_at source place) fault
