-- Which refusals a word means, and the lines that tell of refusals.
use Rattle.std.specs.Prelude.{◌≡◌, ℕ, suc, zero, Bool, true, false, ◌||◌, ◌==◌, ◌++◌, List, [], ◌∷◌, Option, Some, None}
use Rattle.std.specs.List.{before_first, after_first}
use Rattle.std.specs.Str.{bytes_eq, str_eq_ignore_ascii_case}
use Rattle.diagnostic_texts.specs.Headings.{first_line, heading}

-- a heading is digits, a blank and a name
abbrev pub digits_of : List ℕ → List ℕ
digits_of heading = before_first (λ c. c == 32) heading

abbrev pub name_of : List ℕ → List ℕ
name_of heading = after_first (λ c. c == 32) heading

-- the word is the digits of the heading, or its name in whatever case of its letters
abbrev pub is_of : List ℕ → Option (List ℕ) → Bool
is_of word None = false
is_of word (Some heading) = bytes_eq word (digits_of heading) || str_eq_ignore_ascii_case word (name_of heading)

-- the word means the refusal with this number
unfoldable pub means : List ℕ → ℕ → Bool
means word n = is_of word (heading n)

-- the word means the refusal, and its heading begins the text
pub record IsMeant (word : List ℕ) (n : ℕ) (text : List ℕ) : Type 0 where
  pub is : means word n ≡ true
  pub headed : heading n ≡ Some (first_line text)

-- one text of each refusal below the number that the word means, one behind another
pub data AreTexts (word : List ℕ) : ℕ → List ℕ → Type 0 where
  none : AreTexts word zero []
  other : (n : ℕ) (texts : List ℕ) → AreTexts word n texts → means word n ≡ false → AreTexts word (suc n) texts
  one : (n : ℕ) (texts text : List ℕ) → AreTexts word n texts → IsMeant word n text
      → AreTexts word (suc n) (texts ++ text)

-- the lines of the headings of all refusals below the number, in order
abbrev pub line_of : Option (List ℕ) → List ℕ
line_of None = []
line_of (Some heading) = heading ++ 10 ∷ []

unfoldable pub lines_below : ℕ → List ℕ
lines_below zero = []
lines_below (suc n) = lines_below n ++ line_of (heading n)
