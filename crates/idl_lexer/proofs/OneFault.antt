-- A source has one fault: it is stuck at one place, whose first octet tells of which kind the fault is.
use Rattle.std.proofs.Common.{◌≡◌, ◌≢◌, ◌∙◌, ℕ, ◌+◌, ◌<◌, ◌≤◌, Bool, true, false, ◌==◌, inl, inr, List, cond, take, drop, slice_index, ap, subst, sym, refl, arith}
use Rattle.std.specs.Char.{is_ascii_digit}
use Rattle.std.proofs.lemmas.Bool.{cases_lt}
use Rattle.std.proofs.lemmas.Bool.Decides.{nat_tests}
use Rattle.std.proofs.lemmas.List.{drop-drop}
use Rattle.idl_lexer.specs.declared.fault.LexFault.{LexFault}
use Rattle.idl_lexer.specs.declared.fault.Start.{Start}
use Rattle.idl_lexer.specs.declared.fault.LexFault.TheVariants.{OpenComment, BadNumber, OpenLiteral}
use Rattle.idl_lexer.specs.declared.token.Token.{Token}
use Rattle.idl_lexer.specs.Literals.{AreCharacters, none, more, IsCharacter}
use Rattle.idl_lexer.specs.Faults.{character_fault, if_ascii, open_char, no_char, zero_char, no_more, of_directive, of_comment, of_char, of_text, of_number, of_word, IsCharFault, IsDirectiveFault, IsFault, IsFaultAt, IsTextFault, IsWordFault, start_at}
use Rattle.idl_lexer.specs.Tokens.{Lexed}
use Rattle.idl_lexer.proofs.Characters.{same_len, same_value}
use Rattle.idl_lexer.proofs.Paths.{none_lexed, path, stuck}

-- ---- by the first octet

data Sort : Type 0 where
  hash : Sort
  slash : Sort
  quote : Sort
  quotes : Sort
  digit : Sort
  other : Sort

-- of which sort the fault of a place is
abbrev sort : ℕ → Sort
sort a = cond (a == 35) hash
    (cond (a == 47) slash (cond (a == 39) quote (cond (a == 34) quotes (cond (is_ascii_digit a) digit other))))

abbrev OfSort : Sort → List ℕ → List ℕ → Start → LexFault → Type 0
OfSort hash before s start fault = IsDirectiveFault before s start fault
OfSort slash before s start fault = fault ≡ OpenComment start.line start.octet
OfSort quote before s start fault = IsCharFault s start fault
OfSort quotes before s start fault = IsTextFault s start fault
OfSort digit before s start fault = fault ≡ BadNumber start.line start.octet
OfSort other before s start fault = IsWordFault s start fault

unlike : (n a : ℕ) → a ≢ n → (a == n) ≡ false
unlike n a h = grind (arith, nat_tests)

low_digit : (a : ℕ) → is_ascii_digit a ≡ true → 48 ≤ a
low_digit a h = grind (arith, nat_tests)

sort_of : (a : ℕ) (b : Bool) → a ≢ 35 → a ≢ 47 → a ≢ 39 → a ≢ 34 → is_ascii_digit a ≡ b → sort a ≡ cond b digit other
sort_of a b h1 h2 h3 h4 e =
    ap (λ x. cond x hash (cond (a == 47) slash
    (cond (a == 39) quote (cond (a == 34) quotes (cond (is_ascii_digit a) digit other))))) (unlike 35 a h1)
    ∙ ap (λ x. cond x slash (cond (a == 39) quote (cond (a == 34) quotes (cond (is_ascii_digit a) digit other))))
    (unlike 47 a h2)
    ∙ ap (λ x. cond x quote (cond (a == 34) quotes (cond (is_ascii_digit a) digit other))) (unlike 39 a h3)
    ∙ ap (λ x. cond x quotes (cond (is_ascii_digit a) digit other)) (unlike 34 a h4)
    ∙ ap (λ x. cond x digit other) e

by_sort : (k : Sort) (before s : List ℕ) (start : Start) (fault : LexFault) → sort (slice_index s 0) ≡ k
    → OfSort k before s start fault → OfSort (sort (slice_index s 0)) before s start fault
by_sort k before s start fault e is = let P : Sort → Type 0 = λ j. OfSort j before s start fault in subst P (sym e) is

sorted : (before s : List ℕ) (start : Start) (fault : LexFault) → IsFaultAt before s start fault
    → OfSort (sort (slice_index s 0)) before s start fault
sorted before s start fault (of_directive e is) = by_sort hash before s start fault (ap sort e) is
sorted before s start fault (of_comment e is) = by_sort slash before s start fault (ap sort e) is
sorted before s start fault (of_char e is) = by_sort quote before s start fault (ap sort e) is
sorted before s start fault (of_text e is) = by_sort quotes before s start fault (ap sort e) is
sorted before s start fault (of_number e is) =
    let low = low_digit (slice_index s 0) e in
    by_sort digit before s start fault
    (sort_of (slice_index s 0) true (λ f. omega arith) (λ f. omega arith) (λ f. omega arith) (λ f. omega arith) e)
    is
sorted before s start fault (of_word h1 h2 h3 h4 e is) =
    by_sort other before s start fault (sort_of (slice_index s 0) false h1 h2 h3 h4 e) is

-- ---- of one sort there is one fault

directive_one : (before s : List ℕ) (start : Start) (f g : LexFault) → IsDirectiveFault before s start f
    → IsDirectiveFault before s start g → f ≡ g
directive_one before s start f g (inl a) (inl b) = a.2 ∙ sym b.2
directive_one before s start f g (inl a) (inr b) = absurd (b.0 a.0 a.1)
directive_one before s start f g (inr a) (inl b) = absurd (a.0 b.0 b.1)
directive_one before s start f g (inr a) (inr b) = a.1 ∙ sym b.1

word_one : (s : List ℕ) (start : Start) (f g : LexFault) → IsWordFault s start f → IsWordFault s start g → f ≡ g
word_one s start f g (inl a) (inl b) = a.1 ∙ sym b.1
word_one s start f g (inl a) (inr b) = let both : true ≡ false = sym a.0 ∙ b.0 in cc
word_one s start f g (inr a) (inl b) = let both : true ≡ false = sym b.0 ∙ a.0 in cc
word_one s start f g (inr a) (inr b) = a.1 ∙ sym b.1

char_one : (s : List ℕ) (start : Start) (f g : LexFault) → IsCharFault s start f → IsCharFault s start g → f ≡ g
char_one s start f g (open_char n v char closes e) (open_char m w char2 closes2 e2) =
    e ∙ ap (λ k. if_ascii (drop (k + 1) s) (OpenLiteral start.line start.octet) start)
    (same_len 39 39 (drop 1 s) n m v w char char2) ∙ sym e2
char_one s start f g (open_char n v char closes e) (no_char never e2) = absurd (never n v char)
char_one s start f g (no_char never e) (open_char n v char closes e2) = absurd (never n v char)
char_one s start f g (no_char never e) (no_char never2 e2) = e ∙ sym e2

-- behind characters that end at a place no other stands there
abbrev Stops : List ℕ → Type 0
Stops s = (n v : ℕ) → IsCharacter 34 s n v → v ≢ 0 → ⊥

next_stops : (s : List ℕ) (n m k : ℕ) → k ≡ n + m → Stops (drop k s) → Stops (drop m (drop n s))
next_stops s n m k e stops =
    let place : drop m (drop n s) ≡ drop k s = drop-drop m n s ∙ ap (λ j. drop j s) (omega arith) in rw place stops

one_end : (s : List ℕ) (k j : ℕ) (vs ws : List ℕ) → AreCharacters 34 s k vs → Stops (drop k s) → AreCharacters 34 s j ws
    → Stops (drop j s) → k ≡ j
one_end s k j vs ws (none s1) stops (none s2) stops2 = refl
one_end s k j vs ws (none s1) stops (more s2 n v m j2 vs2 char nz rest g) stops2 = absurd (stops n v char nz)
one_end s k j vs ws (more s2 n v m k2 vs2 char nz rest g) stops (none s1) stops2 = absurd (stops2 n v char nz)
one_end s k j vs ws (more s1 n v m k1 vs1 char nz rest g) stops (more s2 n2 v2 m2 j2 vs2 char2 nz2 rest2 g2) stops2 =
    let same : n ≡ n2 = same_len 34 34 s n n2 v v2 char char2 in
    let there : AreCharacters 34 (drop n s) m2 vs2 = rw same rest2 in
    omega (
      arith,
      g,
      g2,
      one_end (drop n s) m m2 vs1 vs2 rest (next_stops s n m k g stops) there
          (next_stops s n m2 j (omega arith) stops2),
    )

-- the same, behind the opening quote
text_end : (s : List ℕ) (k j : ℕ) (vs ws : List ℕ) → AreCharacters 34 (drop 1 s) k vs → Stops (drop (k + 1) s)
    → AreCharacters 34 (drop 1 s) j ws → Stops (drop (j + 1) s) → k ≡ j
text_end s k j vs ws chars stops chars2 stops2 =
    one_end (drop 1 s) k j vs ws chars (next_stops s 1 k (k + 1) (omega arith) stops) chars2
    (next_stops s 1 j (j + 1) (omega arith) stops2)

zero_stops : (s : List ℕ) (n : ℕ) → IsCharacter 34 s n 0 → Stops s
zero_stops s n zeros m v char nz = nz (same_value 34 34 s m n v 0 char zeros)

none_stops : (s : List ℕ) → ((n v : ℕ) → IsCharacter 34 s n v → ⊥) → Stops s
none_stops s never n v char nz = never n v char

text_one : (s : List ℕ) (start : Start) (f g : LexFault) → IsTextFault s start f → IsTextFault s start g → f ≡ g
text_one s start f g (zero_char k n vs chars zeros e) (zero_char j m ws chars2 zeros2 e2) = e ∙ sym e2
text_one s start f g (zero_char k n vs chars zeros e) (no_more j ws chars2 other2 never e2) =
    let same : j ≡ k = sym (text_end s k j vs ws chars (zero_stops (drop (k + 1) s) n zeros) chars2
    (none_stops (drop (j + 1) s) never)) in
    absurd (never n 0 (rw same zeros))
text_one s start f g (no_more j ws chars2 other2 never e) (zero_char k n vs chars zeros e2) =
    let same : j ≡ k = sym (text_end s k j vs ws chars (zero_stops (drop (k + 1) s) n zeros) chars2
    (none_stops (drop (j + 1) s) never)) in
    absurd (never n 0 (rw same zeros))
text_one s start f g (no_more k vs chars other1 never e) (no_more j ws chars2 other2 never2 e2) =
    let same : k ≡ j = text_end s k j vs ws chars (none_stops (drop (k + 1) s) never) chars2
    (none_stops (drop (j + 1) s) never2) in
    e ∙ ap (λ i. character_fault 34 (drop (i + 1) s) start) same ∙ sym e2

one : (k : Sort) (before s : List ℕ) (start : Start) (f g : LexFault) → OfSort k before s start f
    → OfSort k before s start g → f ≡ g
one hash before s start f g a b = directive_one before s start f g a b
one slash before s start f g a b = a ∙ sym b
one quote before s start f g a b = char_one s start f g a b
one quotes before s start f g a b = text_one s start f g a b
one digit before s start f g a b = a ∙ sym b
one other before s start f g a b = word_one s start f g a b

-- ---- a source is stuck at one place

not_before : (source : List ℕ) (f g : LexFault) (a : IsFault source f) (b : IsFault source g) → a.place < b.place → ⊥
not_before source f g a b less =
    stuck source a.place b.place 0 a.tokens b.tokens (path source a.place 0 a.tokens a.read)
    (path source b.place 0 b.tokens b.read) less a.none

same_place : (source : List ℕ) (f g : LexFault) (a : IsFault source f) (b : IsFault source g) → a.place ≡ b.place
same_place source f g a b = elim (cases_lt a.place b.place) [
  | inl less ↦ absurd (not_before source f g a b less)
  | inr le ↦ elim (cases_lt b.place a.place) [
    | inl less ↦ absurd (not_before source g f b a less)
    | inr ge ↦ omega arith
  ]
]

pub one_fault : (source : List ℕ) (f g : LexFault) → IsFault source f → IsFault source g → f ≡ g
one_fault source f g a b =
    let P : ℕ → Type 0 = λ k. IsFaultAt (take k source) (drop k source) (start_at source k) g in
    let there : P a.place = subst P (sym (same_place source f g a b)) b.told in
    let s = drop a.place source in
    one (sort (slice_index s 0)) (take a.place source) s (start_at source a.place) f g
    (sorted (take a.place source) s (start_at source a.place) f a.told)
    (sorted (take a.place source) s (start_at source a.place) g there)

-- and then it has no tokens
pub fault_or_tokens : (source : List ℕ) (tokens : List Token) (fault : LexFault) → Lexed source tokens
    → IsFault source fault → ⊥
fault_or_tokens source tokens fault lexed is =
    none_lexed source (take is.place source) (drop is.place source) is.place is.tokens tokens refl refl is.within
    is.none is.read lexed
