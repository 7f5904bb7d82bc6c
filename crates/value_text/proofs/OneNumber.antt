-- A token says at most one number of a node.
use Rattle.std.proofs.Common.{◌≡◌, inl, inr, ℕ, zero, suc, ◌<◌, ◌^◌, ℤ, pos, negsuc, Bool, true, false, List, [], ◌∷◌, drop, length, get_or, map, Option, Some, None, slice_get, refl, sym, ap, ◌∙◌, subst, arith}
use Rattle.std.specs.Prelude.{decimal, if◌then◌else◌}
use Rattle.std.specs.List.{AllByRecursion}
use Rattle.std.specs.Fmt.{signed_decimal}
use Rattle.std.specs.Char.{to_ascii_lowercase}
use Rattle.std.specs.Str.{str_eq_ignore_ascii_case}
use Rattle.std.proofs.lemmas.Bool.{false≢true, lt-ltb}
use Rattle.std.proofs.lemmas.Fmt.{decimal_is_IsNumeral_wide}
use Rattle.std.proofs.lemmas.Str.Parse.{digit_at}
use Rattle.std.proofs.lemmas.Str.{encodes_same}
use Rattle.std.proofs.lemmas.Slice.Eq.{bytes_eq-Decides}
use Rattle.std.proofs.lemmas.Option.{same_Some}
use Rattle.std.proofs.lemmas.Map.Keys.{IsDistinct-head, IsDistinct-tail}
use Rattle.std.specs.Str.Parse.{digits_value}
use lib.Signed.{mag}
use Rattle.json.specs.Token.{Token, string, number, boolean, key}
use Rattle.type_model.specs.PartNamesNames.{AreApart}
use Rattle.type_graph.specs.declared.width.Width.TheVariants.{One, Two, Four, Eight}
use Rattle.type_graph.specs.declared.node.Node.{Node}
use Rattle.type_graph.specs.declared.node.Node.TheVariants.{Integer, Octet, Char, Boolean, Enum}
use Rattle.type_graph.specs.Value.{IsNumber}
use Rattle.value_text.specs.Pieces.{digits, octet_of}
use Rattle.value_text.specs.Texts.{truth_of, label_of}
use Rattle.value_text.specs.Says.{SaysNumber}
use Rattle.value_text.specs.inner.Refusing.{IsShort, IsLow, IsNamed}

-- what a token has
abbrev pub text_in : Token → List ℕ
text_in (key s) = s
text_in (string s) = s
text_in (number s) = s
text_in token = []

abbrev truth_in : Token → Bool
truth_in (boolean truth) = truth
truth_in token = false

abbrev pub Is_string : Token → Type 0
Is_string (string s) = Unit {0}
Is_string token = ⊥

-- digits are those of one number
decimal_one : (m n : ℕ) → m < 10 ^ 64 → n < 10 ^ 64 → decimal m ≡ decimal n → m ≡ n
decimal_one m n low also e = sym (decimal_is_IsNumeral_wide m low).1 ∙ ap (digits_value 10) e
    ∙ (decimal_is_IsNumeral_wide n also).1

not_minus : (m n : ℕ) → m < 10 ^ 64 → decimal m ≡ 45 ∷ decimal (suc n) → ⊥
not_minus m n low e =
    let long = ap length e in
    let first = ap (λ l. get_or l 0 0) e in
    let digit = digit_at (decimal m) 0 (decimal_is_IsNumeral_wide m low).0.1 (omega (arith, long)) in
    omega (arith, digit.0, first)

pub digits_one : (m n : ℤ) → mag m < 2 ^ 128 → mag n < 2 ^ 128 → signed_decimal m ≡ signed_decimal n → m ≡ n
digits_one (pos m) (pos n) low also e = ap pos (decimal_one m n (omega arith) (omega arith) e)
digits_one (pos m) (negsuc n) low also e = absurd (not_minus m n (omega arith) e)
digits_one (negsuc m) (pos n) low also e = absurd (not_minus n m (omega arith) (sym e))
digits_one (negsuc m) (negsuc n) low also e = let same =
    decimal_one (suc m) (suc n) (omega arith) (omega arith) (ap (drop 1) e) in ap negsuc (omega (arith, same))

pub is_wide : (n : ℤ) → IsShort n → mag n < 2 ^ 128
is_wide (pos n) h = omega arith
is_wide (negsuc n) h = omega arith

pub is_short : (node : Node) (n : ℤ) → IsLow node → IsNumber node n → IsShort n
is_short (Integer One true) (pos n) low h = omega (arith, h)
is_short (Integer Two true) (pos n) low h = omega (arith, h)
is_short (Integer Four true) (pos n) low h = omega (arith, h)
is_short (Integer Eight true) (pos n) low h = omega (arith, h)
is_short (Integer One true) (negsuc n) low h = omega (arith, h)
is_short (Integer Two true) (negsuc n) low h = omega (arith, h)
is_short (Integer Four true) (negsuc n) low h = omega (arith, h)
is_short (Integer Eight true) (negsuc n) low h = omega (arith, h)
is_short (Integer One false) (pos n) low h = omega (arith, h)
is_short (Integer Two false) (pos n) low h = omega (arith, h)
is_short (Integer Four false) (pos n) low h = omega (arith, h)
is_short (Integer Eight false) (pos n) low h = omega (arith, h)
is_short (Integer w false) (negsuc n) low h = absurd h
is_short Octet (pos n) low h = omega (arith, h)
is_short Char (pos n) low h = omega (arith, h)
is_short Boolean (pos n) low h = omega (arith, h)
is_short (Enum limit) (pos n) low h = omega (arith, h, low)
is_short Octet (negsuc n) low h = absurd h
is_short Char (negsuc n) low h = absurd h
is_short Boolean (negsuc n) low h = absurd h
is_short (Enum limit) (negsuc n) low h = absurd h
is_short node n low h = absurd h

-- a name stands at one place
pub same_itself : (name : List ℕ) → str_eq_ignore_ascii_case name name ≡ true
same_itself name = (bytes_eq-Decides (map to_ascii_lowercase name) (map to_ascii_lowercase name)).1 refl

pub all_at : {X : Type 0} (P : X → Type 0) (xs : List X) (i : ℕ) (x : X) → AllByRecursion P xs → slice_get xs i ≡ Some x
    → P x
all_at P [] i x h e = absurd (subst none_there e tt)
  where
    none_there : {X : Type 0} → Option X → Type 0
    none_there None = Unit {0}
    none_there (Some x) = ⊥
all_at P (first ∷ xs) zero x h e = subst P (same_Some first x e) h.0
all_at P (first ∷ xs) (suc i) x h e = all_at P xs i x h.1 e

pub two_places : (first : List ℕ) (names : List (List ℕ)) (i : ℕ) (name : List ℕ)
    → AllByRecursion (λ other. str_eq_ignore_ascii_case first other ≡ false) names
    → Some first ≡ Some name → slice_get names i ≡ Some name → ⊥
two_places first names i name h e f =
    false≢true (sym (all_at (λ other. str_eq_ignore_ascii_case first other ≡ false) names i name h f)
    ∙ ap (λ l. str_eq_ignore_ascii_case l name) (same_Some first name e) ∙ same_itself name)

pub one_place : (names : List (List ℕ)) (i j : ℕ) (name : List ℕ) → AreApart names → slice_get names i ≡ Some name
    → slice_get names j ≡ Some name → i ≡ j
one_place [] i j name apart e f = absurd (all_at (λ x. ⊥) [] i name tt e)
one_place (first ∷ names) zero zero name apart e f = refl
one_place (first ∷ names) zero (suc j) name apart e f =
    absurd (two_places first names j name (IsDistinct-head str_eq_ignore_ascii_case first names apart) e f)
one_place (first ∷ names) (suc i) zero name apart e f =
    absurd (two_places first names i name (IsDistinct-head str_eq_ignore_ascii_case first names apart) f e)
one_place (first ∷ names) (suc i) (suc j) name apart e f =
    ap suc (one_place names i j name (IsDistinct-tail str_eq_ignore_ascii_case first names apart) e f)

pub label_one : (labels : List (List ℕ)) (m n : ℤ) (label : List ℕ) → AreApart labels → label_of labels m ≡ Some label
    → label_of labels n ≡ Some label → m ≡ n
label_one labels (pos m) (pos n) label apart e f = ap pos (one_place labels m n label apart e f)
label_one labels (negsuc m) n label apart e f = absurd (all_at (λ x. ⊥) [] 0 label tt e)
label_one labels (pos m) (negsuc n) label apart e f = absurd (all_at (λ x. ⊥) [] 0 label tt f)

-- an octet is itself
pub octet_is : (n : ℕ) → n < 256 → octet_of (pos n) ≡ n
octet_is n low = ap (λ b. if b then n else 0) (lt-ltb n 256 low)

pub octet_low : (n : ℤ) → IsNumber Char n → octet_of n < 256
octet_low (pos n) low = let same = octet_is n low in omega (arith, low, same)
octet_low (negsuc n) low = absurd low

pub truth_one : (m n : ℤ) → IsNumber Boolean m → IsNumber Boolean n → truth_of m ≡ truth_of n → m ≡ n
truth_one (pos zero) (pos zero) low also e = refl
truth_one (pos zero) (pos (suc n)) low also e = absurd (false≢true e)
truth_one (pos (suc m)) (pos zero) low also e = absurd (false≢true (sym e))
truth_one (pos (suc m)) (pos (suc n)) low also e = ap pos (omega (arith, low, also))
truth_one (negsuc m) n low also e = absurd low
truth_one (pos m) (negsuc n) low also e = absurd also

pub char_one : (m n : ℤ) → IsNumber Char m → IsNumber Char n → octet_of m ≡ octet_of n → m ≡ n
char_one (pos m) (pos n) low also e = ap pos (sym (octet_is m low) ∙ e ∙ octet_is n also)
char_one (negsuc m) n low also e = absurd low
char_one (pos m) (negsuc n) low also e = absurd also

-- by digits
by_digits : (node : Node) (m n : ℤ) (token : Token) → IsLow node → IsNumber node m → IsNumber node n → token ≡ digits m
    → token ≡ digits n → m ≡ n
by_digits node m n token low h k e f =
    digits_one m n (is_wide m (is_short node m low h)) (is_wide n (is_short node n low k)) (ap text_in (sym e ∙ f))

not_both : (n : ℤ) (label : List ℕ) (token : Token) → token ≡ digits n → token ≡ string label → ⊥
not_both n label token e f = subst Is_string (sym f ∙ e) tt

pub number_one : (labels : List (List ℕ)) (node : Node) (m n : ℤ) (token : Token) → IsLow node → IsNamed node labels
    → IsNumber node m → IsNumber node n
    → SaysNumber labels node m token → SaysNumber labels node n token → m ≡ n
number_one labels Boolean m n token low apart h k e f = truth_one m n h k (ap truth_in (sym e ∙ f))
number_one labels Char m n token low apart h k e f =
    char_one m n h k (ap (λ l. get_or l 0 0)
    (encodes_same (octet_of m ∷ []) (octet_of n ∷ []) (ap text_in (sym e ∙ f))))
number_one labels (Enum limit) m n token low apart h k (inl e) (inl f) = by_digits (Enum limit) m n token low h k e f
number_one labels (Enum limit) m n token low apart h k (inl e) (inr f) = absurd (not_both m f.0 token e f.2)
number_one labels (Enum limit) m n token low apart h k (inr e) (inl f) = absurd (not_both n e.0 token f e.2)
number_one labels (Enum limit) m n token low apart h k (inr e) (inr f) =
    label_one labels m n f.0 apart (e.1 ∙ ap Some (ap text_in (sym e.2 ∙ f.2))) f.1
number_one labels node m n token low apart h k e f = by_digits node m n token low h k e f
