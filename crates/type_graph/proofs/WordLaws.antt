-- The laws of words and gaps: a gap is the least, and every string of a width's octets is the word of exactly one number.
use Rattle.std.proofs.Common.{◌≡◌, ℕ, zero, suc, ◌+◌, ◌-◌, ◌*◌, ◌%◌, ◌/◌, ◌^◌, ◌<◌, ◌≤◌, ℤ, pos, negsuc, List, [], ◌∷◌, ◌++◌, length, get_or, replicate, refl, sym, ap, ap₂, ◌∙◌, inl, inr, w16, w32, w64, mod-eq_of_lt, arith}
use Rattle.std.proofs.lemmas.Bool.{cases_lt}
use Rattle.std.proofs.lemmas.Nat.{mod_below, be_bytes_2, be_bytes_4, be_bytes_8, le_bytes_2, le_bytes_4, le_bytes_8, from_be_bytes-to_be_bytes_2, from_be_bytes-to_be_bytes_4, from_be_bytes-to_be_bytes_8, from_le_bytes-to_le_bytes_2, from_le_bytes-to_le_bytes_4, from_le_bytes-to_le_bytes_8}
use Rattle.std.specs.Int.{byte_at, bytes_high_first, bytes_low_first, from_be_bytes, from_le_bytes}
use Rattle.std.specs.List.{AllByRecursion}
use Rattle.type_graph.specs.declared.width.Width.{Width}
use Rattle.type_graph.specs.declared.width.Width.TheVariants.{One, Two, Four, Eight}
use Rattle.type_graph.specs.declared.width.Order.{Order}
use Rattle.type_graph.specs.declared.width.Order.TheVariants.{Big, Little}
use Rattle.type_graph.specs.Words.{wider, octets_in, words_of, plain_word, twos_complement, word, pad, AllBelow, Padding, Zeros, AnyOctets, IsPadding}
use Rattle.type_graph.specs.Value.{IsSigned, IsBelow}

-- ---- gaps

-- a gap leads to a multiple of the width
pub pad_reaches : (p : ℕ) (w : Width) → (p + pad p (octets_in w)) % octets_in w ≡ 0
pad_reaches p One = omega arith
pad_reaches p Two = omega arith
pad_reaches p Four = omega arith
pad_reaches p Eight = omega arith

-- and to the next one: no shorter one does
pub pad_least : (p q : ℕ) (w : Width) → (p + q) % octets_in w ≡ 0 → pad p (octets_in w) ≤ q
pad_least p q One h = omega arith
pad_least p q Two h = omega arith
pad_least p q Four h = omega arith
pad_least p q Eight h = omega arith

-- a gap is shorter than the width
pub pad_short : (p : ℕ) (w : Width) → pad p (octets_in w) < octets_in w
pad_short p One = omega arith
pad_short p Two = omega arith
pad_short p Four = omega arith
pad_short p Eight = omega arith

-- there is none at a multiple of the width
pub pad_none : (p : ℕ) (w : Width) → p % octets_in w ≡ 0 → pad p (octets_in w) ≡ 0
pad_none p One h = omega arith
pad_none p Two h = omega arith
pad_none p Four h = omega arith
pad_none p Eight h = omega arith

-- it depends on the position modulo 8 alone
pub pad_moved : (p q : ℕ) (w : Width) → q % 8 ≡ p % 8 → pad q (octets_in w) ≡ pad p (octets_in w)
pad_moved p q One h = omega arith
pad_moved p q Two h = omega arith
pad_moved p q Four h = omega arith
pad_moved p q Eight h = omega arith

-- two gaps are as long as that of the wider
pub pad_wider : (p : ℕ) (w v : Width) → pad p (octets_in w) + pad (p + pad p (octets_in w)) (octets_in v)
    ≡ pad p (octets_in (wider w v))
pad_wider p One One = omega arith
pad_wider p One Two = omega arith
pad_wider p One Four = omega arith
pad_wider p One Eight = omega arith
pad_wider p Two One = omega arith
pad_wider p Two Two = omega arith
pad_wider p Two Four = omega arith
pad_wider p Two Eight = omega arith
pad_wider p Four One = omega arith
pad_wider p Four Two = omega arith
pad_wider p Four Four = omega arith
pad_wider p Four Eight = omega arith
pad_wider p Eight One = omega arith
pad_wider p Eight Two = omega arith
pad_wider p Eight Four = omega arith
pad_wider p Eight Eight = omega arith

-- ---- what holds of each

-- of two lists, of the one behind the other
pub all_append : {A : Type 0} (P : A → Type 0) (xs ys : List A) → AllByRecursion P xs → AllByRecursion P ys
    → AllByRecursion P (xs ++ ys)
all_append P [] ys a b = b
all_append P (x ∷ xs) ys a b = (a.0, all_append P xs ys a.1 b)

-- of the front
pub all_front : {A : Type 0} (P : A → Type 0) (xs ys : List A) → AllByRecursion P (xs ++ ys) → AllByRecursion P xs
all_front P [] ys a = tt
all_front P (x ∷ xs) ys a = (a.0, all_front P xs ys a.1)

-- of the back
pub all_back : {A : Type 0} (P : A → Type 0) (xs ys : List A) → AllByRecursion P (xs ++ ys) → AllByRecursion P ys
all_back P [] ys a = a
all_back P (x ∷ xs) ys a = all_back P xs ys a.1

-- where it implies another
pub all_weaken : {A : Type 0} (P Q : A → Type 0) (xs : List A) → ((x : A) → P x → Q x) → AllByRecursion P xs
    → AllByRecursion Q xs
all_weaken P Q [] f a = tt
all_weaken P Q (x ∷ xs) f a = (f x a.0, all_weaken P Q xs f a.1)

-- a place of a list, where 0 stands past its end
pub get_or_below : (limit : ℕ) (xs : List ℕ) (i : ℕ) → 0 < limit → AllBelow limit xs → get_or xs i 0 < limit
get_or_below limit [] i h a = h
get_or_below limit (x ∷ xs) zero h a = a.0
get_or_below limit (x ∷ xs) (suc i) h a = get_or_below limit xs i h a.1

-- zeros fill a gap
pub zeros_below : (n : ℕ) → AllBelow 1 (replicate n 0)
zeros_below zero = tt
zeros_below (suc n) = (omega arith, zeros_below n)

-- and nothing else fills one that a writer leaves
pub zeros_only : (xs : List ℕ) → AllBelow 1 xs → xs ≡ replicate (length xs) 0
zeros_only [] h = refl
zeros_only (x ∷ xs) h = let zero_is : x ≡ 0 = omega (arith, h.0) in ap₂ (λ y ys. y ∷ ys) zero_is (zeros_only xs h.1)

-- two fillings of gaps
pub padding_append : (padding : Padding) (xs ys : List ℕ) → IsPadding padding xs → IsPadding padding ys
    → IsPadding padding (xs ++ ys)
padding_append Zeros xs ys a b = all_append (λ n. n < 1) xs ys a b
padding_append AnyOctets xs ys a b = all_append (λ n. n < 256) xs ys a b

-- the front of a filling
pub padding_front : (padding : Padding) (xs ys : List ℕ) → IsPadding padding (xs ++ ys) → IsPadding padding xs
padding_front Zeros xs ys a = all_front (λ n. n < 1) xs ys a
padding_front AnyOctets xs ys a = all_front (λ n. n < 256) xs ys a

-- the back of a filling
pub padding_back : (padding : Padding) (xs ys : List ℕ) → IsPadding padding (xs ++ ys) → IsPadding padding ys
padding_back Zeros xs ys a = all_back (λ n. n < 1) xs ys a
padding_back AnyOctets xs ys a = all_back (λ n. n < 256) xs ys a

-- no octets fill an empty gap
pub padding_none : (padding : Padding) → IsPadding padding []
padding_none Zeros = tt
padding_none AnyOctets = tt

-- what fills a gap is octets
pub padding_octets : (padding : Padding) (xs : List ℕ) → IsPadding padding xs → AllBelow 256 xs
padding_octets Zeros xs a = all_weaken (λ n. n < 1) (λ n. n < 256) xs (λ n h. omega arith) a
padding_octets AnyOctets xs a = a

-- ---- words

-- a word has as many octets as its width says
pub length-plain_word : (o : Order) (w : Width) (n : ℕ) → length (plain_word o w n) ≡ octets_in w
length-plain_word Big One n = refl
length-plain_word Big Two n = refl
length-plain_word Big Four n = refl
length-plain_word Big Eight n = refl
length-plain_word Little One n = refl
length-plain_word Little Two n = refl
length-plain_word Little Four n = refl
length-plain_word Little Eight n = refl

-- the same of any number's
pub length-word : (o : Order) (w : Width) (n : ℤ) → length (word o w n) ≡ octets_in w
length-word o w n = length-plain_word o w (twos_complement (octets_in w) n)

-- an octet of a number is an octet
byte_below : (i n : ℕ) → byte_at i n < 256
byte_below zero n = mod_below n 256 (omega arith)
byte_below (suc i) n = mod_below (n / 256 ^ suc i) 256 (omega arith)

-- so are all, the highest first
high_first_below : (k n : ℕ) → AllBelow 256 (bytes_high_first k n)
high_first_below zero n = tt
high_first_below (suc k) n = (byte_below k n, high_first_below k n)

-- and the lowest first
low_first_below : (i k n : ℕ) → AllBelow 256 (bytes_low_first i k n)
low_first_below i zero n = tt
low_first_below i (suc k) n = (byte_below i n, low_first_below (suc i) k n)

-- words are octets
pub plain_word_below : (o : Order) (w : Width) (n : ℕ) → AllBelow 256 (plain_word o w n)
plain_word_below Big w n = high_first_below (octets_in w) n
plain_word_below Little w n = low_first_below 0 (octets_in w) n

-- the same of any number's
pub word_below : (o : Order) (w : Width) (n : ℤ) → AllBelow 256 (word o w n)
word_below o w n = plain_word_below o w (twos_complement (octets_in w) n)

-- a word of one octet is that octet
pub plain_word_one : (o : Order) (n : ℕ) → n < 256 → plain_word o One n ≡ n ∷ []
plain_word_one Big n h = ap (λ a. a ∷ []) (mod-eq_of_lt h)
plain_word_one Little n h = ap (λ a. a ∷ []) (mod-eq_of_lt h)

-- the number whose word these octets are
abbrev pub number_of : Order → Width → List ℕ → ℕ
number_of order One octets = get_or octets 0 0
number_of Big Two octets = from_be_bytes w16 octets
number_of Big Four octets = from_be_bytes w32 octets
number_of Big Eight octets = from_be_bytes w64 octets
number_of Little Two octets = from_le_bytes w16 octets
number_of Little Four octets = from_le_bytes w32 octets
number_of Little Eight octets = from_le_bytes w64 octets

-- the number of a number's word
pub number_of-plain_word : (o : Order) (w : Width) (n : ℕ) → n < words_of w → number_of o w (plain_word o w n) ≡ n
number_of-plain_word Big One n h = mod-eq_of_lt h
number_of-plain_word Little One n h = mod-eq_of_lt h
number_of-plain_word Big Two n h = from_be_bytes-to_be_bytes_2 n h
number_of-plain_word Big Four n h = from_be_bytes-to_be_bytes_4 n h
number_of-plain_word Big Eight n h = from_be_bytes-to_be_bytes_8 n h
number_of-plain_word Little Two n h = from_le_bytes-to_le_bytes_2 n h
number_of-plain_word Little Four n h = from_le_bytes-to_le_bytes_4 n h
number_of-plain_word Little Eight n h = from_le_bytes-to_le_bytes_8 n h

-- a list of one octet
one_octet : (octets : List ℕ) → length octets ≡ 1 → octets ≡ get_or octets 0 0 ∷ []
one_octet [] l = absurd (omega arith)
one_octet (a ∷ []) l = refl
one_octet (a ∷ b ∷ octets) l = absurd (omega arith)

-- the word of the number of octets
pub plain_word-number_of : (o : Order) (w : Width) (octets : List ℕ) → length octets ≡ octets_in w → AllBelow 256 octets
    → plain_word o w (number_of o w octets) ≡ octets
plain_word-number_of o One xs l a = plain_word_one o (get_or xs 0 0) (get_or_below 256 xs 0 (omega arith) a)
    ∙ sym (one_octet xs l)
plain_word-number_of Big Two xs l a = be_bytes_2 xs _ l (λ i. get_or_below 256 xs i (omega arith) a) refl
plain_word-number_of Big Four xs l a = be_bytes_4 xs _ l (λ i. get_or_below 256 xs i (omega arith) a) refl
plain_word-number_of Big Eight xs l a = be_bytes_8 xs _ l (λ i. get_or_below 256 xs i (omega arith) a) refl
plain_word-number_of Little Two xs l a = le_bytes_2 xs _ l (λ i. get_or_below 256 xs i (omega arith) a) refl
plain_word-number_of Little Four xs l a = le_bytes_4 xs _ l (λ i. get_or_below 256 xs i (omega arith) a) refl
plain_word-number_of Little Eight xs l a = le_bytes_8 xs _ l (λ i. get_or_below 256 xs i (omega arith) a) refl

-- the number of octets is one of the width
pub number_of_below : (o : Order) (w : Width) (octets : List ℕ) → AllBelow 256 octets
    → number_of o w octets < words_of w
number_of_below o One xs a = get_or_below 256 xs 0 (omega arith) a
number_of_below Big Two xs a =
    let at = λ (i : ℕ). get_or_below 256 xs i (omega arith) a in
    omega (arith, at 0, at 1)
number_of_below Big Four xs a =
    let at = λ (i : ℕ). get_or_below 256 xs i (omega arith) a in
    omega (arith, at 0, at 1, at 2, at 3)
number_of_below Big Eight xs a =
    let at = λ (i : ℕ). get_or_below 256 xs i (omega arith) a in
    omega (arith, at 0, at 1, at 2, at 3, at 4, at 5, at 6, at 7)
number_of_below Little Two xs a =
    let at = λ (i : ℕ). get_or_below 256 xs i (omega arith) a in
    omega (arith, at 0, at 1)
number_of_below Little Four xs a =
    let at = λ (i : ℕ). get_or_below 256 xs i (omega arith) a in
    omega (arith, at 0, at 1, at 2, at 3)
number_of_below Little Eight xs a =
    let at = λ (i : ℕ). get_or_below 256 xs i (omega arith) a in
    omega (arith, at 0, at 1, at 2, at 3, at 4, at 5, at 6, at 7)

-- numbers of one word are one
pub plain_word_same : (o : Order) (w : Width) (m n : ℕ) → m < words_of w → n < words_of w
    → plain_word o w m ≡ plain_word o w n → m ≡ n
plain_word_same o w m n hm hn e = sym (number_of-plain_word o w m hm) ∙ ap (number_of o w) e
    ∙ number_of-plain_word o w n hn

-- half of the patterns are of numbers below 0
pub words_halves : (w : Width) → words_of w ≡ 2 ^ (8 * octets_in w - 1) + 2 ^ (8 * octets_in w - 1)
words_halves One = refl
words_halves Two = refl
words_halves Four = refl
words_halves Eight = refl

-- two's complement of a number of the width
pub complement_signed : (w : Width) (n : ℤ) → IsSigned w n → twos_complement (octets_in w) n < words_of w
complement_signed w (pos n) h =
    let halves = words_halves w in
    omega (arith, halves)
complement_signed w (negsuc n) h =
    let halves = words_halves w in
    omega (arith, halves)

-- and of one without a sign
pub complement_below : (w : Width) (n : ℤ) → IsBelow (words_of w) n → twos_complement (octets_in w) n < words_of w
complement_below w (pos n) h = h
complement_below w (negsuc n) h = absurd h

-- every pattern is that of a number with a sign
pub signed_of : (w : Width) (m : ℕ) → m < words_of w → (n : ℤ) × IsSigned w n × (twos_complement (octets_in w) n ≡ m)
signed_of w m h =
    let halves = words_halves w in
    elim (cases_lt m (2 ^ (8 * octets_in w - 1))) [
      | inl lt ↦ (pos m, lt, refl)
      | inr le ↦ (negsuc (words_of w - 1 - m), omega (arith, halves), omega (arith, halves))
    ]

-- and of no other
pub complement_same : (w : Width) (m n : ℤ) → IsSigned w m → IsSigned w n
    → twos_complement (octets_in w) m ≡ twos_complement (octets_in w) n → m ≡ n
complement_same w (pos m) (pos n) hm hn e = ap pos e
complement_same w (pos m) (negsuc n) hm hn e =
    let halves = words_halves w in
    absurd (omega (arith, halves))
complement_same w (negsuc m) (pos n) hm hn e =
    let halves = words_halves w in
    absurd (omega (arith, halves))
complement_same w (negsuc m) (negsuc n) hm hn e =
    let halves = words_halves w in
    let same : m ≡ n = omega (arith, halves) in
    ap negsuc same

-- numbers without a sign of one word are one
pub below_word_same : (o : Order) (w : Width) (m n : ℤ) → IsBelow (words_of w) m → IsBelow (words_of w) n
    → word o w m ≡ word o w n → m ≡ n
below_word_same o w (pos m) (pos n) hm hn e = ap pos (plain_word_same o w m n hm hn e)
below_word_same o w (pos m) (negsuc n) hm hn e = absurd hn
below_word_same o w (negsuc m) n hm hn e = absurd hm

-- numbers with a sign of one word are one
pub signed_word_same : (o : Order) (w : Width) (m n : ℤ) → IsSigned w m → IsSigned w n → word o w m ≡ word o w n → m ≡ n
signed_word_same o w m n hm hn e =
    complement_same w m n hm hn
    (plain_word_same o w (twos_complement (octets_in w) m) (twos_complement (octets_in w) n)
    (complement_signed w m hm) (complement_signed w n hn) e)

-- every string of so many octets is the word of a number without a sign
pub below_of_octets : (o : Order) (w : Width) (octets : List ℕ) → length octets ≡ octets_in w → AllBelow 256 octets
    → (n : ℤ) × IsBelow (words_of w) n × (octets ≡ word o w n)
below_of_octets o w xs l a = (pos (number_of o w xs), number_of_below o w xs a, sym (plain_word-number_of o w xs l a))

-- and of one with a sign
pub signed_of_octets : (o : Order) (w : Width) (octets : List ℕ) → length octets ≡ octets_in w → AllBelow 256 octets
    → (n : ℤ) × IsSigned w n × (octets ≡ word o w n)
signed_of_octets o w xs l a =
    let n = signed_of w (number_of o w xs) (number_of_below o w xs a) in
    (n.0, n.1, sym (plain_word-number_of o w xs l a) ∙ ap (plain_word o w) (sym n.2))
