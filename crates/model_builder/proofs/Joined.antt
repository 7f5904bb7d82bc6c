-- Texts that are put together are one only where their parts are.
use Rattle.std.proofs.Common.{◌≡◌, ◌≢◌, ◌∙◌, ℕ, true, List, [], ◌∷◌, ◌++◌, codes, drop, slice_index, append-nil, append_assoc, refl, sym, ap, arith}
use Rattle.std.proofs.lemmas.Bool.Decides.{nat_tests}
use Rattle.std.specs.Char.{is_ascii_alphabetic}
use Rattle.std.specs.List.{AllByRecursion, list_all}
use Rattle.std.proofs.lemmas.Bool.{and_parts}
use Rattle.idl_lexer.specs.Octets.{is_word}
use Rattle.lowered_operations.specs.declared.signature.Role.{Role}
use Rattle.lowered_operations.specs.declared.signature.Role.TheVariants.{Operation, Getting, Setting}
use Rattle.model_builder.specs.Naming.{mark_of, with_colons}

-- ---- an octet that isn't there

abbrev pub IsFree : ℕ → List ℕ → Type 0
IsFree c xs = AllByRecursion (λ d. d ≢ c) xs

pub free_both : (c : ℕ) (xs ys : List ℕ) → IsFree c xs → IsFree c ys → IsFree c (xs ++ ys)
free_both c [] ys h k = k
free_both c (x ∷ xs) ys h k = (h.0, free_both c xs ys h.1 k)

free_word : (c : ℕ) (w : List ℕ) → ((d : ℕ) → is_word d ≡ true → d ≢ c) → list_all is_word w ≡ true → IsFree c w
free_word c [] apart h = tt
free_word c (d ∷ w) apart h =
    let both = and_parts (is_word d) (list_all is_word w) h in
    (apart d both.0, free_word c w apart both.1)

no_colon : (d : ℕ) → is_word d ≡ true → d ≢ 58
no_colon d h is = grind (arith, nat_tests)

no_slash : (d : ℕ) → is_word d ≡ true → d ≢ 47
no_slash d h is = grind (arith, nat_tests)

pub word_colons : (w : List ℕ) → list_all is_word w ≡ true → IsFree 58 w
word_colons w h = free_word 58 w no_colon h

pub word_slashes : (w : List ℕ) → list_all is_word w ≡ true → IsFree 47 w
word_slashes w h = free_word 47 w no_slash h

-- ---- the first of an octet

first_apart : (c : ℕ) (a b xs ys : List ℕ) → IsFree c a → IsFree c b → a ++ c ∷ xs ≡ b ++ c ∷ ys → (a ≡ b) × (xs ≡ ys)
first_apart c [] [] xs ys fa fb h = (refl, cc)
first_apart c [] (d ∷ b) xs ys fa fb h = let same : d ≡ c = cc in absurd (fb.0 same)
first_apart c (d ∷ a) [] xs ys fa fb h = let same : d ≡ c = cc in absurd (fa.0 same)
first_apart c (d ∷ a) (e ∷ b) xs ys fa fb h =
    let head : d ≡ e = cc in
    let tail : a ++ c ∷ xs ≡ b ++ c ∷ ys = cc in
    let (same, rest) = first_apart c a b xs ys fa.1 fb.1 tail in
    (ap (λ x. x ∷ a) head ∙ ap (λ x. e ∷ x) same, rest)

no_first : (c : ℕ) (a b xs : List ℕ) → IsFree c a → a ≡ b ++ c ∷ xs → ⊥
no_first c [] [] xs f h = absurd cc
no_first c [] (d ∷ b) xs f h = absurd cc
no_first c (e ∷ a) [] xs f h = let same : e ≡ c = cc in f.0 same
no_first c (e ∷ a) (d ∷ b) xs f h = let tail : a ≡ b ++ c ∷ xs = cc in no_first c a b xs f.1 tail

-- ---- names with colons between them

colons_of : (n : List ℕ) (ns : List (List ℕ)) (x : List ℕ)
    → with_colons (n ∷ ns) ++ x ≡ n ++ 58 ∷ (58 ∷ (with_colons ns ++ x))
colons_of n ns x = append_assoc (n ++ codes "::") (with_colons ns) x ∙ append_assoc n (codes "::") (with_colons ns ++ x)

pub colons_apart : (ns ms : List (List ℕ)) (x y : List ℕ) → AllByRecursion (IsFree 58) ns
    → AllByRecursion (IsFree 58) ms → IsFree 58 x → IsFree 58 y
    → with_colons ns ++ x ≡ with_colons ms ++ y → (ns ≡ ms) × (x ≡ y)
colons_apart [] [] x y fn fm fx fy h = (refl, h)
colons_apart [] (m ∷ ms) x y fn fm fx fy h =
    absurd (no_first 58 x m (58 ∷ (with_colons ms ++ y)) fx (h ∙ colons_of m ms y))
colons_apart (n ∷ ns) [] x y fn fm fx fy h =
    absurd (no_first 58 y n (58 ∷ (with_colons ns ++ x)) fy (sym h ∙ colons_of n ns x))
colons_apart (n ∷ ns) (m ∷ ms) x y fn fm fx fy h =
    let (head, behind) = first_apart 58 n m (58 ∷ (with_colons ns ++ x)) (58 ∷ (with_colons ms ++ y)) fn.0 fm.0
    (sym (colons_of n ns x) ∙ h ∙ colons_of m ms y) in
    let tail : with_colons ns ++ x ≡ with_colons ms ++ y = cc in
    let (same, last) = colons_apart ns ms x y fn.1 fm.1 fx fy tail in
    (ap (λ k. k ∷ ns) head ∙ ap (λ ks. m ∷ ks) same, last)

-- ---- what stands behind a name

pub data Ending : Type 0 where
  Bare : Ending
  Request : Ending
  Reply : Ending

abbrev pub ending : Ending → List ℕ
ending Bare = []
ending Request = codes "/in"
ending Reply = codes "/out"

in_out : codes "in" ≡ codes "out" → ⊥
in_out h = let first : 105 ≡ 111 = ap (λ l. slice_index l 0) h in omega (arith, first)

pub endings_apart : (x y : List ℕ) (e f : Ending) → IsFree 47 x → IsFree 47 y → x ++ ending e ≡ y ++ ending f
    → (x ≡ y) × (e ≡ f)
endings_apart x y Bare Bare fx fy h = (sym (append-nil x) ∙ h ∙ append-nil y, refl)
endings_apart x y Bare Request fx fy h = absurd (no_first 47 x y (codes "in") fx (sym (append-nil x) ∙ h))
endings_apart x y Bare Reply fx fy h = absurd (no_first 47 x y (codes "out") fx (sym (append-nil x) ∙ h))
endings_apart x y Request Bare fx fy h = absurd (no_first 47 y x (codes "in") fy (sym (append-nil y) ∙ sym h))
endings_apart x y Request Request fx fy h = let (same, rest) = first_apart 47 x y (codes "in") (codes "in") fx fy h in
    (same, refl)
endings_apart x y Request Reply fx fy h = let (same, rest) = first_apart 47 x y (codes "in") (codes "out") fx fy h in
    absurd (in_out rest)
endings_apart x y Reply Bare fx fy h = absurd (no_first 47 y x (codes "out") fy (sym (append-nil y) ∙ sym h))
endings_apart x y Reply Request fx fy h = let (same, rest) = first_apart 47 x y (codes "out") (codes "in") fx fy h in
    absurd (in_out (sym rest))
endings_apart x y Reply Reply fx fy h = let (same, rest) = first_apart 47 x y (codes "out") (codes "out") fx fy h in
    (same, refl)

pub ending_colons : (e : Ending) → IsFree 58 (ending e)
ending_colons Bare = tt
ending_colons Request = (λ h. omega (arith, h), (λ h. omega (arith, h), (λ h. omega (arith, h), tt)))
ending_colons Reply = (
  λ h. omega (arith, h),
  (λ h. omega (arith, h), (λ h. omega (arith, h), (λ h. omega (arith, h), tt))),
)

-- ---- what stands before a name

pub mark_word : (r : Role) → list_all is_word (mark_of r) ≡ true
mark_word Operation = refl
mark_word Getting = refl
mark_word Setting = refl

abbrev Begins : List ℕ → Type 0
Begins w = is_ascii_alphabetic (slice_index w 0) ≡ true

no_letter : (c : ℕ) → is_ascii_alphabetic c ≡ true → c ≡ 95 → ⊥
no_letter c h is = grind (arith, nat_tests)

no_mark : (a rest : List ℕ) → Begins a → a ≡ 95 ∷ rest → ⊥
no_mark a rest letter h = no_letter (slice_index a 0) letter (ap (λ l. slice_index l 0) h)

get_set : (a b : List ℕ) → codes "_get_" ++ a ≡ codes "_set_" ++ b → ⊥
get_set a b h = let second : 103 ≡ 115 = ap (λ l. slice_index l 1) h in omega (arith, second)

pub marks_apart : (a b : List ℕ) (r s : Role) → Begins a → Begins b → mark_of r ++ a ≡ mark_of s ++ b
    → (a ≡ b) × (r ≡ s)
marks_apart a b Operation Operation la lb h = (h, refl)
marks_apart a b Operation Getting la lb h = absurd (no_mark a _ la h)
marks_apart a b Operation Setting la lb h = absurd (no_mark a _ la h)
marks_apart a b Getting Operation la lb h = absurd (no_mark b _ lb (sym h))
marks_apart a b Getting Getting la lb h = (ap (drop 5) h, refl)
marks_apart a b Getting Setting la lb h = absurd (get_set a b h)
marks_apart a b Setting Operation la lb h = absurd (no_mark b _ lb (sym h))
marks_apart a b Setting Getting la lb h = absurd (get_set b a (sym h))
marks_apart a b Setting Setting la lb h = (ap (drop 5) h, refl)
