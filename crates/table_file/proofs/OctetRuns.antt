-- What octets are spellings of.
use Rattle.std.proofs.Common.{◌≡◌, ℕ, zero, suc, length-append, ◌<◌, ◌+◌, ◌*◌, ◌-◌, ◌^◌, ℤ, pos, negsuc, Bool, true, false, List, [], ◌∷◌, ◌++◌, length, take, drop, length-drop, Some, refl, sym, ap, ◌∙◌, subst, inl, inr, nat_lt, ◌⊎◌, arith}
use Rattle.std.specs.Prelude.{Contains}
use Rattle.std.specs.Bool.{then_some}
use Rattle.std.specs.Fmt.{◌++?◌}
use Rattle.std.proofs.lemmas.Bool.{cases_lt, lt-ltb, ltb-true}
use Rattle.std.proofs.lemmas.List.{length-take-le, take-append-drop}
use Rattle.type_graph.specs.declared.width.Width.{Width}
use Rattle.type_graph.specs.declared.width.Width.TheVariants as widths
use Rattle.type_graph.specs.declared.width.Order.TheVariants.{Big}
use Rattle.type_graph.specs.Value.{IsSignedIn}
use Rattle.type_graph.specs.Words.{AllBelow, plain_octets, twos_complement}
use Rattle.type_graph.proofs.WordLaws.{all_front, all_back, get_or_below, number_of, number_of_below, plain_word-number_of}
use Rattle.table_file.specs.declared.table.Which.{Which}
use Rattle.table_file.specs.declared.table.Which.TheVariants.{First, Second}
use Rattle.table_file.specs.Octets.{spelled_octet, spelled_word, spelled_label, spelled_flag, spelled_ascii, spelled_each, spelled_run}
use Rattle.table_file.specs.Spelling.{spelled_width}
use Rattle.table_file.specs.TableSpelling.{spelled_which}
use Rattle.table_file.specs.inner.Forms.{letter}
use Rattle.table_file.specs.inner.Joins.{passed, split}
use Rattle.table_file.specs.inner.ListCodes.{run_at, run_of}
use Rattle.table_file.proofs.Sets.{sets_spelled}
use Rattle.table_file.proofs.LabelOctets.{label_halves}

-- ---- so many, whatever they are

pub octet_of_octets : (s : List ℕ) → length s ≡ 1 → AllBelow 256 s → (n : ℕ) × (spelled_octet n ≡ Some s)
octet_of_octets [] l below = absurd (omega arith)
octet_of_octets (n ∷ []) l below = (n, ap (λ b. then_some b (n ∷ [])) (lt-ltb n 256 below.0))
octet_of_octets (n ∷ m ∷ s) l below = absurd (omega arith)

pub octet_long : (n : ℕ) (s : List ℕ) → spelled_octet n ≡ Some s → length s ≡ 1
octet_long n s e = let p = passed (nat_lt n 256) (n ∷ []) s e in ap length (sym p.1)

pub word_of_octets : (s : List ℕ) → length s ≡ 4 → AllBelow 256 s → (n : ℕ) × (spelled_word n ≡ Some s)
word_of_octets s l below =
    let n = number_of Big widths.Four s in
    let small : n < 2 ^ 32 = number_of_below Big widths.Four s below in (
      n,
      ap (λ b. then_some b (plain_octets Big 4 n)) (lt-ltb n (2 ^ 32) small)
          ∙ ap Some (plain_word-number_of Big widths.Four s l below),
    )

pub sets_of_octets : (s : List ℕ) → length s ≡ 8 → AllBelow 256 s
    → (sets : List ℕ) × (spelled_run 8 spelled_octet sets ≡ Some s)
sets_of_octets s l below = (s, sets_spelled s l (λ i. get_or_below 256 s i (omega arith) below))

each_octet_long : (ns s : List ℕ) → spelled_each spelled_octet ns ≡ Some s → length s ≡ length ns
each_octet_long [] s e = ap length (let nil : s ≡ [] = cc in nil)
each_octet_long (n ∷ ns) s e =
    let p = split (spelled_octet n) (spelled_each spelled_octet ns) s e in
    let one = octet_long n p.0 p.2 in
    let more = each_octet_long ns p.1 p.3 in
    let whole : length (p.0 ++ p.1) ≡ length s = ap length p.4 in
    let sums = length-append p.0 p.1 in
    omega (arith, one, more, whole, sums)

pub sets_long : (sets s : List ℕ) → spelled_run 8 spelled_octet sets ≡ Some s → length s ≡ 8
sets_long sets s e =
    let p = run_at 8 spelled_octet sets [] (s ++ []) (ap (λ o. o ++? Some []) e) in
    each_octet_long sets s (sym (run_of 8 spelled_octet sets p.0) ∙ e) ∙ p.0

-- each pattern of 16 octets is that of a number
signed_16 : (m : ℕ) → m < 2 ^ 128 → (z : ℤ) × IsSignedIn 16 z × (twos_complement 16 z ≡ m)
signed_16 m h =
    elim (cases_lt m (2 ^ 127)) [
      | inl lt ↦ (pos m, lt, refl)
      | inr le ↦ (negsuc (2 ^ 128 - 1 - m), omega arith, omega arith)
    ]

pub label_of_octets : (s : List ℕ) → length s ≡ 16 → AllBelow 256 s → (z : ℤ) × (spelled_label z ≡ Some s)
label_of_octets s l below =
    let front = take 8 s in
    let back = drop 8 s in
    let cut : front ++ back ≡ s = take-append-drop 8 s in
    let both = subst (AllBelow 256) (sym cut) below in
    let first : AllBelow 256 front = all_front (λ n. n < 256) front back both in
    let second : AllBelow 256 back = all_back (λ n. n < 256) front back both in
    let long : length front ≡ 8 = length-take-le 8 s (omega (arith, l)) in
    let rest : length back ≡ 8 = let d = length-drop 8 s in omega (arith, d, l) in
    let high = number_of Big widths.Eight front in
    let low = number_of Big widths.Eight back in
    let h : high < 2 ^ 64 = number_of_below Big widths.Eight front first in
    let i : low < 2 ^ 64 = number_of_below Big widths.Eight back second in
    let z = signed_16 (high * 2 ^ 64 + low) (omega (arith, h, i)) in (
      z.0,
      label_halves z.0 high low front back s z.1 z.2 h i (plain_word-number_of Big widths.Eight front long first)
          (plain_word-number_of Big widths.Eight back rest second) cut,
    )

-- ---- one of some

one_of_more : (x : ℕ) (xs : List ℕ) (n : ℕ) → Contains (x ∷ xs) n → (x ≡ n) ⊎ Contains xs n
one_of_more x xs n (zero, within, is) = inl is
one_of_more x xs n (suc k, within, is) = inr (k, omega (arith, within), is)

one_of_none : (n : ℕ) → Contains [] n → ⊥
one_of_none n h = absurd (omega (arith, h.1))

-- the second of two, if not the first
pub second_of_two : (x y n : ℕ) → Contains (x ∷ y ∷ []) n → (n ≡ x → ⊥) → n ≡ y
second_of_two x y n h other =
    elim (one_of_more x (y ∷ []) n h) [
      | inl e ↦ absurd (other (sym e))
      | inr more ↦
          elim (one_of_more y [] n more) [
            | inl e ↦ sym e
            | inr none ↦ absurd (one_of_none n none)
          ]
    ]

-- a flag
pub flag_each : (n : ℕ) → Contains (0 ∷ 1 ∷ []) n → (flag : Bool) × (spelled_flag flag ≡ Some (n ∷ []))
flag_each n h =
    elim (one_of_more 0 (1 ∷ []) n h) [
      | inl e ↦ (false, ap (λ i. Some (i ∷ [])) e)
      | inr more ↦
          elim (one_of_more 1 [] n more) [
            | inl e ↦ (true, ap (λ i. Some (i ∷ [])) e)
            | inr none ↦ absurd (one_of_none n none)
          ]
    ]

pub flag_only : (flag : Bool) (s : List ℕ) → spelled_flag flag ≡ Some s
    → (n : ℕ) × (s ≡ n ∷ []) × Contains (0 ∷ 1 ∷ []) n
flag_only false s e = (0, cc, (0, omega arith, refl))
flag_only true s e = (1, cc, (1, omega arith, refl))

-- the program of a name
pub which_each : (n : ℕ) → Contains (0 ∷ 1 ∷ []) n → (which : Which) × (spelled_which which ≡ Some (n ∷ []))
which_each n h =
    elim (one_of_more 0 (1 ∷ []) n h) [
      | inl e ↦ (First, ap (λ i. Some (i ∷ [])) e)
      | inr more ↦
          elim (one_of_more 1 [] n more) [
            | inl e ↦ (Second, ap (λ i. Some (i ∷ [])) e)
            | inr none ↦ absurd (one_of_none n none)
          ]
    ]

pub which_only : (which : Which) (s : List ℕ) → spelled_which which ≡ Some s
    → (n : ℕ) × (s ≡ n ∷ []) × Contains (0 ∷ 1 ∷ []) n
which_only First s e = (0, cc, (0, omega arith, refl))
which_only Second s e = (1, cc, (1, omega arith, refl))

-- a width
abbrev pub IsWidth : ℕ → Type 0
IsWidth n = Contains (1 ∷ 2 ∷ 4 ∷ 8 ∷ []) n

pub width_each : (n : ℕ) → IsWidth n → (width : Width) × (spelled_width width ≡ Some (n ∷ []))
width_each n h =
    elim (one_of_more 1 (2 ∷ 4 ∷ 8 ∷ []) n h) [
      | inl e ↦ (widths.One, ap (λ i. Some (i ∷ [])) e)
      | inr two ↦
          elim (one_of_more 2 (4 ∷ 8 ∷ []) n two) [
            | inl e ↦ (widths.Two, ap (λ i. Some (i ∷ [])) e)
            | inr four ↦
                elim (one_of_more 4 (8 ∷ []) n four) [
                  | inl e ↦ (widths.Four, ap (λ i. Some (i ∷ [])) e)
                  | inr eight ↦
                      elim (one_of_more 8 [] n eight) [
                        | inl e ↦ (widths.Eight, ap (λ i. Some (i ∷ [])) e)
                        | inr none ↦ absurd (one_of_none n none)
                      ]
                ]
          ]
    ]

pub width_only : (width : Width) (s : List ℕ) → spelled_width width ≡ Some s → (n : ℕ) × (s ≡ n ∷ []) × IsWidth n
width_only widths.One s e = (1, cc, (0, omega arith, refl))
width_only widths.Two s e = (2, cc, (1, omega arith, refl))
width_only widths.Four s e = (4, cc, (2, omega arith, refl))
width_only widths.Eight s e = (8, cc, (3, omega arith, refl))

-- an octet of ASCII
pub ascii_each : (n : ℕ) → n < 128 → (m : ℕ) × (spelled_ascii m ≡ Some (n ∷ []))
ascii_each n h = (n, ap (λ b. then_some b (n ∷ [])) (lt-ltb n 128 h))

pub ascii_only : (m : ℕ) (s : List ℕ) → spelled_ascii m ≡ Some s → (n : ℕ) × (s ≡ n ∷ []) × (n < 128)
ascii_only m s e = let p = passed (nat_lt m 128) (m ∷ []) s e in (m, sym p.1, ltb-true m 128 p.0)

-- a letter
pub letter_each : (l n : ℕ) → Contains (l ∷ []) n → (u : Unit {0}) × (letter l u ≡ Some (n ∷ []))
letter_each l n h =
    elim (one_of_more l [] n h) [
      | inl e ↦ (tt, ap (λ i. Some (i ∷ [])) e)
      | inr none ↦ absurd (one_of_none n none)
    ]

pub letter_only : (l : ℕ) (u : Unit {0}) (s : List ℕ) → letter l u ≡ Some s
    → (n : ℕ) × (s ≡ n ∷ []) × Contains (l ∷ []) n
letter_only l u s e = (l, cc, (0, omega arith, refl))
