-- More values worked out by hand: an enumeration, an array, a character, a frame, a gap that is filled; and what is no
-- value, or means none.
use Rattle.std.proofs.Common.{◌≡◌, ℕ, zero, suc, ◌-◌, ◌≤◌, pos, false, List, [], ◌∷◌, ◌++◌, length, refl, sym, ap, subst, ◌∙◌, arith}
use Rattle.std.proofs.lemmas.List.{length-append}
use Rattle.type_graph.specs.declared.width.Width.TheVariants.{One, Two, Four}
use Rattle.type_graph.specs.declared.width.Order.TheVariants.{Big, Little}
use Rattle.type_graph.specs.declared.node.Node.TheVariants.{Integer, Octet, Char, Boolean, Enum, Text, Seq, Array, Struct, Frame}
use Rattle.type_graph.specs.Words.{reading, writing, word, AllBelow}
use Rattle.type_graph.specs.Value.{Tree, Number, Bytes, Items, Choice, NoTree, AndTree, Fits}
use Rattle.type_graph.specs.Encoding.{Encodes, Means}
use Rattle.type_graph.proofs.WordLaws.{length-word}
use Rattle.type_graph.proofs.Worked.{zeros_in, joined, aligned, no_more, family}

-- ---- kinds of type

-- the third of three enumerators, in little order, at position 2
pub third_little_2 : Means (Enum 3 ∷ []) (zeros_in Little) 64 0 2 (0 ∷ 0 ∷ 0 ∷ 2 ∷ []) (0 ∷ 0 ∷ 2 ∷ 0 ∷ 0 ∷ 0 ∷ [])
third_little_2 = record {
  value = Number (pos 2);
  fits = omega arith;
  tape_is = refl;
  encodes =
      aligned Little Four (pos 2) 2 2 refl;
}

-- an array of two shorts, at position 1: one gap stands before the first
pub two_shorts_1 : Means (Integer Two false ∷ Array 0 2 ∷ []) (zeros_in Big) 64 1 1 (0 ∷ 1 ∷ 0 ∷ 2 ∷ [])
    (0 ∷ 0 ∷ 1 ∷ 0 ∷ 2 ∷ [])
two_shorts_1 = record {
  value = Items (AndTree (Number (pos 1)) (AndTree (Number (pos 2)) NoTree));
  fits = (omega arith, (omega arith, tt));
  tape_is = refl;
  encodes = joined _ _ 1 _ _ (aligned Big Two (pos 1) 1 1 refl)
      (joined _ _ 4 _ _ (aligned Big Two (pos 2) 4 0 refl) (no_more 6));
}

-- a character is any octet
pub character_ff : Means (Char ∷ []) (zeros_in Little) 64 0 5 (0xFF ∷ []) (0xFF ∷ [])
character_ff = record {
  value = Number (pos 255);
  fits = omega arith;
  tape_is = refl;
  encodes =
      aligned Little One (pos 255) 5 0 refl;
}

-- a frame without members
pub nothing_in_a_frame : Means (Frame [] ∷ []) (zeros_in Big) 64 0 3 [] []
nothing_in_a_frame = record { value = Items NoTree; fits = tt; tape_is = refl; encodes = refl }

-- ---- gaps

-- whatever stands in a gap is read
pub gap_is_read : Means (Integer Two false ∷ []) (reading Big) 64 0 1 (0 ∷ 7 ∷ []) (0xEE ∷ 0 ∷ 7 ∷ [])
gap_is_read = record {
  value = Number (pos 7);
  fits = omega arith;
  tape_is = refl;
  encodes = record {
    octets1 = 0xEE ∷ [];
    octets2 = 0 ∷ 7 ∷ [];
    octets_is = refl;
    first = record { long = refl; filled = (omega arith, tt) };
    second = refl;
  };
}

-- the first of a gap that isn't empty
first_of_gap : (gap rest : List ℕ) (a : ℕ) (more : List ℕ) → length gap ≡ 1 → a ∷ more ≡ gap ++ rest → gap ≡ a ∷ []
first_of_gap [] rest a more long e = absurd (omega arith)
first_of_gap (b ∷ []) rest a more long e = let same : a ≡ b = cc in ap (λ n. n ∷ []) (sym same)
first_of_gap (b ∷ c ∷ gap) rest a more long e = absurd (omega arith)

not_written : (value : Tree) → Fits (Integer Two false ∷ []) (Integer Two false) value 64
    → Encodes (writing Big) (Integer Two false ∷ []) (Integer Two false) value 1 (0xEE ∷ 0 ∷ 7 ∷ []) → ⊥
not_written (Number n) fits e =
    let gap = first_of_gap e.octets1 e.octets2 0xEE (0 ∷ 7 ∷ []) e.first.long e.octets_is in
    let zeros : AllBelow 1 (0xEE ∷ []) = subst (AllBelow 1) gap e.first.filled in
    let low = zeros.0 in
    absurd (omega (arith, low))
not_written (Bytes text) fits e = absurd fits
not_written (Items values) fits e = absurd fits
not_written (Choice label values) fits e = absurd fits

-- it isn't written
pub gap_is_not_written : (tape : List ℕ) → Means (Integer Two false ∷ []) (writing Big) 64 0 1 tape (0xEE ∷ 0 ∷ 7 ∷ [])
    → ⊥
gap_is_not_written tape means = not_written means.value means.fits means.encodes

-- ---- what is no value

pub boolean_two : Fits [] Boolean (Number (pos 2)) 64 → ⊥
boolean_two h = absurd (omega arith)

pub enumerator_past_the_end : Fits [] (Enum 3) (Number (pos 3)) 64 → ⊥
enumerator_past_the_end h = absurd (omega arith)

pub zero_inside : Fits [] (Text 0) (Bytes (104 ∷ 0 ∷ [])) 64 → ⊥
zero_inside h = let zero_octet = h.octets.1.0.0 in absurd (omega (arith, zero_octet))

pub string_over_its_bound : Fits [] (Text 1) (Bytes (104 ∷ 105 ∷ [])) 64 → ⊥
string_over_its_bound h = let bound = h.in_bound in absurd (omega (arith, bound))

pub sequence_over_its_bound : Fits (Octet ∷ []) (Seq 0 1)
    (Items (AndTree (Number (pos 1)) (AndTree (Number (pos 2)) NoTree))) 64 → ⊥
sequence_over_its_bound h = let bound = h.1.in_bound in absurd (omega (arith, bound))

-- a value whose sequences lie so deep one inside another
abbrev pub deep : ℕ → Tree
deep zero = Items (AndTree (Number (pos 1)) (AndTree (Items NoTree) NoTree))
deep (suc n) = Items (AndTree (Number (pos 1)) (AndTree (Items (AndTree (deep n) NoTree)) NoTree))

deep_needs : (n depth : ℕ) → Fits family (Struct (0 ∷ 2 ∷ [])) (deep n) depth → suc n ≤ depth
deep_needs zero depth h = h.1.0.0
deep_needs (suc n) depth h =
    let one = h.1.0.0 in
    let more = deep_needs n (depth - 1) h.1.0.2.0 in
    omega (arith, one, more)

-- 65 sequences one inside another
pub sixty_five_deep : Fits family (Struct (0 ∷ 2 ∷ [])) (deep 64) 64 → ⊥
sixty_five_deep h = let needs = deep_needs 64 64 h in absurd (omega (arith, needs))

no_such_string : (value : Tree) → Fits (Text 0 ∷ []) (Text 0) value 64
    → Encodes (reading Big) (Text 0 ∷ []) (Text 0) value 0 (0 ∷ 0 ∷ 0 ∷ 0 ∷ []) → ⊥
no_such_string (Number n) fits e = absurd fits
no_such_string (Bytes text) fits e =
    let said : List ℕ = word Big Four (pos (suc (length text))) in
    let four : length said ≡ 4 = length-word Big Four (pos (suc (length text))) in
    let all = ap length e.octets_is ∙ length-append e.octets1 e.octets2 in
    let front = ap length e.first.octets_is ∙ length-append e.first.octets1 e.first.octets2 in
    let number = ap length e.first.second ∙ four in
    let back = ap length e.second ∙ length-append text (0 ∷ []) in
    absurd (omega (arith, all, front, number, back))
no_such_string (Items values) fits e = absurd fits
no_such_string (Choice label values) fits e = absurd fits

-- a length of 0 counts no terminating zero: no string has it
pub length_of_zero : (tape : List ℕ) → Means (Text 0 ∷ []) (reading Big) 64 0 0 tape (0 ∷ 0 ∷ 0 ∷ 0 ∷ []) → ⊥
length_of_zero tape means = no_such_string means.value means.fits means.encodes
