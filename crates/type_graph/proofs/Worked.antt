-- Values worked out by hand: their tapes and their octets at some positions, in both byte orders.
use Rattle.std.proofs.Common.{◌≡◌, ℕ, zero, suc, ◌+◌, ℤ, pos, negsuc, true, false, List, [], ◌∷◌, ◌++◌, length, replicate, ◌∙◌, None, refl, arith}
use Rattle.type_graph.specs.declared.width.Width.{Width}
use Rattle.type_graph.specs.declared.width.Width.TheVariants.{One, Two, Four, Eight}
use Rattle.type_graph.specs.declared.width.Order.{Order}
use Rattle.type_graph.specs.declared.width.Order.TheVariants.{Big, Little}
use Rattle.type_graph.specs.declared.node.Node.{Node}
use Rattle.type_graph.specs.declared.node.Node.TheVariants.{Integer, Octet, Boolean, Text, Seq, Struct, Union}
use Rattle.type_graph.specs.Words.{octets_in, word, pad, Format, Zeros}
use Rattle.type_graph.specs.Value.{Tree, Number, Bytes, Items, Choice, NoTree, AndTree, Fits, tape_of, IsCount}
use Rattle.type_graph.specs.Encoding.{Encoding, Just, Joined, Aligned, Means}
use Rattle.type_graph.proofs.WordLaws.{zeros_below}

-- gaps are zeros
abbrev pub zeros_in : Order → Format
zeros_in o = record { order = o; padding = Zeros }

-- as many as are written
length-zeros : (n : ℕ) → length (replicate {A = ℕ} n 0) ≡ n
length-zeros zero = refl
length-zeros (suc n) = let more = length-zeros n in omega arith

-- one behind the other
pub joined : (A B : Encoding) (p : ℕ) (octets1 octets2 : List ℕ) → A p octets1 → B (p + length octets1) octets2
    → Joined A B p (octets1 ++ octets2)
joined A B p x1 x2 a b = record { octets1 = x1; octets2 = x2; octets_is = refl; first = a; second = b }

-- a number behind zeros
pub aligned : (o : Order) (w : Width) (n : ℤ) (p k : ℕ) → k ≡ pad p (octets_in w)
    → Aligned (zeros_in o) w n p (replicate k 0 ++ word o w n)
aligned o w n p k e = record {
  octets1 = replicate k 0;
  octets2 = word o w n;
  octets_is = refl;
  first = record { long = length-zeros k ∙ e; filled = zeros_below k };
  second = refl;
}

-- nothing more
pub no_more : (p : ℕ) → Just [] p []
no_more p = refl

-- ---- a structure of an octet, an unsigned long and a string: 7, 1, "hi"

-- its parts, and then the structure
abbrev pub three_parts : List Node
three_parts = Octet ∷ Integer Four false ∷ Text 0 ∷ Struct (0 ∷ 1 ∷ 2 ∷ []) ∷ []

-- the value
abbrev pub seven_one_hi : Tree
seven_one_hi = Items (AndTree (Number (pos 7)) (AndTree (Number (pos 1)) (AndTree (Bytes (104 ∷ 105 ∷ [])) NoTree)))

-- it is a value of the structure
seven_one_hi_fits : Fits three_parts (Struct (0 ∷ 1 ∷ 2 ∷ [])) seven_one_hi 64
seven_one_hi_fits = (
  omega arith,
  (
    omega arith,
    (
      record {
        in_bound = tt;
        short = omega arith;
        octets =
            ((omega arith, omega arith), ((omega arith, omega arith), tt));
      },
      tt,
    ),
  ),
)

-- the tape
pub tape_of-seven_one_hi : tape_of three_parts (Struct (0 ∷ 1 ∷ 2 ∷ [])) seven_one_hi
    ≡ 0x07 ∷ 0 ∷ 0 ∷ 0 ∷ 1 ∷ 0 ∷ 0 ∷ 0 ∷ 2 ∷ 0x68 ∷ 0x69 ∷ []
tape_of-seven_one_hi = refl

-- in big order, at position 0
pub seven_one_hi_big : Means three_parts (zeros_in Big) 64 3 0
    (0x07 ∷ 0 ∷ 0 ∷ 0 ∷ 1 ∷ 0 ∷ 0 ∷ 0 ∷ 2 ∷ 0x68 ∷ 0x69 ∷ [])
    (0x07 ∷ 0 ∷ 0 ∷ 0 ∷ 0 ∷ 0 ∷ 0 ∷ 1 ∷ 0 ∷ 0 ∷ 0 ∷ 3 ∷ 0x68 ∷ 0x69 ∷ 0 ∷ [])
seven_one_hi_big = record {
  value = seven_one_hi;
  fits = seven_one_hi_fits;
  tape_is = refl;
  encodes = joined _ _ 0 _ _ (aligned Big One (pos 7) 0 0 refl)
      (joined _ _ 1 _ _ (aligned Big Four (pos 1) 1 3 refl)
      (joined _ _ 8 _ _ (joined _ _ 8 _ _ (aligned Big Four (pos 3) 8 0 refl) refl) (no_more 15)));
}

-- in big order, at position 3
pub seven_one_hi_big_3 : Means three_parts (zeros_in Big) 64 3 3
    (0x07 ∷ 0 ∷ 0 ∷ 0 ∷ 1 ∷ 0 ∷ 0 ∷ 0 ∷ 2 ∷ 0x68 ∷ 0x69 ∷ [])
    (0x07 ∷ 0 ∷ 0 ∷ 0 ∷ 1 ∷ 0 ∷ 0 ∷ 0 ∷ 3 ∷ 0x68 ∷ 0x69 ∷ 0 ∷ [])
seven_one_hi_big_3 = record {
  value = seven_one_hi;
  fits = seven_one_hi_fits;
  tape_is = refl;
  encodes = joined _ _ 3 _ _ (aligned Big One (pos 7) 3 0 refl)
      (joined _ _ 4 _ _ (aligned Big Four (pos 1) 4 0 refl)
      (joined _ _ 8 _ _ (joined _ _ 8 _ _ (aligned Big Four (pos 3) 8 0 refl) refl) (no_more 15)));
}

-- in little order, at position 0
pub seven_one_hi_little : Means three_parts (zeros_in Little) 64 3 0
    (0x07 ∷ 0 ∷ 0 ∷ 0 ∷ 1 ∷ 0 ∷ 0 ∷ 0 ∷ 2 ∷ 0x68 ∷ 0x69 ∷ [])
    (0x07 ∷ 0 ∷ 0 ∷ 0 ∷ 1 ∷ 0 ∷ 0 ∷ 0 ∷ 3 ∷ 0 ∷ 0 ∷ 0 ∷ 0x68 ∷ 0x69 ∷ 0 ∷ [])
seven_one_hi_little = record {
  value = seven_one_hi;
  fits = seven_one_hi_fits;
  tape_is = refl;
  encodes = joined _ _ 0 _ _ (aligned Little One (pos 7) 0 0 refl)
      (joined _ _ 1 _ _ (aligned Little Four (pos 1) 1 3 refl)
      (joined _ _ 8 _ _ (joined _ _ 8 _ _ (aligned Little Four (pos 3) 8 0 refl) refl) (no_more 15)));
}

-- ---- a sequence of signed long long

-- the element, and then the sequence
abbrev pub long_longs : List Node
long_longs = Integer Eight true ∷ Seq 0 0 ∷ []

-- empty, at position 0
pub no_long_longs : Means long_longs (zeros_in Big) 64 1 0 (0 ∷ 0 ∷ 0 ∷ 0 ∷ []) (0 ∷ 0 ∷ 0 ∷ 0 ∷ [])
no_long_longs = record {
  value = Items NoTree;
  fits = (omega arith, record { in_bound = tt; short = omega arith }, tt);
  tape_is = refl;
  encodes = joined _ _ 0 _ _ (aligned Big Four (pos 0) 0 0 refl) (no_more 4);
}

-- empty, at position 4: no gap stands behind the count
pub no_long_longs_4 : Means long_longs (zeros_in Big) 64 1 4 (0 ∷ 0 ∷ 0 ∷ 0 ∷ []) (0 ∷ 0 ∷ 0 ∷ 0 ∷ [])
no_long_longs_4 = record {
  value = Items NoTree;
  fits = (omega arith, record { in_bound = tt; short = omega arith }, tt);
  tape_is = refl;
  encodes = joined _ _ 4 _ _ (aligned Big Four (pos 0) 4 0 refl) (no_more 8);
}

-- 5, at position 0
pub long_long_five : Means long_longs (zeros_in Big) 64 1 0
    (0 ∷ 0 ∷ 0 ∷ 1 ∷ 0 ∷ 0 ∷ 0 ∷ 0 ∷ 0 ∷ 0 ∷ 0 ∷ 5 ∷ [])
    (0 ∷ 0 ∷ 0 ∷ 1 ∷ 0 ∷ 0 ∷ 0 ∷ 0 ∷ 0 ∷ 0 ∷ 0 ∷ 0 ∷ 0 ∷ 0 ∷ 0 ∷ 5 ∷ [])
long_long_five = record {
  value = Items (AndTree (Number (pos 5)) NoTree);
  fits = (omega arith, record { in_bound = tt; short = omega arith }, (omega arith, tt));
  tape_is = refl;
  encodes = joined _ _ 0 _ _ (aligned Big Four (pos 1) 0 0 refl)
      (joined _ _ 4 _ _ (aligned Big Eight (pos 5) 4 4 refl) (no_more 16));
}

-- 5, at position 4
pub long_long_five_4 : Means long_longs (zeros_in Big) 64 1 4
    (0 ∷ 0 ∷ 0 ∷ 1 ∷ 0 ∷ 0 ∷ 0 ∷ 0 ∷ 0 ∷ 0 ∷ 0 ∷ 5 ∷ [])
    (0 ∷ 0 ∷ 0 ∷ 1 ∷ 0 ∷ 0 ∷ 0 ∷ 0 ∷ 0 ∷ 0 ∷ 0 ∷ 5 ∷ [])
long_long_five_4 = record {
  value = Items (AndTree (Number (pos 5)) NoTree);
  fits = (omega arith, record { in_bound = tt; short = omega arith }, (omega arith, tt));
  tape_is = refl;
  encodes = joined _ _ 4 _ _ (aligned Big Four (pos 1) 4 0 refl)
      (joined _ _ 8 _ _ (aligned Big Eight (pos 5) 8 0 refl) (no_more 16));
}

-- ---- a structure that holds a sequence of itself: an octet, and its kids

-- the octet, the structure, the sequence
abbrev pub family : List Node
family = Octet ∷ Struct (0 ∷ 2 ∷ []) ∷ Seq 1 0 ∷ []

-- one without kids
abbrev pub childless : ℤ → Tree
childless v = Items (AndTree (Number v) (AndTree (Items NoTree) NoTree))

-- 1, whose kids are 2 and 3
abbrev pub one_and_kids : Tree
one_and_kids = Items (AndTree (Number (pos 1))
    (AndTree (Items (AndTree (childless (pos 2)) (AndTree (childless (pos 3)) NoTree))) NoTree))

-- it is a value of the structure
one_and_kids_fits : Fits family (Struct (0 ∷ 2 ∷ [])) one_and_kids 64
one_and_kids_fits =
    let empty : IsCount 0 0 = record { in_bound = tt; short = omega arith } in
    let two : IsCount 0 2 = record { in_bound = tt; short = omega arith } in (
      omega arith,
      (
        (
          omega arith,
          two,
          ((omega arith, ((omega arith, empty, tt), tt)), ((omega arith, ((omega arith, empty, tt), tt)), tt)),
        ),
        tt,
      ),
    )

-- at position 0
pub one_and_kids_big : Means family (zeros_in Big) 64 1 0
    (1 ∷ 0 ∷ 0 ∷ 0 ∷ 2 ∷ 2 ∷ 0 ∷ 0 ∷ 0 ∷ 0 ∷ 3 ∷ 0 ∷ 0 ∷ 0 ∷ 0 ∷ [])
    (1 ∷ 0 ∷ 0 ∷ 0 ∷ 0 ∷ 0 ∷ 0 ∷ 2 ∷ 2 ∷ 0 ∷ 0 ∷ 0 ∷ 0 ∷ 0 ∷ 0 ∷ 0 ∷ 3 ∷ 0 ∷ 0 ∷ 0 ∷ 0 ∷ 0 ∷ 0 ∷ 0 ∷ [])
one_and_kids_big = record {
  value = one_and_kids;
  fits = one_and_kids_fits;
  tape_is = refl;
  encodes = joined _ _ 0 _ _ (aligned Big One (pos 1) 0 0 refl)
      (joined _ _ 1 _ _ (joined _ _ 1 _ _ (aligned Big Four (pos 2) 1 3 refl)
      (joined _ _ 8 _ _ (joined _ _ 8 _ _ (aligned Big One (pos 2) 8 0 refl)
      (joined _ _ 9 _ _ (joined _ _ 9 _ _ (aligned Big Four (pos 0) 9 3 refl) (no_more 16)) (no_more 16)))
      (joined _ _ 16 _ _ (joined _ _ 16 _ _ (aligned Big One (pos 3) 16 0 refl)
      (joined _ _ 17 _ _ (joined _ _ 17 _ _ (aligned Big Four (pos 0) 17 3 refl) (no_more 24)) (no_more 24)))
      (no_more 24)))) (no_more 24));
}

-- at position 1
pub one_and_kids_big_1 : Means family (zeros_in Big) 64 1 1
    (1 ∷ 0 ∷ 0 ∷ 0 ∷ 2 ∷ 2 ∷ 0 ∷ 0 ∷ 0 ∷ 0 ∷ 3 ∷ 0 ∷ 0 ∷ 0 ∷ 0 ∷ [])
    (1 ∷ 0 ∷ 0 ∷ 0 ∷ 0 ∷ 0 ∷ 2 ∷ 2 ∷ 0 ∷ 0 ∷ 0 ∷ 0 ∷ 0 ∷ 0 ∷ 0 ∷ 3 ∷ 0 ∷ 0 ∷ 0 ∷ 0 ∷ 0 ∷ 0 ∷ 0 ∷ [])
one_and_kids_big_1 = record {
  value = one_and_kids;
  fits = one_and_kids_fits;
  tape_is = refl;
  encodes = joined _ _ 1 _ _ (aligned Big One (pos 1) 1 0 refl)
      (joined _ _ 2 _ _ (joined _ _ 2 _ _ (aligned Big Four (pos 2) 2 2 refl)
      (joined _ _ 8 _ _ (joined _ _ 8 _ _ (aligned Big One (pos 2) 8 0 refl)
      (joined _ _ 9 _ _ (joined _ _ 9 _ _ (aligned Big Four (pos 0) 9 3 refl) (no_more 16)) (no_more 16)))
      (joined _ _ 16 _ _ (joined _ _ 16 _ _ (aligned Big One (pos 3) 16 0 refl)
      (joined _ _ 17 _ _ (joined _ _ 17 _ _ (aligned Big Four (pos 0) 17 3 refl) (no_more 24)) (no_more 24)))
      (no_more 24)))) (no_more 24));
}

-- ---- a union over a boolean with an arm for TRUE alone, a signed short

-- the switch, the arm, the union
abbrev pub maybe_short : List Node
maybe_short = Boolean ∷ Integer Two true ∷ Union 0 ((pos 1, 1) ∷ []) None ∷ []

-- FALSE
pub no_short : Means maybe_short (zeros_in Big) 64 2 0 (0 ∷ []) (0 ∷ [])
no_short = record {
  value = Choice (pos 0) NoTree;
  fits = (omega arith, tt);
  tape_is = refl;
  encodes = joined _ _ 0 _ _ (aligned Big One (pos 0) 0 0 refl) (no_more 1);
}

-- TRUE and -2, at position 0
pub short_minus_two : Means maybe_short (zeros_in Big) 64 2 0 (1 ∷ 0xFF ∷ 0xFE ∷ []) (1 ∷ 0 ∷ 0xFF ∷ 0xFE ∷ [])
short_minus_two = record {
  value = Choice (pos 1) (AndTree (Number (negsuc 1)) NoTree);
  fits = (omega arith, (omega arith, tt));
  tape_is = refl;
  encodes = joined _ _ 0 _ _ (aligned Big One (pos 1) 0 0 refl)
      (joined _ _ 1 _ _ (aligned Big Two (negsuc 1) 1 1 refl) (no_more 4));
}
