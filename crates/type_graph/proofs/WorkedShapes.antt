-- Nodes worked out by hand: their leads, of which words they are made, and the tapes of their zeros.
use Rattle.std.proofs.Common.{◌≡◌, ℕ, pos, true, false, List, [], ◌∷◌, None, Some, refl, sym, ◌∙◌, arith}
use Rattle.type_graph.specs.declared.width.Width.{Width}
use Rattle.type_graph.specs.declared.width.Width.TheVariants.{One, Two, Four, Eight}
use Rattle.type_graph.specs.declared.node.Node.{Node}
use Rattle.type_graph.specs.declared.node.Node.TheVariants.{Integer, Octet, Boolean, Text, Array, Struct, Union, Frame}
use Rattle.type_graph.specs.Value.{node_at, tape_of}
use Rattle.type_graph.specs.Walks.{lead_within, lead_of}
use Rattle.type_graph.specs.Leaves.{leaves_within, IsWordOf, IsUniform}
use Rattle.type_graph.specs.Zero.{zero_value, zero_of}

-- both kinds of long, an array of three, two of those, and a structure of both kinds
abbrev longs : List Node
longs = Integer Four true ∷ Integer Four false ∷ Array 0 3 ∷ Array 2 2 ∷ Struct (0 ∷ 1 ∷ []) ∷ []

signed : IsWordOf Four (Integer Four true)
signed = record { plain = tt; width = refl }

unsigned : IsWordOf Four (Integer Four false)
unsigned = record { plain = tt; width = refl }

three_longs : IsUniform longs Four 3 2
unfolding leaves_within
three_longs = record {
  words = (signed, (signed, (signed, tt)));
  long = refl;
  some = omega arith;
  limited =
      omega arith;
}

array_of_arrays : IsUniform longs Four 6 3
unfolding leaves_within
array_of_arrays = record {
  words = (signed, (signed, (signed, (signed, (signed, (signed, tt))))));
  long = refl;
  some =
      omega arith;
  limited = omega arith;
}

both_longs : IsUniform longs Four 2 4
unfolding leaves_within
both_longs = record { words = (signed, (unsigned, tt)); long = refl; some = omega arith; limited = omega arith }

-- an octet and an array of three
abbrev octets : List Node
octets = Octet ∷ Array 0 3 ∷ Struct (0 ∷ 1 ∷ []) ∷ []

octet : IsWordOf One Octet
octet = record { plain = tt; width = refl }

four_octets : IsUniform octets One 4 2
unfolding leaves_within
four_octets = record {
  words = (octet, (octet, (octet, (octet, tt))));
  long = refl;
  some = omega arith;
  limited =
      omega arith;
}

-- a boolean has a range to keep
boolean_is_none : (w : Width) (n : ℕ) → IsUniform (Boolean ∷ []) w n 0 → ⊥
unfolding leaves_within
boolean_is_none w n u = u.words.0.plain

-- two widths
abbrev short_and_long : List Node
short_and_long = Integer Two true ∷ Integer Four true ∷ Struct (0 ∷ 1 ∷ []) ∷ []

two_widths_are_none : (w : Width) (n : ℕ) → IsUniform short_and_long w n 2 → ⊥
unfolding leaves_within
two_widths_are_none w n u = let same : Two ≡ Four = u.words.0.width ∙ sym u.words.1.0.width in cc

-- no members
frame_is_none : (w : Width) (n : ℕ) → IsUniform (Frame [] ∷ []) w n 0 → ⊥
unfolding leaves_within
frame_is_none w n u = let long = u.long in let some = u.some in omega arith

-- the structure of an octet, an unsigned long and a string
abbrev sample : List Node
sample = Octet ∷ Integer Four false ∷ Text 0 ∷ Struct (0 ∷ 1 ∷ 2 ∷ []) ∷ []

zeros_of_sample : tape_of sample (node_at sample 3) (zero_of sample 3) ≡ 0 ∷ 0 ∷ 0 ∷ 0 ∷ 0 ∷ 0 ∷ 0 ∷ 0 ∷ 0 ∷ []
unfolding zero_value
zeros_of_sample = refl

-- unions over a boolean: the first has nothing for 0, the second a default, the third an arm
abbrev unions : List Node
unions = Boolean ∷ Integer Eight true ∷ Integer Two true ∷ Union 0 ((pos 1, 1) ∷ []) None
    ∷ Union 0 ((pos 1, 1) ∷ []) (Some 2) ∷ Union 0 ((pos 0, 2) ∷ (pos 1, 1) ∷ []) None ∷ []

zeros_without_member : tape_of unions (node_at unions 3) (zero_of unions 3) ≡ 0 ∷ []
unfolding zero_value
zeros_without_member = refl

zeros_of_default : tape_of unions (node_at unions 4) (zero_of unions 4) ≡ 0 ∷ 0 ∷ 0 ∷ []
unfolding zero_value
zeros_of_default = refl

zeros_of_arm : tape_of unions (node_at unions 5) (zero_of unions 5) ≡ 0 ∷ 0 ∷ 0 ∷ []
unfolding zero_value
zeros_of_arm = refl

-- the discriminator leads
lead_of_union : lead_of unions 3 ≡ One
unfolding lead_within
lead_of_union = refl

lead_of_arrays : lead_of longs 3 ≡ Four
unfolding lead_within
lead_of_arrays = refl
