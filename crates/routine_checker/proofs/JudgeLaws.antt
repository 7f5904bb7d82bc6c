-- Entries and ends of the routines of a switch, as the code goes over them.
use Rattle.std.proofs.Common.{◌≡◌, ℕ, suc, ◌+◌, ◌<◌, ◌≤◌, max, Bool, true, ◌&&◌, ℤ, List, [], ◌∷◌, ◌++◌, length, map, Option, option_to_list, bit_or, refl, sym, ap, ◌∙◌, arith}
use Rattle.std.specs.List.{list_all}
use Rattle.std.specs.Int.{bit_at}
use Rattle.std.specs.Int.Bits.{or_zero_l, or_zero_r}
use Rattle.std.proofs.Common.{get_or, drop, drop-cons}
use Rattle.std.proofs.lemmas.List.{get_or_past}
use Rattle.std.proofs.lemmas.List.Folds.{list_all-append, list_all-map}
use Rattle.std.proofs.lemmas.Nat.Bits.{bit_at_or, same_from_bits}
use Rattle.type_graph.specs.declared.width.Width.{Width}
use Rattle.type_graph.specs.declared.width.Width.TheVariants.{One}
use Rattle.type_graph.specs.declared.node.Node.{Node}
use Rattle.type_graph.specs.declared.node.Node.TheVariants.{Octet}
use Rattle.type_graph.specs.Walks.{lead_by, lead_within, lead_of}
use Rattle.marshal_program.specs.declared.instr.Routine.{Routine}
use Rattle.marshal_program.specs.ProgramRules.{arms_of}
use Rattle.routine_checker.specs.Sets.{each_place, left, gaps_serve}
use Rattle.routine_checker.specs.Steps.{exits_at, left_by}

-- past the end of a graph stands an octet
pub lead_past : (graph : List Node) (number : ℕ) → length graph ≤ number → lead_of graph number ≡ One
unfolding lead_within
lead_past graph number le = ap (lead_by (lead_within 63 graph) graph) (get_or_past graph number Octet le)

-- no gap serves everywhere
pub none_serves : (set : ℕ) (lead : Width) → true ≡ gaps_serve set One lead
unfolding each_place
none_serves set lead = refl

-- all of the arms, and what is chosen otherwise
pub all_arms : (test : ℕ → Bool) (arms : List (ℤ × ℕ)) (otherwise : Option ℕ)
    → list_all test (arms_of arms otherwise)
    ≡ (list_all (λ arm. test arm.1) arms && list_all test (option_to_list otherwise))
all_arms test arms otherwise =
    list_all-append test (map (λ arm. arm.1) arms) (option_to_list otherwise)
    ∙ ap (λ b. b && list_all test (option_to_list otherwise)) (list_all-map test (λ arm. arm.1) arms)

-- sets are joined in any order
bits_assoc : (a b c : ℕ) → max (max a b) c ≡ max a (max b c)
bits_assoc a b c = omega arith

bits_swap : (a b : ℕ) → max a b ≡ max b a
bits_swap a b = omega arith

pub or_assoc : (a b c : ℕ) → bit_or (bit_or a b) c ≡ bit_or a (bit_or b c)
or_assoc a b c = same_from_bits (bit_or (bit_or a b) c) (bit_or a (bit_or b c)) (λ i.
    bit_at_or (bit_or a b) c i ∙ ap (λ n. max n (bit_at c i)) (bit_at_or a b i)
    ∙ bits_assoc (bit_at a i) (bit_at b i) (bit_at c i)
    ∙ sym (bit_at_or a (bit_or b c) i ∙ ap (max (bit_at a i)) (bit_at_or b c i)))

pub or_swap : (a b : ℕ) → bit_or a b ≡ bit_or b a
or_swap a b = same_from_bits (bit_or a b) (bit_or b a)
    (λ i. bit_at_or a b i ∙ bits_swap (bit_at a i) (bit_at b i) ∙ sym (bit_at_or b a i))

pub or_nothing : (a : ℕ) → a ≡ bit_or a 0
or_nothing a = sym (or_zero_r a)

-- where routines end, in parts
pub left_append : (program : List Routine) (places : ℕ) (xs ys : List ℕ)
    → left_by program places (xs ++ ys) ≡ bit_or (left_by program places xs) (left_by program places ys)
left_append program places [] ys = sym (or_zero_l (left_by program places ys))
left_append program places (x ∷ xs) ys =
    ap (bit_or (left places (exits_at program x))) (left_append program places xs ys)
    ∙ sym (or_assoc (left places (exits_at program x)) (left_by program places xs) (left_by program places ys))

-- of the arms from one on
pub left_from : (program : List Routine) (places : ℕ) (arms : List (ℤ × ℕ)) (otherwise : Option ℕ)
    → bit_or (left_by program places (option_to_list otherwise)) (left_by program places (map (λ arm. arm.1) arms))
    ≡ left_by program places (arms_of arms otherwise)
left_from program places arms otherwise =
    or_swap (left_by program places (option_to_list otherwise)) (left_by program places (map (λ arm. arm.1) arms))
    ∙ sym (left_append program places (map (λ arm. arm.1) arms) (option_to_list otherwise))

pub left_arm : (program : List Routine) (places ends : ℕ) (arms : List (ℤ × ℕ)) (k : ℕ) (d : ℤ × ℕ) → k < length arms
    → bit_or (bit_or ends (left places (exits_at program (get_or arms k d).1)))
    (left_by program places (map (λ arm. arm.1) (drop (k + 1) arms)))
    ≡ bit_or ends (left_by program places (map (λ arm. arm.1) (drop k arms)))
left_arm program places ends arms k d lt =
    let next : k + 1 ≡ suc k = omega arith in
    or_assoc ends (left places (exits_at program (get_or arms k d).1))
    (left_by program places (map (λ arm. arm.1) (drop (k + 1) arms)))
    ∙ ap (λ n. bit_or ends (bit_or (left places (exits_at program (get_or arms k d).1))
    (left_by program places (map (λ (arm : ℤ × ℕ). arm.1) (drop n arms))))) next
    ∙ ap (λ (more : List (ℤ × ℕ)). bit_or ends (left_by program places (map (λ arm. arm.1) more)))
    (sym (drop-cons arms k d lt))
