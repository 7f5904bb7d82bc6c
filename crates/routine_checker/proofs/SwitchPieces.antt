-- The pieces of Switch: unions of the same discriminator and labels.
use Rattle.std.proofs.Common.{◌≡◌, ◌≢◌, ℕ, suc, ◌+◌, ◌-◌, ◌*◌, ◌^◌, ◌<◌, ◌||◌, ◌&&◌, Bool, true, false, not, ltb, ℤ, pos, negsuc, ◌≤ℤ◌, ◌<ℤ◌, ◌+ℤ◌, List, [], ◌∷◌, length, Option, Some, None, is_some, option_to_list, if◌then◌else◌, int_eq, bit_or, refl, sym, ap, subst, ◌∙◌, inl, inr, arith}
use Rattle.std.specs.Prelude.{All}
use Rattle.std.specs.List.{AllByRecursion, list_all}
use Rattle.std.proofs.lemmas.Bool.{eqb-true, true≢false, cases_lt}
use Rattle.std.proofs.lemmas.Bool.Decides.{Decides-int_eq}
use Rattle.std.proofs.lemmas.Int.{ints}
use Rattle.std.proofs.lemmas.List.{get_or_past}
use Rattle.std.proofs.lemmas.List.Elements.{All-get_or, All-cons, All-nil, All-from_recursion, recursion_from_All}
use Rattle.type_graph.specs.declared.width.Width.{Width}
use Rattle.type_graph.specs.declared.width.Width.TheVariants.{One, Two, Four, Eight}
use Rattle.type_graph.specs.declared.node.Node.{Node}
use Rattle.type_graph.specs.declared.node.Node.TheVariants as nodes
use Rattle.type_graph.specs.Words.{Format, octets_in, words_of}
use Rattle.type_graph.specs.Relation.{Relation, Then, Chain}
use Rattle.type_graph.specs.Comparison.{Positions, Anywhere, Same, Ends}
use Rattle.type_graph.specs.Atoms.{Gap, NumberWord, Chosen}
use Rattle.type_graph.specs.Value.{node_at, number_width, IsNumber, IsSigned, arm_of}
use Rattle.type_graph.specs.Encoding.{NodeMeans, Means}
use Rattle.type_graph.specs.GraphRules.{IsNode, IsUnion, IsGraph}
use Rattle.type_graph.specs.Labels.{AreWithin, AreRising}
use Rattle.type_graph.proofs.RelationLaws.{same_refl, same_sym, same_trans, then_same, then_ends, same_ends, nothing_ends, ends_anywhere, chain_one}
use Rattle.type_graph.proofs.WordLaws.{all_weaken}
use Rattle.type_graph.proofs.AtomLaws.{number_word_long}
use Rattle.type_graph.proofs.LabelLaws.{other_where_fewer}
use Rattle.type_graph.proofs.Openings.{union_means}
use Rattle.marshal_program.specs.declared.instr.Disc.{Disc}
use Rattle.marshal_program.specs.declared.instr.Disc.TheVariants as discs
use Rattle.marshal_program.specs.declared.instr.Instr.TheVariants.{Switch}
use Rattle.marshal_program.specs.declared.instr.Routine.{Routine}
use Rattle.marshal_program.specs.Does.{node_of, Runs}
use Rattle.marshal_program.specs.ProgramRules.{IsLower, arms_of, called_by}
use Rattle.routine_checker.specs.Sets.{Among, is_within, moved, left, gaps_agree}
use Rattle.routine_checker.specs.Taking.{is_disc_of, is_routine_of, are_arms_of, is_default_of, is_switch_of, is_piece}
use Rattle.routine_checker.specs.Steps.{Judged, chosen_from, entry_of, exits_of, entry_at, exits_at, enters, pads, ends, values_of, memberless, left_by}
use Rattle.routine_checker.proofs.Claim.{Assumes, DoesPieces}
use Rattle.routine_checker.proofs.SetLaws.{both, among_or_left, among_or_right}
use Rattle.routine_checker.proofs.GapLaws.{gaps_same, Behind, gap_behind, behind_moved}
use Rattle.routine_checker.proofs.PieceLaws.{same_width}
use Rattle.routine_checker.proofs.RoutineUse.{Found, found_routine, lower_right, use_same, means_ends}

-- ---- discriminators

disc_node : (disc : Disc) (node : Node) → is_disc_of disc node ≡ true → node_of disc ≡ node
disc_node discs.Char nodes.Char e = refl
disc_node discs.Boolean nodes.Boolean e = refl
disc_node (discs.Word width true) (nodes.Integer wide true) e =
    ap (λ w. nodes.Integer w true) (same_width width wide (eqb-true (octets_in width) (octets_in wide) e))
disc_node (discs.Word width false) (nodes.Integer wide false) e =
    ap (λ w. nodes.Integer w false) (same_width width wide (eqb-true (octets_in width) (octets_in wide) e))
disc_node (discs.Enum n) (nodes.Enum limit) e = ap (λ k. nodes.Enum k) (eqb-true n limit e)
disc_node disc node e = absurd (true≢false (sym e))

-- the values of a node lie between two bounds, so many apart
record Bounds (node : Node) (count : ℕ) : Type 0 where
  pub least : ℤ
  pub end : ℤ
  pub wide : end ≡ least +ℤ pos count
  pub between : (n : ℤ) → IsNumber node n → (least ≤ℤ n) × (n <ℤ end)

unsigned_bounds : (node : Node) (count : ℕ) → ((n : ℤ) → IsNumber node n → (pos 0 ≤ℤ n) × (n <ℤ pos count))
    → Bounds node count
unsigned_bounds node count h = record { least = pos 0; end = pos count; wide = omega (arith, ints); between = h }

below_char : (n : ℤ) → IsNumber nodes.Char n → (pos 0 ≤ℤ n) × (n <ℤ pos 256)
below_char (pos n) h = (omega (arith, ints), omega (arith, ints, h))
below_char (negsuc n) h = absurd h

below_boolean : (n : ℤ) → IsNumber nodes.Boolean n → (pos 0 ≤ℤ n) × (n <ℤ pos 2)
below_boolean (pos n) h = (omega (arith, ints), omega (arith, ints, h))
below_boolean (negsuc n) h = absurd h

below_enum : (limit : ℕ) (n : ℤ) → IsNumber (nodes.Enum limit) n → (pos 0 ≤ℤ n) × (n <ℤ pos limit)
below_enum limit (pos n) h = (omega (arith, ints), omega (arith, ints, h))
below_enum limit (negsuc n) h = absurd h

below_word : (w : Width) (n : ℤ) → IsNumber (nodes.Integer w false) n → (pos 0 ≤ℤ n) × (n <ℤ pos (words_of w))
below_word w (pos n) h = (omega (arith, ints), omega (arith, ints, h))
below_word w (negsuc n) h = absurd h

signed_between : (half : ℕ) (n : ℤ) → ((k : ℕ) → n ≡ pos k → k < half) → ((k : ℕ) → n ≡ negsuc k → k < half)
    → (negsuc (half - 1) ≤ℤ n) × (n <ℤ pos half)
signed_between half (pos n) p q = let lt = p n refl in (omega (arith, ints, lt), omega (arith, ints, lt))
signed_between half (negsuc n) p q = let lt = q n refl in (omega (arith, ints, lt), omega (arith, ints, lt))

within_signed : (w : Width) (n : ℤ) → IsNumber (nodes.Integer w true) n → (negsuc (2 ^ (8 * octets_in w - 1) - 1) ≤ℤ n)
    × (n <ℤ pos (2 ^ (8 * octets_in w - 1)))
within_signed w n h = signed_between (2 ^ (8 * octets_in w - 1)) n (λ k e. subst (IsSigned w) e h)
    (λ k e. subst (IsSigned w) e h)

signed_bounds : (w : Width) → Bounds (nodes.Integer w true) (words_of w)
signed_bounds One = record { least = negsuc 0x7F; end = pos 0x80; wide = refl; between = within_signed One }
signed_bounds Two = record { least = negsuc 0x7FFF; end = pos 0x8000; wide = refl; between = within_signed Two }
signed_bounds Four = record {
  least = negsuc 0x7FFFFFFF;
  end = pos 0x80000000;
  wide = refl;
  between =
      within_signed Four;
}
signed_bounds Eight = record {
  least = negsuc 0x7FFFFFFFFFFFFFFF;
  end = pos 0x8000000000000000;
  wide = refl;
  between =
      within_signed Eight;
}

disc_bounds : (disc : Disc) → Bounds (node_of disc) (values_of disc)
disc_bounds discs.Char = unsigned_bounds nodes.Char 256 below_char
disc_bounds discs.Boolean = unsigned_bounds nodes.Boolean 2 below_boolean
disc_bounds (discs.Word w true) = signed_bounds w
disc_bounds (discs.Word w false) = unsigned_bounds (nodes.Integer w false) (words_of w) (below_word w)
disc_bounds (discs.Enum n) = unsigned_bounds (nodes.Enum n) n (below_enum n)

-- a value that is no label leaves fewer labels than values
fewer_labels : (node : Node) (count : ℕ) (arms : List (ℤ × ℕ)) (label : ℤ) → Bounds node count
    → All (λ arm. IsNumber node arm.0) arms → AreRising arms → IsNumber node label → All (λ arm. arm.0 ≢ label) arms
    → ltb (length arms) count ≡ true
fewer_labels node count arms label bounds labels rising is free =
    let within : AreWithin bounds.least bounds.end arms =
    All-from_recursion (λ arm. (bounds.least ≤ℤ arm.0) × (arm.0 <ℤ bounds.end)) arms
    (all_weaken (λ arm. IsNumber node arm.0) (λ arm. (bounds.least ≤ℤ arm.0) × (arm.0 <ℤ bounds.end)) arms
    (λ arm h. bounds.between arm.0 h) (recursion_from_All (λ arm. IsNumber node arm.0) arms labels)) in
    (other_where_fewer bounds.least bounds.end count arms bounds.wide within rising).1
    (record { other = label; from = (bounds.between label is).0; below = (bounds.between label is).1; no_label = free })

-- ---- what a label chooses, on both sides

module _ (program : List Routine) (Holds : ℕ → Type 0) where
  -- nothing on both sides, or a routine that keeps the fact and the node that is its own
  abbrev Paired : List ℕ → List ℕ → Type 0
  Paired [] [] = Unit {0}
  Paired (routine ∷ []) (member ∷ []) = Found program routine member × Holds routine
  Paired routines members = ⊥

  paired_default : (otherwise default : Option ℕ) → is_default_of program otherwise default ≡ true
      → AllByRecursion Holds (option_to_list otherwise) → Paired (option_to_list otherwise) (option_to_list default)
  paired_default None None e h = tt
  paired_default (Some routine) (Some member) e h = (found_routine program routine member e, h.0)
  paired_default None (Some member) e h = absurd (true≢false (sym e))
  paired_default (Some routine) None e h = absurd (true≢false (sym e))

  paired : (arms members : List (ℤ × ℕ)) (otherwise default : Option ℕ) → are_arms_of program arms members ≡ true
      → is_default_of program otherwise default ≡ true → AllByRecursion Holds (arms_of arms otherwise) → (label : ℤ)
      → Paired (arm_of arms otherwise label) (arm_of members default label)
  paired [] [] otherwise default e d h label = paired_default otherwise default d h
  paired [] (member ∷ members) otherwise default e d h label = absurd (true≢false (sym e))
  paired (arm ∷ arms) [] otherwise default e d h label = absurd (true≢false (sym e))
  paired (arm ∷ arms) (member ∷ members) otherwise default e d h label =
      let outer = both (int_eq arm.0 member.0 && is_routine_of program arm.1 member.1)
      (are_arms_of program arms members) e in
      let inner = both (int_eq arm.0 member.0) (is_routine_of program arm.1 member.1) outer.0 in
      let labels : arm.0 ≡ member.0 = (Decides-int_eq arm.0 member.0).0 inner.0 in
      let more = paired arms members otherwise default outer.1 d h.1 label in
      let one = found_routine program arm.1 member.1 inner.1 in
      subst (λ (l : ℤ). Paired (if int_eq arm.0 label then arm.1 ∷ [] else arm_of arms otherwise label)
      (if int_eq l label then member.1 ∷ [] else arm_of members default label)) labels
      (elim (int_eq arm.0 label) as
      (λ b. Paired (if b then arm.1 ∷ [] else arm_of arms otherwise label)
      (if b then member.1 ∷ [] else arm_of members default label)) [
        | true ↦ (one, h.0)
        | false ↦ more
      ])

-- where nothing is chosen there is no default, and no label is the value
none_of_default : (default : Option ℕ) → option_to_list default ≡ [] → default ≡ None
none_of_default None e = refl
none_of_default (Some member) e = cc

none_chosen : (arms : List (ℤ × ℕ)) (default : Option ℕ) (label : ℤ) → arm_of arms default label ≡ []
    → (default ≡ None) × All (λ arm. arm.0 ≢ label) arms
none_chosen [] default label e = (none_of_default default e, All-nil _)
none_chosen (arm ∷ arms) default label e =
    elim (int_eq arm.0 label) as (λ b. int_eq arm.0 label ≡ b
    → (if b then arm.1 ∷ [] else arm_of arms default label) ≡ []
    → (default ≡ None) × All (λ arm. arm.0 ≢ label) (arm ∷ arms)) [
      | true ↦ (λ same chosen. absurd (let clash : (arm.1 ∷ []) ≡ [] = chosen in cc))
      | false ↦ (λ other chosen. let rest = none_chosen arms default label chosen in (
        rest.0,
        All-cons (λ arm. arm.0 ≢ label) arm arms
            (λ is. true≢false (sym ((Decides-int_eq arm.0 label).1 is) ∙ other)) rest.1,
      ))
    ] refl e

-- ---- a discriminator, and what is the same behind it

number_behind : {format : Format} {n : ℤ} (set : ℕ) (w : Width)
    → Ends (Behind set w) (Among (moved set w (octets_in w))) (NumberWord format w n)
number_behind set w = record {
  at = λ p t x b r. subst (λ l. Among (moved set w (octets_in w)) (p + l)) (sym (number_word_long p t x r))
      (behind_moved set w (octets_in w) p b);
}

chosen_same_behind : {format : Format} {Holds : ℤ → Type 0} {F G : ℤ → Relation} (set : ℕ) (w : Width)
    → ((n : ℤ) → Holds n → Same (Among (moved set w (octets_in w))) (F n) (G n))
    → Same (Behind set w) (Chosen format w Holds F) (Chosen format w Holds G)
chosen_same_behind set w f = record {
  to = λ p t x s r. record {
    number = r.number;
    holds = r.holds;
    parts = (then_same {S = Behind set w} {X = Among (moved set w (octets_in w))} same_refl (number_behind set w)
        (f r.number r.holds)).to p t x s r.parts;
  };
  from = λ p t x s r. record {
    number = r.number;
    holds = r.holds;
    parts = (then_same {S = Behind set w} {X = Among (moved set w (octets_in w))} same_refl (number_behind set w)
        (f r.number r.holds)).from p t x s r.parts;
  };
}

chosen_ends : {format : Format} {Holds : ℤ → Type 0} {F : ℤ → Relation} {X : Positions} (set : ℕ) (w : Width)
    → ((n : ℤ) → Holds n → Ends (Among (moved set w (octets_in w))) X (F n))
    → Ends (Behind set w) X (Chosen format w Holds F)
chosen_ends set w f = record {
  at = λ p t x s r. (then_ends {S = Behind set w} {X = Among (moved set w (octets_in w))} (number_behind set w)
      (f r.number r.holds)).at p t x s r.parts;
}

-- ---- the routines of the labels

-- each of a list of routines ends where all of them do
left_each : (program : List Routine) (set : ℕ) (routines : List ℕ)
    → AllByRecursion (λ r. (q : ℕ) → Among (left set (exits_at program r)) q → Among (left_by program set routines) q)
    routines
left_each program set [] = tt
left_each program set (routine ∷ routines) =
    let here = left set (exits_at program routine) in
    let rest = left_by program set routines in (
      λ q h. among_or_left here rest q h,
      all_weaken (λ r. (q : ℕ) → Among (left set (exits_at program r)) q → Among rest q)
          (λ r. (q : ℕ) → Among (left set (exits_at program r)) q → Among (bit_or here rest) q) routines
          (λ r f q h. among_or_right here rest q (f q h)) (left_each program set routines),
    )

each_passes : (test : ℕ → Bool) (xs : List ℕ) → list_all test xs ≡ true → AllByRecursion (λ x. test x ≡ true) xs
each_passes test [] e = tt
each_passes test (x ∷ xs) e = let parts = both (test x) (list_all test xs) e in (parts.0, each_passes test xs parts.1)

both_of_each : (P Q : ℕ → Type 0) (xs : List ℕ) → AllByRecursion P xs → AllByRecursion Q xs
    → AllByRecursion (λ x. P x × Q x) xs
both_of_each P Q [] a b = tt
both_of_each P Q (x ∷ xs) a b = ((a.0, b.0), both_of_each P Q xs a.1 b.1)

-- the rules of a node, also past the end of the graph, where an octet stands
pub node_rules : (graph : List Node) → IsGraph graph → (number : ℕ) → IsNode graph (node_at graph number)
node_rules graph rules number = elim (cases_lt number (length graph)) as (λ v. IsNode graph (node_at graph number)) [
  | inl lt ↦ All-get_or (IsNode graph) graph number nodes.Octet lt rules.nodes
  | inr le ↦ subst (IsNode graph) (sym (get_or_past graph number nodes.Octet le)) tt
]

-- the discriminator and the labels of a union that a Switch takes
record UnionNode (graph : List Node) (program : List Routine) (disc : Disc) (arms : List (ℤ × ℕ)) (otherwise : Option ℕ)
    (node : Node) : Type 0 where
  switch : ℕ
  members : List (ℤ × ℕ)
  default : Option ℕ
  is : node ≡ nodes.Union switch members default
  disc_is : node_of disc ≡ node_at graph switch
  labels : are_arms_of program arms members ≡ true
  other : is_default_of program otherwise default ≡ true

union_node : (graph : List Node) (program : List Routine) (disc : Disc) (arms : List (ℤ × ℕ)) (otherwise : Option ℕ)
    (node : Node) → is_switch_of graph program disc arms otherwise node ≡ true
    → UnionNode graph program disc arms otherwise node
union_node graph program disc arms otherwise (nodes.Union switch members default) e =
    let outer = both (is_disc_of disc (node_at graph switch) && are_arms_of program arms members)
    (is_default_of program otherwise default) e in
    let inner = both (is_disc_of disc (node_at graph switch)) (are_arms_of program arms members) outer.0 in
    record {
      switch = switch;
      members = members;
      default = default;
      is = refl;
      disc_is = disc_node disc (node_at graph switch) inner.0;
      labels = inner.1;
      other = outer.1;
    }
union_node graph program disc arms otherwise node e = absurd (true≢false (sym e))

-- the labels are those of the union
same_length : (program : List Routine) (arms members : List (ℤ × ℕ)) → are_arms_of program arms members ≡ true
    → length arms ≡ length members
same_length program [] [] e = refl
same_length program (arm ∷ arms) (member ∷ members) e =
    ap suc (same_length program arms members
    (both (int_eq arm.0 member.0 && is_routine_of program arm.1 member.1) (are_arms_of program arms members) e).1)
same_length program [] (member ∷ members) e = absurd (true≢false (sym e))
same_length program (arm ∷ arms) [] e = absurd (true≢false (sym e))

-- nothing is chosen on both sides or on none
nothing_paired : (program : List Routine) (Holds : ℕ → Type 0) (routines : List ℕ) → Paired program Holds routines []
    → routines ≡ []
nothing_paired program Holds [] h = refl
nothing_paired program Holds (routine ∷ []) h = absurd h
nothing_paired program Holds (routine ∷ other ∷ more) h = absurd h

none_otherwise : (program : List Routine) (otherwise default : Option ℕ)
    → is_default_of program otherwise default ≡ true → default ≡ None → otherwise ≡ None
none_otherwise program None default d e = refl
none_otherwise program (Some routine) None d e = absurd (true≢false (sym d))
none_otherwise program (Some routine) (Some member) d e = cc

-- where no member follows, the positions stay possible
memberless_is : (disc : Disc) (arms : List (ℤ × ℕ)) (otherwise : Option ℕ) (set : ℕ) → otherwise ≡ None
    → ltb (length arms) (values_of disc) ≡ true → memberless disc arms otherwise set ≡ set
memberless_is disc arms otherwise set none fewer =
    subst (λ (o : Option ℕ). (if is_some o || not (ltb (length arms) (values_of disc)) then 0 else set) ≡ set)
    (sym none)
    (subst (λ b. (if false || not b then 0 else set) ≡ set) (sym fewer) refl)

module _ (graph : List Node) (program : List Routine) (format : Format) (depth rank : ℕ) (rules : IsGraph graph)
    (assumes : Assumes graph program format depth rank) where
  -- what is known of each routine that is named
  abbrev Good : ℕ → ℕ → ℕ → Type 0
  Good set all routine = (IsLower program rank routine × (is_within set (entry_at program routine) ≡ true))
      × ((q : ℕ) → Among (left set (exits_at program routine)) q → Among all q)

  module _ (set all : ℕ) where
    pair_same : (routines members : List ℕ) → Paired program (Good set all) routines members
        → Same (Among set) (Chain (Runs program format depth) routines) (Chain (Means graph format depth) members)
    pair_same [] [] h = same_refl
    pair_same (routine ∷ []) (member ∷ []) h =
        let found = h.0 in
        let right = lower_right graph program format depth rank routine found.routine assumes found.there h.1.0.0 in
        let entered : is_within set found.routine.entry ≡ true =
        subst (λ (f : Option Routine). is_within set (entry_of f) ≡ true) found.there h.1.0.1 in
        then_same {X = Anywhere}
        (subst (λ n. Same (Among set) (Runs program format depth routine) (Means graph format depth n))
        found.node_is (use_same graph program format depth routine found.routine right set entered)) ends_anywhere
        same_refl
    pair_same [] (member ∷ members) h = absurd h
    pair_same (routine ∷ []) [] h = absurd h
    pair_same (routine ∷ other ∷ routines) [] h = absurd h
    pair_same (routine ∷ []) (member ∷ other ∷ members) h = absurd h
    pair_same (routine ∷ other ∷ routines) (member ∷ members) h = absurd h

    pair_ends : (routines members : List ℕ) → Paired program (Good set all) routines members
        → (members ≡ [] → (q : ℕ) → Among set q → Among all q)
        → Ends (Among set) (Among all) (Chain (Means graph format depth) members)
    pair_ends [] [] h none =
        record { at = λ p t x s r. none refl (p + length x) ((nothing_ends {S = Among set}).at p t x s r) }
    pair_ends (routine ∷ []) (member ∷ []) h none =
        let found = h.0 in
        let right = lower_right graph program format depth rank routine found.routine assumes found.there h.1.0.0 in
        let entered : is_within set found.routine.entry ≡ true =
        subst (λ (f : Option Routine). is_within set (entry_of f) ≡ true) found.there h.1.0.1 in
        let ended = means_ends graph program format depth routine found.routine right set entered in
        let ended : Ends (Among set) (Among (left set (exits_at program routine))) (Means graph format depth member) =
        subst (λ (f : Option Routine). Ends (Among set) (Among (left set (exits_of f)))
        (Means graph format depth member)) (sym found.there)
        (subst (λ n. Ends (Among set) (Among (left set found.routine.exits)) (Means graph format depth n)) found.node_is
        ended) in
        same_ends (same_sym (chain_one (Means graph format depth) member))
        (record { at = λ p t x s r. h.1.1 (p + length x) (ended.at p t x s r) })
    pair_ends [] (member ∷ members) h none = absurd h
    pair_ends (routine ∷ []) [] h none = absurd h
    pair_ends (routine ∷ other ∷ routines) [] h none = absurd h
    pair_ends (routine ∷ []) (member ∷ other ∷ members) h none = absurd h
    pair_ends (routine ∷ other ∷ routines) (member ∷ members) h none = absurd h

  -- the pieces of a switch, whose union is known
  switch_found : (disc : Disc) (arms : List (ℤ × ℕ)) (otherwise : Option ℕ) (state : Judged) (number : ℕ)
      → All (IsLower program rank) (arms_of arms otherwise)
      → UnionNode graph program disc arms otherwise (node_at graph number)
      → enters program (Switch disc arms otherwise) state.places state.gap ≡ true
      → gaps_agree state.places state.gap (number_width (node_of disc)) ≡ true
      → DoesPieces graph program format depth (Switch disc arms otherwise) state (number ∷ [])
  switch_found disc arms otherwise state number lower union e pad =
      let node = node_of disc in
      let w = number_width node in
      let set = chosen_from disc state.places in
      let all = ends program (Switch disc arms otherwise) state.places state.gap in
      let means = Means graph format depth in
      let union_rules : IsUnion graph union.switch union.members union.default =
      subst (IsNode graph) union.is (node_rules graph rules number) in
      let routines = arms_of arms otherwise in
      let good : AllByRecursion (Good set all) routines =
      both_of_each (λ r. IsLower program rank r × (is_within set (entry_at program r) ≡ true))
      (λ r. (q : ℕ) → Among (left set (exits_at program r)) q → Among all q) routines
      (both_of_each (IsLower program rank) (λ r. is_within set (entry_at program r) ≡ true) routines
      (recursion_from_All (IsLower program rank) routines lower)
      (each_passes (λ r. is_within set (entry_at program r)) routines e))
      (all_weaken (λ r. (q : ℕ) → Among (left set (exits_at program r)) q → Among (left_by program set routines) q)
      (λ r. (q : ℕ) → Among (left set (exits_at program r)) q → Among all q) routines
      (λ r f q h. among_or_left (left_by program set routines) (memberless disc arms otherwise set) q (f q h))
      (left_each program set routines)) in
      let pairs : (label : ℤ) → Paired program (Good set all) (arm_of arms otherwise label)
      (arm_of union.members union.default label) =
      λ label. paired program (Good set all) arms union.members otherwise union.default union.labels union.other good
      label in
      let opened : Same (Among state.places)
      (Then (Gap format w) (Chosen format w (IsNumber node)
      (λ label. Chain means (arm_of union.members union.default label)))) (Chain means (number ∷ [])) =
      same_trans (same_sym (subst (λ (k : Node). Same (Among state.places) (NodeMeans graph format depth k)
      (Then (Gap format w) (Chosen format w (IsNumber node)
      (λ label. Chain means (arm_of union.members union.default label))))) (sym union.is)
      (subst (λ (k : Node). Same (Among state.places)
      (NodeMeans graph format depth (nodes.Union union.switch union.members union.default))
      (Then (Gap format (number_width k))
      (Chosen format (number_width k) (IsNumber k)
      (λ label. Chain means (arm_of union.members union.default label))))) (sym union.disc_is)
      (union_means graph format depth union.switch union.members union.default))))
      (same_sym (chain_one means number)) in
      let memberless_ends : (label : ℤ) → IsNumber node label → arm_of union.members union.default label ≡ [] → (q : ℕ)
      → Among set q → Among all q =
      λ label is none q h.
      let free = none_chosen union.members union.default label none in
      let labels : All (λ arm. IsNumber node arm.0) union.members =
      subst (λ (k : Node). All (λ arm. IsNumber k arm.0) union.members) (sym union.disc_is) union_rules.labels in
      let fewer = fewer_labels node (values_of disc) union.members label (disc_bounds disc) labels union_rules.rising is
      free.1 in
      let few : ltb (length arms) (values_of disc) ≡ true =
      subst (λ n. ltb n (values_of disc) ≡ true) (sym (same_length program arms union.members union.labels)) fewer
      in
      among_or_right (left_by program set routines) (memberless disc arms otherwise set) q
      (subst (λ s. Among s q) (sym
      (memberless_is disc arms otherwise set (none_otherwise program otherwise union.default union.other free.0)
      few)) h) in
      record {
        same = same_trans (then_same (gaps_same state.places state.gap w pad)
            (record {
              at = λ p t x s r. (gap_behind {format = format} state.places w).at p t x s
                  ((gaps_same state.places state.gap w pad).to p t x s r);
            })
            (chosen_same_behind state.places w
            (λ label is. pair_same set all (arm_of arms otherwise label) (arm_of union.members union.default label)
            (pairs label)))) opened;
        ended = same_ends opened
            (then_ends (gap_behind state.places w)
            (chosen_ends state.places w
            (λ label is. pair_ends set all (arm_of arms otherwise label) (arm_of union.members union.default label)
            (pairs label) (memberless_ends label is))));
      }

  pub switch_pieces : (disc : Disc) (arms : List (ℤ × ℕ)) (otherwise : Option ℕ) (state : Judged) (numbers : List ℕ)
      → All (IsLower program rank) (called_by (Switch disc arms otherwise))
      → AllByRecursion (λ m. is_piece graph program (Switch disc arms otherwise) m ≡ true) numbers → length numbers ≡ 1
      → enters program (Switch disc arms otherwise) state.places state.gap ≡ true
      → pads graph program (Switch disc arms otherwise) state.places state.gap ≡ true
      → DoesPieces graph program format depth (Switch disc arms otherwise) state numbers
  switch_pieces disc arms otherwise state [] lower all long e pad = absurd (omega arith)
  switch_pieces disc arms otherwise state (number ∷ []) lower all long e pad =
      switch_found disc arms otherwise state number lower
      (union_node graph program disc arms otherwise (node_at graph number) all.0) e pad
  switch_pieces disc arms otherwise state (number ∷ other ∷ more) lower all long e pad = absurd (omega arith)
