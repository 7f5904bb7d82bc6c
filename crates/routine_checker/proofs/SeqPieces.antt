-- The pieces of the instructions for sequences.
use Rattle.std.proofs.Common.{◌≡◌, ℕ, zero, suc, ◌+◌, ◌-◌, ◌%◌, ◌<◌, ◌≤◌, Bool, true, eqb, List, [], ◌∷◌, length, Option, Some, slice_get, bit_or, pos, refl, sym, ap, subst, ◌∙◌, arith}
use Rattle.std.specs.List.{AllByRecursion}
use Rattle.std.specs.Int.{bit_at}
use Rattle.std.proofs.lemmas.Bool.{eqb-true, true≢false}
use Rattle.type_graph.specs.declared.width.Width.{Width}
use Rattle.type_graph.specs.declared.width.Width.TheVariants.{One, Two, Four, Eight}
use Rattle.type_graph.specs.declared.node.Node.{Node}
use Rattle.type_graph.specs.declared.node.Node.TheVariants as nodes
use Rattle.type_graph.specs.Words.{Format}
use Rattle.type_graph.specs.Relation.{Relation, Then, Many, Chain}
use Rattle.type_graph.specs.Comparison.{Positions, Anywhere, Same, Ends}
use Rattle.type_graph.specs.Atoms.{Gap, NumberWord, AnyWord, WordBelow, OctetRun, Counted, GapBeforeFirst}
use Rattle.type_graph.specs.Value.{node_at}
use Rattle.type_graph.specs.Encoding.{NodeMeans, Means}
use Rattle.type_graph.specs.GraphRules.{IsGraph}
use Rattle.type_graph.specs.Walks.{lead_of}
use Rattle.type_graph.proofs.RelationLaws.{same_refl, same_sym, same_trans, then_same, then_ends, same_ends, nothing_ends, ends_anywhere, many_same, many_same_anywhere, chain_one}
use Rattle.type_graph.proofs.AtomLaws.{number_word_long, octets_words}
use Rattle.type_graph.proofs.Openings.{seq_means}
use Rattle.type_graph.proofs.LeadLaws.{Leads, then_leads}
use Rattle.marshal_program.specs.declared.instr.Instr.{Instr}
use Rattle.marshal_program.specs.declared.instr.Instr.TheVariants.{SeqOctets, SeqBools, SeqWords, SeqOf}
use Rattle.marshal_program.specs.declared.instr.Routine.{Routine}
use Rattle.marshal_program.specs.Does.{Does, Runs}
use Rattle.routine_checker.specs.Sets.{Among, is_within, moved, left, closure, gaps_agree, gaps_serve, multiples}
use Rattle.routine_checker.specs.Taking.{is_octet, is_boolean, is_whole, is_seq, is_one, is_routine_of, is_piece}
use Rattle.routine_checker.specs.Steps.{Judged, counted, entry_of, exits_of, node_in, lead_at, enters, enters_elements, pads, ends}
use Rattle.routine_checker.proofs.Claim.{IsRightAt, Assumes, DoesPieces}
use Rattle.routine_checker.proofs.SetLaws.{both, among_or_left, among_or_right, among_all, among_place}
use Rattle.routine_checker.proofs.GapLaws.{gaps_same, Behind, gap_behind, behind_moved, gap_moved, gap_serves}
use Rattle.routine_checker.proofs.WordRuns.{At, aligned_words, aligned_words_end}
use Rattle.routine_checker.proofs.TakenLaws.{one_part_means}
use Rattle.routine_checker.proofs.PieceLaws.{octet_node_means, whole_node_means, boolean_node_means}
use Rattle.routine_checker.proofs.RoutineUse.{Found, found_routine, use_same, use_ends, means_ends, among_closure, starts_end, node_leads_with}

-- ---- the node of a sequence

pub record SeqNode (bound : ℕ) (holds : ℕ → Bool) (node : Node) : Type 0 where
  pub elem : ℕ
  pub is : node ≡ nodes.Seq elem bound
  pub held : holds elem ≡ true

pub seq_node : (bound : ℕ) (holds : ℕ → Bool) (node : Node) → is_seq bound holds node ≡ true → SeqNode bound holds node
seq_node bound holds (nodes.Seq elem limit) e =
    let parts = both (eqb bound limit) (holds elem) e in
    record { elem = elem; is = ap (λ b. nodes.Seq elem b) (sym (eqb-true bound limit parts.0)); held = parts.1 }
seq_node bound holds node e = absurd (true≢false (sym e))

-- ---- a count, and elements that are the same behind it

-- behind the count of a sequence
count_behind : {format : Format} {n : ℕ} (set : ℕ)
    → Ends (Behind set Four) (Among (counted set)) (NumberWord format Four (pos n))
count_behind {format} {n} set = record {
  at = λ p t x b r. subst (λ l. Among (counted set) (p + l)) (sym (number_word_long p t x r))
      (behind_moved set Four 4 p b);
}

counted_same_behind : {format : Format} {depth bound : ℕ} {F G : ℕ → Relation} (set : ℕ)
    → (1 ≤ depth → (n : ℕ) → Same (Among (counted set)) (F n) (G n))
    → Same (Behind set Four) (Counted format depth bound F) (Counted format depth bound G)
counted_same_behind {F = F} {G = G} set f = record {
  to = λ p t x s r. record {
    not_too_deep = r.not_too_deep;
    number = r.number;
    is_count = r.is_count;
    parts = (then_same {S = Behind set Four} {X = Among (counted set)} same_refl (count_behind set)
        (f r.not_too_deep r.number)).to p t x s r.parts;
  };
  from = λ p t x s r. record {
    not_too_deep = r.not_too_deep;
    number = r.number;
    is_count = r.is_count;
    parts = (then_same {S = Behind set Four} {X = Among (counted set)} same_refl (count_behind set)
        (f r.not_too_deep r.number)).from p t x s r.parts;
  };
}

counted_ends : {format : Format} {depth bound : ℕ} {F : ℕ → Relation} {X : Positions} (set : ℕ)
    → (1 ≤ depth → (n : ℕ) → Ends (Among (counted set)) X (F n))
    → Ends (Behind set Four) X (Counted format depth bound F)
counted_ends set f = record {
  at = λ p t x s r. (then_ends {S = Behind set Four} {X = Among (counted set)} (count_behind set)
      (f r.not_too_deep r.number)).at p t x s r.parts;
}

module _ (graph : List Node) (format : Format) (depth : ℕ) where
  -- a sequence whose elements are the same behind the count, and end where the checker says
  seq_same : (set : ℕ) (gap : Width) (bound elem number : ℕ) (F : ℕ → Relation)
      → node_at graph number ≡ nodes.Seq elem bound
      → gaps_agree set gap Four ≡ true
      → (1 ≤ depth → (n : ℕ) → Same (Among (counted set)) (F n) (Many n (Means graph format (depth - 1) elem)))
      → Same (Among set) (Then (Gap format gap) (Counted format depth bound F))
      (Chain (Means graph format depth) (number ∷ []))
  seq_same set gap bound elem number F node agree f =
      same_trans (then_same (gaps_same set gap Four agree)
      (record {
        at = λ p t x s r. (gap_behind {format = format} set Four).at p t x s
            ((gaps_same set gap Four agree).to p t x s r);
      }) (counted_same_behind set f))
      (same_trans (same_sym (subst (λ (k : Node). Same (Among set) (NodeMeans graph format depth k)
      (Then (Gap format Four) (Counted format depth bound (λ n. Many n (Means graph format (depth - 1) elem)))))
      (sym node) (seq_means graph format depth elem bound)))
      (same_sym (chain_one (Means graph format depth) number)))

  seq_ends : {X : Positions} (set : ℕ) (bound elem number : ℕ) → node_at graph number ≡ nodes.Seq elem bound
      → (1 ≤ depth → (n : ℕ) → Ends (Among (counted set)) X (Many n (Means graph format (depth - 1) elem)))
      → Ends (Among set) X (Chain (Means graph format depth) (number ∷ []))
  seq_ends {X} set bound elem number node f =
      same_ends (same_sym (chain_one (Means graph format depth) number))
      (same_ends (same_sym (subst (λ (k : Node). Same (Among set) (NodeMeans graph format depth k)
      (Then (Gap format Four) (Counted format depth bound (λ n. Many n (Means graph format (depth - 1) elem)))))
      (sym node) (seq_means graph format depth elem bound)))
      (then_ends (gap_behind set Four) (counted_ends set f)))

-- every end is among all positions
ends_among_all : {S : Positions} {R : Relation} → Ends S (Among 255) R
ends_among_all = record { at = λ p t x s r. among_all (p + length x) }

-- ---- words

-- the elements of a sequence of words: the gap before the first is the one that is due
word_elements : {format : Format} {R : Relation} (set : ℕ) (first w : Width) (n : ℕ) → gaps_agree set first w ≡ true
    → Same Anywhere R (Then (Gap format w) (AnyWord format w))
    → Same (Among set) (GapBeforeFirst format first n (Many n (AnyWord format w))) (Many n R)
word_elements set first w zero agree e = same_refl
word_elements {format} set first w (suc n) agree e =
    same_trans (then_same (gaps_same set first w agree) ends_anywhere same_refl)
    (same_trans (aligned_words format w n) (many_same_anywhere (suc n) (same_sym e)))

-- the set of the multiples of two, of four
even : (r : ℕ) → r < 8 → r % 2 ≡ 0 → eqb (bit_at 0x55 r) 1 ≡ true
even zero lt e = refl
even (suc zero) lt e = absurd (omega arith)
even (suc (suc zero)) lt e = refl
even (suc (suc (suc zero))) lt e = absurd (omega arith)
even (suc (suc (suc (suc zero)))) lt e = refl
even (suc (suc (suc (suc (suc zero))))) lt e = absurd (omega arith)
even (suc (suc (suc (suc (suc (suc zero)))))) lt e = refl
even (suc (suc (suc (suc (suc (suc (suc r))))))) lt e = absurd (omega arith)

fourth : (r : ℕ) → r < 8 → r % 4 ≡ 0 → eqb (bit_at 0x11 r) 1 ≡ true
fourth zero lt e = refl
fourth (suc zero) lt e = absurd (omega arith)
fourth (suc (suc zero)) lt e = absurd (omega arith)
fourth (suc (suc (suc zero))) lt e = absurd (omega arith)
fourth (suc (suc (suc (suc zero)))) lt e = refl
fourth (suc (suc (suc (suc (suc r))))) lt e = absurd (omega arith)

-- the multiples of a width are its set
at_multiples : (w : Width) (p : ℕ) → At w p → Among (multiples w) p
at_multiples One p e = among_all p
at_multiples Two p e = even (p % 8) (omega arith) (omega arith)
at_multiples Four p e = fourth (p % 8) (omega arith) (omega arith)
at_multiples Eight p e = among_place 0 p e

word_elements_end : {format : Format} {R : Relation} (set : ℕ) (w : Width) (n : ℕ)
    → Same Anywhere R (Then (Gap format w) (AnyWord format w))
    → Ends (Among set) (Among (bit_or set (multiples w))) (Many n R)
word_elements_end set w zero e =
    record {
      at = λ p t x s r. among_or_left set (multiples w) (p + length x)
          ((nothing_ends {S = Among set}).at p t x s r);
    }
word_elements_end {format} set w (suc n) e = record {
  at = λ p t x s r. among_or_right set (multiples w) (p + length x)
      (at_multiples w (p + length x)
      ((aligned_words_end {S = Among set} format w n).at p t x s
      ((many_same_anywhere {S = Among set} (suc n) e).to p t x s r)));
}

-- ---- elements by a routine

module _ (graph : List Node) (program : List Routine) (format : Format) (depth number : ℕ) (routine : Routine)
    (right : IsRightAt graph program format depth number routine)
    (leads : Leads format (lead_of graph routine.node) (Means graph format depth routine.node)) where
  -- from the starts on, one element or more
  elements_last : (set n : ℕ) → is_within set routine.entry ≡ true → is_within (left set routine.exits) set ≡ true
      → Ends (Among set) (Among (left set routine.exits)) (Many (suc n) (Means graph format depth routine.node))
  elements_last set zero within closed =
      then_ends (means_ends graph program format depth number routine right set within) nothing_ends
  elements_last set (suc n) within closed =
      then_ends (starts_end set routine.exits closed
      (means_ends graph program format depth number routine right set within)) (elements_last set n within closed)

  -- the gap before the first leads to a start
  gap_starts : (set : ℕ) (first : Width)
      → Ends (Among set) (Among (closure 8 routine.exits (moved set first 0))) (Gap format first)
  gap_starts set first = record {
    at =
        λ p t x s r. among_closure 8 routine.exits (moved set first 0) (p + length x)
        ((gap_moved {format = format} set first).at p t x s r);
  }

  elements_same : (set : ℕ) (first : Width) (n : ℕ)
      → is_within (closure 8 routine.exits (moved set first 0)) routine.entry ≡ true
      → is_within (left (closure 8 routine.exits (moved set first 0)) routine.exits)
      (closure 8 routine.exits (moved set first 0)) ≡ true
      → gaps_serve set first (lead_of graph routine.node) ≡ true
      → Same (Among set) (GapBeforeFirst format first n (Many n (Runs program format depth number)))
      (Many n (Means graph format depth routine.node))
  elements_same set first zero within closed pad = same_refl
  elements_same set first (suc n) within closed pad =
      let from = closure 8 routine.exits (moved set first 0) in
      same_trans (then_same same_refl (gap_starts set first)
      (many_same (suc n) (use_same graph program format depth number routine right from within)
      (starts_end from routine.exits closed
      (use_ends graph program format depth number routine right from within))))
      (gap_serves set first (lead_of graph routine.node) pad
      (then_leads {Q = Many n (Means graph format depth routine.node)} leads))

  elements_end : (set : ℕ) (first : Width) (n : ℕ)
      → is_within (closure 8 routine.exits (moved set first 0)) routine.entry ≡ true
      → is_within (left (closure 8 routine.exits (moved set first 0)) routine.exits)
      (closure 8 routine.exits (moved set first 0)) ≡ true
      → gaps_serve set first (lead_of graph routine.node) ≡ true
      → Ends (Among set) (Among (bit_or set (left (closure 8 routine.exits (moved set first 0)) routine.exits)))
      (Many n (Means graph format depth routine.node))
  elements_end set first zero within closed pad =
      record {
        at = λ p t x s r. among_or_left set (left (closure 8 routine.exits (moved set first 0)) routine.exits)
            (p + length x) ((nothing_ends {S = Among set}).at p t x s r);
      }
  elements_end set first (suc n) within closed pad =
      let from = closure 8 routine.exits (moved set first 0) in
      let last = same_ends (gap_serves set first (lead_of graph routine.node) pad
      (then_leads {Q = Many n (Means graph format depth routine.node)} leads))
      (then_ends (gap_starts set first) (elements_last from n within closed)) in
      record { at = λ p t x s r. among_or_right set (left from routine.exits) (p + length x) (last.at p t x s r) }

-- ---- the four instructions

module _ (graph : List Node) (program : List Routine) (format : Format) (depth : ℕ) where
  -- each of the numbers passes as a piece
  abbrev Pass : Instr → List ℕ → Type 0
  Pass instr numbers = AllByRecursion (λ number. is_piece graph program instr number ≡ true) numbers

  -- a run of octets, where an element is one octet below the limit
  run_elements : {S : Positions} (limit elem n : ℕ) → limit ≤ 256
      → Same Anywhere (Means graph format (depth - 1) elem) (WordBelow format One limit)
      → Same S (OctetRun limit n) (Many n (Means graph format (depth - 1) elem))
  run_elements limit elem n small e = same_trans (octets_words format n small) (many_same_anywhere n (same_sym e))

  seq_run : (limit bound : ℕ) (instr : Instr) (test : ℕ → Bool) (state : Judged) (number : ℕ) → limit ≤ 256
      → ((n : ℕ) → test n ≡ true → Same Anywhere (Means graph format (depth - 1) n) (WordBelow format One limit))
      → Does (Runs program format) format depth instr ≡ Counted format depth bound (λ n. OctetRun limit n)
      → ends program instr state.places state.gap ≡ 255
      → is_seq bound test (node_at graph number) ≡ true → gaps_agree state.places state.gap Four ≡ true
      → DoesPieces graph program format depth instr state (number ∷ [])
  seq_run limit bound instr test state number small means does end piece pad =
      let node = seq_node bound test (node_at graph number) piece in
      record {
        same = subst (λ (D : Relation). Same (Among state.places) (Then (Gap format state.gap) D)
            (Chain (Means graph format depth) (number ∷ []))) (sym does)
            (seq_same graph format depth state.places state.gap bound node.elem number (λ n. OctetRun limit n) node.is
            pad (λ h n. run_elements limit node.elem n small (means node.elem node.held)));
        ended = subst (λ set. Ends (Among state.places) (Among set) (Chain (Means graph format depth) (number ∷ [])))
            (sym end) ends_among_all;
      }

  pub seq_octets_pieces : (bound : ℕ) (state : Judged) (numbers : List ℕ) → Pass (SeqOctets bound) numbers
      → length numbers ≡ 1 → gaps_agree state.places state.gap Four ≡ true
      → DoesPieces graph program format depth (SeqOctets bound) state numbers
  seq_octets_pieces bound state [] all long pad = absurd (omega arith)
  seq_octets_pieces bound state (number ∷ []) all long pad =
      seq_run 256 bound (SeqOctets bound) (is_one 64 is_octet graph) state number (omega arith)
      (λ n e. let one = one_part_means graph is_octet 64 n e in
      same_trans (one.same format (depth - 1))
      (octet_node_means graph format (depth - 1) (node_at graph one.part) one.passes))
      refl refl all.0 pad
  seq_octets_pieces bound state (number ∷ other ∷ more) all long pad = absurd (omega arith)

  pub seq_bools_pieces : (bound : ℕ) (state : Judged) (numbers : List ℕ) → Pass (SeqBools bound) numbers
      → length numbers ≡ 1 → gaps_agree state.places state.gap Four ≡ true
      → DoesPieces graph program format depth (SeqBools bound) state numbers
  seq_bools_pieces bound state [] all long pad = absurd (omega arith)
  seq_bools_pieces bound state (number ∷ []) all long pad =
      seq_run 2 bound (SeqBools bound) (is_one 64 is_boolean graph) state number (omega arith)
      (λ n e. let one = one_part_means graph is_boolean 64 n e in
      same_trans (one.same format (depth - 1))
      (boolean_node_means graph format (depth - 1) (node_at graph one.part) one.passes))
      refl refl all.0 pad
  seq_bools_pieces bound state (number ∷ other ∷ more) all long pad = absurd (omega arith)

  seq_words_one : (width first : Width) (bound : ℕ) (state : Judged) (number : ℕ)
      → is_seq bound (is_one 64 (is_whole width) graph) (node_at graph number) ≡ true
      → gaps_agree state.places state.gap Four ≡ true → gaps_agree (counted state.places) first width ≡ true
      → DoesPieces graph program format depth (SeqWords width first bound) state (number ∷ [])
  seq_words_one width first bound state number piece pad agree =
      let node = seq_node bound (is_one 64 (is_whole width) graph) (node_at graph number) piece in
      let one = one_part_means graph (is_whole width) 64 node.elem node.held in
      let means = same_trans (one.same format (depth - 1))
      (whole_node_means graph format (depth - 1) width (node_at graph one.part) one.passes) in
      record {
        same = seq_same graph format depth state.places state.gap bound node.elem number
            (λ n. GapBeforeFirst format first n (Many n (AnyWord format width))) node.is pad
            (λ h n. word_elements (counted state.places) first width n agree means);
        ended = seq_ends graph format depth state.places bound node.elem number node.is
            (λ h n. word_elements_end (counted state.places) width n means);
      }

  pub seq_words_pieces : (width first : Width) (bound : ℕ) (state : Judged) (numbers : List ℕ)
      → Pass (SeqWords width first bound) numbers → length numbers ≡ 1
      → pads graph program (SeqWords width first bound) state.places state.gap ≡ true
      → DoesPieces graph program format depth (SeqWords width first bound) state numbers
  seq_words_pieces width first bound state [] all long pad = absurd (omega arith)
  seq_words_pieces width first bound state (number ∷ []) all long pad =
      let parts = both (gaps_agree state.places state.gap Four) (gaps_agree (counted state.places) first width) pad in
      seq_words_one width first bound state number all.0 parts.0 parts.1
  seq_words_pieces width first bound state (number ∷ other ∷ more) all long pad = absurd (omega arith)

  seq_of_found : (rules : IsGraph graph) (bound : ℕ) (first : Width) (number : ℕ) (state : Judged) (node elem : ℕ)
      → node_at graph node ≡ nodes.Seq elem bound
      → (1 ≤ depth → (routine : Routine) → slice_get program number ≡ Some routine
      → IsRightAt graph program format (depth - 1) number routine)
      → (found : Found program number elem)
      → enters program (SeqOf bound first number) state.places state.gap ≡ true
      → gaps_agree state.places state.gap Four ≡ true
      → gaps_serve (counted state.places) first (lead_at graph program number) ≡ true
      → DoesPieces graph program format depth (SeqOf bound first number) state (node ∷ [])
  seq_of_found rules bound first number state node elem is right found e pad serve =
      let routine = found.routine in
      let set = counted state.places in
      let from = closure 8 routine.exits (moved set first 0) in
      let leads = node_leads_with graph format (depth - 1) routine.node rules in
      let entered : enters_elements routine.entry routine.exits from ≡ true =
      subst (λ (f : Option Routine). enters_elements (entry_of f) (exits_of f)
      (closure 8 (exits_of f) (moved set first 0)) ≡ true) found.there e in
      let tests = both (is_within from routine.entry) (is_within (left from routine.exits) from) entered in
      let served : gaps_serve set first (lead_of graph routine.node) ≡ true =
      subst (λ (f : Option Routine). gaps_serve set first (lead_of graph (node_in f)) ≡ true) found.there serve in
      let node_is : node_at graph node ≡ nodes.Seq routine.node bound =
      is ∙ ap (λ n. nodes.Seq n bound) (sym found.node_is) in
      record {
        same = seq_same graph format depth state.places state.gap bound routine.node node
            (λ n. GapBeforeFirst format first n (Many n (Runs program format (depth - 1) number))) node_is pad
            (λ h n. elements_same graph program format (depth - 1) number routine (right h routine found.there) leads
            set first n tests.0 tests.1 served);
        ended = subst (λ (f : Option Routine). Ends (Among state.places)
            (Among (bit_or set (left (closure 8 (exits_of f) (moved set first 0)) (exits_of f))))
            (Chain (Means graph format depth) (node ∷ []))) (sym found.there)
            (seq_ends graph format depth state.places bound routine.node node node_is
            (λ h n. elements_end graph program format (depth - 1) number routine (right h routine found.there) leads set
            first n tests.0 tests.1 served));
      }

  pub seq_of_pieces : (rules : IsGraph graph) (rank : ℕ) → Assumes graph program format depth rank
      → (bound : ℕ) (first : Width) (number : ℕ) (state : Judged) (numbers : List ℕ)
      → Pass (SeqOf bound first number) numbers → length numbers ≡ 1
      → enters program (SeqOf bound first number) state.places state.gap ≡ true
      → pads graph program (SeqOf bound first number) state.places state.gap ≡ true
      → DoesPieces graph program format depth (SeqOf bound first number) state numbers
  seq_of_pieces rules rank assumes bound first number state [] all long e pad = absurd (omega arith)
  seq_of_pieces rules rank assumes bound first number state (node ∷ []) all long e pad =
      let parts = both (gaps_agree state.places state.gap Four)
      (gaps_serve (counted state.places) first (lead_at graph program number)) pad in
      let seq = seq_node bound (is_routine_of program number) (node_at graph node) all.0 in
      seq_of_found rules bound first number state node seq.elem seq.is
      (λ h routine there. assumes.deeper number routine there h) (found_routine program number seq.elem seq.held) e
      parts.0 parts.1
  seq_of_pieces rules rank assumes bound first number state (node ∷ other ∷ more) all long e pad = absurd (omega arith)
