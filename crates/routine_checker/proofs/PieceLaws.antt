-- The gap that is made with an instruction that takes words, octets, booleans, an enumerator or a string is what the
-- nodes that it takes mean.
use Rattle.std.proofs.Common.{◌≡◌, ℕ, zero, suc, ◌+◌, ◌*◌, ◌<◌, Bool, true, List, [], ◌∷◌, length, refl, sym, subst, arith}
use Rattle.std.specs.List.{AllByRecursion}
use Rattle.std.proofs.lemmas.Bool.{eqb-true, true≢false}
use Rattle.type_graph.specs.declared.width.Width.{Width}
use Rattle.type_graph.specs.declared.width.Width.TheVariants.{One, Two, Four, Eight}
use Rattle.type_graph.specs.declared.node.Node.{Node}
use Rattle.type_graph.specs.declared.node.Node.TheVariants as nodes
use Rattle.type_graph.specs.Words.{Format, octets_in}
use Rattle.type_graph.specs.Relation.{Relation, Then, Many, Chain}
use Rattle.type_graph.specs.Comparison.{Anywhere, Same, Ends}
use Rattle.type_graph.specs.Atoms.{Gap, WordBelow, AnyWord, TextRun}
use Rattle.type_graph.specs.Value.{node_at}
use Rattle.type_graph.specs.Encoding.{NodeMeans, Means}
use Rattle.type_graph.proofs.RelationLaws.{same_refl, same_sym, same_trans, same_at, same_ends, ends_anywhere, then_same, then_same_anywhere, many_one}
use Rattle.type_graph.proofs.AtomLaws.{octets_words, octet_run_long, held_word_long, many_long}
use Rattle.type_graph.proofs.Openings.{gap_one_then, whole_means, octet_means, char_means, boolean_means, enum_means, text_means}
use Rattle.type_graph.proofs.UniformLaws.{words_same}
use Rattle.marshal_program.specs.declared.instr.Instr.{Instr}
use Rattle.marshal_program.specs.declared.instr.Instr.TheVariants.{Octets, Words, Bools, EnumWord, Text}
use Rattle.marshal_program.specs.declared.instr.Routine.{Routine}
use Rattle.marshal_program.specs.Does.{Does, Runs}
use Rattle.routine_checker.specs.Sets.{Among, moved, gaps_agree}
use Rattle.routine_checker.specs.Taking.{is_octet, is_whole, is_boolean, is_enum, is_text, is_piece}
use Rattle.routine_checker.specs.Steps.{Judged, ends}
use Rattle.routine_checker.proofs.Claim.{DoesPieces}
use Rattle.routine_checker.proofs.SetLaws.{among_all}
use Rattle.routine_checker.proofs.GapLaws.{gaps_same, Long, gap_long_ends}

-- ---- gaps

-- behind a gap that agrees stands what stands behind the one that is due
pub due_gap_then : (format : Format) (set : ℕ) (made due : Width) {R : Relation} → gaps_agree set made due ≡ true
    → Same (Among set) (Then (Gap format made) R) (Then (Gap format due) R)
due_gap_then format set made due e = then_same (gaps_same set made due e) ends_anywhere same_refl

-- ---- nodes

-- two widths of as many octets are one
pub same_width : (v w : Width) → octets_in v ≡ octets_in w → v ≡ w
same_width One One e = refl
same_width Two Two e = refl
same_width Four Four e = refl
same_width Eight Eight e = refl
same_width One Two e = absurd (omega (arith, e))
same_width One Four e = absurd (omega (arith, e))
same_width One Eight e = absurd (omega (arith, e))
same_width Two One e = absurd (omega (arith, e))
same_width Two Four e = absurd (omega (arith, e))
same_width Two Eight e = absurd (omega (arith, e))
same_width Four One e = absurd (omega (arith, e))
same_width Four Two e = absurd (omega (arith, e))
same_width Four Eight e = absurd (omega (arith, e))
same_width Eight One e = absurd (omega (arith, e))
same_width Eight Two e = absurd (omega (arith, e))
same_width Eight Four e = absurd (omega (arith, e))

module _ (graph : List Node) (format : Format) (depth : ℕ) where
  -- an octet or a character
  pub octet_node_means : (node : Node) → is_octet node ≡ true
      → Same Anywhere (NodeMeans graph format depth node) (AnyWord format One)
  octet_node_means nodes.Octet e = octet_means graph format depth
  octet_node_means nodes.Char e = char_means graph format depth
  octet_node_means node e = absurd (true≢false (sym e))

  -- an integer of the width
  pub whole_node_means : (width : Width) (node : Node) → is_whole width node ≡ true
      → Same Anywhere (NodeMeans graph format depth node) (Then (Gap format width) (AnyWord format width))
  whole_node_means width (nodes.Integer wide signed) e =
      subst (λ w. Same Anywhere (NodeMeans graph format depth (nodes.Integer wide signed))
      (Then (Gap format w) (AnyWord format w)))
      (same_width wide width (sym (eqb-true (octets_in width) (octets_in wide) e)))
      (whole_means graph format depth wide signed)
  whole_node_means width node e = absurd (true≢false (sym e))

  -- a boolean
  pub boolean_node_means : (node : Node) → is_boolean node ≡ true
      → Same Anywhere (NodeMeans graph format depth node) (WordBelow format One 2)
  boolean_node_means nodes.Boolean e = boolean_means graph format depth
  boolean_node_means node e = absurd (true≢false (sym e))

  -- an enumerator
  pub enum_node_means : (limit : ℕ) (node : Node) → is_enum limit node ≡ true
      → Same Anywhere (NodeMeans graph format depth node) (Then (Gap format Four) (WordBelow format Four limit))
  enum_node_means limit (nodes.Enum n) e =
      subst (λ k. Same Anywhere (NodeMeans graph format depth (nodes.Enum n))
      (Then (Gap format Four) (WordBelow format Four k))) (sym (eqb-true limit n e))
      (enum_means graph format depth n)
  enum_node_means limit node e = absurd (true≢false (sym e))

  -- a string
  pub text_node_means : (bound : ℕ) (node : Node) → is_text bound node ≡ true
      → Same Anywhere (NodeMeans graph format depth node) (Then (Gap format Four) (TextRun format bound))
  text_node_means bound (nodes.Text limit) e =
      subst (λ k. Same Anywhere (NodeMeans graph format depth (nodes.Text limit))
      (Then (Gap format Four) (TextRun format k))) (sym (eqb-true bound limit e))
      (text_means graph format depth limit)
  text_node_means bound node e = absurd (true≢false (sym e))

  -- some nodes that mean the same are that so often
  pub pieces_mean : (R : Relation) (test : ℕ → Bool)
      → ((number : ℕ) → test number ≡ true → Same Anywhere (Means graph format depth number) R)
      → (n : ℕ) (numbers : List ℕ) → AllByRecursion (λ number. test number ≡ true) numbers → length numbers ≡ n
      → Same Anywhere (Chain (Means graph format depth) numbers) (Many n R)
  pieces_mean R test means zero [] pass long = same_refl
  pieces_mean R test means (suc n) [] pass long = absurd (omega (arith, long))
  pieces_mean R test means zero (number ∷ numbers) pass long = absurd (omega (arith, long))
  pieces_mean R test means (suc n) (number ∷ numbers) pass long =
      then_same_anywhere (means number pass.0)
      (pieces_mean R test means n numbers pass.1 (let fewer = long in omega (arith, fewer)))

  -- and one of them is that
  pub piece_means : (R : Relation) (test : ℕ → Bool)
      → ((number : ℕ) → test number ≡ true → Same Anywhere (Means graph format depth number) R)
      → (numbers : List ℕ) → AllByRecursion (λ number. test number ≡ true) numbers → length numbers ≡ 1
      → Same Anywhere (Chain (Means graph format depth) numbers) R
  piece_means R test means numbers pass long = same_trans (pieces_mean R test means 1 numbers pass long) many_one

-- ---- instructions

module _ (graph : List Node) (program : List Routine) (format : Format) (depth : ℕ) (state : Judged) where
  -- what an instruction does
  abbrev Done : Instr → Relation
  Done = Does (Runs program format) format depth

  -- the nodes of an instruction
  abbrev Pass : Instr → List ℕ → Type 0
  Pass instr = AllByRecursion (λ number. is_piece graph program instr number ≡ true)

  -- an instruction of k octets, behind the gap that is due
  due_pieces : (instr : Instr) (due : Width) (k : ℕ) (numbers : List ℕ)
      → ends program instr state.places state.gap ≡ moved state.places due k
      → gaps_agree state.places state.gap due ≡ true → Long k (Done instr)
      → Same Anywhere (Then (Gap format due) (Done instr)) (Chain (Means graph format depth) numbers)
      → DoesPieces graph program format depth instr state numbers
  due_pieces instr due k numbers e gap long same = record {
    same = same_trans (due_gap_then format state.places state.gap due gap) (same_at same);
    ended = subst (λ set. Ends (Among state.places) (Among set) (Chain (Means graph format depth) numbers)) (sym e)
        (same_ends (same_at same) (gap_long_ends state.places due k long));
  }

  pub octets_pieces : (n : ℕ) (numbers : List ℕ) → Pass (Octets n) numbers → length numbers ≡ n
      → gaps_agree state.places state.gap One ≡ true → DoesPieces graph program format depth (Octets n) state numbers
  octets_pieces n numbers pass long gap =
      let means = pieces_mean graph format depth (AnyWord format One) (is_piece graph program (Octets n))
      (λ number e. octet_node_means graph format depth (node_at graph number) e) n numbers pass long in
      due_pieces (Octets n) One n numbers refl gap (λ p t x r. octet_run_long p t x r)
      (same_trans (gap_one_then graph format) (same_trans (octets_words format n (omega arith)) (same_sym means)))

  pub bools_pieces : (n : ℕ) (numbers : List ℕ) → Pass (Bools n) numbers → length numbers ≡ n
      → gaps_agree state.places state.gap One ≡ true → DoesPieces graph program format depth (Bools n) state numbers
  bools_pieces n numbers pass long gap =
      let means = pieces_mean graph format depth (WordBelow format One 2) (is_piece graph program (Bools n))
      (λ number e. boolean_node_means graph format depth (node_at graph number) e) n numbers pass long in
      due_pieces (Bools n) One n numbers refl gap (λ p t x r. octet_run_long p t x r)
      (same_trans (gap_one_then graph format) (same_trans (octets_words format n (omega arith)) (same_sym means)))

  pub words_pieces : (width : Width) (n : ℕ) (numbers : List ℕ) → 0 < n → Pass (Words width n) numbers
      → length numbers ≡ n → gaps_agree state.places state.gap width ≡ true
      → DoesPieces graph program format depth (Words width n) state numbers
  words_pieces width n numbers some pass long gap =
      let means = pieces_mean graph format depth (Then (Gap format width) (AnyWord format width))
      (is_piece graph program (Words width n))
      (λ number e. whole_node_means graph format depth width (node_at graph number) e) n numbers pass long in
      due_pieces (Words width n) width (n * octets_in width) numbers refl gap
      (many_long (octets_in width) n (λ p t x r. held_word_long p t x r))
      (same_sym (same_trans means (words_same format width n (omega (arith, some)))))

  pub enum_pieces : (limit : ℕ) (numbers : List ℕ) → Pass (EnumWord limit) numbers → length numbers ≡ 1
      → gaps_agree state.places state.gap Four ≡ true
      → DoesPieces graph program format depth (EnumWord limit) state numbers
  enum_pieces limit numbers pass long gap =
      let means = piece_means graph format depth (Then (Gap format Four) (WordBelow format Four limit))
      (is_piece graph program (EnumWord limit))
      (λ number e. enum_node_means graph format depth limit (node_at graph number) e) numbers pass long in
      due_pieces (EnumWord limit) Four 4 numbers refl gap (λ p t x r. held_word_long p t x r) (same_sym means)

  pub text_pieces : (bound : ℕ) (numbers : List ℕ) → Pass (Text bound) numbers → length numbers ≡ 1
      → gaps_agree state.places state.gap Four ≡ true → DoesPieces graph program format depth (Text bound) state numbers
  text_pieces bound numbers pass long gap =
      let means = piece_means graph format depth (Then (Gap format Four) (TextRun format bound))
      (is_piece graph program (Text bound))
      (λ number e. text_node_means graph format depth bound (node_at graph number) e) numbers pass long in
      record {
        same = same_trans (due_gap_then format state.places state.gap Four gap) (same_at (same_sym means));
        ended = record { at = λ p t x s r. among_all (p + length x) };
      }
