-- As many wanted nodes as a node is made of can be taken from it.
use Rattle.std.proofs.Common.{◌≡◌, ℕ, zero, suc, ◌+◌, ◌-◌, ◌*◌, ◌<◌, ◌≤◌, Bool, true, false, ◌||◌, eqb, List, [], ◌∷◌, ◌++◌, length, replicate, take, drop, drop-cons, get_or, Option, Some, None, IfSome, if◌then◌else◌, sum_by, refl, sym, ap, ap₂, subst, ◌∙◌, suc-mul, ◌/◌, min, le_trans, mul-le-mul_right, div-mul-le_self, le-div_iff_mul-le, mul-pos, arith}
use Rattle.std.specs.List.{AllByRecursion, list_any}
use Rattle.std.proofs.lemmas.Bool.{true≢false, eqb-true, eq-eqb}
use Rattle.std.proofs.lemmas.Option.{none-some, same_Some}
use Rattle.std.proofs.Math.Seq.{take-suc}
use Rattle.std.proofs.lemmas.List.{drop_all, append_assoc}
use Rattle.std.proofs.lemmas.List.Sums.{sum_by-cons}
use Rattle.std.proofs.lemmas.List.Folds.{sum_by-replicate}
use Rattle.type_graph.specs.declared.node.Node.{Node}
use Rattle.type_graph.specs.declared.node.Node.TheVariants.{Array, Struct, Frame}
use Rattle.type_graph.specs.Value.{node_at}
use Rattle.type_graph.specs.GraphRules.{held_by, IsShallow, IsGraph}
use Rattle.type_graph.proofs.WordLaws.{all_weaken}
use Rattle.type_graph.proofs.HeldEach.{all_repeated, shallow_all}
use Rattle.routine_checker.specs.Taking.{parts_of, opened, taken_within, and_then, taken}
use Rattle.routine_checker.specs.inner.Counts.{parts_in, pieces_in, IsMade, Yields}
use Rattle.routine_checker.specs.inner.Kinds.{is_of, is_piece_of}
use Rattle.routine_checker.specs.declared.pieces.RunKind.{RunKind}
use Rattle.routine_checker.specs.declared.counts.Piece.{Piece}
use Rattle.routine_checker.specs.declared.counts.Piece.TheVariants as pieces
use Rattle.routine_checker.specs.declared.work.Item.{Item}
use Rattle.routine_checker.specs.inner.Work.{held, held_of}
use Rattle.routine_checker.proofs.TakeLaws.{within_here, within_below, taken_next, taken_none, took_first}

-- ---- how many copies go into so many pieces

pub copies_fit : (copies pieces count n : ℕ) → n ≡ min copies (pieces / count) → n * count ≤ pieces
copies_fit copies pieces count n e =
    let fits : n ≤ pieces / count = omega (arith, e) in
    le_trans (mul-le-mul_right count fits) (div-mul-le_self pieces count)

pub some_fit : (copies pieces count n : ℕ) → n ≡ min copies (pieces / count) → 0 < copies → 0 < count → count ≤ pieces
    → 0 < n * count
some_fit copies pieces count n e many some fits =
    let once : 1 * count ≤ pieces = omega (arith, fits) in
    let one : 1 ≤ pieces / count = (le-div_iff_mul-le some).1 once in
    let here : 0 < n = omega (arith, e, many, one) in
    mul-pos here some

-- ---- what a sum says of its parts

some_test : (test : Bool) (total : ℕ) → 0 < (if test then 0 else total)
    → (test ≡ false) × ((if test then 0 else total) ≡ total)
some_test true total some = absurd (omega (arith, some))
some_test false total some = (refl, refl)

neither : (a b : Bool) → (a || b) ≡ false → (a ≡ false) × (b ≡ false)
neither true b e = absurd (true≢false e)
neither false b e = (refl, e)

positive : (n : ℕ) → eqb n 0 ≡ false → 0 < n
positive zero e = absurd (true≢false e)
positive (suc n) e = omega arith

zero_test : (n : ℕ) (test : Bool) → eqb n 0 ≡ test → 0 < n → eqb n 0 ≡ false
zero_test n true e some = let none : n ≡ 0 = eqb-true n 0 e in absurd (omega (arith, none, some))
zero_test n false e some = e

not_zero : (n : ℕ) → 0 < n → eqb n 0 ≡ false
not_zero n some = zero_test n (eqb n 0) refl some

module _ (count : ℕ → ℕ) where
  all_counted : (parts : List ℕ) → list_any (λ part. eqb (count part) 0) parts ≡ false
      → AllByRecursion (λ part. 0 < count part) parts
  all_counted [] e = tt
  all_counted (part ∷ parts) e =
      let tests = neither (eqb (count part) 0) (list_any (λ part. eqb (count part) 0) parts) e in
      (positive (count part) tests.0, all_counted parts tests.1)

  parts_counted : (parts : List ℕ) → 0 < parts_in count (Some parts) → AllByRecursion (λ part. 0 < count part) parts
  parts_counted parts some =
      all_counted parts (some_test (list_any (λ part. eqb (count part) 0) parts) (sum_by count parts) some).0

  parts_sum : (parts : List ℕ) → 0 < parts_in count (Some parts) → parts_in count (Some parts) ≡ sum_by count parts
  parts_sum parts some = (some_test (list_any (λ part. eqb (count part) 0) parts) (sum_by count parts) some).1

  none_zero : (n elem : ℕ) → 0 < count elem → list_any (λ part. eqb (count part) 0) (replicate n elem) ≡ false
  none_zero zero elem some = refl
  none_zero (suc n) elem some = ap₂ (λ a b. a || b) (not_zero (count elem) some) (none_zero n elem some)

  -- an array
  pub copies_in : (n elem : ℕ) → 0 < count elem → parts_in count (Some (replicate n elem)) ≡ n * count elem
  copies_in n elem some =
      ap (λ b. if b then 0 else sum_by count (replicate n elem)) (none_zero n elem some) ∙ sum_by-replicate count n elem

  -- the parts behind the first ones
  pub members_in : (members : List ℕ) (sum : ℕ) → list_any (λ part. eqb (count part) 0) members ≡ false
      → sum_by count members ≡ sum → parts_in count (Some members) ≡ sum
  members_in members sum e f = ap (λ b. if b then 0 else sum_by count members) e ∙ f

-- ---- one level more

-- the parts have the same counts
parts_same : (f g : ℕ → ℕ) (parts : List ℕ) → AllByRecursion (λ part. f part ≡ g part) parts
    → parts_in f (Some parts) ≡ parts_in g (Some parts)
parts_same f g parts same = ap₂ (λ b s. if b then 0 else s) (tests parts same) (sums parts same)
  where
    tests : (parts : List ℕ) → AllByRecursion (λ part. f part ≡ g part) parts
        → list_any (λ part. eqb (f part) 0) parts ≡ list_any (λ part. eqb (g part) 0) parts
    tests [] same = refl
    tests (part ∷ parts) same = ap₂ (λ a b. eqb a 0 || b) same.0 (tests parts same.1)

    sums : (parts : List ℕ) → AllByRecursion (λ part. f part ≡ g part) parts → sum_by f parts ≡ sum_by g parts
    sums [] same = refl
    sums (part ∷ parts) same = sum_by-cons f part parts ∙ ap₂ (λ a b. a + b) same.0 (sums parts same.1)
        ∙ sym (sum_by-cons g part parts)

held_same : (f g : ℕ → ℕ) (node : Node) → AllByRecursion (λ part. f part ≡ g part) (held_by node)
    → parts_in f (parts_of node) ≡ parts_in g (parts_of node)
held_same f g (Array elem n) same =
    parts_same f g (replicate n elem) (all_repeated (λ part. f part ≡ g part) n elem same.0)
held_same f g (Struct members) same = parts_same f g members same
held_same f g (Frame members) same = parts_same f g members same
held_same f g node same = refl

-- one level more doesn't change the count of a shallow node
pieces_steady : (wanted : ℕ → Bool) (graph : List Node) (levels number : ℕ) → IsShallow levels graph number
    → pieces_in levels wanted graph number ≡ pieces_in (suc levels) wanted graph number
unfolding IsShallow pieces_in
pieces_steady wanted graph zero number shallow = absurd shallow
pieces_steady wanted graph (suc levels) number shallow =
    ap (λ n. if wanted number then 1 else n)
    (held_same (pieces_in levels wanted graph) (pieces_in (suc levels) wanted graph) (node_at graph number)
    (all_weaken (IsShallow levels graph)
    (λ part. pieces_in levels wanted graph part ≡ pieces_in (suc levels) wanted graph part)
    (held_by (node_at graph number)) (λ part s. pieces_steady wanted graph levels part s) shallow))

-- a wanted node is one piece
pub own_piece : (wanted : ℕ → Bool) (graph : List Node) (number : ℕ) → wanted number ≡ true
    → pieces_in 64 wanted graph number ≡ 1
unfolding pieces_in
own_piece wanted graph number is =
    ap (λ b. if b then 1 else parts_in (pieces_in 63 wanted graph) (parts_of (node_at graph number))) is

pub own_node : (graph : List Node) (number : ℕ)
    → IsMade graph (record { number = number; piece = pieces.Node number; n = 1 })
own_node graph number some = own_piece (λ n. eqb number n) graph number (eq-eqb number number refl)

pub own_kind : (graph : List Node) (number : ℕ) (kind : RunKind) → is_of kind (node_at graph number) ≡ true
    → IsMade graph (record { number = number; piece = pieces.Kind kind; n = 1 })
own_kind graph number kind is some = own_piece (λ n. is_of kind (node_at graph n)) graph number is

-- another is made of what its parts are made of
pub parts_pieces : (wanted : ℕ → Bool) (graph : List Node) (number n : ℕ) (node : Node) → IsGraph graph
    → wanted number ≡ false → node_at graph number ≡ node
    → parts_in (pieces_in 64 wanted graph) (parts_of node) ≡ n → pieces_in 64 wanted graph number ≡ n
unfolding pieces_in
parts_pieces wanted graph number n node rules is e sum =
    pieces_steady wanted graph 64 number (shallow_all graph rules number)
    ∙ ap (λ b. if b then 1 else parts_in (pieces_in 64 wanted graph) (parts_of (node_at graph number))) is
    ∙ ap (λ node. parts_in (pieces_in 64 wanted graph) (parts_of node)) e ∙ sum

-- an array
pub array_sum : (count : ℕ → ℕ) (node : Node) (elem n one r : ℕ) → node ≡ Array elem n → (0 < one → count elem ≡ one)
    → (0 < r → 0 < one) → (0 < r → n * one ≡ r) → 0 < r → parts_in count (parts_of node) ≡ r
array_sum count node elem n one r e known is product some =
    let here = is some in
    ap (λ node. parts_in count (parts_of node)) e ∙ copies_in count n elem (subst (λ k. 0 < k) (sym (known here)) here)
    ∙ ap (λ k. n * k) (known here) ∙ product some

pub made_of_parts : (graph nodes : List Node) (piece : Piece) (number n : ℕ) (node : Node) → IsGraph graph
    → nodes ≡ graph → is_piece_of piece nodes number ≡ false → node_at graph number ≡ node
    → (0 < n → parts_in (pieces_in 64 (is_piece_of piece graph) graph) (parts_of node) ≡ n)
    → IsMade graph (record { number = number; piece = piece; n = n })
made_of_parts graph nodes piece number n node rules same is e sum some =
    parts_pieces (is_piece_of piece graph) graph number n node rules
    (subst (λ (nodes : List Node). is_piece_of piece nodes number ≡ false) same is) e (sum some)

-- ---- the sum for members, as the code goes over them

pub record SumsTo (count : ℕ → ℕ) (members : List ℕ) (at sum : ℕ) : Type 0 where
  pub known : list_any (λ part. eqb (count part) 0) members ≡ list_any (λ part. eqb (count part) 0) (drop at members)
  pub all : sum_by count members ≡ sum + sum_by count (drop at members)

pub sums_first : (count : ℕ → ℕ) (members : List ℕ) → SumsTo count members 0 0
sums_first count members = record { known = refl; all = omega arith }

pub sums_next : (count : ℕ → ℕ) (members : List ℕ) (at sum n d : ℕ) → at < length members → 0 < n
    → count (get_or members at d) ≡ n
    → SumsTo count members at sum → SumsTo count members (at + 1) (sum + n)
sums_next count members at sum n d fits some e sums =
    let next : suc at ≡ at + 1 = omega arith in
    let split = drop-cons members at d fits ∙ ap (λ k. get_or members at d ∷ drop k members) next in
    let here : 0 < count (get_or members at d) = subst (λ n. 0 < n) (sym e) some in
    let total = sums.all ∙ ap (λ list. sum + sum_by count list) split
    ∙ ap (λ k. sum + k) (sum_by-cons count (get_or members at d) (drop (at + 1) members)) in
    record {
      known = sums.known ∙ ap (list_any (λ part. eqb (count part) 0)) split
          ∙ ap (λ b. b || list_any (λ part. eqb (count part) 0) (drop (at + 1) members))
          (not_zero (count (get_or members at d)) here);
      all = omega (arith, total, e);
    }

pub sums_all : (count : ℕ → ℕ) (members : List ℕ) (at sum : ℕ) → length members ≤ at → SumsTo count members at sum
    → parts_in count (Some members) ≡ sum
sums_all count members at sum past sums =
    let nothing = drop_all at members past in
    let total = sums.all ∙ ap (λ list. sum + sum_by count list) nothing in
    members_in count members sum (sums.known ∙ ap (list_any (λ part. eqb (count part) 0)) nothing)
    (omega (arith, total))

-- ---- taking

module _ (wanted : ℕ → Bool) (graph : List Node) where
  opened_kept : (further deeper : List ℕ → Option (List ℕ))
      → ((work rest : List ℕ) → further work ≡ Some rest → deeper work ≡ Some rest)
      → (test : Bool) (parts : Option (List ℕ)) (more rest : List ℕ)
      → (if test then Some more else opened None further parts more) ≡ Some rest
      → (if test then Some more else opened None deeper parts more) ≡ Some rest
  opened_kept further deeper ih true parts more rest e = e
  opened_kept further deeper ih false None more rest e = absurd (none-some rest e)
  opened_kept further deeper ih false (Some parts) more rest e = ih (parts ++ more) rest e

  within_deeper : (levels : ℕ) (work rest : List ℕ) → taken_within levels wanted graph work ≡ Some rest
      → taken_within (suc levels) wanted graph work ≡ Some rest
  unfolding taken_within
  within_deeper zero work rest e = absurd (none-some rest e)
  within_deeper (suc levels) [] rest e = absurd (none-some rest e)
  within_deeper (suc levels) (number ∷ more) rest e =
      opened_kept (taken_within levels wanted graph) (taken_within (suc levels) wanted graph) (within_deeper levels)
      (wanted number) (parts_of (node_at graph number)) more rest e

  within_kept : (k levels : ℕ) (work rest : List ℕ) → taken_within levels wanted graph work ≡ Some rest
      → taken_within (k + levels) wanted graph work ≡ Some rest
  within_kept zero levels work rest e =
      let same : levels ≡ 0 + levels = omega arith in
      subst (λ n. taken_within n wanted graph work ≡ Some rest) same e
  within_kept (suc k) levels work rest e =
      let same : suc (k + levels) ≡ suc k + levels = omega arith in
      subst (λ n. taken_within n wanted graph work ≡ Some rest) same
      (within_deeper (k + levels) work rest (within_kept k levels work rest e))

  within_all : (levels : ℕ) (work rest : List ℕ) → levels ≤ 64 → taken_within levels wanted graph work ≡ Some rest
      → taken_within 64 wanted graph work ≡ Some rest
  within_all levels work rest few e =
      let same : (64 - levels) + levels ≡ 64 = omega (arith, few) in
      subst (λ n. taken_within n wanted graph work ≡ Some rest) same (within_kept (64 - levels) levels work rest e)

  -- some pieces, and then some more
  add_more : (m n : ℕ) → ((work rest : List ℕ) → taken m wanted graph work ≡ Some rest
      → taken (m + n) wanted graph work ≡ taken n wanted graph rest)
      → (first : Option (List ℕ)) (rest : List ℕ) → and_then (taken m wanted graph) first ≡ Some rest
      → and_then (taken (m + n) wanted graph) first ≡ taken n wanted graph rest
  add_more m n ih None rest e = absurd (none-some rest e)
  add_more m n ih (Some work) rest e = ih work rest e

  taken_add : (m n : ℕ) (work rest : List ℕ) → taken m wanted graph work ≡ Some rest
      → taken (m + n) wanted graph work ≡ taken n wanted graph rest
  unfolding taken
  taken_add zero n work rest e =
      let same : 0 + n ≡ n = omega arith in
      ap (λ k. taken k wanted graph work) same ∙ ap (taken n wanted graph) (same_Some work rest e)
  taken_add (suc m) n work rest e =
      let same : suc m + n ≡ suc (m + n) = omega arith in
      ap (λ k. taken k wanted graph work) same ∙ add_more m n (taken_add m n) (taken_within 64 wanted graph work) rest e

  -- where the same is behind the first piece
  taken_alike : (k : ℕ) (work other : List ℕ) → 0 < k
      → taken_within 64 wanted graph work ≡ taken_within 64 wanted graph other
      → taken k wanted graph work ≡ taken k wanted graph other
  taken_alike k work other some e =
      taken_next k wanted graph work some ∙ ap (and_then (taken (k - 1) wanted graph)) e
      ∙ sym (taken_next k wanted graph other some)

  -- copies of a node are taken together, k pieces with each
  pub took_many : (c k n copies number : ℕ) (rest : List ℕ)
      → ((more : List ℕ) → taken k wanted graph (number ∷ more) ≡ Some more) → c * k ≤ n → c ≤ copies
      → taken n wanted graph (replicate copies number ++ rest)
      ≡ taken (n - c * k) wanted graph (replicate (copies - c) number ++ rest)
  took_many zero k n copies number rest one fits few =
      let a : n ≡ n - 0 * k = omega arith in
      let b : copies ≡ copies - 0 = omega arith in
      ap (λ m. taken m wanted graph (replicate copies number ++ rest)) a
      ∙ ap (λ m. taken (n - 0 * k) wanted graph (replicate m number ++ rest)) b
  took_many (suc c) k n zero number rest one fits few = absurd (omega (arith, few))
  took_many (suc c) k n (suc copies) number rest one fits few =
      let next = suc-mul c k in
      let start : n ≡ k + (n - k) = omega (arith, fits, next) in
      let left : c * k ≤ n - k = omega (arith, fits, next) in
      let fewer : c ≤ copies = omega (arith, few) in
      let a : n - k - c * k ≡ n - suc c * k = omega (arith, next) in
      let b : copies - c ≡ suc copies - suc c = omega arith in
      ap (λ m. taken m wanted graph (number ∷ replicate copies number ++ rest)) start
      ∙ taken_add k (n - k) (number ∷ replicate copies number ++ rest) (replicate copies number ++ rest)
      (one (replicate copies number ++ rest))
      ∙ took_many c k (n - k) copies number rest one left fewer
      ∙ ap (λ m. taken m wanted graph (replicate (copies - c) number ++ rest)) a
      ∙ ap (λ m. taken (n - suc c * k) wanted graph (replicate m number ++ rest)) b

  -- a wanted node is one piece
  pub took_wanted : (number : ℕ) (more : List ℕ) → wanted number ≡ true
      → taken 1 wanted graph (number ∷ more) ≡ Some more
  took_wanted number more is =
      let here : 0 < 64 = omega arith in
      let some : 0 < 1 = omega arith in
      let none : 1 - 1 ≡ 0 = omega arith in
      took_first 1 wanted graph (number ∷ more) more some
      (within_here 64 wanted graph (number ∷ more) more number here refl is)
      ∙ ap (λ n. taken n wanted graph more) none ∙ taken_none wanted graph more

  taken_parts : (count : ℕ → ℕ)
      → ((part : ℕ) (more : List ℕ) → 0 < count part → taken (count part) wanted graph (part ∷ more) ≡ Some more)
      → (parts more : List ℕ) → AllByRecursion (λ part. 0 < count part) parts
      → taken (sum_by count parts) wanted graph (parts ++ more) ≡ Some more
  taken_parts count one [] more all = taken_none wanted graph more
  taken_parts count one (part ∷ parts) more all =
      ap (λ n. taken n wanted graph (part ∷ parts ++ more)) (sum_by-cons count part parts)
      ∙ taken_add (count part) (sum_by count parts) (part ∷ parts ++ more) (parts ++ more)
      (one part (parts ++ more) all.0)
      ∙ taken_parts count one parts more all.1

-- ---- a node with a count

abbrev Found : (List ℕ → Option (List ℕ)) → List ℕ → Type 0
Found further work = (rest : List ℕ) × (further work ≡ Some rest)

first_part : (count : ℕ → ℕ) (further : List ℕ → Option (List ℕ))
    → ((number : ℕ) (more : List ℕ) → 0 < count number → Found further (number ∷ more))
    → (parts more : List ℕ) → 0 < parts_in count (Some parts) → Found further (parts ++ more)
first_part count further ih [] more some = absurd (omega (arith, some))
first_part count further ih (part ∷ parts) more some =
    ih part (parts ++ more) (parts_counted count (part ∷ parts) some).0

first_test : (count : ℕ → ℕ) (further : List ℕ → Option (List ℕ))
    → ((number : ℕ) (more : List ℕ) → 0 < count number → Found further (number ∷ more))
    → (more : List ℕ) (test : Bool) (parts : Option (List ℕ)) → 0 < (if test then 1 else parts_in count parts)
    → (rest : List ℕ) × ((if test then Some more else opened None further parts more) ≡ Some rest)
first_test count further ih more true parts some = (more, refl)
first_test count further ih more false None some = absurd (omega (arith, some))
first_test count further ih more false (Some parts) some = first_part count further ih parts more some

module _ (wanted : ℕ → Bool) (graph : List Node) where
  -- the first piece of a node with a count is within its levels
  first : (levels number : ℕ) (more : List ℕ) → 0 < pieces_in levels wanted graph number
      → Found (taken_within levels wanted graph) (number ∷ more)
  unfolding pieces_in taken_within
  first zero number more some = absurd (omega (arith, some))
  first (suc levels) number more some =
      first_test (pieces_in levels wanted graph) (taken_within levels wanted graph) (first levels) more (wanted number)
      (parts_of (node_at graph number)) some

  taken_test : (levels number : ℕ) (more : List ℕ) (test : Bool) (parts : Option (List ℕ)) → suc levels ≤ 64
      → ((part : ℕ) (behind : List ℕ) → 0 < pieces_in levels wanted graph part
      → taken (pieces_in levels wanted graph part) wanted graph (part ∷ behind) ≡ Some behind)
      → wanted number ≡ test → parts ≡ parts_of (node_at graph number)
      → 0 < (if test then 1 else parts_in (pieces_in levels wanted graph) parts)
      → taken (if test then 1 else parts_in (pieces_in levels wanted graph) parts) wanted graph (number ∷ more)
      ≡ Some more
  taken_test levels number more true parts few ih is e some = took_wanted wanted graph number more is
  taken_test levels number more false None few ih is e some = absurd (omega (arith, some))
  taken_test levels number more false (Some parts) few ih is e some =
      let count : (ℕ → ℕ) = pieces_in levels wanted graph in
      let within : levels ≤ 64 = omega (arith, few) in
      let here : 0 < suc levels = omega arith in
      let less : suc levels - 1 ≡ levels = omega arith in
      let found = first_part count (taken_within levels wanted graph) (first levels) parts more some in
      let below = within_below (suc levels) wanted graph (number ∷ more) more number (Some parts) here refl is e
      ∙ ap (λ n. taken_within n wanted graph (parts ++ more)) less in
      let alike = within_all wanted graph (suc levels) (number ∷ more) found.0 few (below ∙ found.1)
      ∙ sym (within_all wanted graph levels (parts ++ more) found.0 within found.1) in
      taken_alike wanted graph (parts_in count (Some parts)) (number ∷ more) (parts ++ more) some alike
      ∙ ap (λ n. taken n wanted graph (parts ++ more)) (parts_sum count parts some)
      ∙ taken_parts wanted graph count ih parts more (parts_counted count parts some)

  -- as many can be taken from it as are counted
  pub took_counted : (levels : ℕ) → levels ≤ 64 → (number : ℕ) (more : List ℕ)
      → 0 < pieces_in levels wanted graph number
      → taken (pieces_in levels wanted graph number) wanted graph (number ∷ more) ≡ Some more
  unfolding pieces_in
  took_counted zero few number more some = absurd (omega (arith, some))
  took_counted (suc levels) few number more some =
      let within : levels ≤ 64 = omega (arith, few) in
      taken_test levels number more (wanted number) (parts_of (node_at graph number)) few (took_counted levels within)
      refl refl some

pub counted_yields : (graph : List Node) (wanted piece : ℕ → Bool) (number k : ℕ) → wanted ≡ piece → 0 < k
    → pieces_in 64 piece graph number ≡ k → Yields k wanted graph number
counted_yields graph wanted piece number k same some e more =
    let few : 64 ≤ 64 = omega arith in
    ap (λ (w : ℕ → Bool). taken k w graph (number ∷ more)) same ∙ ap (λ n. taken n piece graph (number ∷ more)) (sym e)
    ∙ took_counted piece graph 64 few number more (subst (λ n. 0 < n) (sym e) some)

-- ---- a node that has pieces is opened

found_first : (k : ℕ) (wanted : ℕ → Bool) (graph : List Node) (first : Option (List ℕ)) (rest : List ℕ)
    → and_then (taken k wanted graph) first ≡ Some rest → (behind : List ℕ) × (first ≡ Some behind)
found_first k wanted graph None rest e = absurd (none-some rest e)
found_first k wanted graph (Some behind) rest e = (behind, refl)

-- where pieces can be taken from a node that isn't one itself, its parts may stand in its place
pub opened_alike : (n k : ℕ) (wanted : ℕ → Bool) (graph : List Node) (number : ℕ) (parts more : List ℕ) → 0 < n
    → Yields n wanted graph number → 0 < k
    → wanted number ≡ false → Some parts ≡ parts_of (node_at graph number)
    → taken k wanted graph (number ∷ more) ≡ taken k wanted graph (parts ++ more)
opened_alike n k wanted graph number parts more some yields here is e =
    let first = taken_within 64 wanted graph (number ∷ more) in
    let found = found_first (n - 1) wanted graph first more
    (sym (taken_next n wanted graph (number ∷ more) some) ∙ yields more) in
    let levels : 0 < 64 = omega arith in
    let less : 64 - 1 ≡ 63 = omega arith in
    let below = within_below 64 wanted graph (number ∷ more) more number (Some parts) levels refl is e
    ∙ ap (λ l. taken_within l wanted graph (parts ++ more)) less in
    let behind = within_deeper wanted graph 63 (parts ++ more) found.0 (sym below ∙ found.1) in
    let more_levels : suc 63 ≡ 64 = omega arith in
    taken_alike wanted graph k (number ∷ more) (parts ++ more) here
    (found.1 ∙ sym (subst (λ l. taken_within l wanted graph (parts ++ more) ≡ Some found.0) more_levels behind))

-- the same as the code opens it
pub more_opened : (n k : ℕ) (wanted : ℕ → Bool) (graph : List Node) (number : ℕ) (item : Option Item) → 0 < k → k < n
    → (0 < n → Yields n wanted graph number)
    → wanted number ≡ false → held_of item ≡ parts_of (node_at graph number)
    → IfSome item (λ parts. (more : List ℕ) → taken k wanted graph (number ∷ more)
    ≡ taken k wanted graph (held parts ++ more))
more_opened n k wanted graph number None here over yields is e = tt
more_opened n k wanted graph number (Some item) here over yields is e = λ more.
    let some : 0 < n = omega (arith, over) in
    opened_alike n k wanted graph number (held item) more some (yields some) here is e

-- ---- nodes in front that are made of pieces

pub front_more : (graph : List Node) (wanted : ℕ → Bool) (numbers more : List ℕ) (at k t n d : ℕ) → at < length numbers
    → Yields n wanted graph (get_or numbers at d) → n ≤ k - t
    → taken (k - t) wanted graph (drop at numbers ++ more)
    ≡ taken (k - (t + n)) wanted graph (drop (at + 1) numbers ++ more)
front_more graph wanted numbers more at k t n d within yields fits =
    let next : suc at ≡ at + 1 = omega arith in
    let split = drop-cons numbers at d within ∙ ap (λ i. get_or numbers at d ∷ drop i numbers) next in
    let some : k - t ≡ n + (k - (t + n)) = omega (arith, fits) in
    ap (λ list. taken (k - t) wanted graph (list ++ more)) split
    ∙ ap (λ i. taken i wanted graph (get_or numbers at d ∷ drop (at + 1) numbers ++ more)) some
    ∙ taken_add wanted graph n (k - (t + n)) (get_or numbers at d ∷ drop (at + 1) numbers ++ more)
    (drop (at + 1) numbers ++ more) (yields (drop (at + 1) numbers ++ more))

-- one node more of those from which pieces are taken together
pub took_more : (graph : List Node) (wanted : ℕ → Bool) (numbers more : List ℕ) (at s n d : ℕ) → at < length numbers
    → ((more : List ℕ) → taken s wanted graph (take at numbers ++ more) ≡ Some more)
    → Yields n wanted graph (get_or numbers at d)
    → taken (s + n) wanted graph (take (at + 1) numbers ++ more) ≡ Some more
took_more graph wanted numbers more at s n d within before yields =
    let here = get_or numbers at d in
    let next : at + 1 ≡ suc at = omega arith in
    let split = ap (λ i. take i numbers) next ∙ take-suc numbers at d within in
    ap (λ list. taken (s + n) wanted graph (list ++ more)) split
    ∙ ap (λ list. taken (s + n) wanted graph list) (append_assoc (take at numbers) (here ∷ []) more)
    ∙ taken_add wanted graph s n (take at numbers ++ (here ∷ more)) (here ∷ more) (before (here ∷ more))
    ∙ yields more

-- nodes in front from which pieces are taken together
pub block_more : (graph : List Node) (wanted : ℕ → Bool) (block behind more : List ℕ) (k t n : ℕ) → n ≤ k - t
    → ((more : List ℕ) → taken n wanted graph (block ++ more) ≡ Some more)
    → taken (k - t) wanted graph ((block ++ behind) ++ more) ≡ taken (k - (t + n)) wanted graph (behind ++ more)
block_more graph wanted block behind more k t n fits takes =
    let some : k - t ≡ n + (k - (t + n)) = omega (arith, fits) in
    ap (λ list. taken (k - t) wanted graph list) (append_assoc block behind more)
    ∙ ap (λ i. taken i wanted graph (block ++ (behind ++ more))) some
    ∙ taken_add wanted graph n (k - (t + n)) (block ++ (behind ++ more)) (behind ++ more) (takes (behind ++ more))
