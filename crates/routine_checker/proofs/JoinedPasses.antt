-- The checker refuses no joined program: runs of one width go through, a gap only where what is before is narrower.
use Rattle.std.proofs.Common.{◌≡◌, ℕ, zero, suc, ◌*◌, ◌<◌, Bool, true, false, eqb, List, [], ◌∷◌, length, Option, Some, None, if◌then◌else◌, refl, sym, ap, subst, ◌∙◌, arith}
use Rattle.std.specs.Prelude.{ltb}
use Rattle.std.specs.List.{AllByRecursion}
use Rattle.std.proofs.lemmas.Bool.{eqb-true, ltb-false}
use Rattle.std.proofs.lemmas.Option.{none-some, same_Some, slice_get_within}
use Rattle.type_graph.specs.declared.width.Width.{Width}
use Rattle.type_graph.specs.declared.width.Width.TheVariants.{One, Two, Four, Eight}
use Rattle.type_graph.specs.declared.node.Node.{Node}
use Rattle.type_graph.specs.declared.node.Node.TheVariants as nodes
use Rattle.type_graph.specs.Words.{octets_in}
use Rattle.type_graph.specs.Value.{node_at}
use Rattle.type_graph.specs.GraphRules.{IsWide, IsNode, IsGraph, held_by}
use Rattle.type_graph.specs.Walks.{height_of}
use Rattle.marshal_program.specs.declared.instr.Instr.{Instr}
use Rattle.marshal_program.specs.declared.instr.Instr.TheVariants.{Align}
use Rattle.marshal_program.specs.declared.instr.Routine.{Routine}
use Rattle.marshal_program.specs.ProgramRules.{is_work}
use Rattle.marshal_program.specs.Plain.{plain_code}
use Rattle.marshal_program.proofs.JoinedPlaces.{length-joined_program, joined_program_at}
use Rattle.marshal_program.specs.Joined.{width_of, width_before, widths_of, run_before, runs_of, run_instr, joined_runs, joined_or, joined_code, joined_routine, joined_program}
use Rattle.routine_checker.specs.Sets.{gaps_agree, moved}
use Rattle.routine_checker.specs.Taking.{parts_of, taken, and_then, is_octet, is_whole, is_piece, pieces}
use Rattle.routine_checker.specs.Steps.{enters, pads, ends, program_fault, routine_fault, name_fault}
use Rattle.routine_checker.proofs.PieceLaws.{same_width}
use Rattle.routine_checker.proofs.FullSets.{gaps_same_width}
use Rattle.routine_checker.proofs.RunGaps.{gaps_behind, gaps_narrower}
use Rattle.routine_checker.proofs.Through.{takes_first, takes_opened, Through, nothing_through, align_through, work_through, routine_none, routines_none}
use Rattle.routine_checker.proofs.OwnRoutines.{Own}
use Rattle.routine_checker.proofs.PlainPasses.{FromNode, empty_through, node_through, all_within, all_low}
use Rattle.routine_checker.proofs.NameLaws.{own_named}

-- ---- one run as an instruction

run_work : (width : Width) (n : ℕ) → is_work (run_instr width n) ≡ true
run_work One n = refl
run_work Two n = refl
run_work Four n = refl
run_work Eight n = refl

run_pieces : (width : Width) (n : ℕ) → pieces (run_instr width n) ≡ n
run_pieces One n = refl
run_pieces Two n = refl
run_pieces Four n = refl
run_pieces Eight n = refl

-- a node that has parts is no octet and no word
no_octet : (node : Node) (parts : List ℕ) → parts_of node ≡ Some parts → is_octet node ≡ false
no_octet nodes.Octet parts e = absurd (none-some parts e)
no_octet nodes.Char parts e = absurd (none-some parts e)
no_octet node parts e = refl

no_whole : (width : Width) (node : Node) (parts : List ℕ) → parts_of node ≡ Some parts → is_whole width node ≡ false
no_whole width (nodes.Integer wide signed) parts e = absurd (none-some parts e)
no_whole width node parts e = refl

module _ (graph : List Node) (program : List Routine) where
  run_enters : (width : Width) (n places : ℕ) (gap : Width) → enters program (run_instr width n) places gap ≡ true
  run_enters One n places gap = refl
  run_enters Two n places gap = refl
  run_enters Four n places gap = refl
  run_enters Eight n places gap = refl

  run_pads : (width : Width) (n places : ℕ) (gap : Width)
      → pads graph program (run_instr width n) places gap ≡ gaps_agree places gap width
  run_pads One n places gap = refl
  run_pads Two n places gap = refl
  run_pads Four n places gap = refl
  run_pads Eight n places gap = refl

  run_ends : (width : Width) (n places : ℕ) (gap : Width)
      → ends program (run_instr width n) places gap ≡ moved places width (n * octets_in width)
  run_ends One n places gap = ap (moved places One) (omega arith)
  run_ends Two n places gap = refl
  run_ends Four n places gap = refl
  run_ends Eight n places gap = refl

  -- it takes none of a node that has parts
  run_opens : (width : Width) (n number : ℕ) (parts : List ℕ) → parts_of (node_at graph number) ≡ Some parts
      → is_piece graph program (run_instr width n) number ≡ false
  run_opens One n number parts e = no_octet (node_at graph number) parts e
  run_opens Two n number parts e = no_whole Two (node_at graph number) parts e
  run_opens Four n number parts e = no_whole Four (node_at graph number) parts e
  run_opens Eight n number parts e = no_whole Eight (node_at graph number) parts e

  -- ---- the members of runs

  -- a run of the width takes the node
  abbrev Takes : Width → ℕ → Type 0
  Takes width number = (n : ℕ) → is_piece graph program (run_instr width n) number ≡ true

  -- so many nodes of the width, and then the rest
  abbrev FirstOf : Width → ℕ → (List ℕ → Type 0) → List ℕ → Type 0
  FirstOf width zero Rest work = Rest work
  FirstOf width (suc n) Rest [] = ⊥
  FirstOf width (suc n) Rest (number ∷ work) = Takes width number × FirstOf width n Rest work

  -- the nodes of each run, one behind the other
  abbrev AreOf : List (Width × ℕ) → List ℕ → Type 0
  AreOf [] work = work ≡ []
  AreOf (run ∷ runs) work = (0 < run.1) × FirstOf run.0 run.1 (AreOf runs) work

  -- one more in front
  before_runs : (width : Width) (runs : List (Width × ℕ)) (number : ℕ) (work : List ℕ) → Takes width number
      → AreOf runs work → AreOf (run_before width runs) (number ∷ work)
  before_runs width [] number work takes h = (omega arith, (takes, h))
  before_runs width (run ∷ runs) number work takes h = by (eqb (octets_in width) (octets_in run.0)) refl
    where
      by : (test : Bool) → eqb (octets_in width) (octets_in run.0) ≡ test
          → AreOf (if test then (run.0, suc run.1) ∷ runs else (width, 1) ∷ run ∷ runs) (number ∷ work)
      by true e = (
        omega arith,
        (
          subst (λ w. Takes w number) (same_width width run.0 (eqb-true (octets_in width) (octets_in run.0) e)) takes,
          h.1,
        ),
      )
      by false e = (omega arith, (takes, h))

  whole_takes : (width : Width) (signed : Bool) (number : ℕ) → node_at graph number ≡ nodes.Integer width signed
      → IsWide width → Takes width number
  whole_takes One signed number e wide n = absurd wide
  whole_takes Two signed number e wide n = ap (is_whole Two) e
  whole_takes Four signed number e wide n = ap (is_whole Four) e
  whole_takes Eight signed number e wide n = ap (is_whole Eight) e

  width_takes : (width : Width) (node : Node) (number : ℕ) → node_at graph number ≡ node → IsNode graph node
      → width_of node ≡ Some width → Takes width number
  width_takes width (nodes.Integer wide signed) number e rule f =
      subst (λ w. Takes w number) (same_Some wide width f) (whole_takes wide signed number e rule)
  width_takes width nodes.Octet number e rule f =
      subst (λ w. Takes w number) (same_Some One width f) (λ n. ap is_octet e)
  width_takes width nodes.Char number e rule f =
      subst (λ w. Takes w number) (same_Some One width f) (λ n. ap is_octet e)
  width_takes width node number e rule f = absurd (none-some width f)

  -- members that have widths are the runs of these
  runs_are : ((number : ℕ) → number < length graph → IsNode graph (node_at graph number)) → (members : List ℕ)
      → AllByRecursion (λ member. member < length graph) members → (widths : List Width)
      → widths_of graph members ≡ Some widths
      → AreOf (runs_of widths) members
  runs_are rules [] within widths e = subst (λ l. AreOf (runs_of l) []) (same_Some [] widths e) refl
  runs_are rules (member ∷ members) within widths e =
      by (width_of (node_at graph member)) (widths_of graph members) refl refl e (runs_are rules members within.1)
    where
      by : (one : Option Width) (more : Option (List Width)) → width_of (node_at graph member) ≡ one
          → widths_of graph members ≡ more → width_before one more ≡ Some widths
          → ((widths : List Width) → widths_of graph members ≡ Some widths → AreOf (runs_of widths) members)
          → AreOf (runs_of widths) (member ∷ members)
      by (Some one) (Some more) e f g ih =
          subst (λ l. AreOf (runs_of l) (member ∷ members)) (same_Some (one ∷ more) widths g)
          (before_runs one (runs_of more) member members
          (width_takes one (node_at graph member) member refl (rules member within.0) e) (ih more f))
      by None more e f g ih = absurd (none-some widths g)
      by (Some one) None e f g ih = absurd (none-some widths g)

  -- ---- taking a run

  record TakesRun (width : Width) (m n : ℕ) (Rest : List ℕ → Type 0) (work : List ℕ) : Type 0 where
    rest : List ℕ
    takes : taken n (is_piece graph program (run_instr width m)) graph work ≡ Some rest
    behind : Rest rest

  run_takes : (width : Width) (m n : ℕ) (Rest : List ℕ → Type 0) (work : List ℕ) → FirstOf width n Rest work
      → TakesRun width m n Rest work
  unfolding taken
  run_takes width m zero Rest work h = record { rest = work; takes = refl; behind = h }
  run_takes width m (suc n) Rest [] h = absurd h
  run_takes width m (suc n) Rest (number ∷ work) h =
      let wanted = is_piece graph program (run_instr width m) in
      let more = run_takes width m n Rest work h.1 in
      record {
        rest = more.rest;
        takes =
            ap (and_then (taken n wanted graph)) (takes_first graph wanted 63 number work (h.0 m)) ∙ more.takes;
        behind =
            more.behind;
      }

  -- ---- the code of runs

  -- the code of the runs goes through behind a run of the width
  abbrev Follows : Width → List (Width × ℕ) → Type 0
  Follows before runs = (work : List ℕ) (places : ℕ) → AreOf runs work → gaps_agree places One before ≡ true
      → Through graph program (joined_runs before runs) (record { work = work; places = places; gap = One })

  run_through : (before width : Width) (n : ℕ) (runs : List (Width × ℕ)) → Follows width runs
      → (work : List ℕ) (places : ℕ) → TakesRun width n n (AreOf runs) work → gaps_agree places One before ≡ true
      → Through graph program (joined_runs before ((width, n) ∷ runs))
      (record { work = work; places = places; gap = One })
  run_through before width n runs further work places takes gaps = by (ltb (octets_in before) (octets_in width)) refl
    where
      instr : Instr
      instr = run_instr width n

      behind : (gap : Width) → gaps_agree places gap width ≡ true
          → Through graph program (instr ∷ joined_runs width runs) (record { work = work; places = places; gap = gap })
      behind gap e =
          work_through graph program instr (joined_runs width runs) (record { work = work; places = places; gap = gap })
          takes.rest (run_work width n)
          (ap (λ k. taken k (is_piece graph program instr) graph work) (run_pieces width n) ∙ takes.takes)
          (run_enters width n places gap) (run_pads width n places gap ∙ e)
          (further takes.rest (ends program instr places gap) takes.behind
          (subst (λ set. gaps_agree set One width ≡ true) (sym (run_ends width n places gap))
          (gaps_behind places width n)))

      by : (test : Bool) → ltb (octets_in before) (octets_in width) ≡ test
          → Through graph program (if test then Align width ∷ instr ∷ joined_runs width runs
          else instr ∷ joined_runs width runs) (record { work = work; places = places; gap = One })
      by true e = align_through graph program width (instr ∷ joined_runs width runs)
          (record { work = work; places = places; gap = One }) (behind width (gaps_same_width places width))
      by false e = behind One (gaps_narrower places before width (ltb-false (octets_in before) (octets_in width) e)
          gaps)

  runs_through : (before : Width) (runs : List (Width × ℕ)) → Follows before runs
  runs_through before [] work places h gaps =
      subst (λ (l : List ℕ). Through graph program [] (record { work = l; places = places; gap = One })) (sym h)
      (nothing_through graph program places)
  runs_through before (run ∷ runs) work places h gaps =
      run_through before run.0 run.1 runs (runs_through run.0 runs) work places
      (run_takes run.0 run.1 run.1 (AreOf runs) work h.1) gaps

  -- ---- the code of a node whose members are runs

  first_run : (number member : ℕ) (members : List ℕ) → parts_of (node_at graph number) ≡ Some (member ∷ members)
      → (width : Width) (n : ℕ) (runs : List (Width × ℕ)) → 0 < n → FirstOf width n (AreOf runs) (member ∷ members)
      → FromNode graph program (joined_runs One ((width, n) ∷ runs)) number One
  first_run number member members e width zero runs some h places = absurd (omega (arith, some))
  first_run number member members e width (suc n) runs some h places =
      let wanted = is_piece graph program (run_instr width (suc n)) in
      let here = run_takes width (suc n) (suc n) (AreOf runs) (member ∷ members) h in
      run_through One width (suc n) runs (runs_through width runs) (number ∷ []) places
      (record {
        rest = here.rest;
        takes = takes_opened graph wanted n number member members (run_opens width (suc n) number (member ∷ members) e)
            e (h.0 (suc n)) ∙ here.takes;
        behind = here.behind;
      })
      (gaps_same_width places One)

  no_first : (width : Width) (n : ℕ) (Rest : List ℕ → Type 0) → 0 < n → FirstOf width n Rest [] → ⊥
  no_first width zero Rest some h = omega (arith, some)
  no_first width (suc n) Rest some h = h

  runs_from_node : (number : ℕ) (members : List ℕ) (runs : List (Width × ℕ))
      → parts_of (node_at graph number) ≡ Some members → AreOf runs members
      → FromNode graph program (joined_runs One runs) number One
  runs_from_node number [] [] e h places = empty_through graph program number e places
  runs_from_node number [] (run ∷ runs) e h places = absurd (no_first run.0 run.1 (AreOf runs) h.0 h.1)
  runs_from_node number (member ∷ members) [] e h places = absurd cc
  runs_from_node number (member ∷ members) (run ∷ runs) e h places =
      first_run number member members e run.0 run.1 runs h.0 h.1 places

  members_joined : ((number : ℕ) → number < length graph → IsNode graph (node_at graph number))
      → (number : ℕ) (members : List ℕ) → parts_of (node_at graph number) ≡ Some members
      → AllByRecursion (λ member. member < length graph) members
      → (code : List Instr) → FromNode graph program code number One
      → FromNode graph program (joined_or code (widths_of graph members)) number One
  members_joined rules number members e within code plain = by (widths_of graph members) refl
    where
      by : (found : Option (List Width)) → widths_of graph members ≡ found
          → FromNode graph program (joined_or code found) number One
      by None f places = plain places
      by (Some widths) f places =
          runs_from_node number members (runs_of widths) e (runs_are rules members within widths f) places

-- ---- each node

module _ (graph : List Node) (program : List Routine) (own : (number : ℕ) → number < length graph → Own program number)
    (rules : IsGraph graph) where
  rule_at : (number : ℕ) → number < length graph → IsNode graph (node_at graph number)
  rule_at number lt = rules.nodes number nodes.Octet lt

  joined_node_through : (number : ℕ) (node : Node) → node_at graph number ≡ node → IsNode graph node
      → AllByRecursion (λ member. member < length graph) (held_by node)
      → AllByRecursion (λ member. height_of graph member < height_of graph number) (held_by node)
      → FromNode graph program (joined_code graph node) number One
  joined_node_through number (nodes.Struct members) e rule within low places =
      members_joined graph program rule_at number members (ap parts_of e) within
      (plain_code graph (nodes.Struct members))
      (node_through graph program own number (nodes.Struct members) e rule within low) places
  joined_node_through number (nodes.Frame members) e rule within low places =
      members_joined graph program rule_at number members (ap parts_of e) within
      (plain_code graph (nodes.Frame members))
      (node_through graph program own number (nodes.Frame members) e rule within low) places
  joined_node_through number node e rule within low places =
      node_through graph program own number node e rule within low places

  joined_through : (number : ℕ) → number < length graph
      → FromNode graph program (joined_code graph (node_at graph number)) number One
  joined_through number lt =
      joined_node_through number (node_at graph number) refl (rule_at number lt)
      (all_within graph program own rules number lt) (all_low graph program own rules number)

-- ---- the joined program

pub joined_own : (graph : List Node) (number : ℕ) → number < length graph → Own (joined_program graph) number
joined_own graph number lt = record {
  routine = joined_routine graph number (node_at graph number);
  there = joined_program_at graph number lt;
  node_is = refl;
  entry_is = refl;
  exits_are = refl;
}

pub joined_passes : (which : ℕ) (graph : List Node) → IsGraph graph
    → program_fault which graph (joined_program graph) ≡ None
joined_passes which graph rules =
    routines_none graph (joined_program graph) which 0 (joined_program graph)
    (λ k routine there at.
    let long = length-joined_program graph in
    let inside = slice_get_within (joined_program graph) k routine there in
    let lt : k < length graph = omega (arith, inside, long) in
    let own : Routine = joined_routine graph k (node_at graph k) in
    subst (λ r. routine_fault graph (joined_program graph) at r ≡ None)
    (same_Some own routine (sym (joined_program_at graph k lt) ∙ there))
    (routine_none graph (joined_program graph) at own lt refl
    (joined_through graph (joined_program graph) (joined_own graph) rules k lt)))

joined_own_within : (graph : List Node) (number : ℕ) → number < length (joined_program graph)
    → Own (joined_program graph) number
joined_own_within graph number lt = let long = length-joined_program graph in
    joined_own graph number (omega (arith, lt, long))

-- no name of a node is refused
pub joined_named : (graph : List Node) (number : ℕ) → number < length graph
    → name_fault (joined_program graph) number ≡ None
joined_named graph number lt = let long = length-joined_program graph in
    own_named (joined_program graph) (joined_own_within graph) number (omega (arith, lt, long))
