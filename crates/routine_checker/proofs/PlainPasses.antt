-- The checker refuses no plain program: the code of each node goes through, wherever it starts.
use Rattle.std.proofs.Common.{◌≡◌, ℕ, zero, suc, ◌<◌, true, false, ◌&&◌, eqb, int_eq, ℤ, List, [], ◌∷◌, length, map, replicate, Option, Some, None, option_to_list, slice_get, refl, sym, ap, subst, ◌∙◌, arith}
use Rattle.std.specs.Prelude.{IsSomeAnd}
use Rattle.std.specs.List.{AllByRecursion, list_all}
use Rattle.std.proofs.lemmas.Bool.{eq-eqb, and_from}
use Rattle.std.proofs.lemmas.Bool.Decides.{Decides-int_eq}
use Rattle.std.proofs.lemmas.List.Elements.{recursion_from_All}
use Rattle.std.proofs.lemmas.Option.{same_Some, slice_get_within, get_or_from_slice_get}
use Rattle.type_graph.specs.declared.width.Width.{Width}
use Rattle.type_graph.specs.declared.width.Width.TheVariants.{One, Two, Four, Eight}
use Rattle.type_graph.specs.declared.node.Node.{Node}
use Rattle.type_graph.specs.declared.node.Node.TheVariants as nodes
use Rattle.type_graph.specs.Words.{octets_in}
use Rattle.type_graph.specs.Value.{node_at, number_width}
use Rattle.type_graph.specs.GraphRules.{IsSwitch, IsNode, IsGraph, held_by}
use Rattle.type_graph.specs.Walks.{height_of, lead_of}
use Rattle.type_graph.proofs.Held.{held_within, elem_within}
use Rattle.type_graph.proofs.HeightLaws.{above_each, height_unfolds}
use Rattle.marshal_program.specs.declared.instr.Instr.{Instr}
use Rattle.marshal_program.specs.declared.instr.Instr.TheVariants.{Align, Octets, Words, Bools, EnumWord, Text, SeqOf, Times, Call, Switch}
use Rattle.marshal_program.specs.declared.instr.Routine.{Routine}
use Rattle.marshal_program.specs.Does.{node_of}
use Rattle.marshal_program.specs.ProgramRules.{arms_of, is_work}
use Rattle.marshal_program.specs.Plain.{disc_of, aligned_to, plain_code, plain_routine, plain_program}
use Rattle.marshal_program.proofs.PlainPlaces.{length-plain_program, plain_program_at}
use Rattle.routine_checker.specs.Sets.{gaps_agree, gaps_serve, is_within}
use Rattle.routine_checker.specs.Taking.{parts_of, opened, is_done_within, is_whole, is_seq, is_enum, is_text, is_octet, is_boolean, is_routine_of, is_disc_of, are_arms_of, is_default_of, is_switch_of, is_piece, pieces, taken}
use Rattle.routine_checker.specs.Steps.{name_fault, counted, behind_gap, chosen_from, entry_at, lead_at, enters, pads, ends, program_fault, routine_fault}
use Rattle.routine_checker.proofs.FullSets.{gaps_same_width, lead_serves, none_serves}
use Rattle.routine_checker.proofs.Through.{takes_one, takes_copies, takes_opened, Through, nothing_through, align_through, work_through, other_work, routine_none, routines_none}
use Rattle.routine_checker.proofs.OwnRoutines.{Own, own_lead, own_is, own_isnt, own_enters, own_enters_times, own_enters_elements}
use Rattle.routine_checker.proofs.NameLaws.{own_named}

-- ---- discriminators

disc_is : (node : Node) → IsSwitch node → (node_of (disc_of node) ≡ node) × (is_disc_of (disc_of node) node ≡ true)
disc_is (nodes.Integer w true) h = (refl, eq-eqb (octets_in w) (octets_in w) refl)
disc_is (nodes.Integer w false) h = (refl, eq-eqb (octets_in w) (octets_in w) refl)
disc_is nodes.Char h = (refl, refl)
disc_is nodes.Boolean h = (refl, refl)
disc_is (nodes.Enum n) h = (refl, eq-eqb n n refl)
disc_is node h = absurd h

-- a node of the graph that is found keeps what is said of it
found_is : (P : Node → Type 0) (graph : List Node) (number : ℕ) (found : Option Node) → slice_get graph number ≡ found
    → IsSomeAnd found P → P (node_at graph number)
found_is P graph number None e h = absurd h
found_is P graph number (Some node) e h = subst P (sym (get_or_from_slice_get graph number node nodes.Octet e)) h

-- the code goes through the node, wherever it starts
abbrev pub FromNode : List Node → List Routine → List Instr → ℕ → Width → Type 0
FromNode graph program code number gap = (places : ℕ)
    → Through graph program code (record { work = number ∷ []; places = places; gap = gap })

-- a node of no parts
pub empty_through : (graph : List Node) (program : List Routine) (number : ℕ)
    → parts_of (node_at graph number) ≡ Some [] → FromNode graph program [] number One
unfolding is_done_within
empty_through graph program number e places = record {
  last = record { work = number ∷ []; places = places; gap = One };
  followed_is = λ at instr. refl;
  done = ap (λ parts. opened false (is_done_within 63 graph) parts []) e;
  unpadded = gaps_same_width places One;
}

module _ (graph : List Node) (program : List Routine) (own : (number : ℕ) → number < length graph → Own program number)
  where
    -- ---- one instruction for the whole node

    one_through : (instr : Instr) (number : ℕ) (gap : Width) → is_work instr ≡ true → pieces instr ≡ 1
        → is_piece graph program instr number ≡ true
        → ((places : ℕ) → enters program instr places gap ≡ true)
        → ((places : ℕ) → pads graph program instr places gap ≡ true) → FromNode graph program (instr ∷ []) number gap
    one_through instr number gap work one piece enter pad places =
        work_through graph program instr [] (record { work = number ∷ []; places = places; gap = gap }) [] work
        (ap (λ n. taken n (is_piece graph program instr) graph (number ∷ [])) one
        ∙ takes_one graph (is_piece graph program instr) number [] piece)
        (enter places) (pad places) (nothing_through graph program (ends program instr places gap))

    -- behind the gap to the alignment
    behind_gap_through : (to : Width) (code : List Instr) (number : ℕ) → FromNode graph program code number to
        → FromNode graph program (Align to ∷ code) number One
    behind_gap_through to code number through places =
        align_through graph program to code (record { work = number ∷ []; places = places; gap = One }) (through places)

    aligned_through : (to : Width) (code : List Instr) (number : ℕ) → FromNode graph program code number to
        → FromNode graph program (aligned_to to code) number One
    aligned_through One code number through = through
    aligned_through Two code number through = behind_gap_through Two code number through
    aligned_through Four code number through = behind_gap_through Four code number through
    aligned_through Eight code number through = behind_gap_through Eight code number through

    -- ---- arrays

    times_through : (number elem n : ℕ) → node_at graph number ≡ nodes.Array elem n → 0 < n → elem < length graph
        → height_of graph elem < height_of graph number → FromNode graph program (Times n elem ∷ []) number One
    times_through number elem zero e some lt low places = absurd (omega (arith, some))
    times_through number elem (suc n) e some lt low places =
        let wanted = is_routine_of program elem in
        let is = own_is program elem (own elem lt) in
        let takes : taken (suc n) wanted graph (number ∷ []) ≡ Some [] =
        takes_opened graph wanted n number elem (replicate n elem)
        (own_isnt program elem (own elem lt) graph number low)
        (ap parts_of e) is ∙ takes_copies graph wanted (suc n) elem is in
        work_through graph program (Times (suc n) elem) [] (record { work = number ∷ []; places = places; gap = One })
        []
        refl takes
        (own_enters_times program elem (own elem lt) (suc n) (behind_gap places One))
        (none_serves places (lead_at graph program elem))
        (nothing_through graph program (ends program (Times (suc n) elem) places One))

    -- ---- members, one by one

    calls_through : (members : List ℕ) → AllByRecursion (λ member. member < length graph) members → (places : ℕ)
        → Through graph program (map Call members) (record { work = members; places = places; gap = One })
    calls_through [] within places = nothing_through graph program places
    calls_through (member ∷ members) within places =
        let routine = own member within.0 in
        work_through graph program (Call member) (map Call members)
        (record { work = member ∷ members; places = places; gap = One }) members refl
        (takes_one graph (is_routine_of program member) member members (own_is program member routine))
        (own_enters program member routine (behind_gap places One)) (none_serves places (lead_at graph program member))
        (calls_through members within.1 (ends program (Call member) places One))

    members_through : (number : ℕ) (members : List ℕ) → parts_of (node_at graph number) ≡ Some members
        → AllByRecursion (λ member. member < length graph) members
        → AllByRecursion (λ member. height_of graph member < height_of graph number) members
        → FromNode graph program (map Call members) number One
    members_through number [] e within low places = empty_through graph program number e places
    members_through number (member ∷ members) e within low places =
        let wanted = is_routine_of program member in
        let routine = own member within.0 in
        other_work graph program (Call member) (map Call members) (number ∷ []) (member ∷ members) places One refl
        (takes_opened graph wanted 0 number member members (own_isnt program member routine graph number low.0) e
        (own_is program member routine))
        (calls_through (member ∷ members) within places)

    -- ---- unions

    all_entered : (places : ℕ) (routines : List ℕ) → AllByRecursion (λ routine. routine < length graph) routines
        → list_all (λ routine. is_within places (entry_at program routine)) routines ≡ true
    all_entered places [] within = refl
    all_entered places (routine ∷ routines) within =
        and_from (is_within places (entry_at program routine))
        (list_all (λ routine. is_within places (entry_at program routine)) routines)
        (own_enters program routine (own routine within.0) places) (all_entered places routines within.1)

    default_passes : (default : Option ℕ) → AllByRecursion (λ member. member < length graph) (option_to_list default)
        → is_default_of program default default ≡ true
    default_passes None within = refl
    default_passes (Some member) within = own_is program member (own member within.0)

    arms_pass : (arms : List (ℤ × ℕ)) (default : Option ℕ)
        → AllByRecursion (λ member. member < length graph) (arms_of arms default)
        → (are_arms_of program arms arms ≡ true)
        × (is_default_of program default default ≡ true)
    arms_pass [] default within = (refl, default_passes default within)
    arms_pass (arm ∷ arms) default within =
        let more = arms_pass arms default within.1 in
        let head = and_from (int_eq arm.0 arm.0) (is_routine_of program arm.1 arm.1)
        ((Decides-int_eq arm.0 arm.0).1 refl)
        (own_is program arm.1 (own arm.1 within.0)) in (
          and_from (int_eq arm.0 arm.0 && is_routine_of program arm.1 arm.1) (are_arms_of program arms arms) head
              more.0,
          more.1,
        )

    switch_through : (number switch : ℕ) (arms : List (ℤ × ℕ)) (default : Option ℕ)
        → node_at graph number ≡ nodes.Union switch arms default → IsSwitch (node_at graph switch)
        → AllByRecursion (λ member. member < length graph) (arms_of arms default)
        → FromNode graph program (plain_code graph (nodes.Union switch arms default)) number One
    switch_through number switch arms default e h within =
        let node = node_at graph switch in
        let disc = disc_of node in
        let width = number_width node in
        let is = disc_is node h in
        let pass = arms_pass arms default within in
        let piece : is_switch_of graph program disc arms default (node_at graph number) ≡ true =
        ap (is_switch_of graph program disc arms default) e
        ∙ and_from (is_disc_of disc node && are_arms_of program arms arms) (is_default_of program default default)
        (and_from (is_disc_of disc node) (are_arms_of program arms arms) is.1 pass.0) pass.1 in
        aligned_through width (Switch disc arms default ∷ []) number
        (one_through (Switch disc arms default) number width refl refl piece
        (λ places. all_entered (chosen_from disc places) (arms_of arms default) within)
        (λ places. ap (λ n. gaps_agree places width (number_width n)) is.0 ∙ gaps_same_width places width))

    -- ---- sequences

    elements_through : (number elem bound : ℕ) → node_at graph number ≡ nodes.Seq elem bound → elem < length graph
        → FromNode graph program (plain_code graph (nodes.Seq elem bound)) number One
    elements_through number elem bound e lt =
        let routine = own elem lt in
        let first = lead_of graph elem in
        let piece : is_seq bound (is_routine_of program elem) (node_at graph number) ≡ true =
        ap (is_seq bound (is_routine_of program elem)) e
        ∙ and_from (eqb bound bound) (is_routine_of program elem elem) (eq-eqb bound bound refl)
        (own_is program elem routine) in
        behind_gap_through Four (SeqOf bound first elem ∷ []) number
        (one_through (SeqOf bound first elem) number Four refl refl piece
        (λ places. own_enters_elements program elem routine (behind_gap (counted places) first))
        (λ places. and_from (gaps_agree places Four Four)
        (gaps_serve (counted places) first (lead_at graph program elem))
        (gaps_same_width places Four)
        (ap (gaps_serve (counted places) first) (own_lead program elem routine graph)
        ∙ lead_serves (counted places) first)))

    -- ---- each node

    pub node_through : (number : ℕ) (node : Node) → node_at graph number ≡ node → IsNode graph node
        → AllByRecursion (λ member. member < length graph) (held_by node)
        → AllByRecursion (λ member. height_of graph member < height_of graph number) (held_by node)
        → FromNode graph program (plain_code graph node) number One
    node_through number (nodes.Integer width signed) e rule within low =
        behind_gap_through width (Words width 1 ∷ []) number
        (one_through (Words width 1) number width refl refl
        (ap (is_whole width) e ∙ eq-eqb (octets_in width) (octets_in width) refl) (λ places. refl)
        (λ places. gaps_same_width places width))
    node_through number nodes.Octet e rule within low =
        one_through (Octets 1) number One refl refl (ap is_octet e) (λ places. refl)
        (λ places. gaps_same_width places One)
    node_through number nodes.Char e rule within low =
        one_through (Octets 1) number One refl refl (ap is_octet e) (λ places. refl)
        (λ places. gaps_same_width places One)
    node_through number nodes.Boolean e rule within low =
        one_through (Bools 1) number One refl refl (ap is_boolean e) (λ places. refl)
        (λ places. gaps_same_width places One)
    node_through number (nodes.Enum n) e rule within low =
        behind_gap_through Four (EnumWord n ∷ []) number
        (one_through (EnumWord n) number Four refl refl (ap (is_enum n) e ∙ eq-eqb n n refl) (λ places. refl)
        (λ places. gaps_same_width places Four))
    node_through number (nodes.Text bound) e rule within low =
        behind_gap_through Four (Text bound ∷ []) number
        (one_through (Text bound) number Four refl refl (ap (is_text bound) e ∙ eq-eqb bound bound refl)
        (λ places. refl) (λ places. gaps_same_width places Four))
    node_through number (nodes.Seq elem bound) e rule within low =
        elements_through number elem bound e (elem_within graph elem bound rule)
    node_through number (nodes.Array elem n) e rule within low = times_through number elem n e rule.1 within.0 low.0
    node_through number (nodes.Struct members) e rule within low =
        members_through number members (ap parts_of e) within low
    node_through number (nodes.Union switch arms default) e rule within low =
        switch_through number switch arms default e
        (found_is IsSwitch graph switch (slice_get graph switch) refl rule.switches) within
    node_through number (nodes.Frame members) e rule within low =
        members_through number members (ap parts_of e) within low

    module _ (rules : IsGraph graph) where
      -- what a node of a graph holds is in the graph
      pub all_within : (number : ℕ) → number < length graph
          → AllByRecursion (λ member. member < length graph) (held_by (node_at graph number))
      all_within number lt = recursion_from_All (λ member. member < length graph) (held_by (node_at graph number))
          (held_within graph (node_at graph number) (rules.nodes number nodes.Octet lt))

      -- and lower than the node
      pub all_low : (number : ℕ)
          → AllByRecursion (λ member. height_of graph member < height_of graph number) (held_by (node_at graph number))
      all_low number =
          let over = height_unfolds graph rules number in
          above_each (height_of graph) (height_of graph number) (held_by (node_at graph number)) (omega (arith, over))

      -- the plain code of a node goes through
      pub plain_through : (number : ℕ) → number < length graph
          → FromNode graph program (plain_code graph (node_at graph number)) number One
      plain_through number lt = node_through number (node_at graph number) refl (rules.nodes number nodes.Octet lt)
          (all_within number lt) (all_low number)

-- ---- the plain program

pub plain_own : (graph : List Node) (number : ℕ) → number < length graph → Own (plain_program graph) number
plain_own graph number lt = record {
  routine = plain_routine graph number (node_at graph number);
  there = plain_program_at graph number lt;
  node_is = refl;
  entry_is = refl;
  exits_are = refl;
}

pub plain_passes : (which : ℕ) (graph : List Node) → IsGraph graph
    → program_fault which graph (plain_program graph) ≡ None
plain_passes which graph rules =
    routines_none graph (plain_program graph) which 0 (plain_program graph)
    (λ k routine there at.
    let long = length-plain_program graph in
    let inside = slice_get_within (plain_program graph) k routine there in
    let lt : k < length graph = omega (arith, inside, long) in
    let own : Routine = plain_routine graph k (node_at graph k) in
    subst (λ r. routine_fault graph (plain_program graph) at r ≡ None)
    (same_Some own routine (sym (plain_program_at graph k lt) ∙ there))
    (routine_none graph (plain_program graph) at own lt refl
    (plain_through graph (plain_program graph) (plain_own graph) rules k lt)))

plain_own_within : (graph : List Node) (number : ℕ) → number < length (plain_program graph)
    → Own (plain_program graph) number
plain_own_within graph number lt = let long = length-plain_program graph in
    plain_own graph number (omega (arith, lt, long))

-- no name of a node is refused
pub plain_named : (graph : List Node) (number : ℕ) → number < length graph
    → name_fault (plain_program graph) number ≡ None
plain_named graph number lt = let long = length-plain_program graph in
    own_named (plain_program graph) (plain_own_within graph) number (omega (arith, lt, long))
