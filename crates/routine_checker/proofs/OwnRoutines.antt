-- Routines that stand at the places of their nodes, and may start and end at every position.
use Rattle.std.proofs.Common.{◌≡◌, ℕ, ◌<◌, true, false, eqb, List, replicate, Some, slice_get, refl, ap, ◌∙◌, arith}
use Rattle.std.proofs.lemmas.Bool.{eq-eqb, ne_eqb}
use Rattle.type_graph.specs.declared.node.Node.{Node}
use Rattle.type_graph.specs.Walks.{lead_of, height_of}
use Rattle.marshal_program.specs.declared.instr.Routine.{Routine}
use Rattle.routine_checker.specs.Sets.{is_within, closure}
use Rattle.routine_checker.specs.Taking.{is_node_of, is_routine_of}
use Rattle.routine_checker.specs.Steps.{entry_of, exits_of, node_in, entry_at, exits_at, lead_at, enters_times, enters_elements}
use Rattle.routine_checker.proofs.FullSets.{within_all, elements_enter, times_enter}

pub record Own (program : List Routine) (number : ℕ) : Type 0 where
  pub routine : Routine
  pub there : slice_get program number ≡ Some routine
  pub node_is : routine.node ≡ number
  pub entry_is : routine.entry ≡ 255
  pub exits_are : routine.exits ≡ replicate 8 255

module _ (program : List Routine) (number : ℕ) (own : Own program number) where
  own_node : (other : ℕ) → is_routine_of program number other ≡ eqb number other
  own_node other = ap (λ found. is_node_of found other) own.there ∙ ap (λ node. eqb node other) own.node_is

  own_entry : entry_at program number ≡ 255
  own_entry = ap entry_of own.there ∙ own.entry_is

  own_exits : exits_at program number ≡ replicate 8 255
  own_exits = ap exits_of own.there ∙ own.exits_are

  pub own_lead : (graph : List Node) → lead_at graph program number ≡ lead_of graph number
  own_lead graph = ap (λ found. lead_of graph (node_in found)) own.there ∙ ap (lead_of graph) own.node_is

  -- it is a routine of its node
  pub own_is : is_routine_of program number number ≡ true
  own_is = own_node number ∙ eq-eqb number number refl

  -- and of none that is higher
  pub own_isnt : (graph : List Node) (other : ℕ) → height_of graph number < height_of graph other
      → is_routine_of program number other ≡ false
  own_isnt graph other lt = own_node other
      ∙ ne_eqb number other (λ same. let heights = ap (height_of graph) same in omega (arith, lt, heights))

  -- it is entered where it may be, wherever it starts: once, so many times, for the elements of a sequence
  pub own_enters : (places : ℕ) → is_within places (entry_at program number) ≡ true
  own_enters places = ap (is_within places) own_entry ∙ within_all places

  pub own_enters_times : (n places : ℕ) → enters_times n (entry_at program number) (exits_at program number) places
      ≡ true
  own_enters_times n places = ap (λ entry. enters_times n entry (exits_at program number) places) own_entry
      ∙ times_enter n (exits_at program number) places

  pub own_enters_elements : (places : ℕ)
      → enters_elements (entry_at program number) (exits_at program number) (closure 8 (exits_at program number) places)
      ≡ true
  own_enters_elements places =
      ap (λ entry. enters_elements entry (exits_at program number) (closure 8 (exits_at program number) places))
      own_entry
      ∙ ap (λ exits. enters_elements 255 exits (closure 8 exits places)) own_exits
      ∙ elements_enter places
