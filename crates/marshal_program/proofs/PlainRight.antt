-- The plain program of a graph is right: what the routine of a node relates is what the node means, at every position.
use Rattle.std.proofs.Common.{◌≡◌, ℕ, zero, suc, ◌-◌, ◌<◌, ◌≤◌, ℤ, true, false, List, [], ◌∷◌, ◌++◌, length, map, Option, Some, None, slice_get, slice_index_or, option_to_list, if◌then◌else◌, int_eq, sym, subst, arith, inl, inr, refl}
use Rattle.std.proofs.lemmas.Bool.{cases_lt}
use Rattle.std.proofs.lemmas.List.{get_or_past}
use Rattle.std.proofs.lemmas.Option.{get_or_from_slice_get}
use Rattle.std.specs.Prelude.{IsSomeAnd}
use Rattle.std.proofs.lemmas.List.Elements.{All-get_or, All-head, recursion_from_All}
use Rattle.std.specs.List.{AllByRecursion}
use Rattle.type_graph.specs.declared.width.Width.{Width}
use Rattle.type_graph.specs.declared.width.Width.TheVariants.{One, Two, Four, Eight}
use Rattle.type_graph.specs.declared.node.Node.{Node}
use Rattle.type_graph.specs.declared.node.Node.TheVariants as nodes
use Rattle.type_graph.specs.Words.{Format}
use Rattle.type_graph.specs.Relation.{Relation, Then, Chain}
use Rattle.type_graph.specs.Comparison.{Anywhere, Same}
use Rattle.type_graph.specs.Atoms.{Gap, Chosen}
use Rattle.type_graph.specs.Value.{IsNumeric, node_at, number_width, IsNumber, arm_of}
use Rattle.type_graph.specs.Encoding.{NodeMeans, Means}
use Rattle.type_graph.specs.GraphRules.{held_by, IsShallow, IsSwitch, IsNode, IsGraph}
use Rattle.type_graph.specs.Walks.{lead_within}
use Rattle.type_graph.proofs.RelationLaws.{same_refl, same_sym, same_trans, then_same_anywhere, then_nothing, many_one, many_same_anywhere, chain_same_anywhere, chain-map}
use Rattle.type_graph.proofs.AtomLaws.{octet_run_one, counted_same_deep, first_same, chosen_same}
use Rattle.type_graph.proofs.Openings.{gap_one_then, whole_means, octet_means, char_means, boolean_means, enum_means, text_means, seq_means, array_means, struct_means, frame_means, union_means}
use Rattle.type_graph.proofs.Held.{held_within, elem_within}
use Rattle.type_graph.proofs.LeadLaws.{IsFilled, first_leads, lead_leads}
use Rattle.marshal_program.specs.declared.instr.Instr.{Instr}
use Rattle.marshal_program.specs.declared.instr.Instr.TheVariants.{Call, Switch}
use Rattle.marshal_program.specs.Does.{Does, code_of, code_at, Runs}
use Rattle.marshal_program.specs.Plain.{HasPlainRoutine, HasPlainProgram, disc_of, aligned_to, plain_code, plain_from, plain_program}
use Rattle.marshal_program.proofs.RunLaws.{runs_opened}

-- a node by which a union may switch has numbers as values
switch_numeric : (node : Node) → IsSwitch node → IsNumeric node
switch_numeric (nodes.Integer w signed) h = tt
switch_numeric nodes.Char h = tt
switch_numeric nodes.Boolean h = tt
switch_numeric (nodes.Enum n) h = tt
switch_numeric node h = absurd h

-- and so has the node of its number
numeric_at : (graph : List Node) (switch : ℕ) (found : Option Node) → slice_get graph switch ≡ found
    → IsSomeAnd found IsSwitch → IsNumeric (node_at graph switch)
numeric_at graph switch None e h = absurd h
numeric_at graph switch (Some node) e h =
    subst IsNumeric (sym (get_or_from_slice_get graph switch node nodes.Octet e)) (switch_numeric node h)

-- what a node that keeps its rules refers to
pub plain_node : (graph : List Node) (node : Node) → IsNode graph node → HasPlainRoutine graph node
plain_node graph (nodes.Integer w signed) h = tt
plain_node graph nodes.Octet h = tt
plain_node graph nodes.Char h = tt
plain_node graph nodes.Boolean h = tt
plain_node graph (nodes.Enum n) h = tt
plain_node graph (nodes.Text bound) h = tt
plain_node graph (nodes.Seq elem bound) h = elem_within graph elem bound h
plain_node graph (nodes.Array elem n) h =
    (All-head (λ m. m < length graph) elem [] (held_within graph (nodes.Array elem n) h), h.1)
plain_node graph (nodes.Struct members) h =
    recursion_from_All (λ m. m < length graph) members (held_within graph (nodes.Struct members) h)
plain_node graph (nodes.Frame members) h =
    recursion_from_All (λ m. m < length graph) members (held_within graph (nodes.Frame members) h)
plain_node graph (nodes.Union switch arms default) h = (
  numeric_at graph switch (slice_get graph switch) refl h.switches,
  recursion_from_All (λ m. m < length graph) (map (λ arm. arm.1) arms ++ option_to_list default)
      (held_within graph (nodes.Union switch arms default) h),
)

-- a graph that keeps its rules is one
pub plain_graph : (graph : List Node) → IsGraph graph → HasPlainProgram graph
plain_graph graph g = record {
  plain = λ n lt. plain_node graph (node_at graph n) (All-get_or (IsNode graph) graph n nodes.Octet lt g.nodes);
  shallow = g.shallow;
}

-- ---- the code of a node

-- the routine at a place has the code of the node there
code_of-plain_from : (graph : List Node) (from : ℕ) (list : List Node) (number : ℕ) → number < length list
    → code_of (slice_get (plain_from graph from list) number)
    ≡ plain_code graph (slice_index_or list number nodes.Octet)
code_of-plain_from graph k [] n h = absurd (omega arith)
code_of-plain_from graph k (node ∷ more) zero h = refl
code_of-plain_from graph k (node ∷ more) (suc n) h = code_of-plain_from graph (suc k) more n (omega arith)

-- the routine of a number has the code of the node of the number
pub code_at-plain_program : (graph : List Node) (number : ℕ) → number < length graph
    → code_at (plain_program graph) number ≡ plain_code graph (node_at graph number)
code_at-plain_program graph n h = code_of-plain_from graph 0 graph n h

-- ---- what holds of all parts of a node

-- what holds of a union's arms and default holds of what a label chooses
arm_of_all : (P : ℕ → Type 0) (arms : List (ℤ × ℕ)) (default : Option ℕ) (a : ℤ)
    → AllByRecursion P (map (λ arm. arm.1) arms ++ option_to_list default) → AllByRecursion P (arm_of arms default a)
arm_of_all P [] default a h = h
arm_of_all P (arm ∷ more) default a h =
    let rest = arm_of_all P more default a h.1 in
    elim (int_eq arm.0 a) as (λ b. AllByRecursion P (if b then arm.1 ∷ [] else arm_of more default a))
    [ true ↦ (h.0, tt) | false ↦ rest ]

-- what a node holds is in range
parts_in_range : (graph : List Node) (node : Node) → HasPlainRoutine graph node
    → AllByRecursion (λ m. m < length graph) (held_by node)
parts_in_range graph (nodes.Array elem n) p = (p.0, tt)
parts_in_range graph (nodes.Struct members) p = p
parts_in_range graph (nodes.Frame members) p = p
parts_in_range graph (nodes.Union switch arms default) p = p.1
parts_in_range graph node p = tt

-- its arrays have an element
plain_filled : (graph : List Node) (node : Node) → HasPlainRoutine graph node → IsFilled node
plain_filled graph (nodes.Array elem n) p = p.1
plain_filled graph node p = tt

-- what two facts together imply of each
all_both : {A : Type 0} (P Q V : A → Type 0) (xs : List A) → ((x : A) → P x → Q x → V x) → AllByRecursion P xs
    → AllByRecursion Q xs → AllByRecursion V xs
all_both P Q V [] f a b = tt
all_both P Q V (x ∷ xs) f a b = (f x a.0 b.0, all_both P Q V xs f a.1 b.1)

module _ (graph : List Node) (format : Format) (good : HasPlainProgram graph) where
  -- the routine of a number is right at a depth
  abbrev Right : ℕ → ℕ → Type 0
  Right depth number = Same Anywhere (Runs (plain_program graph) format depth number) (Means graph format depth number)

  -- what an instruction of the program does
  abbrev Done : ℕ → Instr → Relation
  Done depth = Does (Runs (plain_program graph) format) format depth

  -- the arrays of the graph have an element, also past its end, where no array stands
  filled : (number : ℕ) → IsFilled (node_at graph number)
  filled n =
      elim (cases_lt n (length graph)) [
        | inl lt ↦ plain_filled graph (node_at graph n) (good.plain n lt)
        | inr le ↦ subst IsFilled (sym (get_or_past graph n nodes.Octet le)) tt
      ]

  -- code behind an alignment, which one octet has not
  aligned_does : (depth : ℕ) (w : Width) (code : List Instr)
      → Same Anywhere (Chain (Done depth) (aligned_to w code)) (Then (Gap format w) (Chain (Done depth) code))
  aligned_does d One code = same_sym (gap_one_then graph format)
  aligned_does d Two code = same_refl
  aligned_does d Four code = same_refl
  aligned_does d Eight code = same_refl

  -- what a label chooses is right where the arms and the default are
  chosen_does : (depth : ℕ) (arms : List (ℤ × ℕ)) (default : Option ℕ)
      → AllByRecursion (Right depth) (map (λ arm. arm.1) arms ++ option_to_list default) → (a : ℤ)
      → Same Anywhere (Chain (Runs (plain_program graph) format depth) (arm_of arms default a))
      (Chain (Means graph format depth) (arm_of arms default a))
  chosen_does d arms default right a =
      chain_same_anywhere (Runs (plain_program graph) format d) (Means graph format d) (arm_of arms default a)
      (arm_of_all (Right d) arms default a right)

  -- a switch chooses as a union of its discriminator's kind
  switch_does : (depth : ℕ) (switch : Node) (arms : List (ℤ × ℕ)) (default : Option ℕ) → IsNumeric switch
      → AllByRecursion (Right depth) (map (λ arm. arm.1) arms ++ option_to_list default)
      → Same Anywhere (Done depth (Switch (disc_of switch) arms default))
      (Chosen format (number_width switch) (IsNumber switch)
      (λ a. Chain (Means graph format depth) (arm_of arms default a)))
  switch_does d (nodes.Integer w signed) arms default i right = chosen_same (λ a h. chosen_does d arms default right a)
  switch_does d nodes.Octet arms default i right = chosen_same (λ a h. chosen_does d arms default right a)
  switch_does d nodes.Char arms default i right = chosen_same (λ a h. chosen_does d arms default right a)
  switch_does d nodes.Boolean arms default i right = chosen_same (λ a h. chosen_does d arms default right a)
  switch_does d (nodes.Enum n) arms default i right = chosen_same (λ a h. chosen_does d arms default right a)
  switch_does d node arms default i right = absurd i

  -- the code of a node is right where the routines of its parts are, and those of elements with one of the depth less
  code_right : (depth : ℕ) (node : Node) → HasPlainRoutine graph node
      → (1 ≤ depth → (m : ℕ) → m < length graph → Right (depth - 1) m) → AllByRecursion (Right depth) (held_by node)
      → Same Anywhere (Chain (Done depth) (plain_code graph node)) (NodeMeans graph format depth node)
  code_right d (nodes.Integer w signed) plain deep held =
      same_trans (then_same_anywhere same_refl (same_trans then_nothing many_one))
      (same_sym (whole_means graph format d w signed))
  code_right d nodes.Octet plain deep held =
      same_trans then_nothing (same_trans (octet_run_one (omega arith)) (same_sym (octet_means graph format d)))
  code_right d nodes.Char plain deep held =
      same_trans then_nothing (same_trans (octet_run_one (omega arith)) (same_sym (char_means graph format d)))
  code_right d nodes.Boolean plain deep held =
      same_trans then_nothing (same_trans (octet_run_one (omega arith)) (same_sym (boolean_means graph format d)))
  code_right d (nodes.Enum n) plain deep held =
      same_trans (then_same_anywhere same_refl then_nothing) (same_sym (enum_means graph format d n))
  code_right d (nodes.Text bound) plain deep held =
      same_trans (then_same_anywhere same_refl then_nothing) (same_sym (text_means graph format d bound))
  code_right d (nodes.Seq elem bound) plain deep held =
      let lead = lead_within 64 graph elem in
      same_trans (then_same_anywhere same_refl (same_trans then_nothing (counted_same_deep (λ h n.
      same_trans (first_same format lead n (many_same_anywhere n (deep h elem plain)))
      (first_leads n (lead_leads graph format (d - 1) filled 64 elem (good.shallow elem plain)))))))
      (same_sym (seq_means graph format d elem bound))
  code_right d (nodes.Array elem n) plain deep held =
      same_trans then_nothing (same_trans (many_same_anywhere n held.0) (same_sym (array_means graph format d elem n)))
  code_right d (nodes.Struct members) plain deep held =
      same_trans (chain-map (Done d) Call members)
      (same_trans (chain_same_anywhere (Runs (plain_program graph) format d) (Means graph format d) members held)
      (same_sym (struct_means graph format d members)))
  code_right d (nodes.Frame members) plain deep held =
      same_trans (chain-map (Done d) Call members)
      (same_trans (chain_same_anywhere (Runs (plain_program graph) format d) (Means graph format d) members held)
      (same_sym (frame_means graph format d members)))
  code_right d (nodes.Union switch arms default) plain deep held =
      let node = node_at graph switch in
      same_trans (aligned_does d (number_width node) (Switch (disc_of node) arms default ∷ []))
      (same_trans (then_same_anywhere same_refl
      (same_trans then_nothing (switch_does d node arms default plain.0 held)))
      (same_sym (union_means graph format d switch arms default)))

  -- a routine is right where the code of its node is
  runs_right : (depth number : ℕ) → number < length graph
      → Same Anywhere (Chain (Done depth) (plain_code graph (node_at graph number))) (Means graph format depth number)
      → Right depth number
  runs_right d n h right =
      same_trans (runs_opened (plain_program graph) format d n)
      (subst (λ code. Same Anywhere (Chain (Done d) code) (Means graph format d n))
      (sym (code_at-plain_program graph n h)) right)

  -- at one depth, level by level
  right_within : (depth levels number : ℕ) → (1 ≤ depth → (m : ℕ) → m < length graph → Right (depth - 1) m)
      → number < length graph → IsShallow levels graph number → Right depth number
  unfolding IsShallow
  right_within d zero n deep h shallow = absurd shallow
  right_within d (suc levels) n deep h shallow =
      let node = node_at graph n in
      let plain = good.plain n h in
      let held = all_both (IsShallow levels graph) (λ m. m < length graph) (Right d) (held_by node)
      (λ m s r. right_within d levels m deep r s) shallow (parts_in_range graph node plain) in
      runs_right d n h (code_right d node plain deep held)

  -- what the routine of a node relates is what the node means
  pub plain_right : (depth number : ℕ) → number < length graph
      → Same Anywhere (Runs (plain_program graph) format depth number) (Means graph format depth number)
  plain_right zero n h = right_within zero 64 n (λ deep m r. absurd (omega arith)) h (good.shallow n h)
  plain_right (suc d) n h =
      let less : d ≡ suc d - 1 = omega arith in
      right_within (suc d) 64 n (λ deep m r. subst (λ k. Right k m) less (plain_right d m r)) h (good.shallow n h)
