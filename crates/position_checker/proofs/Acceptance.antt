-- What an accepted table answers.
use Rattle.std.proofs.Common.{◌≡◌, ◌↔◌, ℕ, Bool, true, false, ◌&&◌, ◌==◌, List, [], ◌++◌, get_or, Some, slice_get, Result, Ok, Err, refl, sym, subst, IfOk}
use Rattle.std.specs.Bool.{OnFalse}
use Rattle.std.specs.Prelude.{IfErr}
use Rattle.std.proofs.lemmas.Bool.{eqb-true}
use Rattle.std.proofs.lemmas.Option.{slice_get-get_or}
use Rattle.std.proofs.lemmas.List.Quantifiers.{position-Some}
use Rattle.type_graph.specs.declared.node.Node.{Node}
use Rattle.type_graph.specs.declared.width.Order.{Order}
use Rattle.type_graph.specs.Words.{Format, reading, writing}
use Rattle.type_graph.specs.Encoding.{Means}
use Rattle.marshal_program.specs.declared.instr.Routine.{Routine}
use Rattle.marshal_program.specs.Does.{Runs}
use Rattle.marshal_program.specs.Served.{is_serving, served_by}
use Rattle.routine_checker.specs.Sets.{Among}
use Rattle.routine_checker.specs.Right.{AreRight}
use Rattle.routine_checker.proofs.SetLaws.{among_all}
use Rattle.program_steps.specs.declared.fault.RunFault.{RunFault}
use Rattle.program_steps.specs.declared.fault.RunFault.TheVariants.{Short, BadBool, BadEnum, BadLength, NoTerminator, ZeroInside, OverBound, TooDeep, TapeLeft, NoMemory}
use Rattle.program_runner.specs.Refusal.{wants_memory}
use Rattle.program_runner.specs.Buffers.{IsPut}
use Rattle.table_file.specs.declared.table.Which.{Which}
use Rattle.table_file.specs.declared.table.Which.TheVariants.{First, Second}
use Rattle.table_file.specs.Table.{TableParts, program_at}
use Rattle.position_checker.specs.Acceptance.{IsRight, Serves}
use Rattle.type_graph.proofs.Refusals.{only_if_weaker}

-- the routine that serves a node is one of the node, and may start everywhere
record IsServing (program : List Routine) (node number : ℕ) : Type 0 where
  pub routine : Routine
  pub there : slice_get program number ≡ Some routine
  pub node_is : routine.node ≡ node
  pub entry_is : routine.entry ≡ 255

both : (a b : Bool) → (a && b) ≡ true → (a ≡ true) × (b ≡ true)
both true b e = (refl, e)
both false b e = absurd cc

serving : (program : List Routine) (node number : ℕ) → served_by program node ≡ Some number
    → IsServing program node number
serving program node number e =
    let none : Routine = record { node = 0; entry = 0; exits = []; rank = 0; code = [] } in
    let found = position-Some (is_serving node) program number none e in
    let routine = get_or program number none in
    let tests = both (routine.node == node) (routine.entry == 255) found.1 in
    record {
      routine = routine;
      there = slice_get-get_or program number none found.0;
      node_is = eqb-true routine.node node tests.0;
      entry_is = eqb-true routine.entry 255 tests.1;
    }

abbrev Relates : List Node → List Routine → ℕ → ℕ → Type 0
Relates graph program node number = (format : Format) (p : ℕ) (tape octets : List ℕ)
    → Runs program format 64 number p tape octets ↔ Means graph format 64 node p tape octets

-- where each routine is right, the routine that serves a node is
relates : (graph : List Node) (program : List Routine) (node number : ℕ) → AreRight graph program
    → served_by program node ≡ Some number → Relates graph program node number
relates graph program node number right e format p tape octets =
    let found = serving program node number e in
    let good = (right number found.routine found.there).related format 64 in
    let among : Among found.routine.entry p = subst (λ entry. Among entry p) (sym found.entry_is) (among_all p) in
    subst (λ (n : ℕ). Runs program format 64 number p tape octets ↔ Means graph format 64 n p tape octets) found.node_is
    (good.to p tape octets among, good.from p tape octets among)

-- both programs of a table that is right are
right_at : (table : TableParts) (number : Which) → IsRight table → AreRight table.model.graph (program_at table number)
right_at table First right = right.first
right_at table Second right = right.second

pub served_relates : (table : TableParts) (node : ℕ) (program : Which) (number : ℕ) → IsRight table
    → Serves table node program number → Relates table.model.graph (program_at table program) node number
served_relates table node program number right serves =
    relates table.model.graph (program_at table program) node number (right_at table program right) serves.first_is

-- what a fault stands for may be put more weakly
if_err_weaker : {A : Type 0} {E : Type 0} (P Q : E → Type 0) → ((e : E) → P e → Q e) → (r : Result A E) → IfErr r P
    → IfErr r Q
if_err_weaker P Q f (Ok x) h = tt
if_err_weaker P Q f (Err e) h = f e h

if_ok_weaker : {A : Type 0} {E : Type 0} (P Q : A → Type 0) → ((x : A) → P x → Q x) → (r : Result A E) → IfOk r P
    → IfOk r Q
if_ok_weaker P Q f (Ok x) h = f x h
if_ok_weaker P Q f (Err e) h = tt

module _ (table : TableParts) (right : IsRight table) (order : Order) (node : ℕ) (program : Which) (routine p : ℕ)
    (serves : Serves table node program routine) (routines : List Routine) (are : routines ≡ program_at table program)
  where
    related : (format : Format) (tape octets : List ℕ) → Runs routines format 64 routine p tape octets
        ↔ Means table.model.graph format 64 node p tape octets
    related format tape octets = rw are (served_relates table node program routine right serves format p tape octets)

    -- what the routine writes is the value's
    pub write_found : {A : Type 0} {E : Type 0} (octets_of : A → List ℕ) (tape : List ℕ) (r : Result A E)
        → IfOk r (λ x. Runs routines (writing order) 64 routine p tape (octets_of x))
        → IfOk r (λ x. Means table.model.graph (writing order) 64 node p tape (octets_of x))
    write_found octets_of tape r h =
        if_ok_weaker _ _ (λ x runs. (related (writing order) tape (octets_of x)).0 runs) r h

    -- the same of what was put into a buffer
    pub write_put : {A : Type 0} {E : Type 0} (len_of : A → ℕ) (before after tape : List ℕ) (r : Result A E)
        → IfOk r (λ x. IsPut (λ octets. Runs routines (writing order) 64 routine p tape octets) (len_of x) before after)
        → IfOk r (λ x. IsPut (λ octets. Means table.model.graph (writing order) 64 node p tape octets) (len_of x) before
        after)
    write_put len_of before after tape r h =
        if_ok_weaker _ _ (λ x put. record {
          octets = put.octets;
          held =
              (related (writing order) tape put.octets).0 put.held;
          long = put.long;
          put = put.put;
        }) r h

    -- what no routine writes is no value
    pub write_refused : {A : Type 0} (tape : List ℕ) (r : Result A RunFault)
        → IfErr r (λ fault. OnFalse (wants_memory fault)
        ((octets : List ℕ) → Runs routines (writing order) 64 routine p tape octets → ⊥))
        → IfErr r (λ fault. OnFalse (wants_memory fault)
        ((octets : List ℕ) → Means table.model.graph (writing order) 64 node p tape octets → ⊥))
    write_refused tape r h =
        if_err_weaker _ _ (λ fault refused. only_if_weaker (wants_memory fault) _ _
        (λ none octets means. none octets ((related (writing order) tape octets).1 means)) refused) r h

    -- what the routine reads is the value's
    pub read_found : {A : Type 0} {E : Type 0} (tape_of front_of : A → List ℕ) (r : Result A E)
        → IfOk r (λ x. Runs routines (reading order) 64 routine p (tape_of x) (front_of x))
        → IfOk r (λ x. Means table.model.graph (reading order) 64 node p (tape_of x) (front_of x))
    read_found tape_of front_of r h =
        if_ok_weaker _ _ (λ x runs. (related (reading order) (tape_of x) (front_of x)).0 runs) r h

    pub read_put : {A : Type 0} {E : Type 0} (len_of : A → ℕ) (front_of : A → List ℕ) (before after : List ℕ)
        (r : Result A E)
        → IfOk r (λ x. IsPut (λ tape. Runs routines (reading order) 64 routine p tape (front_of x)) (len_of x) before
        after)
        → IfOk r (λ x. IsPut (λ tape. Means table.model.graph (reading order) 64 node p tape (front_of x)) (len_of x)
        before after)
    read_put len_of front_of before after r h =
        if_ok_weaker _ _ (λ x put. record {
          octets = put.octets;
          held =
              (related (reading order) put.octets (front_of x)).0 put.held;
          long = put.long;
          put = put.put;
        }) r h

    -- what no routine reads is no value
    pub read_refused : {A : Type 0} (octets : List ℕ) (r : Result A RunFault)
        → IfErr r (λ fault. OnFalse (wants_memory fault) ((tape front rest : List ℕ) → octets ≡ front ++ rest
        → Runs routines (reading order) 64 routine p tape front → ⊥))
        → IfErr r (λ fault. OnFalse (wants_memory fault) ((tape front rest : List ℕ) → octets ≡ front ++ rest
        → Means table.model.graph (reading order) 64 node p tape front → ⊥))
    read_refused octets r h =
        if_err_weaker _ _ (λ fault refused. only_if_weaker (wants_memory fault) _ _
        (λ none tape front rest e means. none tape front rest e ((related (reading order) tape front).1 means))
        refused) r h
