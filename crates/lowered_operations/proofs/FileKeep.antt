-- What a whole file is lowered to, where the names are its own.
use Rattle.std.proofs.Common.{◌≡◌, inr, ℕ, zero, suc, le_refl, List, [], ◌∷◌, length, replicate, Option, Some, None, Result, Ok, Err, refl, subst, arith}
use Rattle.std.specs.Prelude.{slice_get, IfSome}
use Rattle.std.proofs.lemmas.List.{length-replicate}
use Rattle.std.proofs.lemmas.List.Elements.{All-cons, All-nil, All-replicate}
use Rattle.idl_tree.specs.declared.definitions.Definition.{Definition}
use Rattle.idl_tree.specs.declared.spec.Spec.{Spec}
use Rattle.type_graph.specs.BasicNodes.{basic_nodes}
use Rattle.type_graph.specs.declared.node.Node.{Node}
use Rattle.type_graph.specs.GraphRules.{AreMembers, IsNode, IsPart, all_members}
use Rattle.name_table.specs.Entry.{Entry}
use Rattle.name_steps.specs.Steps.{definition_steps, steps_of}
use Rattle.scoped_names.specs.FileNames.{AreNames, FileNames}
use Rattle.lowered_types.specs.declared.fault.BuildFault.{BuildFault}
use Rattle.lowered_types.specs.declared.place.Place.{Place}
use Rattle.lowered_types.specs.declared.place.Place.TheVariants.{Typed}
use Rattle.lowered_types.specs.Sound.{IsOfTypes}
use Rattle.lowered_types.specs.Lowered.{undefined, unlowered}
use Rattle.lowered_types.proofs.Defining.{basic_defined, each_there}
use Rattle.lowered_types.proofs.Each.{each_keeps}
use Rattle.lowered_types.proofs.Fine.{Fine, weaker}
use Rattle.lowered_types.proofs.Growing.{IsRight}
use Rattle.lowered_types.proofs.Keeping.{Keeps}
use Rattle.lowered_types.proofs.Settled.{AllSettled, all_settled, behind}
use Rattle.lowered_operations.specs.Definitions.{defined_by, definition}
use Rattle.lowered_operations.specs.Operations.{undefined_yet}
use Rattle.lowered_operations.specs.Sound.{IsSoundOffer, IsSoundSignature}
use Rattle.lowered_operations.proofs.BasesRead.{bases_are_entries}
use Rattle.lowered_operations.proofs.Calls.{nothing_begun}
use Rattle.lowered_operations.proofs.InterfacesKeep.{AreBased, definition_closed, definition_fine}
use Rattle.lowered_operations.proofs.OperationsKeep.{GoesAll, KeepsAll}

-- ---- before the first part

no_places : (n e : ℕ) (p : Place) → slice_get (replicate n (let o : Option Place = None in o)) e ≡ Some (Some p) → ⊥
no_places zero e p is = cc
no_places (suc n) zero p is = cc
no_places (suc n) (suc e) p is = no_places n e p is

basic_right : (n : ℕ) (node : Node) → slice_get basic_nodes n ≡ Some node → IsRight basic_nodes node
basic_right n node is =
    inr (each_there (IsNode basic_nodes) basic_nodes n node (
      tt,
      (
        tt,
        (
          tt,
          (
            tt,
            (
              tt,
              (
                tt,
                (
                  tt,
                  (
                    tt,
                    (
                      tt,
                      (
                        omega arith,
                        (
                          (tt, omega arith),
                          (
                            (omega arith, of_two 6 10 tt tt),
                            ((tt, omega arith), ((omega arith, of_two 9 12 tt tt), tt)),
                          ),
                        ),
                      ),
                    ),
                  ),
                ),
              ),
            ),
          ),
        ),
      ),
    ) is)
  where
    of_two : (a b : ℕ) → IsPart basic_nodes a → IsPart basic_nodes b → AreMembers basic_nodes (a ∷ b ∷ [])
    of_two a b first second = record {
      limited = omega arith;
      parts = All-cons (IsPart basic_nodes) a (b ∷ []) first
          (All-cons (IsPart basic_nodes) b [] second (All-nil (IsPart basic_nodes)));
    }

first_keeps : (es : List Entry) → Keeps es [] nothing_begun (unlowered (length es))
first_keeps es =
    let count : length basic_nodes ≡ 14 = refl in
    let members : all_members basic_nodes ≡ 4 = refl in
    record {
      long = length-replicate (length es) None;
      known = λ e p is. absurd (no_places (length es) e p is);
      has = λ e x none at. absurd none;
      begun_known = λ e none. absurd none;
      begun_done = λ e none body. absurd none;
      done_known = λ e none. absurd none;
      unplaced = λ e x none at. absurd none;
      right = λ e p is. absurd (no_places (length es) e p is);
      exceptions = λ k x is. absurd cc;
      one = λ e f n body other first second. absurd (no_places (length es) e (Typed n) first);
      ahead = λ e n body place yet. absurd (no_places (length es) e (Typed n) place);
      left = λ n is. absurd (basic_defined n undefined is refl);
      basic = λ n node is. is;
      sound = record {
        limited = omega (arith, count);
        nodes = basic_right;
        counted = le_refl (all_members basic_nodes);
        members = omega (arith, members);
        sites = refl;
        exceptions = omega (arith, count);
      };
    }

first_all : (es : List Entry) → KeepsAll es [] (undefined_yet (length es))
first_all es = record {
  types_kept = first_keeps es;
  long = length-replicate (length es) None;
  signatures = All-nil (IsSoundSignature (length es) (unlowered (length es)));
  offers = All-replicate (λ o. IfSome o (IsSoundOffer (length es) 0)) (length es) None tt;
  few = omega arith;
}

-- ---- a file

pub file_fine : (es : List Entry) (based : AreBased es) (definitions : List Definition)
    → AllSettled es [] 0 (steps_of definitions)
    → Fine (KeepsAll es (behind es [] 0 (steps_of definitions))) (defined_by es definitions)
file_fine es based definitions settled =
    each_keeps es (KeepsAll es) (definition es 0) definition_steps 0 definition_closed
    (λ g d x s h. weaker (GoesAll es (behind es g 0 (definition_steps x)) d)
    (KeepsAll es (behind es g 0 (definition_steps x))) (definition es 0 d x) (λ b goes. goes.keeps)
    (definition_fine es based g d 0 x h s)) [] (undefined_yet (length es)) definitions settled (first_all es)

pub of_names_fine : (spec : Spec) (names : FileNames) → AreNames spec.definitions.items names
    → Fine (KeepsAll names.entries (behind names.entries [] 0 (steps_of spec.definitions.items)))
    (defined_by names.entries spec.definitions.items)
of_names_fine spec names h =
    file_fine names.entries (bases_are_entries spec.definitions.items names h) spec.definitions.items
    (all_settled spec names h)

told : {A : Type 0} (P : A → Type 0) (r : Result A BuildFault) (fault : BuildFault) → Fine P r → r ≡ Err fault
    → IsOfTypes fault
told P (Ok x) fault h is = absurd cc
told P (Err other) fault h is = let same : other ≡ fault = cc in subst IsOfTypes same h

pub only_types : (spec : Spec) (names : FileNames) → AreNames spec.definitions.items names → (fault : BuildFault)
    → defined_by names.entries spec.definitions.items ≡ Err fault → IsOfTypes fault
only_types spec names h fault is =
    told (KeepsAll names.entries (behind names.entries [] 0 (steps_of spec.definitions.items)))
    (defined_by names.entries spec.definitions.items) fault (of_names_fine spec names h) is
