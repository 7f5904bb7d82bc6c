-- Interfaces, modules and files: under a file's own names the names of each node are apart, and one for one for its
-- parts.
use Rattle.std.proofs.Common.{◌≡◌, ◌⊎◌, inl, inr, ℕ, zero, suc, ◌+◌, ◌<◌, ◌≤◌, Bool, true, false, All, List, [], ◌∷◌, ◌++◌, length, map, replicate, slice_get, Option, Some, None, Result, Ok, Err, append_assoc, refl, sym, ap, subst, arith}
use Rattle.std.specs.Prelude.{if◌then◌else◌, nat_eq, nat_lt, slice_set}
use Rattle.std.specs.List.{AllByRecursion, flat_map}
use Rattle.std.proofs.lemmas.List.Elements.{All-from_recursion}
use Rattle.std.proofs.lemmas.Option.{slice_get_within}
use Rattle.type_graph.specs.BasicNodes.{basic_nodes}
use Rattle.idl_tree.specs.declared.definitions.Declaration.{Declaration}
use Rattle.idl_tree.specs.declared.definitions.Export.{Export}
use Rattle.idl_tree.specs.declared.definitions.Export.TheVariants as Exports
use Rattle.idl_tree.specs.declared.definitions.Interface.{Interface}
use Rattle.idl_tree.specs.declared.definitions.Interface.TheVariants.{Ahead, Defined as Body}
use Rattle.idl_tree.specs.declared.definitions.Definition.{Definition, Pragma, Declaration as Declared, Interface as InterfaceDcl, Module', Row_of-Definition, end_of-Definition, more_of-Definition}
use Rattle.idl_tree.specs.declared.spec.Spec.{Spec}
use Rattle.idl_tree.specs.declared.kinds.EntryKind.TheVariants as Kinds
use Rattle.type_graph.specs.declared.node.Node.{Node}
use Rattle.name_table.specs.Entry.{Entry, bases_in}
use Rattle.name_steps.specs.Steps.{Declares, Defines, Enters, HasBase, IsUndefined, Leaves as LeavesScope, declaration_steps, definition_steps, definitions_steps, export_steps, interface_steps, optional_parts}
use Rattle.name_steps.proofs.Asks.{bases_ask, definition_asks, definitions_ask, export_asks}
use Rattle.scoped_names.specs.FileNames.{AreNames, FileNames}
use Rattle.scoped_names.proofs.Parts.{Closed, both_closed, closed, each_closed, one_closed}
use Rattle.type_model.specs.PartNamesNames.{AreApart, names_at, or_none}
use Rattle.lowered_types.specs.declared.fault.BuildFault.{BuildFault}
use Rattle.lowered_types.specs.declared.fault.BuildFault.TheVariants.{OtherNames}
use Rattle.lowered_types.specs.declared.place.Place.{Place}
use Rattle.lowered_types.specs.declared.place.Place.TheVariants.{Typed}
use Rattle.lowered_types.specs.Declarations.{declaration}
use Rattle.lowered_types.specs.Faults.{each}
use Rattle.lowered_types.specs.Lowered.{place_of, unlowered}
use Rattle.lowered_types.specs.SimpleTypes.{entry_of}
use Rattle.lowered_types.proofs.Spots.{there_at}
use Rattle.lowered_operations.specs.declared.signature.Offered.{Offered}
use Rattle.lowered_operations.specs.Operations.{Defined, declared, undefined_yet}
use Rattle.lowered_operations.specs.Interfaces.{as_reference, export, interface, offering, reference_at, with_interface}
use Rattle.lowered_operations.specs.Definitions.{defined_by, definition, definitions_after}
use Rattle.model_builder.specs.PartNames.{AreOneForOne, HaveNames}
use Rattle.model_builder.proofs.Good.{Good, good_both, good_each, good_tail, spec_good}
use Rattle.model_builder.proofs.NamedCalls.{HasTypes, attribute_named, operation_named, with_place_named}
use Rattle.model_builder.proofs.NamedDeclarations.{declaration_named}
use Rattle.model_builder.proofs.NamedNodes.{AreNamed, Has, Leaves, and_then, behind, each_leaves, left, none_apart}
use Rattle.model_builder.proofs.PickedNames.{good_in, number_of}

-- ---- interfaces

declared_named : (es : List Entry) (scope : ℕ) (d : Defined) (x : Declaration) → HasTypes d
    → Good es scope (declaration_steps x) → Leaves HasTypes (declared es scope d x)
declared_named es scope d x h g =
    and_then Has HasTypes (declaration es d.types scope x) _ (declaration_named es d.types scope x h g) (λ w k. k)

export_named : (es : List Entry) (scope : ℕ) (d : Defined) (x : Export) → Good es scope (export_steps x) → HasTypes d
    → Leaves HasTypes (export es scope d x)
export_named es scope d (Exports.Pragma p) g h = h
export_named es scope d (Exports.Declaration x) g h = declared_named es scope d x h g
export_named es scope d (Exports.Attribute a) g h = attribute_named es scope d a h
export_named es scope d (Exports.Operation o) g h = operation_named es scope d o h g

reference_named : (d : Defined) (e : ℕ) → HasTypes d → Leaves HasTypes (as_reference d e)
reference_named d e h = by (place_of d.types e)
  where
    by : (p : Option Place) → Leaves HasTypes (reference_at d e p)
    by None = with_place_named d e (Typed 13) h
    by (Some (Typed n)) = when (nat_eq n 13)
      where
        when : (b : Bool) → (let r : Result Defined BuildFault = if b then Ok d else Err OtherNames in
            Leaves HasTypes r)
        when true = h
        when false = tt
    by (Some p) = tt

with_interface_named : (d : Defined) (e : ℕ) (o : Offered) → HasTypes d → Leaves HasTypes (with_interface d e o)
with_interface_named d e o h = by (nat_lt e (length d.interfaces))
  where
    by : (b : Bool) → (let r : Result Defined BuildFault = if b then
        Ok (record d { interfaces = slice_set d.interfaces e (Some o) }) else Err OtherNames in Leaves HasTypes r)
    by true = h
    by false = tt

export_closed : (x : Export) → Closed (export_steps x)
export_closed x = closed (export_asks {ls = []} x)

interface_named : (es : List Entry) (scope : ℕ) (d : Defined) (i : Interface) → Good es scope (interface_steps i)
    → HasTypes d → Leaves HasTypes (interface es scope d i)
interface_named es scope d (Ahead id) g h = behind HasTypes (entry_of es scope id) _ (λ e told. reference_named d e h)
interface_named es scope d (Body id bases exports) g h =
    let xs = exports.items in
    let named = map (HasBase id) (optional_parts bases) in
    let all_exports = flat_map export_steps xs in
    let inner = Defines id ∷ all_exports in
    let head = good_tail es scope (Declares Kinds.Interface id) _ tt g in
    let (n, is) = number_of es scope id Kinds.Interface head.0.entries.0 in
    let past = (good_tail es scope (IsUndefined id) _ tt head.1).1 in
    let moved = subst (Good es scope) (append_assoc named (Enters id ∷ inner) (LeavesScope ∷ [])) past in
    let body = (good_both es scope named (Enters id ∷ (inner ++ LeavesScope ∷ []))
    (closed (bases_ask {ls = []} id bases)) moved).1 in
    let exports_closed : Closed all_exports = each_closed export_steps export_closed xs in
    behind HasTypes (entry_of es scope id) _ (λ e told.
    let inside = good_in es scope id inner n e (both_closed (one_closed (Defines id) tt) exports_closed) is told body in
    let good = (good_tail es (e + 1) (Defines id) all_exports tt inside).1 in
    and_then HasTypes HasTypes (as_reference d e) _ (reference_named d e h) (λ r k.
    and_then HasTypes HasTypes (each (export es (e + 1)) r xs) _
    (each_leaves HasTypes (export es (e + 1)) (λ x. Good es (e + 1) (export_steps x))
    (λ s x. export_named es (e + 1) s x) r xs (good_each es (e + 1) export_steps export_closed xs good) k)
    (λ b m. with_interface_named b e (offering b (length d.operations) (bases_in (slice_get es e))) m)))

-- ---- modules and files

mutual
  definition_named : (es : List Entry) (scope : ℕ) (d : Defined) (x : Definition) → Good es scope (definition_steps x)
      → HasTypes d → Leaves HasTypes (definition es scope d x)
  definition_named es scope d (Pragma p) g h = h
  definition_named es scope d (Declared x) g h = declared_named es scope d x h g
  definition_named es scope d (InterfaceDcl i) g h = interface_named es scope d i g h
  definition_named es scope d (Module' id shape row) g h =
      let body = definitions_steps row in
      let row_closed : Closed body = closed (definitions_ask {ls = []} row) in
      let head = good_tail es scope (Declares Kinds.Module id) (Enters id ∷ body ++ LeavesScope ∷ []) tt g in
      let (n, is) = number_of es scope id Kinds.Module head.0.entries.0 in
      behind HasTypes (entry_of es scope id) _ (λ e told.
      definitions_named es (e + 1) d row (good_in es scope id body n e row_closed is told head.1) h)

  definitions_named : {n : _} → (es : List Entry) (scope : ℕ) (d : Defined) (row : Row_of-Definition n)
      → Good es scope (definitions_steps row) → HasTypes d
      → Leaves HasTypes (definitions_after es scope d row)
  definitions_named es scope d end_of-Definition g h = h
  definitions_named es scope d (more_of-Definition x rest) g h =
      let both = good_both es scope (definition_steps x) (definitions_steps rest) (closed (definition_asks {ls = []} x))
      g in
      and_then HasTypes HasTypes (definition es scope d x) _ (definition_named es scope d x both.0 h)
      (λ next k. definitions_named es scope next rest both.1 k)

definition_closed : (x : Definition) → Closed (definition_steps x)
definition_closed x = closed (definition_asks {ls = []} x)

no_names : List (List ℕ)
no_names = []

unnamed : (count n : ℕ) (own : List (List ℕ)) → slice_get (replicate count no_names) n ≡ Some own
    → (own ≡ []) × (n < count)
unfolding no_names
unnamed zero n own is = absurd cc
unnamed (suc count) zero own is = (sym cc, omega arith)
unnamed (suc count) (suc n) own is = let (none, lt) = unnamed count n own is in (none, omega (arith, lt))

unnamed_there : (count n : ℕ) → n < count → slice_get (replicate count no_names) n ≡ Some []
unfolding no_names
unnamed_there zero n lt = absurd (omega (arith, lt))
unnamed_there (suc count) zero lt = refl
unnamed_there (suc count) (suc n) lt = unnamed_there count n (omega (arith, lt))

first_named : (entries : ℕ) → Has (unlowered entries)
unfolding no_names
first_named entries = record {
  long = refl;
  each = λ n node own is told.
      let (none, lt) = unnamed 14 n own told in
      (subst AreApart (sym none) none_apart, inl lt);
  basic = λ n node is. let lt = slice_get_within basic_nodes n node is in (is, unnamed_there 14 n lt);
}

pub file_named : (spec : Spec) (names : FileNames) → AreNames spec.definitions.items names → (d : Defined)
    → defined_by names.entries spec.definitions.items ≡ Ok d → HasTypes d
file_named spec names h d is =
    let es = names.entries in
    let ds = spec.definitions.items in
    left HasTypes (defined_by es ds) d is
    (each_leaves HasTypes (definition es 0) (λ x. Good es 0 (definition_steps x)) (λ s x. definition_named es 0 s x)
    (undefined_yet (length es)) ds
    (good_each es 0 definition_steps definition_closed ds (spec_good spec names h)) (first_named (length es)))

-- ---- what it says of all nodes

each_of : (P : List (List ℕ) → Type 0) (names : List (List (List ℕ)))
    → ((n : ℕ) (own : List (List ℕ)) → slice_get names n ≡ Some own → P own) → AllByRecursion P names
each_of P [] h = tt
each_of P (own ∷ names) h = (h 0 own refl, each_of P names (λ n other is. h (suc n) other is))

pub all_apart : (graph : List Node) (names : List (List (List ℕ))) → AreNamed graph names → All AreApart names
all_apart graph names h = All-from_recursion AreApart names (each_of AreApart names apart)
  where
    apart : (n : ℕ) (own : List (List ℕ)) → slice_get names n ≡ Some own → AreApart own
    apart n own is =
        let lt = slice_get_within names n own is in
        let long = h.long in
        let (node, there) = there_at graph n (omega (arith, lt, long)) in
        (h.each n node own there is).0

pub one_for_one : (graph : List Node) (names : List (List (List ℕ))) → AreNamed graph names → AreOneForOne graph names
one_for_one graph names h = record {
  long = h.long;
  basic = λ n lt.
      let (node, is) = there_at basic_nodes n lt in
      ap or_none (h.basic n node is).1;
  each = λ n node beyond is.
      let lt = slice_get_within graph n node is in
      let long = h.long in
      let (own, there) = there_at names n (omega (arith, lt, long)) in
      let same : names_at names n ≡ own = ap or_none there in
      subst (λ ns. HaveNames node (length ns)) (sym same) (other n node own beyond (h.each n node own is there).1);
}
  where
    other : (n : ℕ) (node : Node) (own : List (List ℕ)) → 14 ≤ n → (n < 14) ⊎ HaveNames node (length own)
        → HaveNames node (length own)
    other n node own beyond (inl lt) = absurd (omega (arith, beyond, lt))
    other n node own beyond (inr fits) = fits
