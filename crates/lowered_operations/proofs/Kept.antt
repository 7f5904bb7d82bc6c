-- Nothing comes back from the oneway operations of a file that is lowered.
use Rattle.std.proofs.Common.{◌≡◌, ℕ, ◌+◌, List, [], ◌∷◌, length, All, Result, Ok, Err, refl}
use Rattle.std.specs.List.{flat_map}
use Rattle.std.proofs.lemmas.List.Elements.{All-append, All-cons, All-nil}
use Rattle.idl_tree.specs.declared.definitions.Export.{Export}
use Rattle.idl_tree.specs.declared.definitions.Export.TheVariants as Exports
use Rattle.idl_tree.specs.declared.definitions.Interface.{Interface}
use Rattle.idl_tree.specs.declared.definitions.Interface.TheVariants.{Ahead, Defined as Body}
use Rattle.idl_tree.specs.declared.definitions.Definition.{Definition, Pragma, Declaration as Declared, Interface as InterfaceDcl, Module', Row_of-Definition, end_of-Definition, more_of-Definition}
use Rattle.name_table.specs.Entry.{Entry}
use Rattle.scoped_names.specs.Reading.{◌>>◌}
use Rattle.lowered_types.specs.declared.fault.BuildFault.{BuildFault}
use Rattle.lowered_types.specs.Faults.{each}
use Rattle.lowered_types.specs.SimpleTypes.{entry_of}
use Rattle.lowered_operations.specs.Operations.{Defined, undefined_yet}
use Rattle.lowered_operations.specs.Interfaces.{as_reference, export, exports_of, identifier_of, interface, interface_as}
use Rattle.lowered_operations.specs.Definitions.{defined_by, definition, definitions_after}
use Rattle.lowered_operations.specs.Kept.{KeepRule, KeepsRule, exports_in, exports_in_each, or_none}
use Rattle.lowered_operations.proofs.Refused.{oneway_kept}

then_ok : {A B : Type 0} (r : Result A BuildFault) (next : A → Result B BuildFault) (y : B) → (r >> next) ≡ Ok y
    → (x : A) × (r ≡ Ok x) × (next x ≡ Ok y)
then_ok (Ok x) next y h = (x, refl, h)
then_ok (Err fault) next y h = absurd cc

export_kept : (es : List Entry) (scope : ℕ) (d behind : Defined) (x : Export) → export es scope d x ≡ Ok behind
    → KeepsRule x
export_kept es scope d behind (Exports.Pragma p) h = tt
export_kept es scope d behind (Exports.Declaration x) h = tt
export_kept es scope d behind (Exports.Attribute a) h = tt
export_kept es scope d behind (Exports.Operation o) h = oneway_kept es scope d behind o h

exports_kept : (es : List Entry) (scope : ℕ) (d behind : Defined) (xs : List Export)
    → each (export es scope) d xs ≡ Ok behind → All KeepsRule xs
exports_kept es scope d behind [] h = All-nil KeepsRule
exports_kept es scope d behind (x ∷ xs) h =
    let (next, is, rest) = then_ok (export es scope d x) (λ next. each (export es scope) next xs) behind h in
    All-cons KeepsRule x xs (export_kept es scope d next x is) (exports_kept es scope next behind xs rest)

body_kept : (es : List Entry) (d behind : Defined) (e : ℕ) (i : Interface)
    → interface_as es d e (exports_of i) ≡ Ok behind
    → All KeepsRule (or_none (exports_of i))
body_kept es d behind e (Ahead id) h = All-nil KeepsRule
body_kept es d behind e (Body id bases exports) h =
    let (reference, is, rest) = then_ok (as_reference d e) _ behind h in
    let (inner, told, last) = then_ok (each (export es (e + 1)) reference exports.items) _ behind rest in
    exports_kept es (e + 1) reference inner exports.items told

interface_kept : (es : List Entry) (scope : ℕ) (d behind : Defined) (i : Interface) → interface es scope d i ≡ Ok behind
    → All KeepsRule (or_none (exports_of i))
interface_kept es scope d behind i h =
    let (e, is, rest) = then_ok (entry_of es scope (identifier_of i)) (λ e. interface_as es d e (exports_of i)) behind h
    in
    body_kept es d behind e i rest

mutual
  definition_kept : (es : List Entry) (scope : ℕ) (d behind : Defined) (x : Definition)
      → definition es scope d x ≡ Ok behind → All KeepsRule (exports_in x)
  definition_kept es scope d behind (Pragma p) h = All-nil KeepsRule
  definition_kept es scope d behind (Declared x) h = All-nil KeepsRule
  definition_kept es scope d behind (InterfaceDcl i) h = interface_kept es scope d behind i h
  definition_kept es scope d behind (Module' id shape definitions) h =
      let (e, is, rest) = then_ok (entry_of es scope id) (λ e. definitions_after es (e + 1) d definitions) behind h in
      definitions_kept es (e + 1) d behind definitions rest

  definitions_kept : {n : _} → (es : List Entry) (scope : ℕ) (d behind : Defined) (row : Row_of-Definition n)
      → definitions_after es scope d row ≡ Ok behind
      → All KeepsRule (exports_in_each row)
  definitions_kept es scope d behind end_of-Definition h = All-nil KeepsRule
  definitions_kept es scope d behind (more_of-Definition x rest) h =
      let (next, is, more) = then_ok (definition es scope d x) (λ next. definitions_after es scope next rest) behind h
      in
      All-append KeepsRule (exports_in x) (exports_in_each rest) (definition_kept es scope d next x is)
      (definitions_kept es scope next behind rest more)

each_kept : (es : List Entry) (scope : ℕ) (d behind : Defined) (xs : List Definition)
    → each (definition es scope) d xs ≡ Ok behind
    → All KeepsRule (flat_map exports_in xs)
each_kept es scope d behind [] h = All-nil KeepsRule
each_kept es scope d behind (x ∷ xs) h =
    let (next, is, rest) = then_ok (definition es scope d x) (λ next. each (definition es scope) next xs) behind h in
    All-append KeepsRule (exports_in x) (flat_map exports_in xs) (definition_kept es scope d next x is)
    (each_kept es scope next behind xs rest)

pub rule_kept : (es : List Entry) (definitions : List Definition) (d : Defined) → defined_by es definitions ≡ Ok d
    → KeepRule definitions
rule_kept es definitions d h = each_kept es 0 (undefined_yet (length es)) d definitions h
