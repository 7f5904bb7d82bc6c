-- What modules are lowered to, by the lists of their definitions.
use Rattle.std.proofs.Common.{◌≡◌, ◌∙◌, ℕ, ◌+◌, List, Result, Ok, Err, refl, sym, ap}
use Rattle.idl_tree.specs.declared.definitions.Definition.{Definition, Module}
use Rattle.idl_tree.specs.declared.definitions.Module.{Module as ModuleRecord}
use Rattle.idl_tree.proofs.Rows.{module_walk}
use Rattle.name_table.specs.Entry.{Entry}
use Rattle.scoped_names.specs.Reading.{◌>>◌}
use Rattle.lowered_types.specs.declared.fault.BuildFault.{BuildFault}
use Rattle.lowered_types.specs.Faults.{each}
use Rattle.lowered_types.specs.SimpleTypes.{entry_of}
use Rattle.lowered_operations.specs.Operations.{Defined}
use Rattle.lowered_operations.specs.Definitions.{definition, definitions_after}

abbrev Walk : Type 0
Walk = List Entry → ℕ → Defined → Result Defined BuildFault

-- what stands in the module of an entry
abbrev pub module_in : List Entry → Defined → List Definition → ℕ → Result Defined BuildFault
module_in es d definitions e = each (definition es (e + 1)) d definitions

pub module_told : (es : List Entry) (scope : ℕ) (d : Defined) (m : ModuleRecord)
    → definition es scope d (Module m) ≡ (entry_of es scope m.identifier >> module_in es d m.definitions.items)
module_told es scope d m =
    ap (λ walk. walk es scope d) (module_walk {A = Walk} {B = Walk} (λ x es scope d. definition es scope d x)
    (λ n row es scope d. definitions_after es scope d row)
    (λ id rest es scope d. entry_of es scope id >> λ e. rest es (e + 1) d)
    (λ es scope d. Ok d) (λ x rest es scope d. definition es scope d x >> λ next. rest es scope next)
    (λ xs es scope d. each (definition es scope) d xs)
    (λ id shape row. refl) refl (λ n x row. refl) refl (λ x xs. refl) m)

-- a module whose entry is found
pub module_entered : (es : List Entry) (scope : ℕ) (d : Defined) (m : ModuleRecord) (x : Definition)
    (definitions : List Definition) (e : ℕ)
    → x ≡ Module m → definitions ≡ m.definitions.items → Ok e ≡ entry_of es scope m.identifier
    → each (definition es (e + 1)) d definitions ≡ definition es scope d x
module_entered es scope d m x definitions e is_module all told =
    ap (each (definition es (e + 1)) d) all
    ∙ ap (λ r. r >> module_in es d m.definitions.items) told
    ∙ sym (module_told es scope d m) ∙ sym (ap (definition es scope d) is_module)

-- a module that isn't declared
pub module_refused : (es : List Entry) (scope : ℕ) (d : Defined) (m : ModuleRecord) (x : Definition)
    (fault : BuildFault)
    → x ≡ Module m → Err fault ≡ entry_of es scope m.identifier → definition es scope d x ≡ Err fault
module_refused es scope d m x fault is_module told =
    ap (definition es scope d) is_module ∙ module_told es scope d m
    ∙ sym (ap (λ r. r >> module_in es d m.definitions.items) told)
