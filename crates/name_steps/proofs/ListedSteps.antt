-- The steps of a structure, a union and a module, by the lists of their `Vec`s.
use Rattle.std.proofs.Common.{◌≡◌, ◌++◌, List, [], ◌∷◌, refl}
use Rattle.std.specs.List.{flat_map}
use Rattle.idl_tree.specs.declared.names.Leaf.{Leaf}
use Rattle.idl_tree.specs.declared.types.SwitchType.{SwitchType}
use Rattle.idl_tree.specs.declared.types.StructType.{StructType, out-StructType}
use Rattle.idl_tree.specs.declared.types.UnionType.{UnionType, out-UnionType}
use Rattle.idl_tree.specs.declared.types.Member.{Member}
use Rattle.idl_tree.specs.declared.types.Case.{Case}
use Rattle.idl_tree.specs.declared.definitions.Definition.{Module}
use Rattle.idl_tree.specs.declared.definitions.Module.{Module as ModuleRecord}
use Rattle.idl_tree.proofs.Rows.{module_walk, struct_walk, union_walk}
use Rattle.idl_tree.specs.declared.kinds.EntryKind.TheVariants as Kinds
use Rattle.name_steps.specs.Steps.{Step, Leaves, case_steps, cases_steps, definition_steps, definitions_steps, member_steps, members_steps, module_body, opening, struct_steps, switch_steps, union_steps}

abbrev pub struct_body : Leaf → Member → List Step → List Step
struct_body id m others = opening Kinds.Struct id ++ member_steps m ++ others ++ Leaves ∷ []

abbrev pub union_body : Leaf → SwitchType → Case → List Step → List Step
union_body id switch c others = opening Kinds.Union id ++ switch_steps switch ++ case_steps c ++ others ++ Leaves ∷ []

pub struct_listed : (s : StructType)
    → struct_steps s ≡ struct_body (out-StructType s).identifier (out-StructType s).first.value
    (flat_map member_steps (out-StructType s).rest.items)
struct_listed s =
    struct_walk struct_steps (λ n row. members_steps row) struct_body [] (λ m others. member_steps m ++ others)
    (flat_map member_steps)
    (λ id p m shape row. refl) refl (λ n m row. refl) refl (λ m ms. refl) s

pub union_listed : (u : UnionType)
    → union_steps u
    ≡ union_body (out-UnionType u).identifier (out-UnionType u).switch.value (out-UnionType u).first.value
    (flat_map case_steps (out-UnionType u).rest.items)
union_listed u =
    union_walk union_steps (λ n row. cases_steps row) union_body [] (λ c others. case_steps c ++ others)
    (flat_map case_steps)
    (λ id s p c shape row. refl) refl (λ n c row. refl) refl (λ c cs. refl) u

pub module_listed : (m : ModuleRecord) → definition_steps (Module m)
    ≡ module_body m.identifier (flat_map definition_steps m.definitions.items)
module_listed m =
    module_walk definition_steps (λ n row. definitions_steps row) module_body []
    (λ d others. definition_steps d ++ others) (flat_map definition_steps)
    (λ id shape row. refl) refl (λ n d row. refl) refl (λ d ds. refl) m
