-- Structures, unions and their members (ISO/IEC 19500-1, type declaration).
use Rattle.std.specs.Prelude.{ℕ, ◌+◌, nat_le, if◌then◌else◌, map, List, [], ◌∷◌, ◌++◌, length, Option, Some, None, Result, Ok, Err, ℤ}
use Rattle.idl_tree.specs.declared.names.At.{At}
use Rattle.idl_tree.specs.declared.names.Listed.{Listed}
use Rattle.idl_tree.specs.declared.types.Declarator.{Declarator}
use Rattle.idl_tree.specs.declared.types.Label.{Label}
use Rattle.idl_tree.specs.declared.types.TypeSpec.{TypeSpec, Simple, Struct as StructSpec, Union as UnionSpec, Enum as EnumSpec}
use Rattle.idl_tree.specs.declared.types.StructType.{StructType, StructType', Row_of-Member, end_of-Member, more_of-Member}
use Rattle.idl_tree.specs.declared.types.UnionType.{UnionType, UnionType', Row_of-Case, end_of-Case, more_of-Case}
use Rattle.idl_tree.specs.declared.types.Member.{Member}
use Rattle.idl_tree.specs.declared.types.Case.{Case}
use Rattle.idl_tree.specs.Lists.{parts}
use Rattle.idl_tree.specs.Starts.{leaf_at}
use Rattle.type_graph.specs.declared.fault.GraphLimit.TheVariants.{Members as MembersLimit}
use Rattle.type_graph.specs.declared.node.Node.TheVariants.{Struct, Union}
use Rattle.name_table.specs.Entry.{Entry}
use Rattle.scoped_names.specs.Reading.{◌>>◌}
use Rattle.lowered_types.specs.declared.arms.Arm.{Arm}
use Rattle.lowered_types.specs.declared.arms.DefaultArm.{DefaultArm}
use Rattle.lowered_types.specs.declared.fault.BuildFault.{BuildFault}
use Rattle.lowered_types.specs.declared.fault.BuildFault.TheVariants.{Types}
use Rattle.lowered_types.specs.declared.fault.TypeFault.TheVariants.{DefaultNeedless}
use Rattle.lowered_types.specs.declared.labels.Switch.{Switch}
use Rattle.lowered_types.specs.Faults.{at_most, each, max_members}
use Rattle.lowered_types.specs.Members.{Members}
use Rattle.lowered_types.specs.Lowered.{Lowered, Numbered, already, counted, node_set, opened}
use Rattle.lowered_types.specs.SimpleTypes.{array_type, declarator_at, declarator_name, entry_of, enum_type, simple_type}
use Rattle.lowered_types.specs.Labels.{Arms, label_added, no_arms, no_labels, switch_read, with_case}

-- ---- members

-- what is lowered, and the members so far of a type
pub record WithMembers : Type 0 where
  pub lowered : Lowered
  pub members : Members

abbrev pub with_members_of : Lowered → Members → WithMembers
with_members_of w ms = record { lowered = w; members = ms }

abbrev pub no_members : Members
no_members = record { numbers = []; sites = []; names = [] }

-- a member more, whose type has the number
abbrev pub member_added : Members → List ℕ → ℕ → At → Result Members BuildFault
member_added ms name number at =
    at_most max_members MembersLimit at (length ms.numbers + 1) >> λ n. Ok (record {
      numbers = ms.numbers ++ number ∷ [];
      sites = ms.sites ++ at ∷ [];
      names = ms.names ++ name ∷ [];
    })

-- one declarator more, of the type that has the number
abbrev pub with_declarator : List Entry → ℕ → ℕ → WithMembers → Declarator → Result WithMembers BuildFault
with_declarator es scope number m d =
    array_type es scope (already m.lowered number) d >> λ a.
    member_added m.members (declarator_name d) a.number (declarator_at d) >> λ ms. Ok (with_members_of a.lowered ms)

abbrev pub with_declarators : List Entry → ℕ → Numbered → Members → Listed Declarator → Result WithMembers BuildFault
with_declarators es scope t ms ds = each (with_declarator es scope t.number) (with_members_of t.lowered ms) (parts ds)

-- members of one type more: first it is read, and then there are its declarators
abbrev pub members_added : List Entry → ℕ → Members → Result Numbered BuildFault → Listed Declarator
    → Result WithMembers BuildFault
members_added es scope ms type ds = type >> λ t. with_declarators es scope t ms ds

-- a structure whose number is known has these members
abbrev pub struct_defined : WithMembers → ℕ → At → Result Lowered BuildFault
struct_defined m number at =
    counted m.lowered (length m.members.numbers) at >> λ w.
    node_set w number (Struct m.members.numbers) m.members.names m.members.sites

-- ---- cases

-- what is lowered, and the arms so far of a union
pub record Cases : Type 0 where
  pub lowered : Lowered
  pub arms : Arms

abbrev pub cases_of : Lowered → Arms → Cases
cases_of w arms = record { lowered = w; arms = arms }

-- a case more: first its labels are judged, then its type is read, and then it has its arms
abbrev pub case_added : List Entry → ℕ → Switch → Cases → Listed Label
    → (Lowered → Result Numbered BuildFault) → Declarator → Result Cases BuildFault
case_added es scope s c labels type d =
    each (label_added es scope s c.arms) no_labels (parts labels) >> λ ls.
    type c.lowered >> λ t.
    array_type es scope t d >> λ a.
    Ok (cases_of a.lowered (with_case c.arms (declarator_name d) a.number (declarator_at d) ls))

abbrev pub default_test : Switch → ℕ → Option DefaultArm → Result (Unit {0}) BuildFault
default_test s count None = Ok tt
default_test s count (Some d) =
    (if nat_le s.values.count count then Err (Types (DefaultNeedless d.keyword)) else Ok tt)

abbrev pub default_number : Option DefaultArm → Option ℕ
default_number None = None
default_number (Some d) = Some d.number

abbrev pub default_sites : Option DefaultArm → List At
default_sites None = []
default_sites (Some d) = d.at ∷ []

abbrev pub numbered_arm : Arm → ℤ × ℕ
numbered_arm arm = (arm.label, arm.number)

abbrev pub arm_at : Arm → At
arm_at arm = arm.at

-- a union whose number is known has these arms
abbrev pub union_defined : Switch → Cases → ℕ → At → Result Lowered BuildFault
union_defined s c number at =
    default_test s (length c.arms.arms) c.arms.default >> λ u.
    counted c.lowered (length c.arms.arms) at >> λ w.
    node_set w number (Union s.number (map numbered_arm c.arms.arms) (default_number c.arms.default))
    c.arms.names (map arm_at c.arms.arms ++ default_sites c.arms.default)

-- ---- types

-- a type of a declarator that stands there; the body of a structure or a union stands in its own scope
abbrev mutual
  pub type_spec : List Entry → Lowered → ℕ → At → TypeSpec → Result Numbered BuildFault
  type_spec es w scope at (Simple t) = simple_type es w scope at t
  type_spec es w scope at (StructSpec s) = struct_type es w scope s
  type_spec es w scope at (UnionSpec u) = union_type es w scope u
  type_spec es w scope at (EnumSpec e) = enum_type es w scope e

  pub struct_type : List Entry → Lowered → ℕ → StructType → Result Numbered BuildFault
  struct_type es w scope (StructType' id p t declarators shape rest) =
      entry_of es scope id >> λ e.
      opened w e (leaf_at id) >> λ o.
      members_added es (e + 1) no_members
      (type_spec es o.lowered (e + 1) (declarator_at declarators.first) t) declarators >> λ first.
      with_members es (e + 1) first rest >> λ m.
      struct_defined m o.number (leaf_at id) >> λ behind. Ok (already behind o.number)

  pub union_type : List Entry → Lowered → ℕ → UnionType → Result Numbered BuildFault
  union_type es w scope (UnionType' id switch p labels t declarator shape rest) =
      entry_of es scope id >> λ e.
      opened w e (leaf_at id) >> λ o.
      switch_read es o.lowered (e + 1) (leaf_at id) switch.value >> λ s.
      case_added es (e + 1) s.switch (cases_of s.lowered no_arms) labels
      (λ v. type_spec es v (e + 1) (declarator_at declarator) t) declarator >> λ first.
      with_cases es (e + 1) s.switch first rest >> λ c.
      union_defined s.switch c o.number (leaf_at id) >> λ behind. Ok (already behind o.number)

  pub with_members : {n : _} → List Entry → ℕ → WithMembers → Row_of-Member n → Result WithMembers BuildFault
  with_members es scope m end_of-Member = Ok m
  with_members es scope m (more_of-Member t declarators rest) =
      members_added es scope m.members
      (type_spec es m.lowered scope (declarator_at declarators.first) t) declarators >> λ next.
      with_members es scope next rest

  pub with_cases : {n : _} → List Entry → ℕ → Switch → Cases → Row_of-Case n → Result Cases BuildFault
  with_cases es scope s c end_of-Case = Ok c
  with_cases es scope s c (more_of-Case labels t declarator rest) =
      case_added es scope s c labels (λ v. type_spec es v scope (declarator_at declarator) t) declarator >> λ next.
      with_cases es scope s next rest

-- members of one type more
abbrev pub with_member : List Entry → ℕ → WithMembers → Member → Result WithMembers BuildFault
with_member es scope m x =
    members_added es scope m.members
    (type_spec es m.lowered scope (declarator_at x.declarators.first) x.member_type) x.declarators

abbrev pub with_case_of : List Entry → ℕ → Switch → Cases → Case → Result Cases BuildFault
with_case_of es scope s c x =
    case_added es scope s c x.labels (λ v. type_spec es v scope (declarator_at x.declarator) x.member_type) x.declarator
