-- One type for some tokens: structures and unions, whose members may declare further types.
use Rattle.std.proofs.Common.{◌≡◌, ℕ, codes, List, [], ◌∷◌, ◌++◌, refl}
use Rattle.idl_lexer.specs.declared.token.Kind.TheVariants.{Ident, Keyword, Punct}
use Rattle.idl_tree.specs.declared.names.Leaf.{Leaf}
use Rattle.idl_tree.specs.declared.names.Listed.{Listed}
use Rattle.idl_tree.specs.declared.types.Declarator.{Declarator}
use Rattle.idl_tree.specs.declared.types.Label.{Label}
use Rattle.idl_tree.specs.declared.types.SwitchType.{SwitchType}
use Rattle.idl_tree.specs.declared.types.TypeSpec.{TypeSpec, Simple, Struct, Union, Enum}
use Rattle.idl_tree.specs.declared.types.StructType.{StructType, StructType', Row_of-Member, end_of-Member, more_of-Member}
use Rattle.idl_tree.specs.declared.types.UnionType.{UnionType, UnionType', Row_of-Case, end_of-Case, more_of-Case}
use Rattle.idl_tree.specs.Pieces.{Piece, Seen, keyword, mark}
use Rattle.idl_tree.specs.Yields.{identifier, listed, in_order}
use Rattle.idl_tree.specs.TypeYields.{declarator_yield, switch_yield, label_yield, type_yield, struct_yield, union_yield, members_yield, cases_yield, member_yield}
use Rattle.idl_tree.specs.Shapes.{Shape, Both, leaf_shape, listed_shape}
use Rattle.idl_tree.specs.TypeShapes.{declarator_shape, switch_shape, label_shape, type_shape, struct_shape, union_shape, members_shape, cases_shape, member_shape}
use Rattle.idl_tree.proofs.Same.{Among, Avoids, Any, Leads, Same, fixed, so, under, then, ended, begun, next, closed, never, contrary, turned, leads_none, leads_first, leads_to, leads_any, piece_among, piece_avoids, apart, wider, leaves}
use Rattle.idl_tree.proofs.TreeLists.{Row, same_in_order, same_listed}
use Rattle.idl_tree.proofs.TreeTypes.{TypeEnds, simples, simple_type_begins, same_simple_type, declarator_begins, same_declarator, declarators, declarators_begin, same_enum, enum_begins, same_switch, labels}

-- ---- what types begin with

pub struct_begins : (s : StructType) → Leads (struct_yield s) Any (Among (21 ∷ []))
struct_begins (StructType' id p t ds shape rest) =
    leads_first _ (leads_first _
    (leads_first _ (leads_first _ (leads_first _ (piece_among Keyword (codes "struct") _ refl)))))

pub union_begins : (u : UnionType) → Leads (union_yield u) Any (Among (22 ∷ []))
union_begins (UnionType' id switch p ls t d shape rest) =
    leads_first _ (leads_first _
    (leads_first _ (leads_first _
    (leads_first _ (leads_first _
    (leads_first _ (leads_first _ (leads_first _ (piece_among Keyword (codes "union") _ refl)))))))))

abbrev pub types : List ℕ
types = 21 ∷ 22 ∷ 23 ∷ simples

pub type_begins : (t : TypeSpec) → Leads (type_yield t) Any (Among types)
type_begins (Simple t) = leads_to (λ t. wider refl) (simple_type_begins t)
type_begins (Struct s) = leads_to (λ t. wider refl) (struct_begins s)
type_begins (Union u) = leads_to (λ t. wider refl) (union_begins u)
type_begins (Enum e) = leads_to (λ t. wider refl) (enum_begins e)

abbrev type_starts : TypeSpec → List ℕ
type_starts (Simple t) = simples
type_starts (Struct s) = 21 ∷ []
type_starts (Union u) = 22 ∷ []
type_starts (Enum e) = 23 ∷ []

type_starts_are : (t : TypeSpec) → Leads (type_yield t) Any (Among (type_starts t))
type_starts_are (Simple t) = simple_type_begins t
type_starts_are (Struct s) = struct_begins s
type_starts_are (Union u) = union_begins u
type_starts_are (Enum e) = enum_begins e

-- ---- a type, and any other one

abbrev pub IsOneType : TypeSpec → Type 0
IsOneType t = (u : TypeSpec) → Same (type_yield t) (type_yield u) (type_shape t ≡ type_shape u) TypeEnds

-- ---- members

abbrev pub line_yield : TypeSpec → Listed Declarator → List Piece
line_yield t ds = type_yield t ++ listed declarator_yield ds ++ mark (codes ";")

abbrev line_shape : TypeSpec → Listed Declarator → Shape
line_shape t ds = Both (type_shape t) (listed_shape declarator_shape ds)

pub behind_type : (ds : Listed Declarator) {S : List Seen → Type 0} → Leads (listed declarator_yield ds) S TypeEnds
behind_type ds = leads_any (leads_to (λ t. apart refl) (declarators_begin ds))

same_line : (t : TypeSpec) → IsOneType t
    → (ds : Listed Declarator) (u : TypeSpec) (es : Listed Declarator) {S : List Seen → Type 0}
    → Same (line_yield t ds) (line_yield u es) (line_shape t ds ≡ line_shape u es) S
same_line t one ds u es =
    so (λ h. let x = h.0 in let y = h.1 in cc)
    (ended (mark (codes ";")) (then (one u) (behind_type ds) (behind_type es) (same_listed declarators ds es))
    (piece_avoids Punct (codes ";") _ refl))

pub line_begins : (t : TypeSpec) (ds : Listed Declarator) → Leads (line_yield t ds) Any (Among types)
line_begins t ds = leads_first _ (leads_first _ (type_begins t))

-- what stands behind members: the closing brace
abbrev pub BraceEnds : List Seen → Type 0
BraceEnds t = Among (73 ∷ []) t

no_member : {n : _} (t : TypeSpec) (ds : Listed Declarator) (rest : Row_of-Member n) {P : Type 0}
    → Same [] (line_yield t ds ++ members_yield rest) P BraceEnds
no_member t ds rest = contrary (leads_to (λ t a. apart {ns = types} refl a) leads_none)
    (leads_first _ (line_begins t ds))

-- ---- cases

abbrev pub case_front : Listed Label → TypeSpec → Declarator → List Piece
case_front ls t d = in_order label_yield ls ++ type_yield t ++ declarator_yield d ++ mark (codes ";")

abbrev case_front_shape : Listed Label → TypeSpec → Declarator → Shape
case_front_shape ls t d = Both (Both (listed_shape label_shape ls) (type_shape t)) (declarator_shape d)

pub behind_labels : (t : TypeSpec) {S : List Seen → Type 0} → Leads (type_yield t) S (Avoids (40 ∷ 41 ∷ []))
behind_labels t = leads_any (leads_to (λ t. apart refl) (type_begins t))

pub behind_case_type : (d : Declarator) {S : List Seen → Type 0} → Leads (declarator_yield d) S TypeEnds
behind_case_type d = leads_any (leads_to (λ t. apart refl) (declarator_begins d))

same_case_front : (ls : Listed Label) (t : TypeSpec) → IsOneType t
    → (d : Declarator) (ks : Listed Label) (u : TypeSpec) (e : Declarator) {S : List Seen → Type 0}
    → Same (case_front ls t d) (case_front ks u e) (case_front_shape ls t d ≡ case_front_shape ks u e) S
same_case_front ls t one d ks u e =
    so (λ h. let x = h.0.0 in let y = h.0.1 in let z = h.1 in cc)
    (ended (mark (codes ";"))
    (then (then (same_in_order labels ls ks) (behind_labels t) (behind_labels u) (one u)) (behind_case_type d)
    (behind_case_type e) (same_declarator d e))
    (piece_avoids Punct (codes ";") _ refl))

pub case_begins : (ls : Listed Label) (t : TypeSpec) (d : Declarator)
    → Leads (case_front ls t d) Any (Among (40 ∷ 41 ∷ []))
case_begins ls t d = leads_first _ (leads_first _ (leads_first _ (leads_first _ (labels.first ls.first))))

no_case : {n : _} (ls : Listed Label) (t : TypeSpec) (d : Declarator) (rest : Row_of-Case n) {P : Type 0}
    → Same [] (case_front ls t d ++ cases_yield rest) P BraceEnds
no_case ls t d rest = contrary (leads_to (λ t a. apart {ns = 40 ∷ 41 ∷ []} refl a) leads_none)
    (leads_first _ (case_begins ls t d))

-- ---- what stands before the cases of a union

abbrev union_front : Leaf → SwitchType → List Piece
union_front id switch =
    keyword (codes "union") ++ identifier id ++ keyword (codes "switch") ++ mark (codes "(")
    ++ switch_yield switch ++ mark (codes ")") ++ mark (codes "{")

same_union_front : (a b : Leaf) (s r : SwitchType) {S : List Seen → Type 0}
    → Same (union_front a s) (union_front b r)
    (Both (leaf_shape a) (switch_shape s) ≡ Both (leaf_shape b) (switch_shape r)) S
same_union_front a b s r =
    so (λ h. let x = h.0 in let y = h.1 in cc)
    (closed (mark (codes "{"))
    (ended (mark (codes ")"))
    (next (closed (mark (codes "("))
    (closed (keyword (codes "switch")) (begun (keyword (codes "union")) (leaves Ident a b)))) (same_switch s r))
    (piece_avoids Punct (codes ")") _ refl)))

same_struct_front : (a b : Leaf) {S : List Seen → Type 0}
    → Same (keyword (codes "struct") ++ identifier a ++ mark (codes "{"))
    (keyword (codes "struct") ++ identifier b ++ mark (codes "{")) (leaf_shape a ≡ leaf_shape b) S
same_struct_front a b = closed (mark (codes "{")) (begun (keyword (codes "struct")) (leaves Ident a b))

-- ---- all of them

mutual
  -- in front of some tokens stands one type
  pub same_type : (t : TypeSpec) → IsOneType t
  same_type (Simple t) (Simple u) = so (λ h. cc) (same_simple_type t u)
  same_type (Struct s) (Struct r) = under (λ t s. tt) (so (λ h. cc) (same_struct s r))
  same_type (Union v) (Union w) = under (λ t s. tt) (so (λ h. cc) (same_union v w))
  same_type (Enum e) (Enum f) = so (λ h. cc) (same_enum e f)
  same_type t u = never (type_starts t) (type_starts u) refl (leads_any (type_starts_are t))
      (leads_any (type_starts_are u))

  pub same_struct : (a b : StructType) → Same (struct_yield a) (struct_yield b) (struct_shape a ≡ struct_shape b) Any
  same_struct (StructType' id p t ds shape rest) (StructType' id' p' u es shape' others) =
      so (λ h. let x = h.0.0 in let y = h.0.1 in let z = h.1 in cc)
      (ended (mark (codes "}"))
      (next (next (same_struct_front id id') (same_line t (same_type t) ds u es)) (same_members rest others))
      (piece_among Punct (codes "}") _ refl))

  same_members : {n m : _} (rest : Row_of-Member n) (others : Row_of-Member m)
      → Same (members_yield rest) (members_yield others) (members_shape rest ≡ members_shape others) BraceEnds
  same_members end_of-Member end_of-Member = so (λ u. refl) (fixed [])
  same_members end_of-Member (more_of-Member u es others) = no_member u es others
  same_members (more_of-Member t ds rest) end_of-Member = turned (λ h. h) (no_member t ds rest)
  same_members (more_of-Member t ds rest) (more_of-Member u es others) =
      so (λ h. let x = h.0 in let y = h.1 in cc) (next (same_line t (same_type t) ds u es) (same_members rest others))

  pub same_union : (a b : UnionType) → Same (union_yield a) (union_yield b) (union_shape a ≡ union_shape b) Any
  same_union (UnionType' id switch p ls t d shape rest) (UnionType' id' switch' p' ks u e shape' others) =
      so (λ h. let x = h.0.0 in let y = h.0.1 in let z = h.1 in cc)
      (ended (mark (codes "}"))
      (next (next (same_union_front id id' switch.value switch'.value)
      (same_case_front ls t (same_type t) d ks u e)) (same_cases rest others))
      (piece_among Punct (codes "}") _ refl))

  same_cases : {n m : _} (rest : Row_of-Case n) (others : Row_of-Case m)
      → Same (cases_yield rest) (cases_yield others) (cases_shape rest ≡ cases_shape others) BraceEnds
  same_cases end_of-Case end_of-Case = so (λ u. refl) (fixed [])
  same_cases end_of-Case (more_of-Case ks u e others) = no_case ks u e others
  same_cases (more_of-Case ls t d rest) end_of-Case = turned (λ h. h) (no_case ls t d rest)
  same_cases (more_of-Case ls t d rest) (more_of-Case ks u e others) =
      so (λ h. let x = h.0 in let y = h.1 in cc)
      (next (same_case_front ls t (same_type t) d ks u e) (same_cases rest others))

-- ---- the members of an exception

pub members : Row member_yield member_shape types Any BraceEnds
members = record {
  one = λ a b. same_line a.member_type (same_type a.member_type) a.declarators b.member_type b.declarators;
  first = λ a. line_begins a.member_type a.declarators;
  more = λ t a. tt;
  end = λ t a. tt;
  none = λ t a. apart refl a;
}
