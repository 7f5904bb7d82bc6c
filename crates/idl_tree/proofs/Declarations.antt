-- One declaration for some tokens: types, constants and exceptions.
use Rattle.std.proofs.Common.{◌≡◌, ℕ, codes, true, List, [], ◌∷◌, ◌++◌, refl}
use Rattle.idl_lexer.specs.declared.token.Kind.TheVariants.{Ident, Keyword, Punct}
use Rattle.idl_tree.specs.declared.names.Leaf.{Leaf}
use Rattle.idl_tree.specs.declared.types.StructType.{StructType, StructType'}
use Rattle.idl_tree.specs.declared.types.UnionType.{UnionType, UnionType'}
use Rattle.idl_tree.specs.declared.definitions.TypeDcl.{TypeDcl}
use Rattle.idl_tree.specs.declared.definitions.TypeDcl.TheVariants as TypeDcls
use Rattle.idl_tree.specs.declared.definitions.Const.{Const}
use Rattle.idl_tree.specs.declared.definitions.Except.{Except}
use Rattle.idl_tree.specs.declared.definitions.Declaration.{Declaration}
use Rattle.idl_tree.specs.declared.definitions.Declaration.TheVariants as Declarations
use Rattle.idl_tree.specs.Pieces.{Seen, keyword, mark}
use Rattle.idl_tree.specs.Yields.{identifier}
use Rattle.idl_tree.specs.TypeYields.{struct_yield, union_yield}
use Rattle.idl_tree.specs.DefinitionYields.{type_dcl_yield, const_yield, except_yield, declaration_yield}
use Rattle.idl_tree.specs.DefinitionShapes.{type_dcl_shape, const_shape, except_shape, declaration_shape}
use Rattle.idl_tree.proofs.Same.{Among, Any, Leads, Same, Clash, so, under, then, ended, begun, next, closed, never, turned, clash, clash_on, clash_longer, leads_first, leads_to, leads_any, piece_among, apart, wider, leaves}
use Rattle.idl_tree.proofs.TreeLists.{same_row, same_listed}
use Rattle.idl_tree.proofs.Expressions.{expr_ended, same_const_expr}
use Rattle.idl_tree.proofs.TreeTypes.{ident_leads, same_const_type, declarators, same_enum, enum_begins}
use Rattle.idl_tree.proofs.TreeMembers.{struct_begins, union_begins, behind_type, same_type, same_struct, same_union, members}

-- what stands behind a declaration: ;
abbrev pub SemicolonEnds : List Seen → Type 0
SemicolonEnds t = Among (70 ∷ []) t

-- ---- what is declared ahead is no front of a definition

struct_ahead : (id : Leaf) (s : StructType)
    → Clash (keyword (codes "struct") ++ identifier id) (struct_yield s) SemicolonEnds
struct_ahead id (StructType' other p t ds shape rest) =
    clash_on _ (clash_on _ (clash_on _
    (clash_longer (mark (codes "{")) (λ t a. apart refl a)
    (begun (keyword (codes "struct")) (leaves Ident id other)) (piece_among Punct (codes "{") (72 ∷ []) refl))))

union_ahead : (id : Leaf) (u : UnionType)
    → Clash (keyword (codes "union") ++ identifier id) (union_yield u) SemicolonEnds
union_ahead id (UnionType' other switch p ls t d shape rest) =
    clash_on _ (clash_on _ (clash_on _
    (clash_on _ (clash_on _ (clash_on _ (clash_on _ (clash_longer (keyword (codes "switch")) (λ t a. apart refl a)
    (begun (keyword (codes "union")) (leaves Ident id other))
    (piece_among Keyword (codes "switch") (48 ∷ []) refl))))))))

-- ---- types

abbrev type_dcl_starts : TypeDcl → List ℕ
type_dcl_starts (TypeDcls.Typedef t ds) = 24 ∷ []
type_dcl_starts (TypeDcls.Struct s) = 21 ∷ []
type_dcl_starts (TypeDcls.Union u) = 22 ∷ []
type_dcl_starts (TypeDcls.Enum e) = 23 ∷ []
type_dcl_starts (TypeDcls.StructAhead id) = 21 ∷ []
type_dcl_starts (TypeDcls.UnionAhead id) = 22 ∷ []

type_dcl_begins : (t : TypeDcl) → Leads (type_dcl_yield t) Any (Among (type_dcl_starts t))
type_dcl_begins (TypeDcls.Typedef t ds) = leads_first _ (leads_first _ (piece_among Keyword (codes "typedef") _ refl))
type_dcl_begins (TypeDcls.Struct s) = struct_begins s
type_dcl_begins (TypeDcls.Union u) = union_begins u
type_dcl_begins (TypeDcls.Enum e) = enum_begins e
type_dcl_begins (TypeDcls.StructAhead id) = leads_first _ (piece_among Keyword (codes "struct") _ refl)
type_dcl_begins (TypeDcls.UnionAhead id) = leads_first _ (piece_among Keyword (codes "union") _ refl)

same_type_dcl : (a b : TypeDcl)
    → Same (type_dcl_yield a) (type_dcl_yield b) (type_dcl_shape a ≡ type_dcl_shape b) SemicolonEnds
same_type_dcl (TypeDcls.Typedef t ds) (TypeDcls.Typedef u es) =
    under (λ t a. apart refl a)
    (so (λ h. let x = h.0 in let y = h.1 in cc)
    (then (begun (keyword (codes "typedef")) (same_type t u)) (behind_type ds) (behind_type es)
    (same_listed declarators ds es)))
same_type_dcl (TypeDcls.Struct s) (TypeDcls.Struct r) = under (λ t a. tt) (so (λ h. cc) (same_struct s r))
same_type_dcl (TypeDcls.Union u) (TypeDcls.Union v) = under (λ t a. tt) (so (λ h. cc) (same_union u v))
same_type_dcl (TypeDcls.Enum e) (TypeDcls.Enum f) = so (λ h. cc) (same_enum e f)
same_type_dcl (TypeDcls.StructAhead id) (TypeDcls.StructAhead other) =
    so (λ h. cc) (begun (keyword (codes "struct")) (leaves Ident id other))
same_type_dcl (TypeDcls.UnionAhead id) (TypeDcls.UnionAhead other) =
    so (λ h. cc) (begun (keyword (codes "union")) (leaves Ident id other))
same_type_dcl (TypeDcls.StructAhead id) (TypeDcls.Struct s) = clash (struct_ahead id s)
same_type_dcl (TypeDcls.Struct s) (TypeDcls.StructAhead id) = turned (λ h. h) (clash (struct_ahead id s))
same_type_dcl (TypeDcls.UnionAhead id) (TypeDcls.Union u) = clash (union_ahead id u)
same_type_dcl (TypeDcls.Union u) (TypeDcls.UnionAhead id) = turned (λ h. h) (clash (union_ahead id u))
same_type_dcl a b = never (type_dcl_starts a) (type_dcl_starts b) refl (leads_any (type_dcl_begins a))
    (leads_any (type_dcl_begins b))

-- ---- constants and exceptions

same_const : (a b : Const) → Same (const_yield a) (const_yield b) (const_shape a ≡ const_shape b) SemicolonEnds
same_const a b =
    under (λ t e. expr_ended true 0 t (apart refl e))
    (so (λ h. let x = h.0.0 in let y = h.0.1 in let z = h.1 in cc)
    (next (closed (mark (codes "="))
    (then (begun (keyword (codes "const")) (same_const_type a.const_type b.const_type)) (ident_leads a.identifier)
    (ident_leads b.identifier)
    (leaves Ident a.identifier b.identifier))) (same_const_expr a.value b.value)))

same_except : (a b : Except) {S : List Seen → Type 0}
    → Same (except_yield a) (except_yield b) (except_shape a ≡ except_shape b) S
same_except a b =
    so (λ h. let x = h.0 in let y = h.1 in cc)
    (ended (mark (codes "}"))
    (next (closed (mark (codes "{")) (begun (keyword (codes "exception")) (leaves Ident a.identifier b.identifier)))
    (same_row members a.members.items b.members.items))
    (piece_among Punct (codes "}") _ refl))

-- ---- all three

abbrev declaration_starts : Declaration → List ℕ
declaration_starts (Declarations.TypeDcl t) = 21 ∷ 22 ∷ 23 ∷ 24 ∷ []
declaration_starts (Declarations.Const c) = 25 ∷ []
declaration_starts (Declarations.Except e) = 26 ∷ []

pub const_begins : (c : Const) → Leads (const_yield c) Any (Among (25 ∷ []))
const_begins c = leads_first _
    (leads_first _ (leads_first _ (leads_first _ (piece_among Keyword (codes "const") _ refl))))

pub except_begins : (e : Except) → Leads (except_yield e) Any (Among (26 ∷ []))
except_begins e = leads_first _
    (leads_first _ (leads_first _ (leads_first _ (piece_among Keyword (codes "exception") _ refl))))

pub type_dcl_begins_so : (t : TypeDcl) → Leads (type_dcl_yield t) Any (Among (21 ∷ 22 ∷ 23 ∷ 24 ∷ []))
type_dcl_begins_so (TypeDcls.Typedef t ds) = leads_to (λ t. wider refl) (type_dcl_begins (TypeDcls.Typedef t ds))
type_dcl_begins_so (TypeDcls.Struct s) = leads_to (λ t. wider refl) (struct_begins s)
type_dcl_begins_so (TypeDcls.Union u) = leads_to (λ t. wider refl) (union_begins u)
type_dcl_begins_so (TypeDcls.Enum e) = leads_to (λ t. wider refl) (enum_begins e)
type_dcl_begins_so (TypeDcls.StructAhead id) = leads_to (λ t. wider refl) (type_dcl_begins (TypeDcls.StructAhead id))
type_dcl_begins_so (TypeDcls.UnionAhead id) = leads_to (λ t. wider refl) (type_dcl_begins (TypeDcls.UnionAhead id))

declaration_starts_are : (d : Declaration) → Leads (declaration_yield d) Any (Among (declaration_starts d))
declaration_starts_are (Declarations.TypeDcl t) = type_dcl_begins_so t
declaration_starts_are (Declarations.Const c) = const_begins c
declaration_starts_are (Declarations.Except e) = except_begins e

abbrev pub declared : List ℕ
declared = 21 ∷ 22 ∷ 23 ∷ 24 ∷ 25 ∷ 26 ∷ []

pub declaration_begins : (d : Declaration) → Leads (declaration_yield d) Any (Among declared)
declaration_begins (Declarations.TypeDcl t) = leads_to (λ t. wider refl) (type_dcl_begins_so t)
declaration_begins (Declarations.Const c) = leads_to (λ t. wider refl) (const_begins c)
declaration_begins (Declarations.Except e) = leads_to (λ t. wider refl) (except_begins e)

pub same_declaration : (a b : Declaration)
    → Same (declaration_yield a) (declaration_yield b) (declaration_shape a ≡ declaration_shape b) SemicolonEnds
same_declaration (Declarations.TypeDcl t) (Declarations.TypeDcl u) = so (λ h. cc) (same_type_dcl t u)
same_declaration (Declarations.Const c) (Declarations.Const d) = so (λ h. cc) (same_const c d)
same_declaration (Declarations.Except e) (Declarations.Except f) = so (λ h. cc) (same_except e f)
same_declaration a b = never (declaration_starts a) (declaration_starts b) refl (leads_any (declaration_starts_are a))
    (leads_any (declaration_starts_are b))
