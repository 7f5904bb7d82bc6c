-- One type for some tokens: types that hold no members.
use Rattle.std.proofs.Common.{◌≡◌, ℕ, codes, true, List, [], ◌∷◌, ◌++◌, Option, Some, None, refl}
use Rattle.idl_lexer.specs.declared.token.Kind.TheVariants.{Ident, Keyword, Punct}
use Rattle.idl_tree.specs.declared.names.Leaf.{Leaf}
use Rattle.idl_tree.specs.declared.names.Listed.{Listed}
use Rattle.idl_tree.specs.declared.const_expr.Bound.{Bound}
use Rattle.idl_tree.specs.declared.types.Integer.{Integer}
use Rattle.idl_tree.specs.declared.types.Integer.TheVariants.{Signed, Unsigned}
use Rattle.idl_tree.specs.declared.types.IntegerSize.{IntegerSize}
use Rattle.idl_tree.specs.declared.types.IntegerSize.TheVariants.{Short, Long, LongLong}
use Rattle.idl_tree.specs.declared.types.ConstType.{ConstType}
use Rattle.idl_tree.specs.declared.types.ConstType.TheVariants as ConstTypes
use Rattle.idl_tree.specs.declared.types.ParamType.{ParamType}
use Rattle.idl_tree.specs.declared.types.ParamType.TheVariants as ParamTypes
use Rattle.idl_tree.specs.declared.types.SimpleType.{SimpleType, Plain, Sequence'}
use Rattle.idl_tree.specs.declared.types.Declarator.{Declarator}
use Rattle.idl_tree.specs.declared.types.EnumType.{EnumType}
use Rattle.idl_tree.specs.declared.types.SwitchType.{SwitchType}
use Rattle.idl_tree.specs.declared.types.SwitchType.TheVariants as SwitchTypes
use Rattle.idl_tree.specs.declared.types.Label.{Label}
use Rattle.idl_tree.specs.declared.types.Label.TheVariants as Labels
use Rattle.idl_tree.specs.Pieces.{Seen, keyword, mark}
use Rattle.idl_tree.specs.Yields.{identifier, listed, optional}
use Rattle.idl_tree.specs.TypeYields.{integer_size_yield, integer_yield, string_bound_yield, const_type_yield, param_type_yield, sequence_bound_yield, simple_type_yield, size_yield, declarator_yield, enum_yield, switch_yield, label_yield}
use Rattle.idl_tree.specs.Shapes.{leaf_shape, bound_shape, const_expr_shape}
use Rattle.idl_tree.specs.TypeShapes.{integer_size_shape, integer_shape, const_type_shape, param_type_shape, simple_type_shape, declarator_shape, enum_shape, switch_shape, label_shape}
use Rattle.idl_tree.proofs.Same.{Among, Avoids, Any, Leads, Same, fixed, so, under, then, ended, begun, next, closed, never, longer, turned, leads_none, leads_first, leads_to, leads_any, piece_among, piece_avoids, kept_among, kept_avoids, apart, fewer, wider, leaves, leaves_of}
use Rattle.idl_tree.proofs.TreeLists.{Row, Commas, Maybe, same_row, same_listed, same_optional}
use Rattle.idl_tree.proofs.TreeNames.{same_name, name_begins}
use Rattle.idl_tree.proofs.Expressions.{bound_ended, mark_ends, bound_ends, same_const_expr, same_bound}

-- what can't stand behind a type: long, ::, <
abbrev pub TypeEnds : List Seen → Type 0
TypeEnds t = Avoids (11 ∷ 18 ∷ 79 ∷ []) t

-- an identifier can stand there
pub ident_leads : (l : Leaf) {S : List Seen → Type 0} → Leads (identifier l) S TypeEnds
ident_leads l = kept_avoids Ident _ l _ refl

-- ---- integers

pub size_begins : (a : IntegerSize) → Leads (integer_size_yield a) Any (Among (10 ∷ 11 ∷ []))
size_begins Short = piece_among Keyword (codes "short") _ refl
size_begins Long = piece_among Keyword (codes "long") _ refl
size_begins LongLong = leads_first _ (piece_among Keyword (codes "long") _ refl)

same_size : (a b : IntegerSize)
    → Same (integer_size_yield a) (integer_size_yield b) (integer_size_shape a ≡ integer_size_shape b)
    (Avoids (11 ∷ []))
same_size Short Short = so (λ u. refl) (fixed _)
same_size Long Long = so (λ u. refl) (fixed _)
same_size LongLong LongLong = so (λ u. refl) (fixed _)
same_size Short Long = never (10 ∷ []) (11 ∷ []) refl (piece_among Keyword (codes "short") _ refl)
    (piece_among Keyword (codes "long") _ refl)
same_size Short LongLong =
    never (10 ∷ []) (11 ∷ []) refl (piece_among Keyword (codes "short") _ refl)
    (leads_first _ (piece_among Keyword (codes "long") _ refl))
same_size Long Short = never (11 ∷ []) (10 ∷ []) refl (piece_among Keyword (codes "long") _ refl)
    (piece_among Keyword (codes "short") _ refl)
same_size LongLong Short = never (11 ∷ []) (10 ∷ []) refl (leads_first _ (piece_among Keyword (codes "long") _ refl))
    (piece_among Keyword (codes "short") _ refl)
same_size Long LongLong = longer _ (λ t s. s) (fixed _) (piece_among Keyword (codes "long") _ refl)
same_size LongLong Long = turned (λ h. h) (longer _ (λ t s. s) (fixed _) (piece_among Keyword (codes "long") _ refl))

pub integer_begins : (a : Integer) → Leads (integer_yield a) Any (Among (10 ∷ 11 ∷ 12 ∷ []))
integer_begins (Signed s) = leads_to (λ t. wider refl) (size_begins s)
integer_begins (Unsigned s) = leads_first _ (piece_among Keyword (codes "unsigned") _ refl)

pub same_integer : (a b : Integer)
    → Same (integer_yield a) (integer_yield b) (integer_shape a ≡ integer_shape b) (Avoids (11 ∷ []))
same_integer (Signed s) (Signed r) = so (λ h. cc) (same_size s r)
same_integer (Unsigned s) (Unsigned r) = so (λ h. cc) (begun (keyword (codes "unsigned")) (same_size s r))
same_integer (Signed s) (Unsigned r) =
    never (10 ∷ 11 ∷ []) (12 ∷ []) refl (leads_any (size_begins s))
    (leads_first _ (piece_among Keyword (codes "unsigned") _ refl))
same_integer (Unsigned s) (Signed r) =
    never (12 ∷ []) (10 ∷ 11 ∷ []) refl (leads_first _ (piece_among Keyword (codes "unsigned") _ refl))
    (leads_any (size_begins r))

-- ---- types of constants

string_bounds : Maybe string_bound_yield bound_shape (79 ∷ []) TypeEnds
string_bounds = record {
  one = λ a b. ended (mark (codes ">")) (begun (mark (codes "<")) (same_bound a b)) (bound_ends (codes ">") 0 refl);
  first = λ a. leads_first _ (leads_first _ (piece_among Punct (codes "<") _ refl));
  none = λ t ends. fewer refl ends;
}

abbrev const_starts : ConstType → List ℕ
const_starts (ConstTypes.Integer i) = 10 ∷ 11 ∷ 12 ∷ []
const_starts ConstTypes.Char = 13 ∷ []
const_starts ConstTypes.Boolean = 14 ∷ []
const_starts ConstTypes.Octet = 15 ∷ []
const_starts (ConstTypes.String bound) = 16 ∷ []
const_starts (ConstTypes.Name n) = 17 ∷ 18 ∷ []

const_starts_are : (a : ConstType) → Leads (const_type_yield a) Any (Among (const_starts a))
const_starts_are (ConstTypes.Integer i) = integer_begins i
const_starts_are ConstTypes.Char = piece_among Keyword (codes "char") _ refl
const_starts_are ConstTypes.Boolean = piece_among Keyword (codes "boolean") _ refl
const_starts_are ConstTypes.Octet = piece_among Keyword (codes "octet") _ refl
const_starts_are (ConstTypes.String bound) = leads_first _ (piece_among Keyword (codes "string") _ refl)
const_starts_are (ConstTypes.Name n) = name_begins n

abbrev pub consts : List ℕ
consts = 10 ∷ 11 ∷ 12 ∷ 13 ∷ 14 ∷ 15 ∷ 16 ∷ 17 ∷ 18 ∷ []

pub const_type_begins : (a : ConstType) → Leads (const_type_yield a) Any (Among consts)
const_type_begins (ConstTypes.Integer i) = leads_to (λ t. wider refl) (integer_begins i)
const_type_begins ConstTypes.Char = piece_among Keyword (codes "char") _ refl
const_type_begins ConstTypes.Boolean = piece_among Keyword (codes "boolean") _ refl
const_type_begins ConstTypes.Octet = piece_among Keyword (codes "octet") _ refl
const_type_begins (ConstTypes.String bound) = leads_first _ (piece_among Keyword (codes "string") _ refl)
const_type_begins (ConstTypes.Name n) = leads_to (λ t. wider refl) (name_begins n)

pub same_const_type : (a b : ConstType)
    → Same (const_type_yield a) (const_type_yield b) (const_type_shape a ≡ const_type_shape b) TypeEnds
same_const_type (ConstTypes.Integer i) (ConstTypes.Integer j) =
    under (λ t. fewer refl) (so (λ h. cc) (same_integer i j))
same_const_type ConstTypes.Char ConstTypes.Char = so (λ u. refl) (fixed _)
same_const_type ConstTypes.Boolean ConstTypes.Boolean = so (λ u. refl) (fixed _)
same_const_type ConstTypes.Octet ConstTypes.Octet = so (λ u. refl) (fixed _)
same_const_type (ConstTypes.String a) (ConstTypes.String b) =
    so (λ h. cc) (begun (keyword (codes "string")) (same_optional string_bounds a b))
same_const_type (ConstTypes.Name n) (ConstTypes.Name m) = under (λ t. fewer refl) (so (λ h. cc) (same_name n m))
same_const_type a b = never (const_starts a) (const_starts b) refl (leads_any (const_starts_are a))
    (leads_any (const_starts_are b))

-- ---- types of parameters

abbrev pub params : List ℕ
params = 19 ∷ consts

pub param_type_begins : (a : ParamType) → Leads (param_type_yield a) Any (Among params)
param_type_begins (ParamTypes.Plain t) = leads_to (λ t. wider refl) (const_type_begins t)
param_type_begins ParamTypes.Object = piece_among Keyword (codes "Object") _ refl

pub same_param_type : (a b : ParamType)
    → Same (param_type_yield a) (param_type_yield b) (param_type_shape a ≡ param_type_shape b) TypeEnds
same_param_type (ParamTypes.Plain t) (ParamTypes.Plain u) = so (λ h. cc) (same_const_type t u)
same_param_type ParamTypes.Object ParamTypes.Object = so (λ u. refl) (fixed _)
same_param_type (ParamTypes.Plain t) ParamTypes.Object =
    never consts (19 ∷ []) refl (leads_any (const_type_begins t)) (piece_among Keyword (codes "Object") _ refl)
same_param_type ParamTypes.Object (ParamTypes.Plain u) =
    never (19 ∷ []) consts refl (piece_among Keyword (codes "Object") _ refl) (leads_any (const_type_begins u))

-- ---- sequences

abbrev pub simples : List ℕ
simples = 20 ∷ params

pub simple_type_begins : (a : SimpleType) → Leads (simple_type_yield a) Any (Among simples)
simple_type_begins (Plain t) = leads_to (λ t. wider refl) (param_type_begins t)
simple_type_begins (Sequence' p element bound) =
    leads_first _ (leads_first _ (leads_first _ (leads_first _ (piece_among Keyword (codes "sequence") _ refl))))

sequence_bounds : Maybe sequence_bound_yield bound_shape (71 ∷ []) (Among (64 ∷ []))
sequence_bounds = record {
  one = λ a b. under (λ t ends. bound_ended 0 t (apart refl ends)) (begun (mark (codes ",")) (same_bound a b));
  first = λ a. leads_first _ (piece_among Punct (codes ",") _ refl);
  none = λ t ends. apart refl ends;
}

behind_element : (bound : Option Bound) → Leads (optional sequence_bound_yield bound) (Among (64 ∷ [])) TypeEnds
behind_element None = leads_to (λ t. apart refl) leads_none
behind_element (Some b) = leads_first _ (leads_to (λ t a. apart refl a) (piece_among Punct (codes ",") (71 ∷ []) refl))

pub same_simple_type : (a b : SimpleType)
    → Same (simple_type_yield a) (simple_type_yield b) (simple_type_shape a ≡ simple_type_shape b) TypeEnds
same_simple_type (Plain t) (Plain u) = so (λ h. cc) (same_param_type t u)
same_simple_type (Sequence' p e b) (Sequence' q f c) =
    so (λ h. let x = h.0 in let y = h.1 in cc)
    (ended (mark (codes ">"))
    (then (begun (keyword (codes "sequence") ++ mark (codes "<")) (same_simple_type e f)) (behind_element b)
    (behind_element c) (same_optional sequence_bounds b c))
    (piece_among Punct (codes ">") _ refl))
same_simple_type (Plain t) (Sequence' q f c) =
    never params (20 ∷ []) refl (leads_any (param_type_begins t))
    (leads_first _ (leads_first _ (leads_first _ (leads_first _ (piece_among Keyword (codes "sequence") _ refl)))))
same_simple_type (Sequence' p e b) (Plain u) =
    never (20 ∷ []) params refl
    (leads_first _ (leads_first _ (leads_first _ (leads_first _ (piece_among Keyword (codes "sequence") _ refl)))))
    (leads_any (param_type_begins u))

-- ---- declarators

abbrev pub DeclaratorEnds : List Seen → Type 0
DeclaratorEnds t = Avoids (77 ∷ []) t

abbrev pub DeclaratorsEnd : List Seen → Type 0
DeclaratorsEnd t = Avoids (71 ∷ 77 ∷ []) t

sizes : Row size_yield const_expr_shape (77 ∷ []) Any DeclaratorEnds
sizes = record {
  one = λ a b. ended (mark (codes "]")) (begun (mark (codes "[")) (same_const_expr a b))
      (mark_ends (codes "]") true 0 refl);
  first = λ a. leads_first _ (leads_first _ (piece_among Punct (codes "[") _ refl));
  more = λ t a. tt;
  end = λ t a. tt;
  none = λ t a. a;
}

pub declarator_begins : (d : Declarator) → Leads (declarator_yield d) Any (Among (17 ∷ []))
declarator_begins d = leads_first _ (kept_among Ident _ d.identifier _ refl)

pub same_declarator : (a b : Declarator)
    → Same (declarator_yield a) (declarator_yield b) (declarator_shape a ≡ declarator_shape b) DeclaratorEnds
same_declarator a b =
    so (λ h. let x = h.0 in let y = h.1 in cc)
    (next (leaves Ident a.identifier b.identifier) (same_row sizes a.sizes.items b.sizes.items))

pub declarators : Commas declarator_yield declarator_shape DeclaratorEnds DeclaratorsEnd
declarators = record {
  one = same_declarator;
  more = λ t a. apart refl a;
  end = λ t a. fewer refl a;
  none = λ t a. fewer refl a;
}

pub declarators_begin : (ds : Listed Declarator) → Leads (listed declarator_yield ds) Any (Among (17 ∷ []))
declarators_begin ds = leads_first _ (declarator_begins ds.first)

-- ---- enumerations

abbrev pub CommaEnds : List Seen → Type 0
CommaEnds t = Avoids (71 ∷ []) t

pub identifiers : Commas identifier leaf_shape Any (Avoids (71 ∷ []))
identifiers = record {
  one = λ a b. leaves Ident a b;
  more = λ t a. tt;
  end = λ t a. tt;
  none = λ t a. a;
}

pub same_enum : (a b : EnumType) {S : List Seen → Type 0}
    → Same (enum_yield a) (enum_yield b) (enum_shape a ≡ enum_shape b) S
same_enum a b =
    so (λ h. let x = h.0 in let y = h.1 in cc)
    (ended (mark (codes "}"))
    (next (closed (mark (codes "{")) (begun (keyword (codes "enum")) (leaves Ident a.identifier b.identifier)))
    (same_listed identifiers a.enumerators.value b.enumerators.value))
    (piece_avoids Punct (codes "}") _ refl))

pub enum_begins : (a : EnumType) → Leads (enum_yield a) Any (Among (23 ∷ []))
enum_begins a = leads_first _
    (leads_first _ (leads_first _ (leads_first _ (piece_among Keyword (codes "enum") _ refl))))

-- ---- the types of discriminators

abbrev switch_starts : SwitchType → List ℕ
switch_starts (SwitchTypes.Integer i) = 10 ∷ 11 ∷ 12 ∷ []
switch_starts SwitchTypes.Char = 13 ∷ []
switch_starts SwitchTypes.Boolean = 14 ∷ []
switch_starts (SwitchTypes.Enum e) = 23 ∷ []
switch_starts (SwitchTypes.Name n) = 17 ∷ 18 ∷ []

switch_begins : (a : SwitchType) → Leads (switch_yield a) Any (Among (switch_starts a))
switch_begins (SwitchTypes.Integer i) = integer_begins i
switch_begins SwitchTypes.Char = piece_among Keyword (codes "char") _ refl
switch_begins SwitchTypes.Boolean = piece_among Keyword (codes "boolean") _ refl
switch_begins (SwitchTypes.Enum e) = enum_begins e
switch_begins (SwitchTypes.Name n) = name_begins n

pub same_switch : (a b : SwitchType) → Same (switch_yield a) (switch_yield b) (switch_shape a ≡ switch_shape b) TypeEnds
same_switch (SwitchTypes.Integer i) (SwitchTypes.Integer j) = under (λ t. fewer refl) (so (λ h. cc) (same_integer i j))
same_switch SwitchTypes.Char SwitchTypes.Char = so (λ u. refl) (fixed _)
same_switch SwitchTypes.Boolean SwitchTypes.Boolean = so (λ u. refl) (fixed _)
same_switch (SwitchTypes.Enum e) (SwitchTypes.Enum f) = so (λ h. cc) (same_enum e f)
same_switch (SwitchTypes.Name n) (SwitchTypes.Name m) = under (λ t. fewer refl) (so (λ h. cc) (same_name n m))
same_switch a b = never (switch_starts a) (switch_starts b) refl (leads_any (switch_begins a))
    (leads_any (switch_begins b))

-- ---- labels

abbrev label_starts : Label → List ℕ
label_starts (Labels.Case e) = 40 ∷ []
label_starts (Labels.Default l) = 41 ∷ []

label_starts_are : (a : Label) → Leads (label_yield a) Any (Among (label_starts a))
label_starts_are (Labels.Case e) = leads_first _ (leads_first _ (piece_among Keyword (codes "case") _ refl))
label_starts_are (Labels.Default l) = leads_first _ (kept_among Keyword (codes "default") l _ refl)

pub label_begins : (a : Label) → Leads (label_yield a) Any (Among (40 ∷ 41 ∷ []))
label_begins (Labels.Case e) = leads_to (λ t. wider refl) (label_starts_are (Labels.Case e))
label_begins (Labels.Default l) = leads_to (λ t. wider refl) (label_starts_are (Labels.Default l))

same_label : (a b : Label) {S : List Seen → Type 0}
    → Same (label_yield a) (label_yield b) (label_shape a ≡ label_shape b) S
same_label (Labels.Case e) (Labels.Case f) =
    so (λ h. cc) (ended (mark (codes ":")) (begun (keyword (codes "case")) (same_const_expr e f))
    (mark_ends (codes ":") true 0 refl))
same_label (Labels.Default l) (Labels.Default k) =
    so (λ h. cc) (closed (mark (codes ":")) (leaves_of Keyword (codes "default") (codes "default") l k))
same_label a b = never (label_starts a) (label_starts b) refl (leads_any (label_starts_are a))
    (leads_any (label_starts_are b))

pub labels : Row label_yield label_shape (40 ∷ 41 ∷ []) Any (Avoids (40 ∷ 41 ∷ []))
labels = record {
  one = λ a b. same_label a b;
  first = label_begins;
  more = λ t a. tt;
  end = λ t a. tt;
  none = λ t a. a;
}
