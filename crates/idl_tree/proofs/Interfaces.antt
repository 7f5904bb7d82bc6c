-- One interface for some tokens, its operations and attributes.
use Rattle.std.proofs.Common.{◌≡◌, ℕ, codes, Bool, true, false, List, [], ◌∷◌, ◌++◌, Option, Some, None, refl}
use Rattle.std.specs.List.{flat_map}
use Rattle.idl_lexer.specs.declared.token.Kind.TheVariants.{Ident, Keyword, Punct, Pragma as PragmaToken}
use Rattle.idl_tree.specs.declared.names.Leaf.{Leaf}
use Rattle.idl_tree.specs.declared.names.Listed.{Listed}
use Rattle.idl_tree.specs.declared.names.ScopedName.{ScopedName}
use Rattle.idl_tree.specs.declared.types.ParamType.{ParamType}
use Rattle.idl_tree.specs.declared.definitions.Attributes.{Attributes}
use Rattle.idl_tree.specs.declared.definitions.Attributes.TheVariants.{Silent, Readonly, Get, Set}
use Rattle.idl_tree.specs.declared.definitions.Attribute.{Attribute}
use Rattle.idl_tree.specs.declared.definitions.Direction.{Direction}
use Rattle.idl_tree.specs.declared.definitions.Direction.TheVariants.{In, Out, InOut}
use Rattle.idl_tree.specs.declared.definitions.Param.{Param}
use Rattle.idl_tree.specs.declared.definitions.Operation.{Operation}
use Rattle.idl_tree.specs.declared.definitions.Export.{Export}
use Rattle.idl_tree.specs.declared.definitions.Export.TheVariants as Exports
use Rattle.idl_tree.specs.declared.definitions.Interface.{Interface}
use Rattle.idl_tree.specs.declared.definitions.Interface.TheVariants.{Ahead, Defined}
use Rattle.idl_tree.specs.Pieces.{Piece, Seen, keyword, mark}
use Rattle.idl_tree.specs.Yields.{identifier, listed, optional, name_yield}
use Rattle.idl_tree.specs.DefinitionYields.{raises_yield, readonly_yield, is_readonly, attributes_yield, attribute_yield, direction_yield, param_yield, oneway_yield, result_yield, operation_yield, export_yield, bases_yield, interface_yield}
use Rattle.idl_tree.specs.Shapes.{optional_shape, listed_shape, name_shape, names_shape}
use Rattle.idl_tree.specs.TypeShapes.{param_type_shape}
use Rattle.idl_tree.specs.DefinitionShapes.{attributes_shape, attribute_shape, direction_shape, param_shape, operation_shape, export_shape, interface_shape}
use Rattle.idl_tree.proofs.Same.{Among, Avoids, Any, Leads, Same, Clash, fixed, so, under, then, then_so, ended, begun, next, closed, never, turned, clash, clash_on, clash_over, clash_behind, leads_none, leads_first, leads_to, leads_any, piece_among, piece_avoids, kept_among, apart, fewer, wider, leaves}
use Rattle.idl_tree.proofs.TreeLists.{Row, Commas, Maybe, same_row, same_listed, same_optional}
use Rattle.idl_tree.proofs.TreeNames.{NameEnds, same_name}
use Rattle.idl_tree.proofs.TreeTypes.{TypeEnds, ident_leads, params, param_type_begins, same_param_type, identifiers}
use Rattle.idl_tree.proofs.TreeMembers.{BraceEnds}
use Rattle.idl_tree.proofs.Declarations.{SemicolonEnds, declared, declaration_begins, same_declaration}

-- ---- names behind a word

abbrev pub NamesEnd : List Seen → Type 0
NamesEnd t = Avoids (18 ∷ 71 ∷ []) t

names : Commas name_yield name_shape NameEnds NamesEnd
names = record {
  one = same_name;
  more = λ t a. apart refl a;
  end = λ t a. fewer refl a;
  none = λ t a. fewer refl a;
}

same_raises : (word : List ℕ) (a b : Listed ScopedName) {S : List Seen → Type 0}
    → Same (raises_yield word a) (raises_yield word b) (names_shape a ≡ names_shape b) S
same_raises word a b = ended (mark (codes ")")) (begun (keyword word ++ mark (codes "(")) (same_listed names a b))
    (piece_avoids Punct (codes ")") _ refl)

pub raises_begin : (a : Listed ScopedName) → Leads (raises_yield (codes "raises") a) Any (Among (45 ∷ []))
raises_begin a = leads_first _ (leads_first _ (leads_first _ (piece_among Keyword (codes "raises") _ refl)))

pub getraises_begin : (a : Listed ScopedName) → Leads (raises_yield (codes "getraises") a) Any (Among (46 ∷ []))
getraises_begin a = leads_first _ (leads_first _ (leads_first _ (piece_among Keyword (codes "getraises") _ refl)))

pub setraises_begin : (a : Listed ScopedName) → Leads (raises_yield (codes "setraises") a) Any (Among (47 ∷ []))
setraises_begin a = leads_first _ (leads_first _ (leads_first _ (piece_among Keyword (codes "setraises") _ refl)))

-- ---- attributes

pub behind_first : (rest : List Leaf)
    → Leads (flat_map (λ x. mark (codes ",") ++ identifier x) rest) SemicolonEnds (Among (70 ∷ 71 ∷ []))
behind_first [] = leads_to (λ t. wider refl) leads_none
behind_first (x ∷ xs) = leads_first _ (leads_first _ (piece_among Punct (codes ",") _ refl))

setraises : Maybe (raises_yield (codes "setraises")) names_shape (47 ∷ []) SemicolonEnds
setraises = record {
  one = λ a b. same_raises (codes "setraises") a b;
  first = λ a. leads_any (setraises_begin a);
  none = λ t a. apart refl a;
}

silent_readonly : (ids : Listed Leaf) (id : Leaf) (raises : Listed ScopedName)
    → Clash (listed identifier ids) (identifier id ++ raises_yield (codes "raises") raises) SemicolonEnds
silent_readonly ids id raises =
    clash_behind (70 ∷ 71 ∷ []) (45 ∷ []) refl (leaves Ident ids.first id) (behind_first ids.rest.items)
    (raises_begin raises)

silent_get : (ids : Listed Leaf) (id : Leaf) (get : Listed ScopedName) (set : Option (Listed ScopedName))
    → Clash (listed identifier ids)
    (identifier id ++ raises_yield (codes "getraises") get ++ optional (raises_yield (codes "setraises")) set)
    SemicolonEnds
silent_get ids id get set =
    clash_on _ (clash_behind (70 ∷ 71 ∷ []) (46 ∷ []) refl (leaves Ident ids.first id) (behind_first ids.rest.items)
    (getraises_begin get))

silent_set : (ids : Listed Leaf) (id : Leaf) (set : Listed ScopedName)
    → Clash (listed identifier ids) (identifier id ++ raises_yield (codes "setraises") set) SemicolonEnds
silent_set ids id set = clash_behind (70 ∷ 71 ∷ []) (47 ∷ []) refl (leaves Ident ids.first id)
    (behind_first ids.rest.items) (setraises_begin set)

set_get : (a : Leaf) (get' : Listed ScopedName) (id : Leaf) (get : Listed ScopedName) (set : Option (Listed ScopedName))
    → Clash (identifier a ++ raises_yield (codes "setraises") get')
    (identifier id ++ raises_yield (codes "getraises") get ++ optional (raises_yield (codes "setraises")) set)
    SemicolonEnds
set_get a get' id get set =
    clash_on _ (clash_behind (47 ∷ []) (46 ∷ []) refl (leaves Ident a id) (leads_any (setraises_begin get'))
    (getraises_begin get))

-- attributes that are both readonly or both not
same_attributes : (a b : Attributes) → is_readonly a ≡ is_readonly b
    → Same (attributes_yield a) (attributes_yield b) (attributes_shape a ≡ attributes_shape b) SemicolonEnds
same_attributes (Silent x ids) (Silent y others) e =
    under (λ t a. apart refl a) (so (λ h. cc) (same_listed identifiers ids others))
same_attributes (Readonly a n) (Readonly b m) e =
    so (λ h. let x = h.0 in let y = h.1 in cc) (next (leaves Ident a b) (same_raises (codes "raises") n m))
same_attributes (Get a g s) (Get b h t) e =
    so (λ h. let x = h.0.0 in let y = h.0.1 in let z = h.1 in cc)
    (next (next (leaves Ident a b) (same_raises (codes "getraises") g h)) (same_optional setraises s t))
same_attributes (Set a s) (Set b t) e =
    so (λ h. let x = h.0 in let y = h.1 in cc) (next (leaves Ident a b) (same_raises (codes "setraises") s t))
same_attributes (Silent x ids) (Readonly b m) e = clash (silent_readonly ids b m)
same_attributes (Silent x ids) (Get b g s) e = clash (silent_get ids b g s)
same_attributes (Silent x ids) (Set b s) e = clash (silent_set ids b s)
same_attributes (Readonly b m) (Silent x ids) e = turned (λ h. h) (clash (silent_readonly ids b m))
same_attributes (Get b g s) (Silent x ids) e = turned (λ h. h) (clash (silent_get ids b g s))
same_attributes (Set b s) (Silent x ids) e = turned (λ h. h) (clash (silent_set ids b s))
same_attributes (Set a t) (Get b g s) e = clash (set_get a t b g s)
same_attributes (Get b g s) (Set a t) e = turned (λ h. h) (clash (set_get a t b g s))
same_attributes (Readonly b m) (Get a g s) e = absurd (cc)
same_attributes (Readonly b m) (Set a s) e = absurd (cc)
same_attributes (Get a g s) (Readonly b m) e = absurd (cc)
same_attributes (Set a s) (Readonly b m) e = absurd (cc)

attributes_begin : (a : Attributes) → Leads (attributes_yield a) Any (Among (17 ∷ []))
attributes_begin (Silent x ids) = leads_first _ (kept_among Ident _ ids.first _ refl)
attributes_begin (Readonly id n) = leads_first _ (kept_among Ident _ id _ refl)
attributes_begin (Get id g s) = leads_first _ (leads_first _ (kept_among Ident _ id _ refl))
attributes_begin (Set id s) = leads_first _ (kept_among Ident _ id _ refl)

pub attributes_lead : (a : Attributes) → Leads (attributes_yield a) SemicolonEnds TypeEnds
attributes_lead a = leads_any (leads_to (λ t. apart refl) (attributes_begin a))

same_flags : (a b : Bool)
    → Same (readonly_yield a ++ keyword (codes "attribute")) (readonly_yield b ++ keyword (codes "attribute")) (a ≡ b)
    Any
same_flags true true = so (λ u. refl) (fixed _)
same_flags false false = so (λ u. refl) (fixed _)
same_flags true false = never (30 ∷ []) (31 ∷ []) refl (leads_first _ (piece_among Keyword (codes "readonly") _ refl))
    (piece_among Keyword (codes "attribute") _ refl)
same_flags false true = never (31 ∷ []) (30 ∷ []) refl (piece_among Keyword (codes "attribute") _ refl)
    (leads_first _ (piece_among Keyword (codes "readonly") _ refl))

pub flag_begins : (a : Bool) → Leads (readonly_yield a ++ keyword (codes "attribute")) Any (Among (30 ∷ 31 ∷ []))
flag_begins true = leads_first _ (piece_among Keyword (codes "readonly") _ refl)
flag_begins false = piece_among Keyword (codes "attribute") _ refl

same_attribute : (a b : Attribute)
    → Same (attribute_yield a) (attribute_yield b) (attribute_shape a ≡ attribute_shape b) SemicolonEnds
same_attribute a b =
    so (λ h. let x = h.0.1 in let y = h.1 in cc)
    (then_so (next (same_flags (is_readonly a.declared) (is_readonly b.declared))
    (same_param_type a.attribute_type b.attribute_type))
    (attributes_lead a.declared) (attributes_lead b.declared) (λ h. same_attributes a.declared b.declared h.0))

pub attribute_begins : (a : Attribute) → Leads (attribute_yield a) Any (Among (30 ∷ 31 ∷ []))
attribute_begins a = leads_first _ (leads_first _ (flag_begins (is_readonly a.declared)))

-- ---- parameters

abbrev direction_starts : Direction → List ℕ
direction_starts In = 42 ∷ []
direction_starts Out = 43 ∷ []
direction_starts InOut = 44 ∷ []

direction_starts_are : (d : Direction) → Leads (direction_yield d) Any (Among (direction_starts d))
direction_starts_are In = piece_among Keyword (codes "in") _ refl
direction_starts_are Out = piece_among Keyword (codes "out") _ refl
direction_starts_are InOut = piece_among Keyword (codes "inout") _ refl

pub direction_begins : (d : Direction) → Leads (direction_yield d) Any (Among (42 ∷ 43 ∷ 44 ∷ []))
direction_begins In = piece_among Keyword (codes "in") _ refl
direction_begins Out = piece_among Keyword (codes "out") _ refl
direction_begins InOut = piece_among Keyword (codes "inout") _ refl

same_direction : (a b : Direction)
    → Same (direction_yield a) (direction_yield b) (direction_shape a ≡ direction_shape b) Any
same_direction In In = so (λ u. refl) (fixed _)
same_direction Out Out = so (λ u. refl) (fixed _)
same_direction InOut InOut = so (λ u. refl) (fixed _)
same_direction a b = never (direction_starts a) (direction_starts b) refl (direction_starts_are a)
    (direction_starts_are b)

same_param : (a b : Param) → Same (param_yield a) (param_yield b) (param_shape a ≡ param_shape b) Any
same_param a b =
    so (λ h. let x = h.0.0 in let y = h.0.1 in let z = h.1 in cc)
    (then (next (same_direction a.direction b.direction) (same_param_type a.param_type b.param_type))
    (ident_leads a.identifier) (ident_leads b.identifier) (leaves Ident a.identifier b.identifier))

param_list : Commas param_yield param_shape Any (Avoids (71 ∷ []))
param_list = record {
  one = same_param;
  more = λ t a. tt;
  end = λ t a. tt;
  none = λ t a. a;
}

parameters : Maybe (listed param_yield) (listed_shape param_shape) (42 ∷ 43 ∷ 44 ∷ []) (Among (74 ∷ []))
parameters = record {
  one = λ a b. under (λ t a. apart refl a) (same_listed param_list a b);
  first = λ a. leads_first _ (leads_first _ (leads_first _ (leads_any (direction_begins a.first.direction))));
  none = λ t a. apart refl a;
}

-- ---- operations

pub result_begins : (r : Option ParamType) → Leads (result_yield r) Any (Among (27 ∷ params))
result_begins None = piece_among Keyword (codes "void") _ refl
result_begins (Some t) = leads_to (λ t. wider refl) (param_type_begins t)

same_result : (a b : Option ParamType)
    → Same (result_yield a) (result_yield b) (optional_shape param_type_shape a ≡ optional_shape param_type_shape b)
    TypeEnds
same_result None None = so (λ u. refl) (fixed _)
same_result (Some t) (Some u) = so (λ h. cc) (same_param_type t u)
same_result None (Some u) =
    never (27 ∷ []) params refl (piece_among Keyword (codes "void") _ refl) (leads_any (param_type_begins u))
same_result (Some t) None =
    never params (27 ∷ []) refl (leads_any (param_type_begins t)) (piece_among Keyword (codes "void") _ refl)

same_oneway : (a b : Bool) (r s : Option ParamType)
    → Same (oneway_yield a ++ result_yield r) (oneway_yield b ++ result_yield s)
    ((a ≡ b) × (optional_shape param_type_shape r ≡ optional_shape param_type_shape s)) TypeEnds
same_oneway true true r s = so (λ h. (refl, h)) (begun (keyword (codes "oneway")) (same_result r s))
same_oneway false false r s = so (λ h. (refl, h)) (same_result r s)
same_oneway true false r s =
    never (28 ∷ []) (27 ∷ params) refl (leads_first _ (piece_among Keyword (codes "oneway") _ refl))
    (leads_any (result_begins s))
same_oneway false true r s =
    never (27 ∷ params) (28 ∷ []) refl (leads_any (result_begins r))
    (leads_first _ (piece_among Keyword (codes "oneway") _ refl))

abbrev pub operations : List ℕ
operations = 28 ∷ 27 ∷ params

oneway_begins : (a : Bool) (r : Option ParamType) → Leads (oneway_yield a ++ result_yield r) Any (Among operations)
oneway_begins true r = leads_first _ (piece_among Keyword (codes "oneway") _ refl)
oneway_begins false r = leads_to (λ t. wider refl) (result_begins r)

raises : Maybe (raises_yield (codes "raises")) names_shape (45 ∷ []) SemicolonEnds
raises = record {
  one = λ a b. same_raises (codes "raises") a b;
  first = λ a. leads_any (raises_begin a);
  none = λ t a. apart refl a;
}

same_operation : (a b : Operation)
    → Same (operation_yield a) (operation_yield b) (operation_shape a ≡ operation_shape b) SemicolonEnds
same_operation a b =
    so (λ h. let v = h.0.0.0.0 in let w = h.0.0.0.1 in let x = h.0.0.1 in let y = h.0.1 in let z = h.1 in cc)
    (next (ended (mark (codes ")"))
    (next (closed (mark (codes "(")) (then (same_oneway a.is_oneway b.is_oneway a.result_type b.result_type)
    (ident_leads a.identifier) (ident_leads b.identifier) (leaves Ident a.identifier b.identifier)))
    (same_optional parameters a.params b.params))
    (piece_among Punct (codes ")") _ refl)) (same_optional raises a.raises b.raises))

pub operation_begins : (o : Operation) → Leads (operation_yield o) Any (Among operations)
operation_begins o = leads_first _
    (leads_first _ (leads_first _ (leads_first _ (leads_first _ (oneway_begins o.is_oneway o.result_type)))))

-- ---- what stands in an interface

abbrev export_starts : Export → List ℕ
export_starts (Exports.Pragma p) = 32 ∷ []
export_starts (Exports.Declaration d) = declared
export_starts (Exports.Attribute a) = 30 ∷ 31 ∷ []
export_starts (Exports.Operation o) = operations

export_starts_are : (e : Export) → Leads (export_yield e) Any (Among (export_starts e))
export_starts_are (Exports.Pragma p) = kept_among PragmaToken _ p _ refl
export_starts_are (Exports.Declaration d) = leads_first _ (declaration_begins d)
export_starts_are (Exports.Attribute a) = leads_first _ (attribute_begins a)
export_starts_are (Exports.Operation o) = leads_first _ (operation_begins o)

abbrev pub exported : List ℕ
exported = 20 ∷ 21 ∷ 22 ∷ 23 ∷ 24 ∷ 25 ∷ 26 ∷ 28 ∷ 27 ∷ 30 ∷ 31 ∷ 32 ∷ params

pub export_begins : (e : Export) → Leads (export_yield e) Any (Among exported)
export_begins (Exports.Pragma p) = leads_to (λ t. wider refl) (export_starts_are (Exports.Pragma p))
export_begins (Exports.Declaration d) = leads_to (λ t. wider refl) (export_starts_are (Exports.Declaration d))
export_begins (Exports.Attribute a) = leads_to (λ t. wider refl) (export_starts_are (Exports.Attribute a))
export_begins (Exports.Operation o) = leads_to (λ t. wider refl) (export_starts_are (Exports.Operation o))

same_export : (a b : Export) → Same (export_yield a) (export_yield b) (export_shape a ≡ export_shape b) Any
same_export (Exports.Pragma p) (Exports.Pragma q) = so (λ h. cc) (leaves PragmaToken p q)
same_export (Exports.Declaration d) (Exports.Declaration e) =
    so (λ h. cc) (ended (mark (codes ";")) (same_declaration d e) (piece_among Punct (codes ";") _ refl))
same_export (Exports.Attribute a) (Exports.Attribute b) =
    so (λ h. cc) (ended (mark (codes ";")) (same_attribute a b) (piece_among Punct (codes ";") _ refl))
same_export (Exports.Operation o) (Exports.Operation p) =
    so (λ h. cc) (ended (mark (codes ";")) (same_operation o p) (piece_among Punct (codes ";") _ refl))
same_export a b = never (export_starts a) (export_starts b) refl (export_starts_are a) (export_starts_are b)

exports : Row export_yield export_shape exported Any BraceEnds
exports = record {
  one = same_export;
  first = export_begins;
  more = λ t a. tt;
  end = λ t a. tt;
  none = λ t a. apart refl a;
}

-- ---- interfaces

bases : Maybe bases_yield names_shape (75 ∷ []) (Among (72 ∷ []))
bases = record {
  one = λ a b. begun (mark (codes ":")) (under (λ t a. apart refl a) (same_listed names a b));
  first = λ a. leads_first _ (piece_among Punct (codes ":") _ refl);
  none = λ t a. apart refl a;
}

pub bases_begin : (b : Option (Listed ScopedName))
    → Leads (optional bases_yield b) (Among (72 ∷ [])) (Among (72 ∷ 75 ∷ []))
bases_begin None = leads_to (λ t. wider refl) leads_none
bases_begin (Some b) = leads_first _ (piece_among Punct (codes ":") _ refl)

ahead : (a id : Leaf) (b : Option (Listed ScopedName)) (more : List Piece)
    → Clash (keyword (codes "interface") ++ identifier a)
    (keyword (codes "interface") ++ identifier id ++ optional bases_yield b ++ mark (codes "{") ++ more
    ++ mark (codes "}")) SemicolonEnds
ahead a id b more =
    clash_on _ (clash_on _ (clash_over (mark (codes "{")) (λ t a. apart refl a)
    (begun (keyword (codes "interface")) (leaves Ident a id)) (bases_begin b)
    (piece_among Punct (codes "{") _ refl)))

pub same_interface : (a b : Interface)
    → Same (interface_yield a) (interface_yield b) (interface_shape a ≡ interface_shape b) SemicolonEnds
same_interface (Ahead a) (Ahead b) = so (λ h. cc) (begun (keyword (codes "interface")) (leaves Ident a b))
same_interface (Ahead a) (Defined b bs es) = clash (ahead a b bs (flat_map export_yield es.items))
same_interface (Defined b bs es) (Ahead a) = turned (λ h. h) (clash (ahead a b bs (flat_map export_yield es.items)))
same_interface (Defined a xs es) (Defined b ys fs) =
    so (λ h. let x = h.0.0 in let y = h.0.1 in let z = h.1 in cc)
    (ended (mark (codes "}"))
    (next (ended (mark (codes "{"))
    (next (begun (keyword (codes "interface")) (leaves Ident a b)) (same_optional bases xs ys))
    (piece_among Punct (codes "{") _ refl))
    (same_row exports es.items fs.items)) (piece_among Punct (codes "}") _ refl))

pub interface_begins : (a : Interface) → Leads (interface_yield a) Any (Among (33 ∷ []))
interface_begins (Ahead a) = leads_first _ (piece_among Keyword (codes "interface") _ refl)
interface_begins (Defined b bs es) =
    leads_first _ (leads_first _
    (leads_first _ (leads_first _ (leads_first _ (piece_among Keyword (codes "interface") _ refl)))))
