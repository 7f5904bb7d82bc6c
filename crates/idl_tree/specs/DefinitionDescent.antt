-- How one goes over tokens looking one token ahead: of definitions. Only what is declared ahead is told by its third
-- token.
use Rattle.std.specs.Prelude.{ℕ, zero, suc, Bool, true, false, ◌&&◌, ◌||◌, not, List, [], ◌∷◌, Some, None, codes}
use Rattle.idl_lexer.specs.declared.token.Kind.TheVariants.{Pragma}
use Rattle.idl_tree.specs.Pieces.{Seen}
use Rattle.idl_tree.specs.Descent.{Way, sees_kind, taken_kind, and_then, where_seen, opened, repeated, word_taken, mark_taken, sees_word, sees_mark, listed_way, rest_way, identifier_way, named_way, name_way, expr_way, const_type_way, param_type_way, declarators_way, enum_way, no_brace, member_way, braced_way, struct_way, union_way, type_way}

-- ---- types, constants and exceptions

-- a semicolon is the third token
unfoldable pub is_ahead : List Seen → Bool
is_ahead [] = false
is_ahead (a ∷ []) = false
is_ahead (a ∷ b ∷ ts) = sees_mark (codes ";") ts

abbrev pub typedef_way : ℕ → List Seen → Way
typedef_way room t =
    and_then (word_taken (codes "typedef") t) (λ u. and_then (type_way room u) (λ v. declarators_way room v))

abbrev pub struct_dcl_way : ℕ → List Seen → Way
struct_dcl_way room t =
    where_seen (is_ahead t) (named_way (codes "struct") t)
    (opened room (λ left. struct_way (λ u. type_way left u) left t))

abbrev pub union_dcl_way : ℕ → List Seen → Way
union_dcl_way room t =
    where_seen (is_ahead t) (named_way (codes "union") t)
    (opened room (λ left. union_way (λ u. type_way left u) left t))

unfoldable pub type_dcl_way : ℕ → List Seen → Way
type_dcl_way room t =
    where_seen (sees_word (codes "struct") t) (struct_dcl_way room t)
    (where_seen (sees_word (codes "union") t) (union_dcl_way room t)
    (where_seen (sees_word (codes "enum") t) (enum_way room t) (typedef_way room t)))

unfoldable pub const_way : ℕ → List Seen → Way
const_way room t =
    and_then (word_taken (codes "const") t) (λ u. and_then (const_type_way room u) (λ v. and_then (identifier_way v)
    (λ w. and_then (mark_taken (codes "=") w) (λ x. expr_way true room x))))

abbrev pub except_members_way : ℕ → List Seen → Way
except_members_way room t =
    where_seen (sees_mark (codes "}") t) (mark_taken (codes "}") t)
    (braced_way (λ u. member_way (λ v. type_way room v) room u) t)

unfoldable pub except_way : ℕ → List Seen → Way
except_way room t =
    and_then (named_way (codes "exception") t)
    (λ u. and_then (mark_taken (codes "{") u) (λ v. except_members_way room v))

unfoldable pub declaration_way : ℕ → List Seen → Way
declaration_way room t =
    where_seen (sees_word (codes "const") t) (const_way room t)
    (where_seen (sees_word (codes "exception") t) (except_way room t) (type_dcl_way room t))

abbrev pub sees_declaration : List Seen → Bool
sees_declaration t =
    sees_word (codes "typedef") t || sees_word (codes "struct") t || sees_word (codes "union") t
    || sees_word (codes "enum") t || sees_word (codes "const") t || sees_word (codes "exception") t

-- ---- attributes and operations

abbrev pub names_way : List Seen → Way
names_way t = listed_way (λ u. name_way u) t

abbrev pub raises_way : List ℕ → List Seen → Way
raises_way word t =
    where_seen (sees_word word t)
    (and_then (word_taken word t) (λ u. and_then (mark_taken (codes "(") u)
    (λ v. and_then (names_way v) (λ w. mark_taken (codes ")") w))))
    (Some t)

unfoldable pub attributes_way : Bool → List Seen → Way
attributes_way true t =
    and_then (identifier_way t) (λ u. where_seen (sees_mark (codes ",") u) (rest_way (λ v. identifier_way v) u)
    (raises_way (codes "raises") u))
attributes_way false t =
    and_then (identifier_way t) (λ u. where_seen (sees_mark (codes ",") u) (rest_way (λ v. identifier_way v) u)
    (and_then (raises_way (codes "getraises") u) (λ v. raises_way (codes "setraises") v)))

abbrev pub readonly_way : List Seen → Way
readonly_way t = where_seen (sees_word (codes "readonly") t) (word_taken (codes "readonly") t) (Some t)

unfoldable pub attribute_way : ℕ → List Seen → Way
attribute_way room t =
    and_then (readonly_way t) (λ u. and_then (word_taken (codes "attribute") u) (λ v. and_then (param_type_way room v)
    (λ w. attributes_way (sees_word (codes "readonly") t) w)))

abbrev pub direction_way : List Seen → Way
direction_way t =
    where_seen (sees_word (codes "inout") t) (word_taken (codes "inout") t)
    (where_seen (sees_word (codes "out") t) (word_taken (codes "out") t) (word_taken (codes "in") t))

unfoldable pub param_way : ℕ → List Seen → Way
param_way room t =
    and_then (direction_way t) (λ u. and_then (param_type_way room u) (λ v. identifier_way v))

abbrev pub params_way : ℕ → List Seen → Way
params_way room t =
    where_seen (sees_mark (codes ")") t) (Some t) (listed_way (λ u. param_way room u) t)

abbrev pub oneway_way : List Seen → Way
oneway_way t = where_seen (sees_word (codes "oneway") t) (word_taken (codes "oneway") t) (Some t)

abbrev pub result_way : ℕ → List Seen → Way
result_way room t =
    where_seen (sees_word (codes "void") t) (word_taken (codes "void") t) (param_type_way room t)

unfoldable pub operation_way : ℕ → List Seen → Way
operation_way room t =
    and_then (oneway_way t) (λ u. and_then (result_way room u) (λ v. and_then (identifier_way v)
    (λ w. and_then (mark_taken (codes "(") w) (λ x. and_then (params_way room x)
    (λ y. and_then (mark_taken (codes ")") y) (λ z. raises_way (codes "raises") z))))))

-- ---- interfaces

abbrev pub ended_way : (List Seen → Way) → List Seen → Way
ended_way part t = and_then (part t) (λ u. mark_taken (codes ";") u)

unfoldable pub export_way : ℕ → List Seen → Way
export_way room t =
    where_seen (sees_kind Pragma t) (taken_kind Pragma t)
    (where_seen (sees_declaration t) (ended_way (λ u. declaration_way room u) t)
    (where_seen (sees_word (codes "readonly") t || sees_word (codes "attribute") t)
    (ended_way (λ u. attribute_way room u) t)
    (ended_way (λ u. operation_way room u) t)))

abbrev pub exports_way : ℕ → List Seen → Way
exports_way room t =
    and_then (mark_taken (codes "{") t) (λ u. and_then (repeated no_brace (λ v. export_way room v) u u)
    (λ v. mark_taken (codes "}") v))

abbrev pub bases_way : List Seen → Way
bases_way t =
    where_seen (sees_mark (codes ":") t) (and_then (mark_taken (codes ":") t) (λ u. names_way u)) (Some t)

unfoldable pub interface_way : ℕ → List Seen → Way
interface_way room t =
    and_then (named_way (codes "interface") t) (λ u. where_seen (sees_mark (codes ";") u) (mark_taken (codes ";") u)
    (and_then (bases_way u) (λ v. and_then (exports_way room v) (λ w. mark_taken (codes ";") w))))

-- ---- definitions and modules

unfoldable pub single_way : ℕ → List Seen → Way
single_way room t =
    where_seen (sees_kind Pragma t) (taken_kind Pragma t)
    (where_seen (sees_word (codes "interface") t) (interface_way room t)
    (where_seen (sees_declaration t) (ended_way (λ u. declaration_way room u) t) None))

abbrev pub is_over : List Seen → Bool
is_over [] = true
is_over (t ∷ ts) = false

abbrev pub goes_on : List Seen → Bool
goes_on t = not (is_over t) && not (sees_mark (codes "}") t)

unfoldable pub definition_way : ℕ → List Seen → Way
definition_way zero t = where_seen (sees_word (codes "module") t) None (single_way 0 t)
definition_way (suc left) t =
    where_seen (sees_word (codes "module") t)
    (and_then (named_way (codes "module") t) (λ u. and_then (mark_taken (codes "{") u)
    (λ v. and_then (repeated goes_on (λ w. definition_way left w) v v)
    (λ w. and_then (mark_taken (codes "}") w) (λ x. mark_taken (codes ";") x)))))
    (single_way (suc left) t)

-- definitions up to a closing brace or the end
abbrev pub definitions_way : ℕ → List Seen → Way
definitions_way room t = repeated goes_on (λ u. definition_way room u) t t
