-- How one goes over tokens looking one token ahead, part by part: which tokens are left behind a part, if one is there
-- that has no more levels than there is room for. Of names, expressions and types.
use Rattle.std.specs.Prelude.{ℕ, zero, suc, ◌-◌, Bool, true, false, ◌&&◌, ◌||◌, not, nat_eq, List, [], ◌∷◌, Option, Some, None, is_some, codes}
use Rattle.std.specs.Str.{bytes_eq}
use Rattle.idl_lexer.specs.declared.token.Kind.{Kind}
use Rattle.idl_lexer.specs.declared.token.Kind.TheVariants.{Ident, Keyword, Punct, Number, CharLit, TextLit}
use Rattle.idl_tree.specs.Pieces.{Seen, kind_code}
use Rattle.idl_tree.specs.Yields.{operator_text}
use Rattle.idl_tree.specs.Grouping.{is_operator_of}
use Rattle.idl_tree.specs.declared.expression.Operator.{Operator}
use Rattle.idl_tree.specs.declared.expression.Operator.TheVariants.{Or, Xor, And, ShiftLeft, ShiftRight, Add, Subtract, Multiply, Divide, Remainder}

abbrev pub Way : Type 0
Way = Option (List Seen)

-- ---- steps

-- the next token has the kind
unfoldable pub sees_kind : Kind → List Seen → Bool
sees_kind kind [] = false
sees_kind kind (t ∷ ts) = nat_eq (kind_code kind) (kind_code t.kind)

-- the next token has the kind and the text
unfoldable pub sees : Kind → List ℕ → List Seen → Bool
sees kind text [] = false
sees kind text (t ∷ ts) = nat_eq (kind_code kind) (kind_code t.kind) && bytes_eq text t.text

-- the next token has the kind and the text, and the one behind it touches it
unfoldable pub sees_touching : List ℕ → List Seen → Bool
sees_touching text [] = false
sees_touching text (t ∷ ts) = nat_eq (kind_code Punct) (kind_code t.kind) && bytes_eq text t.text && t.touches

unfoldable pub behind_next : List Seen → Way
behind_next [] = None
behind_next (t ∷ ts) = Some ts

unfoldable pub only_if : Bool → Way → Way
only_if true way = way
only_if false way = None

abbrev pub taken : Kind → List ℕ → List Seen → Way
taken kind text t = only_if (sees kind text t) (behind_next t)

abbrev pub taken_kind : Kind → List Seen → Way
taken_kind kind t = only_if (sees_kind kind t) (behind_next t)

abbrev pub taken_touching : List ℕ → List Seen → Way
taken_touching text t = only_if (sees_touching text t) (behind_next t)

-- the second behind the first
unfoldable pub and_then : Way → (List Seen → Way) → Way
and_then None more = None
and_then (Some t) more = more t

unfoldable pub where_seen : Bool → Way → Way → Way
where_seen true on off = on
where_seen false on off = off

-- inside a level, where there is room for one
unfoldable pub opened : ℕ → (ℕ → Way) → Way
opened zero inside = None
opened (suc left) inside = inside left

-- parts as long as there is one; `fuel` is as long as the tokens at the beginning
unfoldable pub repeated : (List Seen → Bool) → (List Seen → Way) → List Seen → List Seen → Way
repeated goes one [] t = where_seen (goes t) None (Some t)
repeated goes one (f ∷ fuel) t = where_seen (goes t) (and_then (one t) (λ u. repeated goes one fuel u)) (Some t)

abbrev pub word_taken : List ℕ → List Seen → Way
word_taken text t = taken Keyword text t

abbrev pub mark_taken : List ℕ → List Seen → Way
mark_taken text t = taken Punct text t

abbrev pub sees_word : List ℕ → List Seen → Bool
sees_word text t = sees Keyword text t

abbrev pub sees_mark : List ℕ → List Seen → Bool
sees_mark text t = sees Punct text t

-- ---- lists with commas

abbrev pub rest_way : (List Seen → Way) → List Seen → Way
rest_way part t = repeated (sees_mark (codes ",")) (λ u. and_then (mark_taken (codes ",") u) (λ v. part v)) t t

abbrev pub listed_way : (List Seen → Way) → List Seen → Way
listed_way part t = and_then (part t) (λ u. rest_way part u)

abbrev pub identifier_way : List Seen → Way
identifier_way t = taken_kind Ident t

-- a word and an identifier
abbrev pub named_way : List ℕ → List Seen → Way
named_way word t = and_then (word_taken word t) (λ u. identifier_way u)

-- the same with a brace that opens a level
abbrev pub opened_way : List ℕ → ℕ → List Seen → Way
opened_way word room t = and_then (named_way word t) (λ u. opened room (λ left. mark_taken (codes "{") u))

-- ---- names

abbrev pub root_way : List Seen → Way
root_way t = where_seen (sees_mark (codes "::") t) (mark_taken (codes "::") t) (Some t)

abbrev pub parts_way : List Seen → Way
parts_way t = repeated (sees_mark (codes "::")) (λ u. and_then (mark_taken (codes "::") u) (λ v. identifier_way v)) t t

unfoldable pub name_way : List Seen → Way
name_way t = and_then (root_way t) (λ u. and_then (identifier_way u) (λ v. parts_way v))

-- ---- expressions

abbrev pub texts_way : List Seen → Way
texts_way t = repeated (sees_kind TextLit) (λ u. taken_kind TextLit u) t t

abbrev pub text_way : List Seen → Way
text_way t = and_then (taken_kind TextLit t) (λ u. texts_way u)

abbrev pub boolean_way : List Seen → Way
boolean_way t =
    where_seen (sees_word (codes "TRUE") t) (word_taken (codes "TRUE") t) (word_taken (codes "FALSE") t)

unfoldable pub atom_way : List Seen → Way
atom_way t =
    where_seen (sees_kind Number t) (taken_kind Number t)
    (where_seen (sees_kind CharLit t) (taken_kind CharLit t)
    (where_seen (sees_kind TextLit t) (text_way t)
    (where_seen (sees_kind Keyword t) (boolean_way t) (name_way t))))

-- `inner` leads over what stands in parentheses
abbrev pub primary_way : (List Seen → Way) → List Seen → Way
primary_way inner t =
    where_seen (sees_mark (codes "(") t)
    (and_then (mark_taken (codes "(") t) (λ u. and_then (inner u) (λ v. mark_taken (codes ")") v))) (atom_way t)

abbrev pub sees_sign : List Seen → Bool
sees_sign t = sees_mark (codes "-") t || sees_mark (codes "+") t

abbrev pub unary_way : (List Seen → Way) → List Seen → Way
unary_way inner t =
    where_seen (sees_sign t) (and_then (behind_next t) (λ u. primary_way inner u)) (primary_way inner t)

-- two marks that make a right shift
abbrev pub sees_shift : List Seen → Bool
sees_shift [] = false
sees_shift (t ∷ ts) = sees_touching (codes ">") (t ∷ ts) && sees_mark (codes ">") ts

abbrev pub operator_seen : Operator → List Seen → Bool
operator_seen ShiftRight t = sees_shift t
operator_seen o t = sees_mark (operator_text o) t

abbrev pub if_seen : Bool → Operator → Option Operator → Option Operator
if_seen true o other = Some o
if_seen false o other = other

abbrev pub first_seen : Bool → ℕ → List Operator → List Seen → Option Operator
first_seen shifts level [] t = None
first_seen shifts level (o ∷ os) t =
    if_seen (is_operator_of shifts level o && operator_seen o t) o (first_seen shifts level os t)

-- the operator of a level that is next
unfoldable pub operator_at : Bool → ℕ → List Seen → Option Operator
operator_at shifts level t =
    first_seen shifts level
    (Or ∷ Xor ∷ And ∷ ShiftLeft ∷ ShiftRight ∷ Add ∷ Subtract ∷ Multiply ∷ Divide ∷ Remainder ∷ []) t

abbrev pub operator_way : Operator → List Seen → Way
operator_way ShiftRight t = and_then (taken_touching (codes ">") t) (λ u. mark_taken (codes ">") u)
operator_way o t = mark_taken (operator_text o) t

-- an operator and the operand behind it
abbrev pub operand_way : (List Seen → Way) → Option Operator → List Seen → Way
operand_way tighter None t = None
operand_way tighter (Some o) t = and_then (operator_way o t) (λ u. tighter u)

abbrev pub operands_way : (List Seen → Way) → Bool → ℕ → List Seen → Way
operands_way tighter shifts level t =
    repeated (λ u. is_some (operator_at shifts level u)) (λ u. operand_way tighter (operator_at shifts level u) u) t t

-- the levels of operators from the one on that is so many above the operands; the loosest is 6 above
unfoldable pub level_way : (List Seen → Way) → Bool → ℕ → List Seen → Way
level_way inner shifts zero t = unary_way inner t
level_way inner shifts (suc n) t =
    and_then (level_way inner shifts n t) (λ u. operands_way (λ v. level_way inner shifts n v) shifts (5 - n) u)

-- an expression in parentheses, where there is room for so many
unfoldable pub inside_way : ℕ → List Seen → Way
inside_way zero t = None
inside_way (suc left) t = level_way (λ u. inside_way left u) true 6 t

abbrev pub expr_way : Bool → ℕ → List Seen → Way
expr_way shifts room t = level_way (λ u. inside_way room u) shifts 6 t

-- ---- types

abbrev pub integer_size_way : List Seen → Way
integer_size_way t =
    where_seen (sees_word (codes "short") t) (word_taken (codes "short") t)
    (and_then (word_taken (codes "long") t)
    (λ u. where_seen (sees_word (codes "long") u) (word_taken (codes "long") u) (Some u)))

unfoldable pub integer_way : List Seen → Way
integer_way t =
    where_seen (sees_word (codes "unsigned") t)
    (and_then (word_taken (codes "unsigned") t) (λ u. integer_size_way u)) (integer_size_way t)

abbrev pub sees_integer : List Seen → Bool
sees_integer t = sees_word (codes "short") t || sees_word (codes "long") t || sees_word (codes "unsigned") t

abbrev pub string_bound_way : ℕ → List Seen → Way
string_bound_way room t =
    where_seen (sees_mark (codes "<") t)
    (and_then (mark_taken (codes "<") t)
    (λ u. and_then (expr_way false room u) (λ v. mark_taken (codes ">") v))) (Some t)

unfoldable pub const_type_way : ℕ → List Seen → Way
const_type_way room t =
    where_seen (sees_integer t) (integer_way t)
    (where_seen (sees_word (codes "char") t) (word_taken (codes "char") t)
    (where_seen (sees_word (codes "boolean") t) (word_taken (codes "boolean") t)
    (where_seen (sees_word (codes "octet") t) (word_taken (codes "octet") t)
    (where_seen (sees_word (codes "string") t) (and_then (word_taken (codes "string") t) (λ u. string_bound_way room u))
    (name_way t)))))

unfoldable pub param_type_way : ℕ → List Seen → Way
param_type_way room t =
    where_seen (sees_word (codes "Object") t) (word_taken (codes "Object") t) (const_type_way room t)

abbrev pub open_sequence_way : List Seen → Way
open_sequence_way t = and_then (word_taken (codes "sequence") t) (λ u. mark_taken (codes "<") u)

abbrev pub end_sequence_way : ℕ → List Seen → Way
end_sequence_way room t =
    where_seen (sees_mark (codes ">") t) (mark_taken (codes ">") t)
    (and_then (mark_taken (codes ",") t) (λ u. and_then (expr_way false room u) (λ v. mark_taken (codes ">") v)))

unfoldable pub simple_type_way : ℕ → List Seen → Way
simple_type_way zero t = where_seen (sees_word (codes "sequence") t) None (param_type_way 0 t)
simple_type_way (suc left) t =
    where_seen (sees_word (codes "sequence") t)
    (and_then (open_sequence_way t) (λ u. and_then (simple_type_way left u) (λ v. end_sequence_way left v)))
    (param_type_way (suc left) t)

abbrev pub size_way : ℕ → List Seen → Way
size_way room t =
    and_then (mark_taken (codes "[") t) (λ u. and_then (expr_way true room u) (λ v. mark_taken (codes "]") v))

abbrev pub sizes_way : ℕ → List Seen → Way
sizes_way room t = repeated (sees_mark (codes "[")) (λ u. size_way room u) t t

unfoldable pub declarator_way : ℕ → List Seen → Way
declarator_way room t = and_then (identifier_way t) (λ u. sizes_way room u)

abbrev pub declarators_way : ℕ → List Seen → Way
declarators_way room t = listed_way (λ u. declarator_way room u) t

abbrev pub enum_way : ℕ → List Seen → Way
enum_way room t =
    and_then (opened_way (codes "enum") room t)
    (λ u. and_then (listed_way (λ v. identifier_way v) u) (λ v. mark_taken (codes "}") v))

unfoldable pub switch_way : ℕ → List Seen → Way
switch_way room t =
    where_seen (sees_word (codes "enum") t) (enum_way room t)
    (where_seen (sees_integer t) (integer_way t)
    (where_seen (sees_word (codes "char") t) (word_taken (codes "char") t)
    (where_seen (sees_word (codes "boolean") t) (word_taken (codes "boolean") t) (name_way t))))

unfoldable pub label_way : ℕ → List Seen → Way
label_way room t =
    where_seen (sees_word (codes "case") t)
    (and_then (word_taken (codes "case") t) (λ u. and_then (expr_way true room u) (λ v. mark_taken (codes ":") v)))
    (and_then (word_taken (codes "default") t) (λ u. mark_taken (codes ":") u))

abbrev pub sees_label : List Seen → Bool
sees_label t = sees_word (codes "case") t || sees_word (codes "default") t

abbrev pub labels_way : ℕ → List Seen → Way
labels_way room t = and_then (label_way room t) (λ u. repeated sees_label (λ v. label_way room v) u u)

-- ---- structures and unions; `inner` leads over the type of a member

abbrev pub member_way : (List Seen → Way) → ℕ → List Seen → Way
member_way inner room t =
    and_then (inner t) (λ u. and_then (declarators_way room u) (λ v. mark_taken (codes ";") v))

abbrev pub no_brace : List Seen → Bool
no_brace t = not (sees_mark (codes "}") t)

-- parts, one or more, and the closing brace
abbrev pub braced_way : (List Seen → Way) → List Seen → Way
braced_way part t =
    and_then (part t) (λ u. and_then (repeated no_brace (λ v. part v) u u) (λ v. mark_taken (codes "}") v))

abbrev pub struct_way : (List Seen → Way) → ℕ → List Seen → Way
struct_way inner room t =
    and_then (named_way (codes "struct") t) (λ u. and_then (mark_taken (codes "{") u)
    (λ v. braced_way (λ w. member_way inner room w) v))

abbrev pub case_way : (List Seen → Way) → ℕ → List Seen → Way
case_way inner room t =
    and_then (labels_way room t) (λ u. and_then (inner u) (λ v. and_then (declarator_way room v)
    (λ w. mark_taken (codes ";") w)))

abbrev pub union_name_way : List Seen → Way
union_name_way t =
    and_then (named_way (codes "union") t)
    (λ u. and_then (word_taken (codes "switch") u) (λ v. mark_taken (codes "(") v))

abbrev pub union_way : (List Seen → Way) → ℕ → List Seen → Way
union_way inner room t =
    and_then (union_name_way t) (λ u. and_then (switch_way room u) (λ v. and_then (mark_taken (codes ")") v)
    (λ w. and_then (mark_taken (codes "{") w) (λ x. braced_way (λ y. case_way inner room y) x))))

unfoldable pub type_way : ℕ → List Seen → Way
type_way zero t =
    where_seen (sees_word (codes "struct") t) None (where_seen (sees_word (codes "union") t) None
    (where_seen (sees_word (codes "enum") t) None (simple_type_way 0 t)))
type_way (suc left) t =
    where_seen (sees_word (codes "struct") t) (struct_way (λ u. type_way left u) left t)
    (where_seen (sees_word (codes "union") t) (union_way (λ u. type_way left u) left t)
    (where_seen (sees_word (codes "enum") t) (enum_way (suc left) t) (simple_type_way (suc left) t)))
