-- The ways over types lead over each type.
use Rattle.std.proofs.Common.{◌≡◌, ◌∙◌, ℕ, suc, zero, ◌≤◌, ◌<◌, codes, true, false, List, [], ◌∷◌, ◌++◌, Option, Some, None, subst, sym, refl, arith, append_assoc}
use Rattle.idl_lexer.specs.declared.token.Kind.TheVariants.{Ident, Keyword, Punct}
use Rattle.idl_tree.specs.declared.names.Leaf.{Leaf}
use Rattle.idl_tree.specs.declared.names.Listed.{Listed}
use Rattle.idl_tree.specs.declared.const_expr.Bound.{Bound}
use Rattle.idl_tree.specs.declared.types.Integer.{Integer}
use Rattle.idl_tree.specs.declared.types.Integer.TheVariants.{Signed, Unsigned}
use Rattle.idl_tree.specs.declared.types.IntegerSize.{IntegerSize}
use Rattle.idl_tree.specs.declared.types.IntegerSize.TheVariants.{Short, Long, LongLong}
use Rattle.idl_tree.specs.declared.types.ConstType.{ConstType}
use Rattle.idl_tree.specs.declared.types.ConstType.TheVariants as ConstTypes
use Rattle.idl_tree.specs.declared.types.ParamType.{ParamType}
use Rattle.idl_tree.specs.declared.types.ParamType.TheVariants as ParamTypes
use Rattle.idl_tree.specs.declared.types.SimpleType.{SimpleType, Plain, Sequence'}
use Rattle.idl_tree.specs.declared.types.Declarator.{Declarator}
use Rattle.idl_tree.specs.declared.types.EnumType.{EnumType}
use Rattle.idl_tree.specs.declared.types.SwitchType.{SwitchType}
use Rattle.idl_tree.specs.declared.types.SwitchType.TheVariants as SwitchTypes
use Rattle.idl_tree.specs.declared.types.Label.{Label}
use Rattle.idl_tree.specs.declared.types.Label.TheVariants as Labels
use Rattle.idl_tree.specs.Pieces.{Piece, Seen, keyword, mark}
use Rattle.idl_tree.specs.Yields.{identifier, listed, in_order, optional}
use Rattle.idl_tree.specs.TypeYields.{integer_size_yield, integer_yield, string_bound_yield, const_type_yield, param_type_yield, sequence_bound_yield, simple_type_yield, size_yield, declarator_yield, enum_yield, switch_yield, label_yield}
use Rattle.idl_tree.specs.Levels.{highest_listed, optional_levels, const_expr_levels, bound_levels}
use Rattle.idl_tree.specs.TypeLevels.{const_type_levels, param_type_levels, simple_type_levels, declarator_levels, switch_levels, label_levels}
use Rattle.idl_tree.specs.Descent.{Way, sees_mark, mark_taken, opened, listed_way, identifier_way, named_way, opened_way, integer_size_way, integer_way, sees_integer, string_bound_way, const_type_way, param_type_way, open_sequence_way, end_sequence_way, simple_type_way, size_way, declarator_way, declarators_way, enum_way, switch_way, label_way, sees_label, labels_way}
use Rattle.idl_tree.proofs.Fronts.{number_of}
use Rattle.idl_tree.proofs.Same.{is_in, Among, Avoids, Any, Leads, leads_first, leads_any, piece_among, piece_avoids, kept_among, apart, fewer}
use Rattle.idl_tree.proofs.TreeNames.{name_begins}
use Rattle.idl_tree.proofs.Expressions.{mark_ends, bound_ends}
use Rattle.idl_tree.proofs.TreeTypes.{TypeEnds, integer_begins, size_begins, const_type_begins, param_type_begins, DeclaratorEnds, DeclaratorsEnd, label_begins}
use Rattle.idl_tree.proofs.Takes.{Takes, alone_takes, shows_left, shows_right, shows_neither, or_false, front, front_next, last, last_next, takes_under, takes_none, Shows, shows_first, shows_none, avoided, hides, choose, pass, piece_takes, piece_shows, kept_takes, kept_shows, leaf_takes, Repeats, takes_repeated, none_high, Listings, takes_listed}
use Rattle.idl_tree.proofs.NameWays.{takes_name}
use Rattle.idl_tree.proofs.ExprWays.{takes_const_expr, takes_bound}

-- ---- integers

takes_size : (a : IntegerSize) → Takes (integer_size_yield a) integer_size_way (Avoids (11 ∷ []))
takes_size Short = choose _ (piece_shows Keyword (codes "short")) (piece_takes Keyword (codes "short"))
takes_size LongLong =
    pass _ (shows_first _ (hides Keyword (codes "short") refl (piece_among Keyword (codes "long") (11 ∷ []) refl)))
    (last_next (front (piece_takes Keyword (codes "long")))
    (choose _ (piece_shows Keyword (codes "long")) (piece_takes Keyword (codes "long"))))
takes_size Long =
    pass _ (hides Keyword (codes "short") refl (piece_among Keyword (codes "long") (11 ∷ []) refl))
    (alone_takes (piece_takes Keyword (codes "long"))
    (pass _ (shows_none (λ t a. avoided Keyword (codes "long") (11 ∷ []) t refl a)) takes_none))

pub takes_integer : (a : Integer) → Takes (integer_yield a) integer_way (Avoids (11 ∷ []))
unfolding integer_way
takes_integer (Signed s) = pass _ (hides Keyword (codes "unsigned") refl (leads_any (size_begins s))) (takes_size s)
takes_integer (Unsigned s) =
    choose _ (shows_first _ (piece_shows Keyword (codes "unsigned")))
    (last_next (front (piece_takes Keyword (codes "unsigned"))) (takes_size s))

size_shows : (a : IntegerSize) {S : List Seen → Type 0} → Shows (integer_size_yield a) S sees_integer true
size_shows Short = shows_left _ (shows_left _ (piece_shows Keyword (codes "short")))
size_shows Long = shows_left _ (shows_right _ (piece_shows Keyword (codes "long")))
size_shows LongLong = shows_first _ (shows_left _ (shows_right _ (piece_shows Keyword (codes "long"))))

integer_shows : (a : Integer) {S : List Seen → Type 0} → Shows (integer_yield a) S sees_integer true
integer_shows (Signed s) = size_shows s
integer_shows (Unsigned s) = shows_first _ (shows_right _ (piece_shows Keyword (codes "unsigned")))

no_integer : {x : List Piece} {ms : List ℕ} {S : List Seen → Type 0} → is_in ms 10 ≡ false → is_in ms 11 ≡ false
    → is_in ms 12 ≡ false → Leads x S (Among ms) → Shows x S sees_integer false
no_integer a b c f = shows_neither
    (shows_neither (hides Keyword (codes "short") a f) (hides Keyword (codes "long") b f))
    (hides Keyword (codes "unsigned") c f)

-- ---- types of constants

takes_string_bound : (room : ℕ) (b : Option Bound) → optional_levels bound_levels b ≤ room
    → Takes (optional string_bound_yield b) (λ t. string_bound_way room t) TypeEnds
takes_string_bound room None few =
    pass _ (shows_none (λ t a. avoided Punct (codes "<") (11 ∷ 18 ∷ 79 ∷ []) t refl a)) takes_none
takes_string_bound room (Some b) few =
    choose _ (shows_first _ (shows_first _ (piece_shows Punct (codes "<"))))
    (last (front_next (front (piece_takes Punct (codes "<"))) (front (takes_bound room b few)))
    (bound_ends (codes ">") 0 refl) (piece_takes Punct (codes ">")))

word_leads : (text : List ℕ) (ms : List ℕ) → is_in ms (number_of Keyword text) ≡ true → {S : List Seen → Type 0}
    → Leads (keyword text) S (Among ms)
word_leads text ms h = piece_among Keyword text ms h

pub takes_const_type : (room : ℕ) (a : ConstType) → const_type_levels a ≤ room
    → Takes (const_type_yield a) (λ t. const_type_way room t) TypeEnds
unfolding const_type_way
takes_const_type room (ConstTypes.Integer i) few =
    choose _ (integer_shows i) (takes_under (λ t. fewer refl) (takes_integer i))
takes_const_type room ConstTypes.Char few =
    pass _ (no_integer refl refl refl (word_leads (codes "char") (13 ∷ []) refl))
    (choose _ (piece_shows Keyword (codes "char")) (piece_takes Keyword (codes "char")))
takes_const_type room ConstTypes.Boolean few =
    pass _ (no_integer refl refl refl (word_leads (codes "boolean") (14 ∷ []) refl))
    (pass _ (hides Keyword (codes "char") refl (word_leads (codes "boolean") (14 ∷ []) refl))
    (choose _ (piece_shows Keyword (codes "boolean")) (piece_takes Keyword (codes "boolean"))))
takes_const_type room ConstTypes.Octet few =
    pass _ (no_integer refl refl refl (word_leads (codes "octet") (15 ∷ []) refl))
    (pass _ (hides Keyword (codes "char") refl (word_leads (codes "octet") (15 ∷ []) refl))
    (pass _ (hides Keyword (codes "boolean") refl (word_leads (codes "octet") (15 ∷ []) refl))
    (choose _ (piece_shows Keyword (codes "octet")) (piece_takes Keyword (codes "octet")))))
takes_const_type room (ConstTypes.String b) few =
    pass _ (no_integer refl refl refl (leads_first _ (word_leads (codes "string") (16 ∷ []) refl)))
    (pass _ (hides Keyword (codes "char") refl (leads_first _ (word_leads (codes "string") (16 ∷ []) refl)))
    (pass _ (hides Keyword (codes "boolean") refl (leads_first _ (word_leads (codes "string") (16 ∷ []) refl)))
    (pass _ (hides Keyword (codes "octet") refl (leads_first _ (word_leads (codes "string") (16 ∷ []) refl)))
    (choose _ (shows_first _ (piece_shows Keyword (codes "string")))
    (last_next (front (piece_takes Keyword (codes "string"))) (takes_string_bound room b few))))))
takes_const_type room (ConstTypes.Name n) few =
    pass _ (no_integer refl refl refl (leads_any (name_begins n)))
    (pass _ (hides Keyword (codes "char") refl (leads_any (name_begins n)))
    (pass _ (hides Keyword (codes "boolean") refl (leads_any (name_begins n)))
    (pass _ (hides Keyword (codes "octet") refl (leads_any (name_begins n)))
    (pass _ (hides Keyword (codes "string") refl (leads_any (name_begins n)))
    (takes_under (λ t. fewer refl) (takes_name n))))))

pub takes_param_type : (room : ℕ) (a : ParamType) → param_type_levels a ≤ room
    → Takes (param_type_yield a) (λ t. param_type_way room t) TypeEnds
unfolding param_type_way
takes_param_type room (ParamTypes.Plain t) few =
    pass _ (hides Keyword (codes "Object") refl (leads_any (const_type_begins t))) (takes_const_type room t few)
takes_param_type room ParamTypes.Object few =
    choose _ (piece_shows Keyword (codes "Object")) (piece_takes Keyword (codes "Object"))

-- ---- sequences

open_sequence : Takes (keyword (codes "sequence") ++ mark (codes "<")) open_sequence_way Any
open_sequence = last_next (front (piece_takes Keyword (codes "sequence"))) (piece_takes Punct (codes "<"))

end_sequence : (room : ℕ) (b : Option Bound) → optional_levels bound_levels b ≤ room
    → Takes (optional sequence_bound_yield b ++ mark (codes ">")) (λ t. end_sequence_way room t) Any
end_sequence room None few = choose _ (piece_shows Punct (codes ">")) (piece_takes Punct (codes ">"))
end_sequence room (Some b) few =
    pass _ (hides Punct (codes ">") refl (leads_first _ (leads_first _ (piece_among Punct (codes ",") (71 ∷ []) refl))))
    (last (front_next (front (piece_takes Punct (codes ","))) (front (takes_bound room b few)))
    (bound_ends (codes ">") 0 refl) (piece_takes Punct (codes ">")))

behind_element : (b : Option Bound) → Leads (optional sequence_bound_yield b ++ mark (codes ">")) Any TypeEnds
behind_element None = piece_avoids Punct (codes ">") _ refl
behind_element (Some b) = leads_first _ (leads_first _ (piece_avoids Punct (codes ",") _ refl))

pub moved : {x y : List Piece} {p : List Seen → Way} {S : List Seen → Type 0} → x ≡ y → Takes x p S → Takes y p S
moved {p = p} {S = S} e f = subst (λ z. Takes z p S) e f

pub regrouped : (a b c : List Piece) {p : List Seen → Way} {S : List Seen → Type 0} → Takes (a ++ (b ++ c)) p S
    → Takes (a ++ b ++ c) p S
regrouped a b c {p = p} {S = S} f = subst (λ x. Takes x p S) (sym (append_assoc a b c)) f

pub takes_simple_type : (room : ℕ) (a : SimpleType) → simple_type_levels a ≤ room
    → Takes (simple_type_yield a) (λ t. simple_type_way room t) TypeEnds
unfolding simple_type_way
takes_simple_type zero (Plain t) few =
    pass _ (hides Keyword (codes "sequence") refl (leads_any (param_type_begins t))) (takes_param_type 0 t few)
takes_simple_type (suc left) (Plain t) few =
    pass _ (hides Keyword (codes "sequence") refl (leads_any (param_type_begins t))) (takes_param_type (suc left) t few)
takes_simple_type zero (Sequence' p e b) few = absurd (omega (arith, few))
takes_simple_type (suc left) (Sequence' p e b) few =
    takes_under (λ t s. tt)
    (regrouped (keyword (codes "sequence") ++ mark (codes "<") ++ simple_type_yield e) (optional sequence_bound_yield b)
    (mark (codes ">"))
    (choose _ (shows_first _ (shows_first _ (shows_first _ (piece_shows Keyword (codes "sequence")))))
    (last (front_next (front open_sequence) (front (takes_simple_type left e (omega (arith, few))))) (behind_element b)
    (end_sequence left b (omega (arith, few))))))

-- ---- declarators

sizes_repeat : (room : ℕ)
    → Repeats size_yield const_expr_levels room (λ t. sees_mark (codes "[") t) (λ t. size_way room t) (77 ∷ []) Any
    DeclaratorEnds
sizes_repeat room = record {
  takes = λ x few. last (front_next (front (piece_takes Punct (codes "["))) (front (takes_const_expr room x few)))
      (mark_ends (codes "]") true 0 refl) (piece_takes Punct (codes "]"));
  shows = λ x. shows_first _ (shows_first _ (piece_shows Punct (codes "[")));
  first = λ x. leads_first _ (leads_first _ (piece_among Punct (codes "[") _ refl));
  some = refl;
  more = λ t a. tt;
  end = λ t a. tt;
  none = λ t a. avoided Punct (codes "[") (77 ∷ []) t refl a;
}

pub takes_declarator : (room : ℕ) (d : Declarator) → declarator_levels d ≤ room
    → Takes (declarator_yield d) (λ t. declarator_way room t) DeclaratorEnds
unfolding declarator_way
takes_declarator room d few =
    last_next (front (leaf_takes Ident d.identifier)) (takes_repeated (sizes_repeat room) d.sizes.items few)

declarator_listings : (room : ℕ)
    → Listings declarator_yield declarator_levels room (λ t. declarator_way room t) DeclaratorEnds DeclaratorsEnd
declarator_listings room = record {
  takes = takes_declarator room;
  more = λ t a. apart refl a;
  end = λ t a. fewer refl a;
  none = λ t a. fewer refl a;
}

pub takes_declarators : (room : ℕ) (ds : Listed Declarator) → highest_listed declarator_levels ds ≤ room
    → Takes (listed declarator_yield ds) (λ t. declarators_way room t) DeclaratorsEnd
takes_declarators room ds few = takes_listed (declarator_listings room) ds few

-- ---- enumerations

pub identifier_listings : Listings identifier (λ _. 0) 0 (λ t. identifier_way t) Any (Avoids (71 ∷ []))
identifier_listings = record {
  takes = λ x few. leaf_takes Ident x;
  more = λ t a. tt;
  end = λ t a. tt;
  none = λ t a. a;
}

pub listed_none_high : {T : Type 0} (l : Listed T) → highest_listed (λ _. 0) l ≤ 0
listed_none_high l = omega (arith, none_high l.rest.items)

pub takes_identifiers : (l : Listed Leaf)
    → Takes (listed identifier l) (λ t. listed_way (λ u. identifier_way u) t) (Avoids (71 ∷ []))
takes_identifiers l = takes_listed identifier_listings l (listed_none_high l)

-- a word and an identifier
pub takes_named : (word : List ℕ) (l : Leaf) {S : List Seen → Type 0}
    → Takes (keyword word ++ identifier l) (λ t. named_way word t) S
takes_named word l = last_next (front (piece_takes Keyword word)) (leaf_takes Ident l)

opened_is : (room : ℕ) (t : List Seen) → 0 < room → opened room (λ left. mark_taken (codes "{") t)
    ≡ mark_taken (codes "{") t
unfolding opened
opened_is zero t h = absurd (omega arith)
opened_is (suc left) t h = refl

opened_takes : (room : ℕ) → 0 < room
    → Takes (mark (codes "{")) (λ t. opened room (λ left. mark_taken (codes "{") t)) Any
opened_takes room h = record {
  by = λ t r a s. opened_is room t h
      ∙ (piece_takes Punct (codes "{") {S = Any}).by t r a s;
}

pub takes_opened : (word : List ℕ) (room : ℕ) (l : Leaf) → 0 < room
    → Takes (keyword word ++ identifier l ++ mark (codes "{")) (λ t. opened_way word room t) Any
takes_opened word room l h = last_next (front (takes_named word l)) (opened_takes room h)

pub takes_enum : (room : ℕ) (e : EnumType) → 0 < room → {S : List Seen → Type 0}
    → Takes (enum_yield e) (λ t. enum_way room t) S
takes_enum room e h =
    last (front_next (front (takes_opened (codes "enum") room e.identifier h))
    (front (takes_identifiers e.enumerators.value))) (piece_avoids Punct (codes "}") _ refl)
    (piece_takes Punct (codes "}"))

-- ---- the types of discriminators

pub takes_switch : (room : ℕ) (a : SwitchType) → switch_levels a ≤ room
    → Takes (switch_yield a) (λ t. switch_way room t) TypeEnds
unfolding switch_way
takes_switch room (SwitchTypes.Enum e) few =
    choose _ (shows_first _ (shows_first _ (shows_first _ (shows_first _ (piece_shows Keyword (codes "enum"))))))
    (takes_enum room e (omega (arith, few)))
takes_switch room (SwitchTypes.Integer i) few =
    pass _ (hides Keyword (codes "enum") refl (leads_any (integer_begins i)))
    (choose _ (integer_shows i) (takes_under (λ t. fewer refl) (takes_integer i)))
takes_switch room SwitchTypes.Char few =
    pass _ (hides Keyword (codes "enum") refl (word_leads (codes "char") (13 ∷ []) refl))
    (pass _ (no_integer refl refl refl (word_leads (codes "char") (13 ∷ []) refl))
    (choose _ (piece_shows Keyword (codes "char")) (piece_takes Keyword (codes "char"))))
takes_switch room SwitchTypes.Boolean few =
    pass _ (hides Keyword (codes "enum") refl (word_leads (codes "boolean") (14 ∷ []) refl))
    (pass _ (no_integer refl refl refl (word_leads (codes "boolean") (14 ∷ []) refl))
    (pass _ (hides Keyword (codes "char") refl (word_leads (codes "boolean") (14 ∷ []) refl))
    (choose _ (piece_shows Keyword (codes "boolean")) (piece_takes Keyword (codes "boolean")))))
takes_switch room (SwitchTypes.Name n) few =
    pass _ (hides Keyword (codes "enum") refl (leads_any (name_begins n)))
    (pass _ (no_integer refl refl refl (leads_any (name_begins n)))
    (pass _ (hides Keyword (codes "char") refl (leads_any (name_begins n)))
    (pass _ (hides Keyword (codes "boolean") refl (leads_any (name_begins n)))
    (takes_under (λ t. fewer refl) (takes_name n)))))

-- ---- labels

takes_label : (room : ℕ) (a : Label) → label_levels a ≤ room → Takes (label_yield a) (λ t. label_way room t) Any
unfolding label_way
takes_label room (Labels.Case e) few =
    choose _ (shows_first _ (shows_first _ (piece_shows Keyword (codes "case"))))
    (last (front_next (front (piece_takes Keyword (codes "case"))) (front (takes_const_expr room e few)))
    (mark_ends (codes ":") true 0 refl) (piece_takes Punct (codes ":")))
takes_label room (Labels.Default l) few =
    pass _ (hides Keyword (codes "case") refl (leads_first _ (kept_among Keyword (codes "default") l (41 ∷ []) refl)))
    (last_next (front (kept_takes Keyword (codes "default") l)) (piece_takes Punct (codes ":")))

label_shows : (a : Label) → Shows (label_yield a) Any sees_label true
label_shows (Labels.Case e) = shows_first _ (shows_first _ (shows_left _ (piece_shows Keyword (codes "case"))))
label_shows (Labels.Default l) = shows_first _ (shows_right _ (kept_shows Keyword (codes "default") l))

either_no : (t : List Seen) → Avoids (40 ∷ 41 ∷ []) t → sees_label t ≡ false
either_no t a = or_false _ _ (avoided Keyword (codes "case") (40 ∷ 41 ∷ []) t refl a)
    (avoided Keyword (codes "default") (40 ∷ 41 ∷ []) t refl a)

labels_repeat : (room : ℕ) → Repeats label_yield label_levels room sees_label (λ t. label_way room t) (40 ∷ 41 ∷ []) Any
    (Avoids (40 ∷ 41 ∷ []))
labels_repeat room = record {
  takes = takes_label room;
  shows = label_shows;
  first = label_begins;
  some = refl;
  more = λ t a. tt;
  end = λ t a. tt;
  none = either_no;
}

pub takes_labels : (room : ℕ) (l : Listed Label) → highest_listed label_levels l ≤ room
    → Takes (in_order label_yield l) (λ t. labels_way room t) (Avoids (40 ∷ 41 ∷ []))
takes_labels room l few =
    last_next (front (takes_label room l.first (omega (arith, few))))
    (takes_repeated (labels_repeat room) l.rest.items (omega (arith, few)))
