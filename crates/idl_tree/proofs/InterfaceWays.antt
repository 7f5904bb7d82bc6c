-- The ways over interfaces lead over each of them, and what stands in them.
use Rattle.std.proofs.Common.{◌≡◌, ◌∙◌, ℕ, ◌≤◌, codes, Bool, true, false, ◌||◌, List, [], ◌∷◌, ◌++◌, Option, Some, None, ap, refl, arith, append_assoc}
use Rattle.std.specs.List.{flat_map}
use Rattle.idl_lexer.specs.declared.token.Kind.TheVariants.{Ident, Keyword, Punct, Pragma as PragmaToken}
use Rattle.idl_tree.specs.declared.names.Leaf.{Leaf}
use Rattle.idl_tree.specs.declared.names.Listed.{Listed}
use Rattle.idl_tree.specs.declared.names.ScopedName.{ScopedName}
use Rattle.idl_tree.specs.declared.types.ParamType.{ParamType}
use Rattle.idl_tree.specs.declared.definitions.Attributes.{Attributes}
use Rattle.idl_tree.specs.declared.definitions.Attributes.TheVariants.{Silent, Readonly, Get, Set}
use Rattle.idl_tree.specs.declared.definitions.Attribute.{Attribute}
use Rattle.idl_tree.specs.declared.definitions.Direction.{Direction}
use Rattle.idl_tree.specs.declared.definitions.Direction.TheVariants.{In, Out, InOut}
use Rattle.idl_tree.specs.declared.definitions.Param.{Param}
use Rattle.idl_tree.specs.declared.definitions.Operation.{Operation}
use Rattle.idl_tree.specs.declared.definitions.Export.{Export}
use Rattle.idl_tree.specs.declared.definitions.Export.TheVariants as Exports
use Rattle.idl_tree.specs.declared.definitions.Interface.{Interface}
use Rattle.idl_tree.specs.declared.definitions.Interface.TheVariants.{Ahead, Defined}
use Rattle.idl_tree.specs.Pieces.{Piece, Seen, keyword, mark}
use Rattle.idl_tree.specs.Yields.{identifier, listed, optional, name_yield}
use Rattle.idl_tree.specs.Levels.{highest, highest_listed, optional_levels}
use Rattle.idl_tree.specs.TypeLevels.{param_type_levels}
use Rattle.idl_tree.specs.DefinitionYields.{raises_yield, readonly_yield, is_readonly, attributes_yield, attribute_yield, direction_yield, param_yield, oneway_yield, result_yield, operation_yield, export_yield, bases_yield, interface_yield}
use Rattle.idl_tree.specs.DefinitionLevels.{attribute_levels, param_levels, operation_levels, export_levels, interface_levels}
use Rattle.idl_tree.specs.Descent.{Way, sees_mark, sees_word, mark_taken, word_taken, and_then, where_seen, identifier_way, rest_way, no_brace, name_way, param_type_way}
use Rattle.idl_tree.specs.DefinitionDescent.{names_way, raises_way, attributes_way, readonly_way, attribute_way, direction_way, param_way, params_way, oneway_way, result_way, operation_way, ended_way, export_way, exports_way, bases_way, interface_way, attribute_way, sees_declaration}
use Rattle.idl_tree.proofs.Fronts.{word_number}
use Rattle.idl_tree.proofs.Same.{is_in, Among, Avoids, Any, Leads, leads_none, leads_on, leads_first, leads_any, piece_among, piece_avoids, apart, fewer}
use Rattle.idl_tree.proofs.TreeNames.{NameEnds}
use Rattle.idl_tree.proofs.TreeTypes.{TypeEnds, ident_leads, params, param_type_begins}
use Rattle.idl_tree.proofs.Declarations.{declared, declaration_begins}
use Rattle.idl_tree.proofs.Interfaces.{NamesEnd, raises_begin, getraises_begin, setraises_begin, attributes_lead, direction_begins, result_begins, operations, operation_begins, attribute_begins, exported, export_begins, bases_begin}
use Rattle.idl_tree.proofs.Takes.{Takes, Front, front, front_on, front_next, last, last_next, takes_under, takes_any, takes_none, Shows, shows_first, shows_none, shows_left, shows_right, shows_neither, shown_by, unseen, hides, choose, pass, piece_takes, piece_shows, leaf_takes, leaf_shows, no_pragma, Repeats, takes_repeated, Listings, takes_listed, takes_rest, none_high}
use Rattle.idl_tree.proofs.NameWays.{takes_name}
use Rattle.idl_tree.proofs.TypeWays.{regrouped, moved, takes_param_type, takes_named, identifier_listings, listed_none_high}
use Rattle.idl_tree.proofs.MemberWays.{Brace, brace_leads, stops_at, goes_where}
use Rattle.idl_tree.proofs.DeclarationWays.{Semicolon, semicolon_leads, takes_declaration, declaration_shows}

-- ---- names behind a word

name_listings : Listings name_yield (λ _. 0) 0 (λ t. name_way t) NameEnds NamesEnd
name_listings = record {
  takes = λ n few. takes_name n;
  more = λ t a. apart refl a;
  end = λ t a. fewer refl a;
  none = λ t a. fewer refl a;
}

takes_names : (l : Listed ScopedName) → Takes (listed name_yield l) (λ t. names_way t) NamesEnd
takes_names l = takes_listed name_listings l (listed_none_high l)

takes_raises : (word : List ℕ) (l : Listed ScopedName) {S : List Seen → Type 0}
    → Takes (raises_yield word l) (λ t. raises_way word t) S
takes_raises word l =
    choose _ (shows_first _ (shows_first _ (shows_first _ (piece_shows Keyword word))))
    (last (front_next (front_next (front (piece_takes Keyword word)) (front (piece_takes Punct (codes "("))))
    (front (takes_names l))) (piece_avoids Punct (codes ")") _ refl) (piece_takes Punct (codes ")")))

no_raises : (word : List ℕ) (ms : List ℕ) → is_in ms (word_number word) ≡ false
    → Takes [] (λ t. raises_way word t) (Among ms)
no_raises word ms h = pass _ (shows_none (λ t a. unseen Keyword word ms t h a)) takes_none

no_raises_before : (word : List ℕ) → is_in (70 ∷ []) (word_number word) ≡ false
    → Takes [] (λ t. raises_way word t) Semicolon
no_raises_before word h = takes_under (λ t s. s.at) (no_raises word (70 ∷ []) h)

maybe_raises : (word : List ℕ) → is_in (70 ∷ []) (word_number word) ≡ false → (l : Option (Listed ScopedName))
    → Takes (optional (raises_yield word) l) (λ t. raises_way word t) Semicolon
maybe_raises word h None = no_raises_before word h
maybe_raises word h (Some l) = takes_raises word l

-- ---- attributes

-- what an attribute raises, where it raises nothing
abbrev raised_way : Bool → List Seen → Way
raised_way true u = raises_way (codes "raises") u
raised_way false u = and_then (raises_way (codes "getraises") u) (λ v. raises_way (codes "setraises") v)

raises_nothing : (only : Bool) → Takes [] (λ t. raised_way only t) Semicolon
raises_nothing true = no_raises_before (codes "raises") refl
raises_nothing false = last (front (no_raises_before (codes "getraises") refl)) leads_none
    (no_raises_before (codes "setraises") refl)

silent_rest : (only : Bool) (xs : List Leaf)
    → Takes (flat_map (λ x. mark (codes ",") ++ identifier x) xs)
    (λ u. where_seen (sees_mark (codes ",") u) (rest_way (λ v. identifier_way v) u) (raised_way only u)) Semicolon
silent_rest only [] = pass _ (shows_none (λ t s. unseen Punct (codes ",") (70 ∷ []) t refl s.at)) (raises_nothing only)
silent_rest only (x ∷ xs) =
    choose _ (shows_first _ (shows_first _ (piece_shows Punct (codes ","))))
    (takes_under (λ t s. apart refl s.at) (takes_rest identifier_listings (x ∷ xs) (none_high (x ∷ xs))))

takes_attributes : (a : Attributes) → Takes (attributes_yield a) (λ t. attributes_way (is_readonly a) t) Semicolon
unfolding attributes_way
takes_attributes (Silent true ids) = last_next (front (leaf_takes Ident ids.first)) (silent_rest true ids.rest.items)
takes_attributes (Silent false ids) = last_next (front (leaf_takes Ident ids.first)) (silent_rest false ids.rest.items)
takes_attributes (Readonly id n) =
    last_next (front (leaf_takes Ident id))
    (pass _ (hides Punct (codes ",") refl (leads_any (raises_begin n))) (takes_raises (codes "raises") n))
takes_attributes (Get id g s) =
    regrouped (identifier id) (raises_yield (codes "getraises") g) (optional (raises_yield (codes "setraises")) s)
    (last_next (front (leaf_takes Ident id)) (pass _ (hides Punct (codes ",") refl (leads_first _ (getraises_begin g)))
    (last_next (front (takes_raises (codes "getraises") g)) (maybe_raises (codes "setraises") refl s))))
takes_attributes (Set id s) =
    last_next (front (leaf_takes Ident id)) (pass _ (hides Punct (codes ",") refl (leads_any (setraises_begin s)))
    (last (front (no_raises (codes "getraises") (47 ∷ []) refl)) (leads_any (setraises_begin s))
    (takes_raises (codes "setraises") s)))

takes_flag : (b : Bool) → Front (readonly_yield b ++ keyword (codes "attribute"))
    (λ more t. and_then (readonly_way t) (λ u. and_then (word_taken (codes "attribute") u) (λ v. more v))) Any
takes_flag true =
    front_next (front (choose _ (piece_shows Keyword (codes "readonly")) (piece_takes Keyword (codes "readonly"))))
    (front (piece_takes Keyword (codes "attribute")))
takes_flag false =
    front_on (front (pass _ (shows_none (λ t a. unseen Keyword (codes "readonly") (31 ∷ []) t refl a)) takes_none))
    (piece_among Keyword (codes "attribute") _ refl) (front (piece_takes Keyword (codes "attribute")))

flag_shows : (b : Bool) → Shows (readonly_yield b ++ keyword (codes "attribute")) Any
    (λ t. sees_word (codes "readonly") t) b
flag_shows true = shows_first _ (piece_shows Keyword (codes "readonly"))
flag_shows false = hides Keyword (codes "readonly") refl (piece_among Keyword (codes "attribute") (31 ∷ []) refl)

-- a way whose last step depends on a test of the first token
abbrev attribute_as : ℕ → Bool → List Seen → Way
attribute_as room only t =
    and_then (readonly_way t)
    (λ u. and_then (word_taken (codes "attribute") u)
    (λ v. and_then (param_type_way room v) (λ w. attributes_way only w)))

attribute_lead : (a : Attributes) → Leads (attributes_yield a) Semicolon TypeEnds
attribute_lead a = record { by = λ t r h s. (attributes_lead a).by t r h s.at }

takes_attribute_as : (room : ℕ) (a : Attribute) → attribute_levels a ≤ room
    → Takes (attribute_yield a) (λ t. attribute_as room (is_readonly a.declared) t) Semicolon
takes_attribute_as room a few =
    last (front_next (takes_flag (is_readonly a.declared)) (front (takes_param_type room a.attribute_type few)))
    (attribute_lead a.declared) (takes_attributes a.declared)

flag_told : (b : Bool) → Shows (readonly_yield b ++ keyword (codes "attribute")) Any
    (λ t. sees_word (codes "readonly") t || sees_word (codes "attribute") t) true
flag_told true = shows_first _ (shows_left _ (piece_shows Keyword (codes "readonly")))
flag_told false = shows_right _ (piece_shows Keyword (codes "attribute"))

attribute_flag : (a : Attribute)
    → Shows (attribute_yield a) Any (λ t. sees_word (codes "readonly") t) (is_readonly a.declared)
attribute_flag a = shows_first _ (shows_first _ (flag_shows (is_readonly a.declared)))

pub takes_attribute : (room : ℕ) (a : Attribute) → attribute_levels a ≤ room
    → Takes (attribute_yield a) (λ t. attribute_way room t) Semicolon
unfolding attribute_way
takes_attribute room a few = record {
  by = λ t r h s.
      let test = (attribute_flag a).by t r h tt in
      ap (λ b. attribute_as room b t) test ∙ (takes_attribute_as room a few).by t r h s;
}

attribute_shows : (a : Attribute)
    → Shows (attribute_yield a) Any (λ t. sees_word (codes "readonly") t || sees_word (codes "attribute") t) true
attribute_shows a = shows_first _ (shows_first _ (flag_told (is_readonly a.declared)))

-- ---- parameters

takes_direction : (d : Direction) → Takes (direction_yield d) direction_way Any
takes_direction InOut = choose _ (piece_shows Keyword (codes "inout")) (piece_takes Keyword (codes "inout"))
takes_direction Out = pass _ (hides Keyword (codes "inout") refl (piece_among Keyword (codes "out") (43 ∷ []) refl))
    (choose _ (piece_shows Keyword (codes "out")) (piece_takes Keyword (codes "out")))
takes_direction In =
    pass _ (hides Keyword (codes "inout") refl (piece_among Keyword (codes "in") (42 ∷ []) refl))
    (pass _ (hides Keyword (codes "out") refl (piece_among Keyword (codes "in") (42 ∷ []) refl))
    (piece_takes Keyword (codes "in")))

takes_param : (room : ℕ) (p : Param) → param_levels p ≤ room → Takes (param_yield p) (λ t. param_way room t) Any
unfolding param_way
takes_param room p few =
    last (front_next (front (takes_direction p.direction)) (front (takes_param_type room p.param_type few)))
    (ident_leads p.identifier) (leaf_takes Ident p.identifier)

param_listings : (room : ℕ) → Listings param_yield param_levels room (λ t. param_way room t) Any (Avoids (71 ∷ []))
param_listings room = record {
  takes = takes_param room;
  more = λ t a. tt;
  end = λ t a. tt;
  none = λ t a. a;
}

-- the closing parenthesis is next
record Closing (t : List Seen) : Type 0 where
  seen : sees_mark (codes ")") t ≡ true
  at : Among (74 ∷ []) t

closing_leads : {S : List Seen → Type 0} → Leads (mark (codes ")")) S Closing
closing_leads = record {
  by = λ t r h s. record {
    seen = (piece_shows Punct (codes ")") {S = Any}).by t r h tt;
    at = (piece_among Punct (codes ")") (74 ∷ []) refl {S = Any}).by t r h tt;
  };
}

takes_params : (room : ℕ) (l : Option (Listed Param)) → optional_levels (highest_listed param_levels) l ≤ room
    → Takes (optional (listed param_yield) l) (λ t. params_way room t) Closing
takes_params room None few = choose _ (shows_none (λ t s. s.seen)) takes_none
takes_params room (Some l) few =
    pass _ (hides Punct (codes ")") refl
    (leads_first _ (leads_first _ (leads_first _ (leads_any (direction_begins l.first.direction))))))
    (takes_under (λ t s. apart refl s.at) (takes_listed (param_listings room) l few))

-- ---- operations

takes_result : (room : ℕ) (r : Option ParamType) → optional_levels param_type_levels r ≤ room
    → Takes (result_yield r) (λ t. result_way room t) TypeEnds
takes_result room None few = choose _ (piece_shows Keyword (codes "void")) (piece_takes Keyword (codes "void"))
takes_result room (Some t) few =
    pass _ (hides Keyword (codes "void") refl (leads_any (param_type_begins t))) (takes_param_type room t few)

takes_oneway : (room : ℕ) (b : Bool) (r : Option ParamType) → optional_levels param_type_levels r ≤ room
    → Front (oneway_yield b ++ result_yield r)
    (λ more t. and_then (oneway_way t) (λ u. and_then (result_way room u) (λ v. more v))) TypeEnds
takes_oneway room true r few =
    front_next (front (choose _ (piece_shows Keyword (codes "oneway")) (piece_takes Keyword (codes "oneway"))))
    (front (takes_result room r few))
takes_oneway room false r few =
    front_on (front (pass _ (shows_none (λ t a. unseen Keyword (codes "oneway") (27 ∷ params) t refl a)) takes_none))
    (leads_any (result_begins r)) (front (takes_result room r few))

takes_operation : (room : ℕ) (o : Operation) → operation_levels o ≤ room
    → Takes (operation_yield o) (λ t. operation_way room t) Semicolon
unfolding operation_way
takes_operation room o few =
    last_next (front_on (front_next
    (front_next (front_on (takes_oneway room o.is_oneway o.result_type (omega (arith, few)))
    (ident_leads o.identifier) (front (leaf_takes Ident o.identifier)))
    (front (piece_takes Punct (codes "(")))) (front (takes_params room o.params (omega (arith, few))))) closing_leads
    (front (piece_takes Punct (codes ")"))))
    (maybe_raises (codes "raises") refl o.raises)

-- ---- what stands in an interface

pub takes_ended : {x : List Piece} {p : List Seen → Way} {S : List Seen → Type 0} → Takes x p Semicolon
    → Takes (x ++ mark (codes ";")) (λ t. ended_way p t) S
takes_ended f = last (front f) semicolon_leads (piece_takes Punct (codes ";"))

not_declared : {x : List Piece} {ms : List ℕ} {S : List Seen → Type 0} → is_in ms 21 ≡ false → is_in ms 22 ≡ false
    → is_in ms 23 ≡ false → is_in ms 24 ≡ false → is_in ms 25 ≡ false → is_in ms 26 ≡ false
    → Leads x S (Among ms) → Shows x S (λ t. sees_declaration t) false
not_declared a b c d e f g =
    shows_neither (shows_neither
    (shows_neither (shows_neither
    (shows_neither (hides Keyword (codes "typedef") d g) (hides Keyword (codes "struct") a g))
    (hides Keyword (codes "union") b g))
    (hides Keyword (codes "enum") c g)) (hides Keyword (codes "const") e g)) (hides Keyword (codes "exception") f g)

takes_export : (room : ℕ) (e : Export) → export_levels e ≤ room → Takes (export_yield e) (λ t. export_way room t) Any
unfolding export_way
takes_export room (Exports.Pragma p) few = choose _ (leaf_shows PragmaToken p) (leaf_takes PragmaToken p)
takes_export room (Exports.Declaration d) few =
    pass _ (shown_by (leads_first _ (declaration_begins d)) (λ t. no_pragma declared t refl))
    (choose _ (shows_first _ (declaration_shows d)) (takes_ended (takes_declaration room d few)))
takes_export room (Exports.Attribute a) few =
    pass _ (shown_by (leads_first _ (attribute_begins a)) (λ t. no_pragma (30 ∷ 31 ∷ []) t refl))
    (pass _ (not_declared refl refl refl refl refl refl (leads_first _ (attribute_begins a)))
    (choose _ (shows_first _ (attribute_shows a)) (takes_ended (takes_attribute room a few))))
takes_export room (Exports.Operation o) few =
    pass _ (shown_by (leads_first _ (operation_begins o)) (λ t. no_pragma operations t refl))
    (pass _ (not_declared refl refl refl refl refl refl (leads_first _ (operation_begins o)))
    (pass _ (shows_neither (hides Keyword (codes "readonly") refl (leads_first _ (operation_begins o)))
    (hides Keyword (codes "attribute") refl (leads_first _ (operation_begins o))))
    (takes_ended (takes_operation room o few))))

exports_repeat : (room : ℕ) → Repeats export_yield export_levels room no_brace (λ v. export_way room v) exported Any
    Brace
exports_repeat room = record {
  takes = takes_export room;
  shows = λ e. shown_by (export_begins e) (λ t. goes_where t refl);
  first = export_begins;
  some = refl;
  more = λ t a. tt;
  end = λ t a. tt;
  none = stops_at;
}

-- ---- interfaces

takes_exports : (room : ℕ) (es : List Export) → highest export_levels es ≤ room
    → Takes (mark (codes "{") ++ flat_map export_yield es ++ mark (codes "}")) (λ t. exports_way room t) Any
takes_exports room es few =
    last (front_next (front (piece_takes Punct (codes "{"))) (front (takes_repeated (exports_repeat room) es few)))
    brace_leads (piece_takes Punct (codes "}"))

takes_bases : (b : Option (Listed ScopedName)) → Takes (optional bases_yield b) (λ t. bases_way t) (Among (72 ∷ []))
takes_bases None = pass _ (shows_none (λ t a. unseen Punct (codes ":") (72 ∷ []) t refl a)) takes_none
takes_bases (Some b) = choose _ (shows_first _ (piece_shows Punct (codes ":")))
    (last_next (front (piece_takes Punct (codes ":"))) (takes_under (λ t a. apart refl a) (takes_names b)))

-- what stands behind the name of an interface that is defined
abbrev defined_pieces : Option (Listed ScopedName) → List Export → List Piece
defined_pieces b es = optional bases_yield b ++ (mark (codes "{") ++ flat_map export_yield es ++ mark (codes "}"))
    ++ mark (codes ";")

defined_begins : (b : Option (Listed ScopedName)) (es : List Export)
    → Leads (defined_pieces b es) Any (Among (72 ∷ 75 ∷ []))
defined_begins b es = leads_first _
    (leads_on (bases_begin b) (leads_first _ (leads_first _ (piece_among Punct (codes "{") _ refl))))

takes_defined : (room : ℕ) (b : Option (Listed ScopedName)) (es : List Export) → highest export_levels es ≤ room
    → Takes (defined_pieces b es)
    (λ u. and_then (bases_way u) (λ v. and_then (exports_way room v) (λ w. mark_taken (codes ";") w))) Any
takes_defined room b es few =
    last_next (front_on (front (takes_bases b)) (leads_first _ (leads_first _ (piece_among Punct (codes "{") _ refl)))
    (front (takes_exports room es few))) (piece_takes Punct (codes ";"))

regroup_interface : (n b o e c s : List Piece) → n ++ (b ++ (o ++ e ++ c) ++ s) ≡ n ++ b ++ o ++ e ++ c ++ s
regroup_interface n b o e c s = simp append_assoc

pub takes_interface : (room : ℕ) (i : Interface) → interface_levels i ≤ room
    → Takes (interface_yield i ++ mark (codes ";")) (λ t. interface_way room t) Any
unfolding interface_way
takes_interface room (Ahead id) few =
    last_next (front (takes_named (codes "interface") id))
    (choose _ (piece_shows Punct (codes ";")) (piece_takes Punct (codes ";")))
takes_interface room (Defined id b es) few =
    moved (regroup_interface (keyword (codes "interface") ++ identifier id) (optional bases_yield b) (mark (codes "{"))
    (flat_map export_yield es.items) (mark (codes "}")) (mark (codes ";")))
    (last_next (front (takes_named (codes "interface") id))
    (pass _ (hides Punct (codes ";") refl (leads_any (defined_begins b es.items)))
    (takes_any (takes_defined room b es.items few))))
