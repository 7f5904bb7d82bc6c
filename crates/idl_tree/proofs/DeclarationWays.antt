-- The ways over declarations lead over each of them.
use Rattle.std.proofs.Common.{◌≡◌, ◌∙◌, ℕ, suc, zero, ◌≤◌, ◌<◌, codes, true, false, List, [], ◌∷◌, ◌++◌, ap, subst, sym, refl, arith, append_assoc}
use Rattle.std.specs.List.{flat_map}
use Rattle.idl_lexer.specs.declared.token.Kind.TheVariants.{Ident, Keyword, Punct}
use Rattle.idl_tree.specs.declared.names.Leaf.{Leaf}
use Rattle.idl_tree.specs.declared.types.StructType.{StructType, StructType'}
use Rattle.idl_tree.specs.declared.types.UnionType.{UnionType, UnionType'}
use Rattle.idl_tree.specs.declared.types.Member.{Member}
use Rattle.idl_tree.specs.declared.definitions.TypeDcl.{TypeDcl}
use Rattle.idl_tree.specs.declared.definitions.TypeDcl.TheVariants as TypeDcls
use Rattle.idl_tree.specs.declared.definitions.Const.{Const}
use Rattle.idl_tree.specs.declared.definitions.Except.{Except}
use Rattle.idl_tree.specs.declared.definitions.Declaration.{Declaration}
use Rattle.idl_tree.specs.declared.definitions.Declaration.TheVariants as Declarations
use Rattle.idl_tree.specs.Pieces.{Piece, Seen, keyword, mark}
use Rattle.idl_tree.specs.Yields.{identifier}
use Rattle.idl_tree.specs.TypeYields.{struct_yield, union_yield, member_yield}
use Rattle.idl_tree.specs.Levels.{highest}
use Rattle.idl_tree.specs.TypeLevels.{struct_levels, union_levels, member_levels}
use Rattle.idl_tree.specs.DefinitionYields.{type_dcl_yield, const_yield, except_yield, declaration_yield}
use Rattle.idl_tree.specs.DefinitionLevels.{type_dcl_levels, const_levels, except_levels, declaration_levels}
use Rattle.idl_tree.specs.Descent.{Way, sees_mark, opened, struct_way, union_way, braced_way, member_way, type_way}
use Rattle.idl_tree.specs.DefinitionDescent.{is_ahead, type_dcl_way, const_way, except_members_way, except_way, declaration_way, sees_declaration}
use Rattle.idl_tree.proofs.Fronts.{Reads, split, piece_first, kept_first}
use Rattle.idl_tree.proofs.Same.{is_in, Among, Any, Leads, leads_first, leads_any, piece_among, apart}
use Rattle.idl_tree.proofs.Expressions.{expr_ended}
use Rattle.idl_tree.proofs.TreeTypes.{ident_leads, enum_begins}
use Rattle.idl_tree.proofs.TreeMembers.{union_begins, behind_type, line_begins}
use Rattle.idl_tree.proofs.Declarations.{type_dcl_begins_so, except_begins}
use Rattle.idl_tree.proofs.Takes.{Takes, front, front_on, front_next, last, last_next, takes_under, takes_any, Shows, shows_first, shows_left, shows_right, unseen, hides, choose, pass, piece_takes, piece_shows, leaf_takes}
use Rattle.idl_tree.proofs.ExprWays.{takes_const_expr}
use Rattle.idl_tree.proofs.TypeWays.{regrouped, takes_const_type, takes_declarators, takes_named, takes_enum}
use Rattle.idl_tree.proofs.MemberWays.{type_taken, struct_taken, union_taken, struct_shows, union_shows, some_struct, some_union, takes_braced}

-- a semicolon stands behind
pub record Semicolon (t : List Seen) : Type 0 where
  pub seen : sees_mark (codes ";") t ≡ true
  pub at : Among (70 ∷ []) t

pub semicolon_leads : {S : List Seen → Type 0} → Leads (mark (codes ";")) S Semicolon
semicolon_leads = record {
  by = λ t r h s. record {
    seen = (piece_shows Punct (codes ";") {S = Any}).by t r h tt;
    at = (piece_among Punct (codes ";") (70 ∷ []) refl {S = Any}).by t r h tt;
  };
}

-- ---- the third token

-- behind a word and an identifier the test of the third token is one of what is left
third : (word : List ℕ) (id : Leaf) (t r : List Seen) → Reads (keyword word ++ identifier id) t r
    → is_ahead t ≡ sees_mark (codes ";") r
unfolding is_ahead
third word id t r h =
    let two = split (keyword word) (identifier id) t r h in
    let one = piece_first Keyword word t two.middle two.front in
    let next = kept_first Ident _ id two.middle r two.back in
    ap is_ahead (one.is ∙ ap (λ l. one.token ∷ l) next.is)

ahead_shows : (word : List ℕ) (id : Leaf) → Shows (keyword word ++ identifier id) Semicolon (λ t. is_ahead t) true
ahead_shows word id = record { by = λ t r h s. third word id t r h ∙ s.seen }

-- another mark or a word is the third token
defined_shows : (word : List ℕ) (id : Leaf) (y : List Piece) (ms : List ℕ) → is_in ms 70 ≡ false
    → Leads y Any (Among ms) → Shows (keyword word ++ identifier id ++ y) Any (λ t. is_ahead t) false
defined_shows word id y ms h f = record {
  by = λ t r a s.
      let two = split (keyword word ++ identifier id) y t r a in
      third word id t two.middle two.front ∙ unseen Punct (codes ";") ms two.middle h (f.by two.middle r two.back tt);
}

struct_defined : (s : StructType) {S : List Seen → Type 0} → Shows (struct_yield s) S (λ t. is_ahead t) false
struct_defined (StructType' id p t ds shape rest) =
    shows_first _ (shows_first _
    (shows_first _ (defined_shows (codes "struct") id (mark (codes "{")) (72 ∷ []) refl
    (piece_among Punct (codes "{") _ refl))))

union_defined : (u : UnionType) {S : List Seen → Type 0} → Shows (union_yield u) S (λ t. is_ahead t) false
union_defined (UnionType' id switch p ls t d shape rest) =
    shows_first _ (shows_first _ (shows_first _ (shows_first _ (shows_first _ (shows_first _ (shows_first _
    (defined_shows (codes "union") id (keyword (codes "switch")) (48 ∷ []) refl
    (piece_among Keyword (codes "switch") _ refl))))))))

-- ---- types

inside_room : (room : ℕ) (k : ℕ → List Seen → Way) {x : List Piece} {S : List Seen → Type 0} → 0 < room
    → ((left : ℕ) → room ≡ suc left → Takes x (λ t. k left t) S) → Takes x (λ t. opened room (λ left. k left t)) S
unfolding opened
inside_room zero k h f = absurd (omega arith)
inside_room (suc left) k h f = f left refl

struct_inside : (room : ℕ) (s : StructType) → struct_levels s ≤ room
    → Takes (struct_yield s) (λ t. opened room (λ left. struct_way (λ u. type_way left u) left t)) Any
struct_inside room s few =
    inside_room room (λ left t. struct_way (λ u. type_way left u) left t) (omega (arith, few, some_struct s))
    (λ left e. (struct_taken s).by left (omega (arith, few, e)))

union_inside : (room : ℕ) (s : UnionType) → union_levels s ≤ room
    → Takes (union_yield s) (λ t. opened room (λ left. union_way (λ u. type_way left u) left t)) Any
union_inside room s few =
    inside_room room (λ left t. union_way (λ u. type_way left u) left t) (omega (arith, few, some_union s))
    (λ left e. (union_taken s).by left (omega (arith, few, e)))

takes_type_dcl : (room : ℕ) (a : TypeDcl) → type_dcl_levels a ≤ room
    → Takes (type_dcl_yield a) (λ t. type_dcl_way room t) Semicolon
unfolding type_dcl_way
takes_type_dcl room (TypeDcls.Struct s) few =
    choose _ (struct_shows s) (pass _ (struct_defined s) (takes_any (struct_inside room s few)))
takes_type_dcl room (TypeDcls.StructAhead id) few =
    choose _ (shows_first _ (piece_shows Keyword (codes "struct")))
    (choose _ (ahead_shows (codes "struct") id) (takes_named (codes "struct") id))
takes_type_dcl room (TypeDcls.Union u) few =
    pass _ (hides Keyword (codes "struct") refl (leads_any (union_begins u)))
    (choose _ (union_shows u) (pass _ (union_defined u) (takes_any (union_inside room u few))))
takes_type_dcl room (TypeDcls.UnionAhead id) few =
    pass _ (hides Keyword (codes "struct") refl (leads_first _ (piece_among Keyword (codes "union") (22 ∷ []) refl)))
    (choose _ (shows_first _ (piece_shows Keyword (codes "union")))
    (choose _ (ahead_shows (codes "union") id) (takes_named (codes "union") id)))
takes_type_dcl room (TypeDcls.Enum e) few =
    pass _ (hides Keyword (codes "struct") refl (leads_any (enum_begins e)))
    (pass _ (hides Keyword (codes "union") refl (leads_any (enum_begins e)))
    (choose _ (shows_first _ (shows_first _ (shows_first _ (shows_first _ (piece_shows Keyword (codes "enum"))))))
    (takes_enum room e (omega (arith, few)))))
takes_type_dcl room (TypeDcls.Typedef t ds) few =
    pass _ (hides Keyword (codes "struct") refl
    (leads_first _ (leads_first _ (piece_among Keyword (codes "typedef") (24 ∷ []) refl))))
    (pass _ (hides Keyword (codes "union") refl
    (leads_first _ (leads_first _ (piece_among Keyword (codes "typedef") (24 ∷ []) refl))))
    (pass _ (hides Keyword (codes "enum") refl
    (leads_first _ (leads_first _ (piece_among Keyword (codes "typedef") (24 ∷ []) refl))))
    (takes_under (λ u s. apart refl s.at)
    (last (front_next (front (piece_takes Keyword (codes "typedef")))
    (front ((type_taken t).by room (omega (arith, few))))) (behind_type ds)
    (takes_declarators room ds (omega (arith, few)))))))

-- ---- constants and exceptions

takes_const : (room : ℕ) (c : Const) → const_levels c ≤ room → Takes (const_yield c) (λ t. const_way room t) Semicolon
unfolding const_way
takes_const room c few =
    takes_under (λ t s. expr_ended true 0 t (apart refl s.at))
    (last_next (front_next (front_on
    (front_next (front (piece_takes Keyword (codes "const")))
    (front (takes_const_type room c.const_type (omega (arith, few)))))
    (ident_leads c.identifier) (front (leaf_takes Ident c.identifier))) (front (piece_takes Punct (codes "="))))
    (takes_const_expr room c.value (omega (arith, few))))

except_members : (room : ℕ) (ms : List Member) → highest member_levels ms ≤ room
    → Takes (flat_map member_yield ms ++ mark (codes "}")) (λ t. except_members_way room t) Any
except_members room [] few = choose _ (piece_shows Punct (codes "}")) (piece_takes Punct (codes "}"))
except_members room (m ∷ ms) few =
    let taken' = takes_braced room m ms few in
    pass _ (hides Punct (codes "}") refl (leads_first _ (leads_first _ (line_begins m.member_type m.declarators))))
    (subst (λ x. Takes x (λ t. braced_way (λ u. member_way (λ v. type_way room v) room u) t) Any)
    (sym (append_assoc (member_yield m) (flat_map member_yield ms) (mark (codes "}")))) taken')

takes_except : (room : ℕ) (e : Except) → except_levels e ≤ room → Takes (except_yield e) (λ t. except_way room t) Any
unfolding except_way
takes_except room e few =
    regrouped (keyword (codes "exception") ++ identifier e.identifier ++ mark (codes "{"))
    (flat_map member_yield e.members.items) (mark (codes "}"))
    (last_next (front_next (front (takes_named (codes "exception") e.identifier))
    (front (piece_takes Punct (codes "{")))) (except_members room e.members.items few))

-- ---- all three

pub takes_declaration : (room : ℕ) (d : Declaration) → declaration_levels d ≤ room
    → Takes (declaration_yield d) (λ t. declaration_way room t) Semicolon
unfolding declaration_way
takes_declaration room (Declarations.Const c) few =
    choose _ (shows_first _ (shows_first _ (shows_first _ (shows_first _ (piece_shows Keyword (codes "const"))))))
    (takes_const room c few)
takes_declaration room (Declarations.Except e) few =
    pass _ (hides Keyword (codes "const") refl (leads_any (except_begins e)))
    (choose _ (shows_first _ (shows_first _ (shows_first _ (shows_first _ (piece_shows Keyword (codes "exception"))))))
    (takes_any (takes_except room e few)))
takes_declaration room (Declarations.TypeDcl t) few =
    pass _ (hides Keyword (codes "const") refl (leads_any (type_dcl_begins_so t)))
    (pass _ (hides Keyword (codes "exception") refl (leads_any (type_dcl_begins_so t))) (takes_type_dcl room t few))

type_dcl_shows : (t : TypeDcl) → Shows (type_dcl_yield t) Any (λ t. sees_declaration t) true
type_dcl_shows (TypeDcls.Typedef t ds) =
    shows_first _ (shows_first _
    (shows_left _ (shows_left _ (shows_left _ (shows_left _ (shows_left _ (piece_shows Keyword (codes "typedef"))))))))
type_dcl_shows (TypeDcls.Struct s) =
    shows_left _ (shows_left _ (shows_left _ (shows_left _ (shows_right _ (struct_shows s)))))
type_dcl_shows (TypeDcls.Union u) = shows_left _ (shows_left _ (shows_left _ (shows_right _ (union_shows u))))
type_dcl_shows (TypeDcls.Enum e) =
    shows_left _ (shows_left _
    (shows_right _ (shows_first _
    (shows_first _ (shows_first _ (shows_first _ (piece_shows Keyword (codes "enum"))))))))
type_dcl_shows (TypeDcls.StructAhead id) =
    shows_first _ (shows_left _
    (shows_left _ (shows_left _ (shows_left _ (shows_right _ (piece_shows Keyword (codes "struct")))))))
type_dcl_shows (TypeDcls.UnionAhead id) =
    shows_first _ (shows_left _ (shows_left _ (shows_left _ (shows_right _ (piece_shows Keyword (codes "union"))))))

pub declaration_shows : (d : Declaration) → Shows (declaration_yield d) Any (λ t. sees_declaration t) true
declaration_shows (Declarations.TypeDcl t) = type_dcl_shows t
declaration_shows (Declarations.Const c) =
    shows_first _ (shows_first _
    (shows_first _ (shows_first _ (shows_left _ (shows_right _ (piece_shows Keyword (codes "const")))))))
declaration_shows (Declarations.Except e) =
    shows_first _ (shows_first _
    (shows_first _ (shows_first _ (shows_right _ (piece_shows Keyword (codes "exception"))))))
