-- One name for some tokens.
use Rattle.std.proofs.Common.{◌≡◌, ℕ, codes, true, ◌||◌, List, [], ◌∷◌, ◌++◌, Option, Some, None, subst, refl}
use Rattle.std.specs.Prelude.{is_some, nat_lt, length}
use Rattle.std.specs.List.{flat_map}
use Rattle.idl_lexer.specs.declared.token.Kind.TheVariants.{Ident, Punct}
use Rattle.idl_tree.specs.declared.names.Leaf.{Leaf}
use Rattle.idl_tree.specs.declared.names.Path.{Path}
use Rattle.idl_tree.specs.declared.names.ScopedName.{ScopedName}
use Rattle.idl_tree.specs.declared.names.ScopedName.TheVariants.{Plain, Scoped}
use Rattle.idl_tree.specs.Pieces.{Piece, Seen, mark}
use Rattle.idl_tree.specs.Yields.{identifier, optional, root_yield, path_yield, name_yield}
use Rattle.idl_tree.specs.Shapes.{root_shape, leaf_shape, optional_shape, path_shape, name_shape}
use Rattle.idl_tree.proofs.Same.{Among, Avoids, Any, Leads, Same, so, begun, next, never, longer, turned, leads_first, piece_among, kept_among, leaves, leaves_of}
use Rattle.idl_tree.proofs.TreeLists.{Row, same_row}

-- what can't stand behind a name
abbrev pub NameEnds : List Seen → Type 0
NameEnds t = Avoids (18 ∷ []) t

parts : Row (λ (l : Leaf). mark (codes "::") ++ identifier l) leaf_shape (18 ∷ []) Any NameEnds
parts = record {
  one = λ x y. begun (mark (codes "::")) (leaves Ident x y);
  first = λ x. leads_first _ (piece_among Punct (codes "::") _ refl);
  more = λ t a. tt;
  end = λ t a. tt;
  none = λ t a. a;
}

abbrev start : Option Leaf → Leaf → List Piece
start root first = optional root_yield root ++ identifier first

starts : (r q : Option Leaf) (a b : Leaf) {S : List Seen → Type 0}
    → Same (start r a) (start q b) ((optional_shape root_shape r ≡ optional_shape root_shape q)
    × (leaf_shape a ≡ leaf_shape b)) S
starts None None a b = so (λ h. (refl, h)) (leaves Ident a b)
starts (Some r) (Some q) a b =
    so (λ h. let e = h.0 in (cc, h.1)) (next (leaves_of Punct (codes "::") (codes "::") r q) (leaves Ident a b))
starts None (Some q) a b =
    never (17 ∷ []) (18 ∷ []) refl (kept_among Ident _ a _ refl)
    (leads_first _ (kept_among Punct (codes "::") q _ refl))
starts (Some r) None a b = never (18 ∷ []) (17 ∷ []) refl (leads_first _ (kept_among Punct (codes "::") r _ refl))
    (kept_among Ident _ b _ refl)

same_path : (p q : Path) → Same (path_yield p) (path_yield q) (path_shape p ≡ path_shape q) NameEnds
same_path p q =
    so (λ h. let a = h.0.0 in let b = h.0.1 in let c = h.1 in cc)
    (next (starts p.root q.root p.first q.first) (same_row parts p.rest.items q.rest.items))

-- behind an identifier stands no ::, or it does
more_parts : (l first : Leaf) (x : Leaf) (xs : List Leaf) {P : Type 0}
    → Same (identifier l) (identifier first
    ++ (mark (codes "::") ++ identifier x ++ flat_map (λ y. mark (codes "::") ++ identifier y) xs)) P NameEnds
more_parts l first x xs =
    longer _ (λ t s. s) (leaves Ident l first) (leads_first _ (leads_first _ (piece_among Punct (codes "::") _ refl)))

plain_or_scoped : (l : Leaf) (root : Option Leaf) (first : Leaf) (rest : List Leaf) {P : Type 0}
    → (is_some root || nat_lt 0 (length rest)) ≡ true
    → Same (identifier l) (start root first ++ flat_map (λ x. mark (codes "::") ++ identifier x) rest) P NameEnds
plain_or_scoped l (Some root) first rest h =
    never (17 ∷ []) (18 ∷ []) refl (kept_among Ident _ l _ refl)
    (leads_first _ (leads_first _ (kept_among Punct (codes "::") root _ refl)))
plain_or_scoped l None first [] h = absurd (cc)
plain_or_scoped l None first (x ∷ xs) h = more_parts l first x xs

scoped : (p : Path) → (is_some p.root || nat_lt 0 (length p.rest.items)) ≡ true
scoped p = subst (λ n. (is_some p.root || nat_lt 0 n) ≡ true) p.rest.ok.0 p.is_scoped

pub same_name : (n m : ScopedName) → Same (name_yield n) (name_yield m) (name_shape n ≡ name_shape m) NameEnds
same_name (Plain a) (Plain b) = so (λ h. cc) (leaves Ident a b)
same_name (Scoped p) (Scoped q) = so (λ h. cc) (same_path p.value q.value)
same_name (Plain a) (Scoped q) = plain_or_scoped a q.value.root q.value.first q.value.rest.items (scoped q.value)
same_name (Scoped p) (Plain b) =
    turned (λ h. h) (plain_or_scoped b p.value.root p.value.first p.value.rest.items (scoped p.value))

-- a name begins with an identifier or ::
starts_with : (root : Option Leaf) (first : Leaf) → Leads (start root first) Any (Among (17 ∷ 18 ∷ []))
starts_with None first = kept_among Ident _ first _ refl
starts_with (Some r) first = leads_first _ (kept_among Punct (codes "::") r _ refl)

pub name_begins : (n : ScopedName) → Leads (name_yield n) Any (Among (17 ∷ 18 ∷ []))
name_begins (Plain a) = kept_among Ident _ a _ refl
name_begins (Scoped p) = leads_first _ (starts_with p.value.root p.value.first)
