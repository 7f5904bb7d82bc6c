-- The way over a name leads over each name.
use Rattle.std.proofs.Common.{◌≡◌, codes, false, List, [], ◌∷◌, ◌++◌, Option, Some, None, ◌∙◌, refl}
use Rattle.std.specs.List.{flat_map}
use Rattle.idl_lexer.specs.declared.token.Kind.{Kind}
use Rattle.idl_lexer.specs.declared.token.Kind.TheVariants.{Ident, Punct}
use Rattle.idl_tree.specs.declared.names.Leaf.{Leaf}
use Rattle.idl_tree.specs.declared.names.ScopedName.{ScopedName}
use Rattle.idl_tree.specs.declared.names.ScopedName.TheVariants.{Plain, Scoped}
use Rattle.idl_tree.specs.Pieces.{Seen, mark, past, kind_code}
use Rattle.std.specs.Prelude.{nat_eq}
use Rattle.idl_tree.specs.Yields.{identifier, optional, root_yield, name_yield}
use Rattle.idl_tree.specs.Descent.{Way, sees_kind, sees_mark, mark_taken, and_then, identifier_way, root_way, parts_way, name_way}
use Rattle.idl_tree.proofs.Same.{Among, Any, leads_first, piece_among, kept_among}
use Rattle.idl_tree.proofs.TreeNames.{NameEnds}
use Rattle.idl_tree.proofs.Takes.{Takes, Front, front, front_on, front_next, last_next, takes_none, Shows, shows_first, shows_none, shows_so, unseen, avoided, choose, pass, piece_takes, piece_shows, kept_takes, kept_shows, leaf_takes, kept_kind, Repeats, takes_repeated, none_high}

parts : Repeats (λ (l : Leaf). mark (codes "::") ++ identifier l) (λ _. 0) 0 (λ t. sees_mark (codes "::") t)
    (λ u. and_then (mark_taken (codes "::") u) (λ v. identifier_way v)) (18 ∷ []) Any NameEnds
parts = record {
  takes = λ x few. last_next (front (piece_takes Punct (codes "::"))) (leaf_takes Ident x);
  shows = λ x. shows_first _ (piece_shows Punct (codes "::"));
  first = λ x. leads_first _ (piece_among Punct (codes "::") _ refl);
  some = refl;
  more = λ t a. tt;
  end = λ t a. tt;
  none = λ t a. avoided Punct (codes "::") (18 ∷ []) t refl a;
}

-- :: or none, and an identifier behind
abbrev start_way : (List Seen → Way) → List Seen → Way
start_way more t = and_then (root_way t) (λ u. and_then (identifier_way u) (λ v. more v))

takes_root : (root : Leaf) → Takes (root_yield root) root_way Any
takes_root root = choose _ (kept_shows Punct (codes "::") root) (kept_takes Punct (codes "::") root)

no_root : Takes [] root_way (Among (17 ∷ []))
no_root = pass _ (shows_none (λ t a. unseen Punct (codes "::") (17 ∷ []) t refl a)) takes_none

starts : (root : Option Leaf) (first : Leaf) → Front (optional root_yield root ++ identifier first) start_way Any
starts None first = front_on (front no_root) (kept_among Ident _ first _ refl) (front (leaf_takes Ident first))
starts (Some root) first = front_next (front (takes_root root)) (front (leaf_takes Ident first))

takes_parts : (xs : List Leaf)
    → Takes (flat_map (λ (l : Leaf). mark (codes "::") ++ identifier l) xs) parts_way NameEnds
takes_parts xs = takes_repeated parts xs (none_high xs)

-- an identifier alone
takes_plain : (l : Leaf) → Takes (identifier l) name_way NameEnds
unfolding name_way past
takes_plain l = record {
  by = λ t r h s. (starts None l).by t r h tt parts_way ∙ (takes_parts []).by r r (record { is = refl }) s;
}

pub takes_name : (n : ScopedName) → Takes (name_yield n) name_way NameEnds
unfolding name_way
takes_name (Plain l) = takes_plain l
takes_name (Scoped p) = last_next (starts p.value.root p.value.first) (takes_parts p.value.rest.items)

-- a name begins with an identifier or a mark
start_kind : (root : Option Leaf) (first : Leaf) (k : Kind) → nat_eq (kind_code k) (kind_code Ident) ≡ false
    → nat_eq (kind_code k) (kind_code Punct) ≡ false
    → Shows (optional root_yield root ++ identifier first) Any (λ t. sees_kind k t) false
start_kind None first k h e = shows_so h (kept_kind Ident _ first k)
start_kind (Some root) first k h e = shows_first _ (shows_so e (kept_kind Punct (codes "::") root k))

pub name_kind : (n : ScopedName) (k : Kind) → nat_eq (kind_code k) (kind_code Ident) ≡ false
    → nat_eq (kind_code k) (kind_code Punct) ≡ false → {S : List Seen → Type 0}
    → Shows (name_yield n) S (λ t. sees_kind k t) false
name_kind (Plain l) k h e = shows_so h (kept_kind Ident _ l k)
name_kind (Scoped p) k h e = shows_first _ (start_kind p.value.root p.value.first k h e)
