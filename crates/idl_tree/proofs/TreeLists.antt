-- Lists of parts, and parts that may be left out, in front of the same tokens.
use Rattle.std.proofs.Common.{◌≡◌, ℕ, codes, List, [], ◌∷◌, ◌++◌, Option, Some, None, refl}
use Rattle.std.specs.List.{flat_map}
use Rattle.idl_lexer.specs.declared.token.Kind.TheVariants.{Punct}
use Rattle.idl_tree.specs.declared.names.Listed.{Listed}
use Rattle.idl_tree.specs.Pieces.{Piece, Seen, mark}
use Rattle.idl_tree.specs.Yields.{listed, in_order, optional}
use Rattle.idl_tree.specs.Shapes.{Shape, list_shape, listed_shape, optional_shape}
use Rattle.idl_tree.proofs.Same.{Among, Avoids, Any, Leads, Same, fixed, so, then, begun, contrary, turned, leads_none, leads_first, leads_to, piece_among}

-- a part begins with one of the numbers `ms`, and behind it stand such a part or tokens of which S holds, which begin
-- with none of them
pub record Row {T : Type 0} (f : T → List Piece) (shape : T → Shape) (ms : List ℕ) (E S : List Seen → Type 0) : Type 0
  where
    pub one : (x y : T) → Same (f x) (f y) (shape x ≡ shape y) E
    pub first : (x : T) → Leads (f x) Any (Among ms)
    pub more : (t : List Seen) → Among ms t → E t
    pub end : (t : List Seen) → S t → E t
    pub none : (t : List Seen) → S t → Avoids ms t

-- behind a part
row_leads : {T : Type 0} {f : T → List Piece} {shape : T → Shape} {ms : List ℕ} {E S : List Seen → Type 0}
    → Row f shape ms E S
    → (xs : List T) → Leads (flat_map f xs) S E
row_leads row [] = leads_to row.end leads_none
row_leads row (x ∷ xs) = leads_first _ (leads_to row.more (row.first x))

none_or_more : {T : Type 0} {f : T → List Piece} {shape : T → Shape} {ms : List ℕ} {E S : List Seen → Type 0}
    {P : Type 0} → Row f shape ms E S
    → (x : T) (xs : List T) → Same [] (flat_map f (x ∷ xs)) P S
none_or_more row x xs = contrary (leads_to row.none leads_none) (leads_first _ (row.first x))

pub same_row : {T : Type 0} {f : T → List Piece} {shape : T → Shape} {ms : List ℕ} {E S : List Seen → Type 0}
    → Row f shape ms E S
    → (xs ys : List T) → Same (flat_map f xs) (flat_map f ys) (list_shape shape xs ≡ list_shape shape ys) S
same_row row [] [] = so (λ u. refl) (fixed [])
same_row row [] (y ∷ ys) = none_or_more row y ys
same_row row (x ∷ xs) [] = turned (λ h. h) (none_or_more row x xs)
same_row row (x ∷ xs) (y ∷ ys) =
    so (λ h. let a = h.0 in let b = h.1 in cc)
    (then (row.one x y) (row_leads row xs) (row_leads row ys) (same_row row xs ys))

-- ---- one part and others

pub same_in_order : {T : Type 0} {f : T → List Piece} {shape : T → Shape} {ms : List ℕ} {E S : List Seen → Type 0}
    → Row f shape ms E S
    → (l k : Listed T) → Same (in_order f l) (in_order f k) (listed_shape shape l ≡ listed_shape shape k) S
same_in_order row l k =
    so (λ h. let a = h.0 in let b = h.1 in cc)
    (then (row.one l.first k.first) (row_leads row l.rest.items) (row_leads row k.rest.items)
    (same_row row l.rest.items k.rest.items))

-- with commas between them
abbrev comma : List ℕ
comma = 71 ∷ []

pub record Commas {T : Type 0} (f : T → List Piece) (shape : T → Shape) (E S : List Seen → Type 0) : Type 0 where
  pub one : (x y : T) → Same (f x) (f y) (shape x ≡ shape y) E
  pub more : (t : List Seen) → Among comma t → E t
  pub end : (t : List Seen) → S t → E t
  pub none : (t : List Seen) → S t → Avoids comma t

pub row_of_commas : {T : Type 0} {f : T → List Piece} {shape : T → Shape} {E S : List Seen → Type 0}
    → Commas f shape E S → Row (λ x. mark (codes ",") ++ f x) shape comma E S
row_of_commas list = record {
  one = λ x y. begun (mark (codes ",")) (list.one x y);
  first = λ x. leads_first _ (piece_among Punct (codes ",") comma refl);
  more = list.more;
  end = list.end;
  none = list.none;
}

pub same_listed : {T : Type 0} {f : T → List Piece} {shape : T → Shape} {E S : List Seen → Type 0} → Commas f shape E S
    → (l k : Listed T) → Same (listed f l) (listed f k) (listed_shape shape l ≡ listed_shape shape k) S
same_listed list l k =
    let row = row_of_commas list in
    so (λ h. let a = h.0 in let b = h.1 in cc)
    (then (list.one l.first k.first) (row_leads row l.rest.items) (row_leads row k.rest.items)
    (same_row row l.rest.items k.rest.items))

-- ---- a part that may be left out
pub record Maybe {T : Type 0} (f : T → List Piece) (shape : T → Shape) (ms : List ℕ) (S : List Seen → Type 0) : Type 0
  where
    pub one : (x y : T) → Same (f x) (f y) (shape x ≡ shape y) S
    pub first : (x : T) → Leads (f x) S (Among ms)
    pub none : (t : List Seen) → S t → Avoids ms t

pub same_optional : {T : Type 0} {f : T → List Piece} {shape : T → Shape} {ms : List ℕ} {S : List Seen → Type 0}
    → Maybe f shape ms S
    → (x y : Option T) → Same (optional f x) (optional f y) (optional_shape shape x ≡ optional_shape shape y) S
same_optional may None None = so (λ u. refl) (fixed [])
same_optional may None (Some y) = contrary (leads_to may.none leads_none) (may.first y)
same_optional may (Some x) None = turned (λ h. h) (contrary (leads_to may.none leads_none) (may.first x))
same_optional may (Some x) (Some y) = so (λ h. cc) (may.one x y)
