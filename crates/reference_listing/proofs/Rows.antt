-- Rows of profiles, one by one.
use Rattle.std.proofs.Common.{◌≡◌, ℕ, ◌+◌, ◌<◌, List, [], ◌∷◌, ◌++◌, length, take, get_or, refl, sym, ap, ◌∙◌, subst}
use Rattle.std.specs.declared.vec.Vec.{Vec}
use Rattle.std.specs.declared.alloc.Global.{Global}
use Rattle.std.proofs.lemmas.List.{map-append, take_more}
use Rattle.reference_texts.specs.References.{owned_pairs}
use Rattle.reference_listing.specs.declared.listing.ListedProfile.{ListedProfile}
use Rattle.reference_listing.specs.Listings.{AreRows, IsRow, Row, row_of, rows_of}

one_more : (profiles : List (ℕ × List ℕ)) (rows : List Row) (profile : ℕ × List ℕ) (row : Row) → AreRows profiles rows
    → IsRow profile row → AreRows (profiles ++ profile ∷ []) (rows ++ row ∷ [])
one_more [] [] profile row are is = (is, tt)
one_more [] (r ∷ rows) profile row are is = absurd are
one_more (p ∷ profiles) [] profile row are is = absurd are
one_more (p ∷ profiles) (r ∷ rows) profile row are is = (are.0, one_more profiles rows profile row are.1 is)

rows_append : (xs ys : List ListedProfile) → rows_of (xs ++ ys) ≡ rows_of xs ++ rows_of ys
rows_append [] ys = refl
rows_append (x ∷ xs) ys = ap (λ (l : List Row). row_of x ∷ l) (rows_append xs ys)

pub rows_more : (profiles : List (ℕ × Vec ℕ Global)) (i : ℕ) (one : ℕ × Vec ℕ Global) (listed new : List ListedProfile)
    (row : ListedProfile) → i < length profiles → one ≡ get_or profiles i one
    → AreRows (owned_pairs (take i profiles)) (rows_of listed) → IsRow (one.0, one.1.items) (row_of row)
    → new ≡ listed ++ row ∷ [] → AreRows (owned_pairs (take (i + 1) profiles)) (rows_of new)
rows_more profiles i one listed new row within is are next e =
    let taken : take (i + 1) profiles ≡ take i profiles ++ one ∷ [] =
    take_more profiles i one within ∙ ap (λ (y : ℕ × Vec ℕ Global). take i profiles ++ y ∷ []) (sym is) in
    let pairs : owned_pairs (take (i + 1) profiles) ≡ owned_pairs (take i profiles) ++ (one.0, one.1.items) ∷ [] =
    ap owned_pairs taken ∙ map-append (λ (o : ℕ × Vec ℕ Global). (o.0, o.1.items)) (take i profiles) (one ∷ []) in
    let rows : rows_of new ≡ rows_of listed ++ row_of row ∷ [] = ap rows_of e ∙ rows_append listed (row ∷ []) in
    subst (λ (l : List Row). AreRows (owned_pairs (take (i + 1) profiles)) l) (sym rows)
    (subst (λ (l : List (ℕ × List ℕ)). AreRows l (rows_of listed ++ row_of row ∷ [])) (sym pairs)
    (one_more (owned_pairs (take i profiles)) (rows_of listed) (one.0, one.1.items) (row_of row) are next))
