-- Profiles that are gone through in order.
use Rattle.std.proofs.Common.{◌≡◌, ℕ, suc, ◌+◌, ◌<◌, List, [], ◌∷◌, ◌++◌, length, take, drop, get_or, refl, sym, ap, ◌∙◌, add-one, arith}
use Rattle.std.proofs.lemmas.List.{length-take-le, take-append-drop}
use Rattle.std.proofs.Math.Seq.{take-suc, drop-cons}
use Rattle.reference_listing.specs.declared.listing.ListedProfile.{ListedProfile}
use Rattle.reference_listing.specs.Listings.{Row, OfIiop, OfOther, row_of, rows_of}
use Rattle.call_client.specs.Lines.{Line, all_missed}

pub rows_append : (a b : List ListedProfile) → rows_of (a ++ b) ≡ rows_of a ++ rows_of b
rows_append [] b = refl
rows_append (p ∷ a) b = ap (λ (rows : List Row). row_of p ∷ rows) (rows_append a b)

pub missed_append : (a b : List Row) → all_missed (a ++ b) ≡ all_missed a ++ all_missed b
missed_append [] b = refl
missed_append (OfIiop iiop ∷ a) b =
    ap (λ (lines : List Line). all_missed (OfIiop iiop ∷ []) ++ lines) (missed_append a b)
missed_append (OfOther tag octets ∷ a) b = missed_append a b

rows_long : (ps : List ListedProfile) → length (rows_of ps) ≡ length ps
rows_long [] = refl
rows_long (p ∷ ps) = ap suc (rows_long ps)

-- as many rows stand before a profile as its place says
pub rows_before : (ps : List ListedProfile) (i : ℕ) → i < length ps → length (rows_of (take i ps)) ≡ i
rows_before ps i within = rows_long (take i ps) ∙ length-take-le i ps (omega (arith, within))

-- the rows before a profile, its own, and those behind
pub rows_split : (ps : List ListedProfile) (i : ℕ) (p : ListedProfile) → i < length ps → p ≡ get_or ps i p
    → rows_of ps ≡ rows_of (take i ps) ++ row_of p ∷ rows_of (drop (suc i) ps)
rows_split ps i p within is =
    let behind : drop i ps ≡ p ∷ drop (suc i) ps =
    drop-cons ps i p within ∙ ap (λ (q : ListedProfile). q ∷ drop (suc i) ps) (sym is) in
    sym (ap rows_of (take-append-drop i ps)) ∙ rows_append (take i ps) (drop i ps)
    ∙ ap (λ (rest : List ListedProfile). rows_of (take i ps) ++ rows_of rest) behind

-- one more is missed
pub missed_next : (ps : List ListedProfile) (i : ℕ) (p : ListedProfile) → i < length ps → p ≡ get_or ps i p
    → all_missed (rows_of (take (i + 1) ps)) ≡ all_missed (rows_of (take i ps)) ++ all_missed (row_of p ∷ [])
missed_next ps i p within is =
    let taken : take (i + 1) ps ≡ take i ps ++ p ∷ [] =
    ap (λ n. take n ps) (add-one i) ∙ take-suc ps i p within
    ∙ ap (λ (q : ListedProfile). take i ps ++ q ∷ []) (sym is) in
    ap (λ (some : List ListedProfile). all_missed (rows_of some)) taken
    ∙ ap all_missed (rows_append (take i ps) (p ∷ []))
    ∙ missed_append (rows_of (take i ps)) (row_of p ∷ [])
