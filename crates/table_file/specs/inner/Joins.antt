-- Laws of spellings one behind the other.
use Rattle.std.proofs.Common.{◌≡◌, ℕ, List, [], ◌∷◌, ◌++◌, length, Bool, true, false, Option, Some, None, refl, sym, ap, ap₂, ◌∙◌, append_assoc, arith}
use Rattle.std.specs.Bool.{then_some}
use Rattle.std.specs.Fmt.{◌++?◌}

-- three
pub joins_assoc : (p q r : Option (List ℕ)) → (p ++? q) ++? r ≡ p ++? (q ++? r)
joins_assoc None q r = refl
joins_assoc (Some a) None r = refl
joins_assoc (Some a) (Some b) None = refl
joins_assoc (Some a) (Some b) (Some c) = ap Some (append_assoc a b c)

-- nothing before
pub nothing_before : (p : Option (List ℕ)) → Some [] ++? p ≡ p
nothing_before None = refl
nothing_before (Some a) = refl

-- two that are octets are octets each
pub split : (p q : Option (List ℕ)) (octets : List ℕ) → p ++? q ≡ Some octets
    → (s : List ℕ) × (t : List ℕ) × (p ≡ Some s) × (q ≡ Some t) × (s ++ t ≡ octets)
split None q octets e = absurd (cc)
split (Some a) None octets e = absurd (cc)
split (Some a) (Some b) octets e = (a, b, refl, refl, cc)

-- the second and what is behind it are octets, before which the first stands
pub parted : (p q r : Option (List ℕ)) (octets : List ℕ) → (p ++? q) ++? r ≡ Some octets
    → (t : List ℕ) × (q ++? r ≡ Some t) × (p ++? Some t ≡ Some octets)
parted p q r octets e =
    let whole : p ++? (q ++? r) ≡ Some octets = sym (joins_assoc p q r) ∙ e in
    let parts = split p (q ++? r) octets whole in
    (parts.1, parts.3, ap (λ o. p ++? o) (sym parts.3) ∙ whole)

-- what a test lets pass
pub passed : {A : Type 0} (b : Bool) (x y : A) → then_some b x ≡ Some y → (b ≡ true) × (x ≡ y)
passed true x y e = (refl, cc)
passed false x y e = absurd (cc)

-- fronts of one length
pub same_fronts : (s t x y : List ℕ) → length s ≡ length t → s ++ x ≡ t ++ y → (s ≡ t) × (x ≡ y)
same_fronts [] [] x y l e = (refl, e)
same_fronts [] (b ∷ t) x y l e = absurd (omega arith)
same_fronts (a ∷ s) [] x y l e = absurd (omega arith)
same_fronts (a ∷ s) (b ∷ t) x y l e =
    let rest = same_fronts s t x y (omega arith) (cc) in
    let first : a ≡ b = cc in
    (ap₂ (λ i is. i ∷ is) first rest.0, rest.1)
