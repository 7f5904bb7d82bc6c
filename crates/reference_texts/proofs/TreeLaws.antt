-- Values that are made of the same parts alone are the same.
use Rattle.std.proofs.Common.{◌≡◌, ℕ, List, [], ◌∷◌, refl, ap₂}
use Rattle.giop_types.specs.Fields.{octet_trees, tagged_tree, tagged_trees}

pub octets_same : (xs ys : List ℕ) → octet_trees xs ≡ octet_trees ys → xs ≡ ys
octets_same [] [] e = refl
octets_same [] (y ∷ ys) e = absurd (cc)
octets_same (x ∷ xs) [] e = absurd (cc)
octets_same (x ∷ xs) (y ∷ ys) e =
    let rest : octet_trees xs ≡ octet_trees ys = cc in
    let one : x ≡ y = cc in
    ap₂ (λ a b. a ∷ b) one (octets_same xs ys rest)

pub tagged_same : (x y : ℕ × List ℕ) → tagged_tree x ≡ tagged_tree y → x ≡ y
tagged_same x y e =
    let tag : x.0 ≡ y.0 = cc in
    let trees : octet_trees x.1 ≡ octet_trees y.1 = cc in
    ap₂ (λ a b. (a, b)) tag (octets_same x.1 y.1 trees)

pub all_tagged_same : (xs ys : List (ℕ × List ℕ)) → tagged_trees xs ≡ tagged_trees ys → xs ≡ ys
all_tagged_same [] [] e = refl
all_tagged_same [] (y ∷ ys) e = absurd (cc)
all_tagged_same (x ∷ xs) [] e = absurd (cc)
all_tagged_same (x ∷ xs) (y ∷ ys) e =
    let rest : tagged_trees xs ≡ tagged_trees ys = cc in
    let one : tagged_tree x ≡ tagged_tree y = cc in
    ap₂ (λ a b. a ∷ b) (tagged_same x y one) (all_tagged_same xs ys rest)
