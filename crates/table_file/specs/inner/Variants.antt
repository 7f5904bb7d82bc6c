-- Kinds that are told apart by a tag, the octet before their fields.
use Rattle.std.proofs.Common.{◌≡◌, ℕ, ◌<◌, ◌≤◌, List, [], ◌∷◌, ◌++◌, length, Option, Some, nat_lt, refl, sym, ap, ◌∙◌, arith}
use Rattle.std.proofs.lemmas.List.{append-nil}
use Rattle.std.specs.Fmt.{◌++?◌}
use Rattle.table_file.specs.Octets.{Tagged, spelled_octet, spelled_tagged}
use Rattle.table_file.specs.inner.Joins.{split, parted, passed}
use Rattle.table_file.specs.inner.Codes.{IsOne, IsCode}

-- The kind of a tag: behind it stands the spelling of its fields, and no other kind has the tag.
pub record IsKind {A F : Type 0} (tagged : A → Tagged) (tag : ℕ) (fields : F → Option (List ℕ)) (make : F → A)
    : Type 0 where
  pub says : (x : F) → spelled_tagged (tagged (make x)) ≡ Some (tag ∷ []) ++? fields x
  pub only : (a : A) → (tagged a).0 ≡ tag → (x : F) × (a ≡ make x)

-- a tag at the front, and what is behind it
pub tag_at : (x : Tagged) (rest octets : List ℕ) → spelled_tagged x ++? Some rest ≡ Some octets
    → (t : List ℕ) × (octets ≡ x.0 ∷ t) × (x.1 ++? Some rest ≡ Some t)
tag_at x rest octets e =
    let p = parted (spelled_octet x.0) x.1 (Some rest) octets e in
    let q = split (spelled_octet x.0) (Some p.0) octets p.2 in
    let front : x.0 ∷ [] ≡ q.0 = (passed (nat_lt x.0 256) (x.0 ∷ []) q.0 q.2).1 in
    let back : p.0 ≡ q.1 = cc in
    (p.0, sym q.4 ∙ ap (λ s. s ++ q.1) (sym front) ∙ ap (λ t. x.0 ∷ t) (sym back), p.1)

module _ {A F : Type 0} {tagged : A → Tagged} {tag : ℕ} {fields : F → Option (List ℕ)} {make : F → A}
    (kind : IsKind tagged tag fields make) where
  -- one of the kind at the front
  pub kind_at : (x : F) (rest octets : List ℕ) → spelled_tagged (tagged (make x)) ++? Some rest ≡ Some octets
      → (t : List ℕ) × (octets ≡ tag ∷ t) × (fields x ++? Some rest ≡ Some t)
  kind_at x rest octets e =
      let whole : (Some (tag ∷ []) ++? fields x) ++? Some rest ≡ Some octets =
      ap (λ o. o ++? Some rest) (sym (kind.says x)) ∙ e in
      let p = parted (Some (tag ∷ [])) (fields x) (Some rest) octets whole in
      (p.0, cc, p.1)

  -- what has the tag is of the kind
  pub of_kind : (a : A) (rest octets : List ℕ) → spelled_tagged (tagged a) ++? Some rest ≡ Some (tag ∷ octets)
      → (x : F) × (a ≡ make x)
  of_kind a rest octets e =
      let p = tag_at (tagged a) rest (tag ∷ octets) e in
      let same : (tagged a).0 ≡ tag = cc in
      kind.only a same

  -- nothing but one of the kind is spelled so
  pub one_kind : IsOne fields → (x : F) (b : A) (r s octets : List ℕ)
      → spelled_tagged (tagged (make x)) ++? Some r ≡ Some octets → spelled_tagged (tagged b) ++? Some s ≡ Some octets
      → (make x ≡ b) × (r ≡ s)
  one_kind one x b r s octets ea eb =
      let p = kind_at x r octets ea in
      let other = of_kind b s p.0 (eb ∙ ap Some p.1) in
      let q = kind_at other.0 s octets (ap (λ a. spelled_tagged (tagged a) ++? Some s) (sym other.1) ∙ eb) in
      let tails : p.0 ≡ q.0 = cc in
      let same = one x other.0 r s q.0 (p.2 ∙ ap Some tails) q.2 in
      (ap make same.0 ∙ sym other.1, same.1)

-- a tag alone
abbrev pub nothing : Unit {0} → Option (List ℕ)
nothing u = Some []

pub one_nothing : IsOne nothing
one_nothing x y r s octets ea eb = (refl, cc)

-- what has a tag isn't empty
pub tagged_code : {A : Type 0} (tagged : A → Tagged) → IsOne (λ a. spelled_tagged (tagged a))
    → IsCode (λ a. spelled_tagged (tagged a))
tagged_code tagged one = record {
  one = one;
  some = λ a octets e.
      let p = tag_at (tagged a) [] octets (ap (λ o. o ++? Some []) e ∙ ap Some (append-nil octets)) in
      let l : length octets ≡ length ((tagged a).0 ∷ p.0) = ap length p.1 in
      omega (arith, l);
}

-- a tag past all kinds
pub no_kind : {A : Type 0} (tagged : A → Tagged) (many : ℕ) → ((a : A) → (tagged a).0 < many) → (tag : ℕ)
    → many ≤ tag → (a : A) (rest octets : List ℕ) → spelled_tagged (tagged a) ++? Some rest ≡ Some (tag ∷ octets) → ⊥
no_kind tagged many few tag le a rest octets e =
    let p = tag_at (tagged a) rest (tag ∷ octets) e in
    let same : (tagged a).0 ≡ tag = cc in
    let lt = few a in
    absurd (omega (arith, lt, same, le))
