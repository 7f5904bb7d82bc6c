-- A URL spells one place.
use Rattle.std.proofs.Common.{◌≡◌, ℕ, List, sym, subst, ◌∙◌, ap, Some, true}
use Rattle.reference_texts.specs.Places.{Place, SpellsCorbaloc, address_of, cut, key_of}
use Rattle.reference_texts.specs.References.{Reference}
use Rattle.reference_listing.specs.Spelled.{IsOfPlace, SpellsBy, SpellsReference, is_url}

some_is : {A : Type 0} (a b : A) → Some a ≡ Some b → a ≡ b
some_is a b e = cc

places_same : (host other : List ℕ) (port number : ℕ) (key more : List ℕ) → host ≡ other → port ≡ number → key ≡ more
    → (let one : Place = record { host = host; port = port; key = key } in one)
    ≡ record { host = other; port = number; key = more }
places_same host other port number key more e f g = cc

pub place_once : (text : List ℕ) (a b : Place) → SpellsCorbaloc text a → SpellsCorbaloc text b → a ≡ b
place_once text a b h k =
    let rests : h.rest ≡ k.rest = some_is h.rest k.rest (sym h.rest_is ∙ k.rest_is) in
    let parts : (h.address, h.key) ≡ (k.address, k.key) =
    some_is (h.address, h.key) (k.address, k.key) (sym h.cut_is ∙ ap (cut 47) rests ∙ k.cut_is) in
    let addresses : h.address ≡ k.address = ap (λ (p : List ℕ × List ℕ). p.0) parts in
    let keys : h.key ≡ k.key = ap (λ (p : List ℕ × List ℕ). p.1) parts in
    let ends : (a.host, a.port) ≡ (b.host, b.port) =
    some_is (a.host, a.port) (b.host, b.port) (sym h.address_is ∙ ap address_of addresses ∙ k.address_is) in
    let last : a.key ≡ b.key = some_is a.key b.key (sym h.key_is ∙ ap key_of keys ∙ k.key_is) in
    places_same a.host b.host a.port b.port a.key b.key (ap (λ (p : List ℕ × ℕ). p.0) ends)
    (ap (λ (p : List ℕ × ℕ). p.1) ends) last

-- where the place of a URL has no reference, the URL spells none
pub no_url : (text : List ℕ) (place : Place) → is_url text ≡ true → SpellsCorbaloc text place
    → ((reference : Reference) → IsOfPlace place reference → ⊥) → (reference : Reference)
    → SpellsReference text reference → ⊥
no_url text place url spells none reference h =
    let s = subst (λ b. SpellsBy b text reference) url h in
    none reference (subst (λ (p : Place). IsOfPlace p reference) (place_once text s.place place s.spells spells) s.is)

-- where no place is spelled, no reference is
pub no_place : (text : List ℕ) → is_url text ≡ true → ((place : Place) → SpellsCorbaloc text place → ⊥)
    → (reference : Reference) → SpellsReference text reference → ⊥
no_place text url none reference h =
    let s = subst (λ b. SpellsBy b text reference) url h in
    none s.place s.spells
