-- A token that none stands behind, and the line of a token.
use Rattle.std.proofs.Common.{◌≡◌, ℕ, zero, suc, ◌+◌, ◌-◌, ◌<◌, ◌≤◌, Bool, true, false, cond, nat_eq, nat_lt, List, [], ◌∷◌, length, get_or, slice_get, Option, Some, None, refl, ap, subst, sym, ◌∙◌, inl, inr, arith}
use Rattle.std.specs.List.{find}
use Rattle.std.specs.Option.{option_or}
use Rattle.std.proofs.lemmas.Bool.{cases_lt, eq-eqb, ne_eqb}
use Rattle.std.proofs.lemmas.List.{get_or_past, get_or_default}
use Rattle.std.proofs.lemmas.Option.{slice_get_within}
use Rattle.idl_tree.specs.declared.names.At.{At}
use Rattle.type_paths.specs.Sites.{Sites, Types, held_token, held_in, known_in, known_of, line_in, line_of, nowhere, token_at}

-- of one node
pub held_bound : (sites : Sites) (most n : ℕ) → sites.at.token ≤ most → length sites.held ≤ n
    → ((place : ℕ) → place < n → (get_or sites.held place nowhere).token ≤ most) → (place : ℕ)
    → held_token sites place ≤ most
held_bound sites most n own long each place =
    elim (cases_lt place (length sites.held)) as (λ v. held_token sites place ≤ most) [
      | inl lt ↦ let e = ap (λ (at : At). at.token) (get_or_default sites.held place sites.at nowhere lt) in let here =
          each place (omega arith) in omega arith
      | inr le ↦ let e = ap (λ (at : At). at.token) (get_or_past sites.held place sites.at le) in omega arith
    ]

in_bound : (found : Option Sites) (most place : ℕ)
    → ((sites : Sites) → found ≡ Some sites → held_token sites place ≤ most) → held_in found place ≤ most
in_bound None most place each = omega arith
in_bound (Some sites) most place each = each sites refl

-- of all nodes
pub token_bound : (types : Types) (most : ℕ)
    → ((k place : ℕ) (sites : Sites) → k < length types.sites → slice_get types.sites k ≡ Some sites
    → held_token sites place ≤ most)
    → (node place : ℕ) → token_at types node place ≤ most
token_bound types most each node place =
    elim (nat_lt node types.first) as
    (λ b. held_in (cond b None (slice_get types.sites (node - types.first))) place ≤ most) [
      | true ↦ omega arith
      | false ↦ in_bound (slice_get types.sites (node - types.first)) most place
          (λ sites found. each (node - types.first) place sites
          (slice_get_within types.sites (node - types.first) sites found) found)
    ]

-- ---- the line of a token

-- where the one in the front stands at another token
passed : (token : ℕ) (at : At) (all : List At) → (at.token ≡ token → ⊥)
    → find (λ at. nat_eq at.token token) (at ∷ all) ≡ find (λ at. nat_eq at.token token) all
passed token at all other =
    ap (λ (b : Bool). cond b (Some at) (find (λ at. nat_eq at.token token) all)) (ne_eqb at.token token other)

here : (token : ℕ) (at : At) (all : List At) → at.token ≡ token
    → find (λ at. nat_eq at.token token) (at ∷ all) ≡ Some at
here token at all same = ap (λ (b : Bool). cond b (Some at) (find (λ at. nat_eq at.token token) all))
    (eq-eqb at.token token same)

-- the first in a list that stands at the token
pub found_first : (token : ℕ) (all : List At) (k : ℕ) → k < length all → (get_or all k nowhere).token ≡ token
    → ((less : ℕ) → less < k → (get_or all less nowhere).token ≡ token → ⊥)
    → find (λ at. nat_eq at.token token) all ≡ Some (get_or all k nowhere)
found_first token [] k lt is before = absurd (omega arith)
found_first token (at ∷ all) zero lt is before = here token at all is
found_first token (at ∷ all) (suc k) lt is before =
    passed token at all (before 0 (omega arith))
    ∙ found_first token all k (omega arith) is (λ less below. before (suc less) (omega arith))

pub none_found : (token : ℕ) (all : List At) → ((k : ℕ) → k < length all → (get_or all k nowhere).token ≡ token → ⊥)
    → find (λ at. nat_eq at.token token) all ≡ None
none_found token [] each = refl
none_found token (at ∷ all) each = passed token at all (each 0 (omega arith))
    ∙ none_found token all (λ k lt. each (suc k) (omega arith))

-- of a node that stands at another token itself
pub found_held : (token : ℕ) (sites : Sites) (k : ℕ) → (sites.at.token ≡ token → ⊥) → k < length sites.held
    → (get_or sites.held k nowhere).token ≡ token
    → ((less : ℕ) → less < k → (get_or sites.held less nowhere).token ≡ token → ⊥)
    → Some (get_or sites.held k nowhere) ≡ known_of token sites
found_held token sites k other lt is before =
    sym (passed token sites.at sites.held other ∙ found_first token sites.held k lt is before)

pub none_held : (token : ℕ) (sites : Sites) → (sites.at.token ≡ token → ⊥)
    → ((k : ℕ) → k < length sites.held → (get_or sites.held k nowhere).token ≡ token → ⊥)
    → None ≡ known_of token sites
none_held token sites other each = sym (passed token sites.at sites.held other ∙ none_found token sites.held each)

abbrev pub no_sites : Sites
no_sites = record { at = nowhere; held = [] }

-- none of those up to a place stands there
pub none_up_to : (token : ℕ) (all : List Sites) (i : ℕ) (item : Sites) → i < length all → item ≡ get_or all i item
    → known_of token item ≡ None
    → ((k : ℕ) → k < i → known_of token (get_or all k no_sites) ≡ None) → (k : ℕ) → k < i + 1
    → known_of token (get_or all k no_sites) ≡ None
none_up_to token all i item lt is none before k below =
    elim (cases_lt k i) as (λ v. known_of token (get_or all k no_sites) ≡ None) [
      | inl less ↦ before k less
      | inr le ↦
          let same : k ≡ i = omega arith in
          let there : item ≡ get_or all i no_sites = is ∙ get_or_default all i item no_sites lt in
          subst (λ (n : ℕ). known_of token (get_or all n no_sites) ≡ None) (sym same)
          (subst (λ (s : Sites). known_of token s ≡ None) there none)
    ]

none_known : (token : ℕ) (all : List Sites) → ((k : ℕ) → k < length all → known_of token (get_or all k no_sites) ≡ None)
    → known_in token all ≡ None
none_known token [] each = refl
none_known token (sites ∷ all) each =
    ap (λ (found : Option At). option_or found (known_in token all)) (each 0 (omega arith))
    ∙ none_known token all (λ k lt. each (suc k) (omega arith))

first_known : (token : ℕ) (all : List Sites) (i : ℕ) (at : At) → i < length all
    → known_of token (get_or all i no_sites) ≡ Some at
    → ((k : ℕ) → k < i → known_of token (get_or all k no_sites) ≡ None) → known_in token all ≡ Some at
first_known token [] i at lt known before = absurd (omega arith)
first_known token (sites ∷ all) zero at lt known before =
    ap (λ (found : Option At). option_or found (known_in token all)) known
first_known token (sites ∷ all) (suc i) at lt known before =
    ap (λ (found : Option At). option_or found (known_in token all)) (before 0 (omega arith))
    ∙ first_known token all i at (omega arith) known (λ k less. before (suc k) (omega arith))

-- nothing stands there
pub no_line : (types : Types) (token n : ℕ) → length types.sites ≤ n
    → ((k : ℕ) → k < n → known_of token (get_or types.sites k no_sites) ≡ None) → 0 ≡ line_of types token
no_line types token n all each = sym (ap line_in (none_known token types.sites (λ k lt. each k (omega arith))))

-- the first that stands there
pub first_line : (types : Types) (token i : ℕ) (item : Sites) (at : At) → i < length types.sites
    → item ≡ get_or types.sites i item → known_of token item ≡ Some at
    → ((k : ℕ) → k < i → known_of token (get_or types.sites k no_sites) ≡ None) → at.line ≡ line_of types token
first_line types token i item at lt is known before =
    let there : item ≡ get_or types.sites i no_sites = is ∙ get_or_default types.sites i item no_sites lt in
    sym (ap line_in (first_known token types.sites i at lt
    (subst (λ (s : Sites). known_of token s ≡ Some at) there known) before))
