-- The key of a profile is that of the profile of IIOP that it is.
use Rattle.std.proofs.Common.{◌≡◌, ℕ, zero, suc, List, [], refl, sym, ap, subst}
use Rattle.type_graph.specs.Words.{reading}
use Rattle.type_graph.specs.Value.{Tree}
use Rattle.giop_types.specs.Fields.{Holds}
use Rattle.reference_texts.specs.Profiles.{Body, HasKey, body_node, body_tree}
use Rattle.reference_listing.specs.Listings.{Iiop, IsIiop}

pub has_key : (profile : ℕ × List ℕ) (iiop : Iiop) → IsIiop profile iiop → HasKey profile iiop.body.key
has_key profile iiop is = record {
  tag = is.tag;
  body = iiop.body;
  major = is.major;
  key_is = refl;
  encapsulated = record {
    order = iiop.order;
    body = is.front;
    rest = iiop.behind;
    octets_are = is.octets_are;
    holds = is.holds;
  };
}

-- a body without the components that its version doesn't have
abbrev kept : ℕ → List (ℕ × List ℕ) → List (ℕ × List ℕ)
kept zero components = []
kept (suc n) components = components

abbrev bare : Body → ℕ → Body
bare body minor = record body { components = kept minor body.components }

same_tree : (body : Body) (minor : ℕ) → body_tree (bare body minor) minor ≡ body_tree body minor
same_tree body zero = refl
same_tree body (suc n) = refl

pub no_key : (profile : ℕ × List ℕ) → ((iiop : Iiop) → IsIiop profile iiop → ⊥) → (key : List ℕ) → HasKey profile key
    → ⊥
no_key profile none key h =
    let e = h.encapsulated in
    let minor = h.body.minor in
    none (record { order = e.order; body = bare h.body minor; behind = e.rest }) (record {
      tag = h.tag;
      major = h.major;
      bare = λ is. ap (λ n. kept n h.body.components) is;
      front = e.body;
      octets_are = e.octets_are;
      holds = subst (λ (tree : Tree). Holds (reading e.order) (body_node minor) 1 tree e.body)
          (sym (same_tree h.body minor)) e.holds;
    })
