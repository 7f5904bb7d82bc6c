-- A target tells one key.
use Rattle.std.proofs.Common.{◌≡◌, ℕ, List, Option, Some, None, slice_get, refl, sym, ap, ap₂, ◌∙◌, subst}
use Rattle.type_graph.specs.Value.{Tree}
use Rattle.giop_types.specs.Fields.{octet_trees, tagged_tree, tagged_trees}
use Rattle.reference_texts.specs.Profiles.{HasKey}
use Rattle.reference_texts.proofs.TreeLaws.{octets_same, tagged_same, all_tagged_same}
use Rattle.giop_messages.specs.Headers.{TellsKey, ByKey, ByProfile, ByReference, IsKeyOf, key_target, profile_target, reference_target}

-- a profile tells one key
module _ (key_once : (profile : ℕ × List ℕ) (a b : List ℕ) → HasKey profile a → HasKey profile b → a ≡ b) where
  some_same : (p q : ℕ × List ℕ) → Some p ≡ Some q → p ≡ q
  some_same p q e = cc

  told_once : (target : Tree) (a b : List ℕ) → TellsKey target a → TellsKey target b → a ≡ b
  told_once target a b (ByKey e) (ByKey f) =
      let same : key_target a ≡ key_target b = sym e ∙ f in
      let trees : octet_trees a ≡ octet_trees b = cc in
      octets_same a b trees
  told_once target a b (ByProfile p e k) (ByProfile q f l) =
      let same : profile_target p ≡ profile_target q = sym e ∙ f in
      let trees : tagged_tree p ≡ tagged_tree q = cc in
      key_once p a b k (subst (λ (r : ℕ × List ℕ). HasKey r b) (sym (tagged_same p q trees)) l)
  told_once target a b (ByReference n t ps p e at k) (ByReference m u qs q f there l) =
      let same : reference_target n t ps ≡ reference_target m u qs = sym e ∙ f in
      let places : n ≡ m = cc in
      let trees : tagged_trees ps ≡ tagged_trees qs = cc in
      let profiles = all_tagged_same ps qs trees in
      let one : Some p ≡ Some q = sym at ∙ ap₂ slice_get profiles places ∙ there in
      key_once p a b k (subst (λ (r : ℕ × List ℕ). HasKey r b) (sym (some_same p q one)) l)
  told_once target a b (ByKey e) (ByProfile q f l) = absurd (cc)
  told_once target a b (ByKey e) (ByReference m u qs q f there l) = absurd (cc)
  told_once target a b (ByProfile p e k) (ByKey f) = absurd (cc)
  told_once target a b (ByProfile p e k) (ByReference m u qs q f there l) = absurd (cc)
  told_once target a b (ByReference n t ps p e at k) (ByKey f) = absurd (cc)
  told_once target a b (ByReference n t ps p e at k) (ByProfile q f l) = absurd (cc)

  pub keys_once : (target : Tree) (a b : Option (List ℕ)) → IsKeyOf target a → IsKeyOf target b → a ≡ b
  keys_once target None None none1 none2 = refl
  keys_once target (Some a) (Some b) one other = ap Some (told_once target a b one other)
  keys_once target None (Some b) none1 other = absurd (none1 b other)
  keys_once target (Some a) None one none2 = absurd (none2 a one)
