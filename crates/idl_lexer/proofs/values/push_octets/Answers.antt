use Rattle.std.proofs.Common.{◌≡◌, ◌∙◌, ℕ, List, ◌++◌, drop, length, slice_index, ap, subst, sym, refl, arith}
use Rattle.std.proofs.Math.Logic.{∥∥₁_map}
use Rattle.std.proofs.lemmas.Grind.{get_or_after_one}
use Rattle.idl_lexer.specs.Literals.{ClosedCharacters, IsTextLiteral}
use Rattle.idl_lexer.proofs.values.push_octets.Goals as goal

-- behind the opening quote stand its characters
inside : (text octets rest : List ℕ) → octets ≡ text → rest ≡ drop 1 octets → (t : IsTextLiteral text (length text))
    → (c : ClosedCharacters rest) × (c.octets ≡ t.octets)
inside text octets rest same cut t =
    let closes : slice_index (drop 1 text) t.inner ≡ 34 = get_or_after_one text t.inner 0
    ∙ ap (slice_index text) (omega arith) ∙ t.closes in
    let P : List ℕ → Type 0 = λ r. (c : ClosedCharacters r) × (c.octets ≡ t.octets) in
    subst P (sym (cut ∙ ap (drop 1) same))
    (record { octets = t.octets; inner = t.inner; characters = t.characters; closes = closes }, refl)

pub push_characters-requires : goal.push_characters-requires
push_characters-requires c =
    ∥∥₁_map c.requires (λ t. (inside c.args.text.now _ _ c.as_bytes.ensures.value c.behind_first.ensures t).0)

pub returns-in-Ok-clause-ok : goal.returns-in-Ok-clause-ok
returns-in-Ok-clause-ok c literal =
    let there = inside c.args.text.now _ _ c.as_bytes.ensures.value c.behind_first.ensures literal in
    c.in-Ok.ensures.ok there.0 ∙ ap (λ t. c.args.octets.now.items ++ t) there.1
