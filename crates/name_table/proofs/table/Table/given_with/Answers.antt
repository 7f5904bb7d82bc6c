use Rattle.std.proofs.Common.{◌≡◌, ◌∙◌, ◌+◌, ℕ, suc, refl, ap, subst, arith}
use Rattle.std.specs.Map.{lookup}
use Rattle.name_table.specs.inner.Records.{given_before, is_word}
use Rattle.name_table.specs.Search.{within}
use Rattle.name_table.specs.inner.SeveralBases.{given_then}
use Rattle.name_table.proofs.MergedBases.{first_of, given_is, some_both}
use Rattle.name_table.proofs.table.Table.given_with.Goals as goal
use Rattle.name_table.proofs.table.Table.given_with.Goals.{in-Some, in-None}

pub returns-clause-given : goal.returns-clause-given
returns-clause-given c =
    let es = c.args.self.now in
    let base = c.args.base in
    let w = c.args.word.text.now in
    let h = c.args.heir.now in
    let next : base.entry + 1 ≡ suc base.entry = omega arith in
    let first_is : c.match-other.first ≡ first_of h (lookup (is_word w) h.others.entries) = elim c.match-other.branch [
      | in-Some b ↦ b.first-is ∙ ap (first_of h) b.in-Some.ensures
      | in-None b ↦ b.first-is ∙ ap (first_of h) b.in-None.ensures
    ] in
    some_both c.merged.result
    (λ g told fits. given_is es c.args.inner.0 h base w c.inherited-old.result c.within-new.result
    (lookup (is_word w) h.others.entries) g c.requires.kept refl
    c.inherited-old.ensures (c.within-new.ensures ∙ ap (λ s. within es base.token s w) next) told
    (subst (λ f. (t : ℕ) → given_before t g ≡ given_then f base.token c.inherited-old.result c.within-new.result t)
    first_is fits))
    c.merged.ensures.told c.merged.ensures.given
