use Rattle.std.proofs.Common.{◌≡◌, ◌∙◌, ap, sym, Some, List, ℕ}
use Rattle.diagnostic_texts.specs.Headings.{heading}
use Rattle.diagnostic_texts.specs.Named.{is_of, means}
use Rattle.diagnostic_texts.proofs.named.meant.Goals as goal
use Rattle.diagnostic_texts.proofs.named.meant.Goals.{in_default-via-in-Some+else-is_of, in_default-via-in_default}

pub returns-in-Some : goal.returns-in-Some
unfolding means
returns-in-Some c =
    let own : heading c.args.number ≡ Some c.first_line.result.now =
    sym c.in-Some.ensures.headed ∙ ap (λ (l : List ℕ). Some l) (sym c.first_line.ensures) in
    record {
      is = ap (is_of c.args.word.now) own ∙ (sym c.is_of.ensures ∙ c.if-is_of.true);
      headed = sym c.in-Some.ensures.headed;
    }

pub returns-in_default : goal.returns-in_default
unfolding means
returns-in_default c = elim c.in_default.branch [
  | in_default-via-in-Some+else-is_of w ↦
      let own : heading c.args.number ≡ Some w.first_line.result.now =
      sym w.in-Some.ensures.headed ∙ ap (λ (l : List ℕ). Some l) (sym w.first_line.ensures) in
      ap (is_of c.args.word.now) own ∙ (sym w.is_of.ensures ∙ w.if-is_of.false)
  | in_default-via-in_default w ↦ ap (is_of c.args.word.now) (sym w.in_default.ensures.headed)
]
