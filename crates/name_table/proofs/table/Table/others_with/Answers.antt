use Rattle.std.proofs.Common.{◌≡◌, ◌∙◌, ◌+◌, ◌<◌, ◌∷◌, suc, drop, length, get_or, refl, ap, sym, subst, arith}
use Rattle.std.proofs.Math.Seq.{drop-cons}
use Rattle.name_table.specs.inner.SeveralBases.{IsDone}
use Rattle.name_table.proofs.GivenBehind.{drop_none}
use Rattle.name_table.proofs.MergedBases.{cloned, done_given, done_nothing, done_start}
use Rattle.name_table.proofs.table.Table.others_with.Goals as goal
use Rattle.name_table.proofs.table.Table.others_with.Goals.{in-Some+in_ok-insert, in_default}

pub loop-word-init : goal.loop-word-init
loop-word-init c =
    let old = c.args.heir.now.others.entries in
    let new = c.in_ok-others.others.entries in
    done_start c.args.self.now c.args.inner.0 c.args.base old new c.args.words.now
    (cloned _ _ (λ x y h. h) (λ x y h. h) old new c.in_ok-others.ensures.cases) c.requires.covers

pub loop-word-preserved : goal.loop-word-preserved
loop-word-preserved c =
    let es = c.args.self.now in
    let old = c.args.heir.now.others.entries in
    let now = c.loop-word.others.entries in
    let k = c.loop-word.word-index in
    let words = c.args.words.now in
    let x = c.word-item.result in
    let next : suc k ≡ k + 1 = omega arith in
    let lt : k < length words = omega arith in
    let here : get_or words k x ≡ x = sym c.word-item.is in
    let split : drop k words ≡ x ∷ drop (k + 1) words =
    drop-cons words k x lt ∙ ap (λ y. y ∷ drop (suc k) words) here ∙ ap (λ j. x ∷ drop j words) next in
    elim c.match-given_with.branch [
      | in-Some+in_ok-insert b ↦ subst (λ m. IsDone es c.args.inner.0 c.args.base old m.entries (drop (k + 1) words))
          (sym b.others-is)
          (done_given es c.args.inner.0 c.args.base old now b.insert.new.self.entries x (drop (k + 1) words)
          (drop k words) b.in-Some.given split b.in-Some.ensures.given b.in_ok-insert.ensures.entries
          c.loop-word.invariant)
      | in_default b ↦ subst (λ m. IsDone es c.args.inner.0 c.args.base old m.entries (drop (k + 1) words))
          (sym b.others-is)
          (done_nothing es c.args.inner.0 c.args.base old now x (drop (k + 1) words) (drop k words) split
          (b.in_default.ensures.same refl) c.loop-word.invariant)
    ]

pub returns : goal.returns
returns c =
    subst (IsDone c.args.self.now c.args.inner.0 c.args.base c.args.heir.now.others.entries c.loop-word.others.entries)
    (drop_none c.args.words.now c.loop-word.word-index (omega arith)) c.loop-word.invariant
