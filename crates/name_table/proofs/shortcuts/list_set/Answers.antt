use Rattle.std.proofs.Common.{inr, sym, subst}
use Rattle.std.specs.Map.Iter.{deref}
use Rattle.std.proofs.lemmas.Map.Iter.{rest_all, rest_more}
use Rattle.name_table.specs.inner.Records.{HasWord}
use Rattle.name_table.proofs.Tied.{HasWord_push}
use Rattle.name_table.proofs.Ways.{has_all, word_listed}
use Rattle.name_table.proofs.shortcuts.list_set.Goals as goal

pub loop-word-init : goal.loop-word-init
loop-word-init c = record {
  kept = λ name has. has;
  listed = λ name has. inr
      (subst (λ xs. HasWord xs name) (sym c.into_iter-word-iterator.ensures.into_iter_gives.0) has);
}

pub loop-word-preserved : goal.loop-word-preserved
loop-word-preserved c =
    let left = c.loop-word.word-iterator in
    let ws = c.loop-word.words.items in
    let split = rest_more deref left c.next.new.self c.next.result c.in-Some.word c.in-Some.is c.next.ensures.steps in
    record {
      kept = λ name has. subst (λ xs. HasWord xs name) (sym c.in_ok-push.ensures.items)
          (HasWord_push ws c.in-Some.word.now name (c.loop-word.invariant.kept name has));
      listed = λ name has. word_listed left c.next.new.self ws c.push.new.self.items c.in-Some.word.now name split
          c.in_ok-push.ensures.items (c.loop-word.invariant.listed name has);
    }

pub returns-clause-listed : goal.returns-clause-listed
returns-clause-listed c = λ name has.
    has_all c.loop-word.word-iterator c.loop-word.words.items name
    (rest_all deref c.loop-word.word-iterator c.next.new.self c.next.result c.in-None.is c.next.ensures.steps)
    (c.loop-word.invariant.listed name has)
