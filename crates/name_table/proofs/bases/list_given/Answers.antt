use Rattle.std.proofs.Common.{inl, sym, ap, subst}
use Rattle.std.specs.Map.Iter.{deref_pair}
use Rattle.std.proofs.lemmas.Map.Iter.{rest_all, rest_more}
use Rattle.std.specs.Map.{lookup}
use Rattle.name_table.specs.inner.Records.{HasWord, is_word}
use Rattle.name_table.proofs.Tied.{HasWord_push}
use Rattle.name_table.proofs.MergedBases.{entry_listed, is_listed}
use Rattle.name_table.proofs.bases.list_given.Goals as goal

pub loop-word-init : goal.loop-word-init
loop-word-init c = record {
  kept = λ name has. has;
  listed = λ name. inl (ap (lookup (is_word name)) (sym c.into_iter-word-iterator.ensures.into_iter_gives.0));
}

pub loop-word-preserved : goal.loop-word-preserved
loop-word-preserved c =
    let all = c.args.heir.now.others.entries in
    let left = c.loop-word.word-iterator in
    let ws = c.loop-word.words.items in
    let split = rest_more deref_pair left c.next.new.self c.next.result (c.in-Some.word, c.in-Some.field-0-1)
    c.in-Some.is c.next.ensures.steps in
    record {
      kept = λ name has. subst (λ xs. HasWord xs name) (sym c.in_ok-push.ensures.items)
          (HasWord_push ws c.in-Some.word.now name (c.loop-word.invariant.kept name has));
      listed = λ name. entry_listed all left c.next.new.self c.in-Some.word.now c.in-Some.field-0-1.now ws
          c.push.new.self.items name split c.in_ok-push.ensures.items (c.loop-word.invariant.listed name);
    }

pub returns-clause-listed : goal.returns-clause-listed
returns-clause-listed c = λ name.
    subst (λ left. is_listed c.args.heir.now.others.entries left c.loop-word.words.items name)
    (rest_all deref_pair c.loop-word.word-iterator c.next.new.self c.next.result c.in-None.is c.next.ensures.steps)
    (c.loop-word.invariant.listed name)
