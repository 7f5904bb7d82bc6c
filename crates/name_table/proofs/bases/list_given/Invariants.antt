use Rattle.std.proofs.Common.{ℕ, List}
use Rattle.name_table.specs.inner.Records.{HasWord}
use Rattle.name_table.proofs.MergedBases.{is_listed}
use Rattle.name_table.proofs.bases.list_given.Given as goal

abbrev pub invariant-loop-word : goal.invariant-loop-word
invariant-loop-word l = record {
  kept : (name : List ℕ) → HasWord l.fn.words.items name → HasWord l.words.items name;
  listed : (name : List ℕ) → is_listed l.heir.others.entries l.word-iterator l.words.items name;
}
