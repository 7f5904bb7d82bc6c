use Rattle.std.proofs.Common.{◌⊎◌, ℕ, List}
use Rattle.name_table.specs.inner.Records.{HasWord}
use Rattle.name_table.proofs.shortcuts.list_set.Given as goal

abbrev pub invariant-loop-word : goal.invariant-loop-word
invariant-loop-word l = record {
  kept : (name : List ℕ) → HasWord l.fn.words.items name → HasWord l.words.items name;
  listed : (name : List ℕ) → HasWord l.set.keys name → HasWord l.words.items name ⊎ HasWord l.word-iterator name;
}
