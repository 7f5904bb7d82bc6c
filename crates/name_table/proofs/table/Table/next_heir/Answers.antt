use Rattle.std.proofs.Common.{subst, sym, List, ℕ, ◌⊎◌}
use Rattle.name_table.specs.inner.Records.{HasWord}
use Rattle.name_table.specs.inner.SeveralBases.{SaysNothingNew}
use Rattle.name_table.proofs.table.Table.next_heir.Goals as goal

pub heir_with-requires-clause-covers : goal.heir_with-requires-clause-covers
heir_with-requires-clause-covers c =
    subst (λ ws. (name : List ℕ) → SaysNothingNew c.args.self.now c.args.inner.0 c.args.base name ⊎ HasWord ws name)
    (sym c.as_slice.ensures.value) c.in_ok-words.ensures
