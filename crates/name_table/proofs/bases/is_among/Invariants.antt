use Rattle.std.proofs.Common.{◌≡◌, drop, nat_eq}
use Rattle.std.specs.List.{list_any}
use Rattle.name_table.proofs.bases.is_among.Given as goal

abbrev pub invariant-loop-base : goal.invariant-loop-base
invariant-loop-base l = list_any (λ b. nat_eq b.entry l.entry) (drop l.base-index l.bases)
    ≡ list_any (λ b. nat_eq b.entry l.entry) l.bases
