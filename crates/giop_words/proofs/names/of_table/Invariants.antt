use Rattle.std.specs.Prelude.{◌≡◌, ◌<◌, ℕ, true, false, MatchOption, slice_get}
use Rattle.type_model.specs.Operations.{has_name}
use Rattle.giop_words.proofs.names.of_table.Given as goal

-- no operation before the number has the name, or the first that was found has it
abbrev pub invariant-loop-number : goal.invariant-loop-number
invariant-loop-number l = MatchOption l.first
    ((earlier : ℕ) → earlier < l.number
    → has_name l.request.operation.items (slice_get l.types.table.now.model.operations earlier) ≡ false)
    (λ found. has_name l.request.operation.items (slice_get l.types.table.now.model.operations found) ≡ true)
