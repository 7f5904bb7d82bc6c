use Rattle.std.proofs.Common.{◌≡◌, [], ◌∷◌, ◌++◌, drop}
use Rattle.json.specs.Token.{begin_array, begin_object}
use Rattle.idl_value.specs.View.{trees_of}
use Rattle.value_text.specs.Pieces.{joined}
use Rattle.value_text.proofs.Writing.{elements, row, pairs}
use Rattle.value_text.proofs.printing.+printing.Given as goal

abbrev pub invariant-write_list-loop-value : goal.invariant-write_list-loop-value
invariant-write_list-loop-value l =
    (l.out.before ≡ l.fn.out.before)
    × (l.out.tokens ++ joined (elements l.names l.graph l.elem (trees_of (drop l.value-index l.values)))
    ≡ (l.fn.out.tokens ++ begin_array ∷ []) ++ joined (elements l.names l.graph l.elem (trees_of l.values)))

abbrev pub invariant-write_row-loop-place : goal.invariant-write_row-loop-place
invariant-write_row-loop-place l =
    (l.out.before ≡ l.fn.out.before)
    × (l.out.tokens ++ row l.names l.graph l.members l.values l.place
    ≡ (l.fn.out.tokens ++ begin_array ∷ []) ++ row l.names l.graph l.members l.values 0)

abbrev pub invariant-write_object-loop-place : goal.invariant-write_object-loop-place
invariant-write_object-loop-place l =
    (l.out.before ≡ l.fn.out.before)
    × (l.out.tokens ++ pairs l.names l.graph l.labels l.members l.values l.place
    ≡ (l.fn.out.tokens ++ begin_object ∷ []) ++ pairs l.names l.graph l.labels l.members l.values 0)
