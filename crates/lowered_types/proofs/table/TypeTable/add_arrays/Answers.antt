use Rattle.std.proofs.Common.{arith}
use Rattle.std.proofs.lemmas.Result.{err_from_is_err_and}
use Rattle.lowered_types.specs.Lowered.{already}
use Rattle.lowered_types.proofs.Parts.{or_told}
use Rattle.lowered_types.proofs.Walks.{arrays_off}
use Rattle.lowered_types.proofs.table.TypeTable.add_arrays.Goals as goal

pub returns-in_err-number : goal.returns-in_err-number
returns-in_err-number c =
    let p = err_from_is_err_and c.from_residual.result c.from_residual.ensures.1 in
    rw (p.1, p.2) (or_told c.in_err-number.ensures
    (λ is. arrays_off (already c.args.self.now c.args.elem) c.loop-left.self c.loop-left.number c.args.at
    c.loop-left.left c.args.counts.now _
    (omega arith) c.loop-left.invariant.within c.loop-left.invariant.told is))
