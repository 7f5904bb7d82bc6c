use Rattle.std.proofs.Common.{◌<◌, ◌+◌, Bool, List, length, IfNone, IfSome, ℕ, false, ap, subst, arith}
use Rattle.type_paths.specs.Sites.{Types}
use Rattle.type_paths.specs.Levels.{IsIn}
use Rattle.type_paths.proofs.TableLaws.{round_told}
use Rattle.type_paths.proofs.circles.goes_round.Goals as goal

pub returns : goal.returns
returns c =
    let types = c.args.types.now in
    let seen = ap (λ (t : Types). length t.nodes) c.types.view_is in
    let few : length types.nodes < length c.types.inside.nodes.now + 1 = omega arith in
    let none = subst (λ (table : List Bool). IfNone c.first_in.result ((node : ℕ) → IsIn table false node → ⊥))
    c.deref.ensures.value c.first_in.ensures.none in
    let some = subst (λ (table : List Bool). IfSome c.first_in.result (IsIn table false)) c.deref.ensures.value
    c.first_in.ensures.some in
    rw c.is_some.ensures (round_told types c.args.token (length c.types.inside.nodes.now + 1) c.in_ok-table.table.items
    c.first_in.result c.in_ok-table.ensures.level (c.in_ok-table.ensures.endless few) none some)
