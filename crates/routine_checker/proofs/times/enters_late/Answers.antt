use Rattle.std.proofs.Common.{◌≡◌, ◌+◌, ◌-◌, ◌&&◌, sym, ap, ◌∙◌, arith}
use Rattle.routine_checker.specs.Steps.{enters_times, times_left}
use Rattle.routine_checker.proofs.TimesLaws.{enters_add}
use Rattle.routine_checker.proofs.times.enters_late.Goals as goal

pub returns-then-enters_one_by_one : goal.returns-then-enters_one_by_one
returns-then-enters_one_by_one c =
    let entry = c.args.entry in
    let exits = c.args.exits.now in
    let places = c.args.places in
    let more = c.args.n - 64 in
    let cut : c.args.n ≡ 64 + (c.args.n - 64) = omega (arith, c.if-n-le-FOLLOWED.false) in
    c.enters_behind.ensures ∙ ap (enters_times more entry exits) c.left_one_by_one-behind.ensures
    ∙ sym (ap (λ k. enters_times k entry exits places) cut ∙ enters_add 64 more entry exits places
    ∙ ap (λ b. b && enters_times more entry exits (times_left 64 exits places))
    (sym c.enters_one_by_one-2.ensures ∙ c.if-enters_one_by_one.true))

pub returns-else-enters_one_by_one : goal.returns-else-enters_one_by_one
returns-else-enters_one_by_one c =
    let entry = c.args.entry in
    let exits = c.args.exits.now in
    let places = c.args.places in
    let more = c.args.n - 64 in
    let cut : c.args.n ≡ 64 + (c.args.n - 64) = omega (arith, c.if-n-le-FOLLOWED.false) in
    c.if-enters_one_by_one.false
    ∙ sym (ap (λ k. enters_times k entry exits places) cut ∙ enters_add 64 more entry exits places
    ∙ ap (λ b. b && enters_times more entry exits (times_left 64 exits places))
    (sym c.enters_one_by_one-2.ensures ∙ c.if-enters_one_by_one.false))
