use Rattle.std.proofs.Common.{◌≡◌, ◌+◌, ◌-◌, sym, ap, ◌∙◌, arith}
use Rattle.routine_checker.specs.Steps.{times_left}
use Rattle.routine_checker.proofs.TimesLaws.{left_add}
use Rattle.routine_checker.proofs.times.left_late.Goals as goal

pub returns : goal.returns
returns c =
    let cut : c.args.n ≡ 64 + (c.args.n - 64) = omega (arith, c.if-n-le-FOLLOWED.false) in
    c.left_one_by_one-2.ensures ∙ c.left_over-more.ensures
    ∙ ap (times_left (c.args.n - 64) c.args.exits.now) c.left_one_by_one-behind.ensures
    ∙ sym (left_add 64 (c.args.n - 64) c.args.exits.now c.args.places)
    ∙ sym (ap (λ k. times_left k c.args.exits.now c.args.places) cut)
