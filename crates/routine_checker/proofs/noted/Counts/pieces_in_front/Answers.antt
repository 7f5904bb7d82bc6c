use Rattle.std.proofs.Common.{◌≡◌, ◌-◌, ◌++◌, ℕ, Bool, drop, sym, subst}
use Rattle.routine_checker.specs.Taking.{taken}
use Rattle.routine_checker.proofs.noted.Counts.pieces_in_front.Goals as goal

pub returns-in-Some-clause-taken : goal.returns-in-Some-clause-taken
returns-in-Some-clause-taken c = λ graph right more.
    subst (λ (wanted : ℕ → Bool). taken c.args.wanted wanted graph (c.args.numbers.now ++ more)
    ≡ taken (c.args.wanted - c.front.result.1) wanted graph (drop c.front.result.0 c.args.numbers.now ++ more))
    (sym (c.in-Some.ensures graph)) (c.front.ensures.taken graph right more)
