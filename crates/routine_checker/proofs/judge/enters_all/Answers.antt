use Rattle.std.proofs.Common.{◌&&◌, ℕ, option_to_list, sym, ap, ◌∙◌}
use Rattle.std.specs.List.{list_all}
use Rattle.routine_checker.specs.Sets.{is_within}
use Rattle.routine_checker.specs.Steps.{entry_at}
use Rattle.routine_checker.proofs.JudgeLaws.{all_arms}
use Rattle.routine_checker.proofs.judge.enters_all.Goals as goal

pub returns-then-arms_enter : goal.returns-then-arms_enter
returns-then-arms_enter c =
    let test = λ (routine : ℕ). is_within c.args.from (entry_at c.args.program.now routine) in
    let others = list_all test (option_to_list c.args.otherwise) in
    c.enters_otherwise-other_enters.ensures
    ∙ sym (all_arms test c.args.arms.now c.args.otherwise
    ∙ ap (λ b. b && others) (sym c.enters_arms-arms_enter.ensures ∙ c.if-arms_enter.true))

pub returns-else-arms_enter : goal.returns-else-arms_enter
returns-else-arms_enter c =
    let test = λ (routine : ℕ). is_within c.args.from (entry_at c.args.program.now routine) in
    let others = list_all test (option_to_list c.args.otherwise) in
    c.if-arms_enter.false
    ∙ sym (all_arms test c.args.arms.now c.args.otherwise
    ∙ ap (λ b. b && others) (sym c.enters_arms-arms_enter.ensures ∙ c.if-arms_enter.false))
