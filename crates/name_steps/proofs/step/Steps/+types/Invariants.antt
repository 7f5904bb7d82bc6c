use Rattle.std.proofs.Common.{◌≡◌, ◌++◌, drop}
use Rattle.std.specs.List.{flat_map}
use Rattle.name_steps.specs.Steps.{case_steps, member_steps}
use Rattle.name_steps.specs.StepsKept.{steps_in}
use Rattle.name_steps.proofs.step.Steps.+types.Given as goal

abbrev pub invariant-add_members-loop-member : goal.invariant-add_members-loop-member
invariant-add_members-loop-member l =
    steps_in l.self ++ flat_map member_steps (drop l.member-index l.members)
    ≡ steps_in l.fn.self ++ flat_map member_steps l.members

abbrev pub invariant-add_cases-loop-case : goal.invariant-add_cases-loop-case
invariant-add_cases-loop-case l =
    steps_in l.self ++ flat_map case_steps (drop l.case-index l.cases)
    ≡ steps_in l.fn.self ++ flat_map case_steps l.cases
