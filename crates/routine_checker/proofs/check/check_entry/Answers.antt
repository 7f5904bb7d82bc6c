use Rattle.std.proofs.Common.{◌∷◌, [], slice_index_or, true, sym, ap, ◌∙◌}
use Rattle.routine_checker.specs.Sets.{is_within}
use Rattle.routine_checker.specs.Steps.{end_fault}
use Rattle.routine_checker.proofs.ProgressLaws.{on, off, entry_taken, ended_whole}
use Rattle.routine_checker.proofs.check.check_entry.Goals as goal

pub returns-then-not-taken-clause-refused : goal.returns-then-not-taken-clause-refused
returns-then-not-taken-clause-refused c =
    let right = c.requires.taken in
    entry_taken c.args.graph.now c.args.program.now c.args.routine.now c.args.taken c.args.at c.args.entry c.only.result
    c.in-Ok.end right c.only.ensures (c.in-Ok.ensures.ok (c.args.routine.now.node ∷ []) right.rest right.behind)
    ∙ right.lacks (off c.args.taken.is_all c.if-not-taken.true) c.args.at c.args.entry c.in-Ok.end

pub returns-then-not-gaps_agree-clause-refused : goal.returns-then-not-gaps_agree-clause-refused
returns-then-not-gaps_agree-clause-refused c =
    let right = c.requires.taken in
    let end = c.in-Ok.end in
    let routine = c.args.routine.now in
    entry_taken c.args.graph.now c.args.program.now routine c.args.taken c.args.at c.args.entry c.only.result end right
    c.only.ensures (c.in-Ok.ensures.ok (routine.node ∷ []) right.rest right.behind)
    ∙ ended_whole c.args.graph.now c.args.program.now routine c.args.taken c.args.at c.args.entry end right
    (on c.args.taken.is_all c.if-not-taken.false)
    ∙ ap (λ b. end_fault true b (is_within end.places (slice_index_or routine.exits c.args.entry 0)) c.args.at
    c.args.taken.instrs c.args.entry) (sym c.gaps_agree.ensures ∙ c.if-not-gaps_agree.true)

pub returns-then-not-is_within-clause-refused : goal.returns-then-not-is_within-clause-refused
returns-then-not-is_within-clause-refused c =
    let right = c.requires.taken in
    let end = c.in-Ok.end in
    let routine = c.args.routine.now in
    entry_taken c.args.graph.now c.args.program.now routine c.args.taken c.args.at c.args.entry c.only.result end right
    c.only.ensures (c.in-Ok.ensures.ok (routine.node ∷ []) right.rest right.behind)
    ∙ ended_whole c.args.graph.now c.args.program.now routine c.args.taken c.args.at c.args.entry end right
    (on c.args.taken.is_all c.if-not-taken.false)
    ∙ ap (λ b. end_fault true b (is_within end.places (slice_index_or routine.exits c.args.entry 0)) c.args.at
    c.args.taken.instrs c.args.entry) (sym c.gaps_agree.ensures ∙ c.if-not-gaps_agree.false)
    ∙ ap (λ b. end_fault true true b c.args.at c.args.taken.instrs c.args.entry)
    (sym c.is_within.ensures ∙ c.if-not-is_within.true)

pub returns-clause-ok : goal.returns-clause-ok
returns-clause-ok c =
    let right = c.requires.taken in
    let end = c.in-Ok.end in
    let routine = c.args.routine.now in
    entry_taken c.args.graph.now c.args.program.now routine c.args.taken c.args.at c.args.entry c.only.result end right
    c.only.ensures (c.in-Ok.ensures.ok (routine.node ∷ []) right.rest right.behind)
    ∙ ended_whole c.args.graph.now c.args.program.now routine c.args.taken c.args.at c.args.entry end right
    (on c.args.taken.is_all c.if-not-taken.false)
    ∙ ap (λ b. end_fault true b (is_within end.places (slice_index_or routine.exits c.args.entry 0)) c.args.at
    c.args.taken.instrs c.args.entry) (sym c.gaps_agree.ensures ∙ c.if-not-gaps_agree.false)
    ∙ ap (λ b. end_fault true true b c.args.at c.args.taken.instrs c.args.entry)
    (sym c.is_within.ensures ∙ c.if-not-is_within.false)
