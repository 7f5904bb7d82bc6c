use Rattle.routine_checker.proofs.noted.Counts.note_all.Goals as goal

pub loop-instr-preserved : goal.loop-instr-preserved
loop-instr-preserved c = λ graph right. c.note.ensures graph (c.loop-instr.invariant graph right)

pub returns-in_err-note : goal.returns-in_err-note
returns-in_err-note c = λ graph right. c.note.ensures graph (c.loop-instr.invariant graph right)
