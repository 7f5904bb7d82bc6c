use Rattle.std.proofs.Common.{ℕ, List, Err, subst, sym}
use Rattle.command_words.specs.Ask.{ask_of}
use Rattle.command_words.specs.declared.task.Task.{Task}
use Rattle.command_files.specs.Loaded.{IsLoaded, IsNotLoaded}
use Rattle.idlc_main.specs.Answer.{IsAnswer}
use Rattle.idlc_main.proofs.Answers.{answers, no_answer}
use Rattle.idlc_main.proofs.tasks.done.Goals as goal

pub returns-in-Ok-clause-answers : goal.returns-in-Ok-clause-answers
returns-in-Ok-clause-answers g c =
    let reads = g.R.WholeFiles.reads c.args.rt.now in
    let takes = g.R.WholeFiles.takes c.args.rt.now in
    subst (λ (task : Task). IsAnswer reads takes (ask_of task) c.answered.result) (sym c.in-Table.is)
    (answers reads takes c.in-Table.task c.in-Ok.loaded.table c.in-Ok.loaded.names
    (subst (λ (name : List ℕ). IsLoaded reads name c.in-Ok.loaded.table c.in-Ok.loaded.names) c.table.ensures
    c.in-Ok.ensures.is) c.answered.result c.answered.ensures.line c.answered.ensures.refused)

pub returns-in-Err-clause-answers : goal.returns-in-Err-clause-answers
returns-in-Err-clause-answers g c =
    let reads = g.R.WholeFiles.reads c.args.rt.now in
    let takes = g.R.WholeFiles.takes c.args.rt.now in
    subst (λ (task : Task). IsAnswer reads takes (ask_of task) (Err c.from.result)) (sym c.in-Table.is)
    (no_answer reads takes c.in-Table.task c.in-Err.fault c.from.result c.from.ensures
    (subst (λ (name : List ℕ). IsNotLoaded reads name c.in-Err.fault) c.table.ensures c.in-Err.ensures.refused))
