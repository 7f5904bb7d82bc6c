use Rattle.table_file.proofs.SkimLaws.{SkimmedSoFar}
use Rattle.table_file.proofs.lists.skim_run.Given as goal

abbrev pub invariant-items : goal.invariant-items
invariant-items g l = SkimmedSoFar l.count g.T.Part.spelled g.T.Part.weight l.sum l.place l.initial.cursor l.cursor
