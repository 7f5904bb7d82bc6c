use Rattle.std.proofs.Common.{map}
use Rattle.type_model.proofs.NameLaws.{MarksUpTo}
use Rattle.type_model.proofs.names.marks_of.Given as goal

abbrev pub invariant-loop-place : goal.invariant-loop-place
invariant-loop-place l = MarksUpTo (map (λ name. name.1) l.names) l.count l.place l.marks.items
