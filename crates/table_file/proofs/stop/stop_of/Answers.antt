use Rattle.std.proofs.Common.{sym, ◌∙◌, inl, inr}
use Rattle.table_file.proofs.StopLaws.{passed_stops, passed_whole}
use Rattle.table_file.proofs.stop.stop_of.Goals as goal

pub returns-then-left-eq0-clause-whole : goal.returns-then-left-eq0-clause-whole
returns-then-left-eq0-clause-whole c =
    rw (sym c.new-tail.ensures)
    (passed_whole _ c.new-tail.result c.pass_file-is_passed.new.tail c.if-is_passed.true c.pass_file-is_passed.ensures
    (sym c.len-left.ensures ∙ c.if-left-eq0.true))

pub returns-clause-stops : goal.returns-clause-stops
returns-clause-stops c =
    rw (sym c.new-tail.ensures, c.len-left.ensures)
    (passed_stops _ c.new-tail.result c.pass_file-is_passed.new.tail c.pass_file-is_passed.ensures (λ passed none.
    elim c.else-is_passed.either [
      | inl more ↦ more.1 (c.len-left.ensures ∙ none)
      | inr stopped ↦ absurd cc
    ]))
