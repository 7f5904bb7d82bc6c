use Rattle.std.proofs.Common.{◌≡◌, ◌∙◌, Ok, Some, length, sym, ap, arith}
use Rattle.name_table.specs.Entry.{named}
use Rattle.name_table.specs.Search.{word}
use Rattle.scoped_names.specs.Faults.{free_test, taken_by}
use Rattle.scoped_names.proofs.Readings.{keeps_same, told_again}
use Rattle.scoped_names.proofs.reader.Reader.declare_as.Goals as goal

pub returns-in-Some : goal.returns-in-Some
returns-in-Some c =
    let st = c.args.self.now in
    let l = c.args.identifier in
    let free : free_test l (taken_by st (word l)) ≡ Ok tt =
    sym (ap (free_test l) (c.taken_by.ensures ∙ ap (taken_by st) (c.new.ensures ∙ c.name.ensures)))
    ∙ c.in_ok-free.ensures in
    let there : named st.entries st.scope (word l) ≡ Some c.in-Some.number =
    sym (c.declared.ensures.is ∙ ap (λ es. named es c.self.inside.scope.0 (word l)) c.table.ensures
    ∙ ap (λ s. named st.entries s.scope (word l)) c.self.view_is) ∙ c.in-Some.is in
    record {
      told = told_again c.args.meaning st l c.in-Some.number c.appears_again.result
          (omega (arith, c.in-Some.ensures.there, ap length c.table.ensures)) free there c.appears_again.ensures;
      kept = keeps_same c.appears_again.result st;
    }
