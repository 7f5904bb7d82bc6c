use Rattle.std.proofs.Common.{◌≡◌, ℕ, true, length, sym, ap, ◌∙◌, subst}
use Rattle.giop_dumps.specs.OpenRuns.{AreHeld, Runs, has_room}
use Rattle.giop_dumps.proofs.RunLaws.{len_of, more_by_one, more_held}
use Rattle.giop_dumps.proofs.open_runs.OpenRuns.put.Goals as goal
use Rattle.giop_dumps.proofs.open_runs.OpenRuns.put.Goals.{in-Some, in-None}

pub invariant_of-self-2 : goal.invariant_of-self-2
invariant_of-self-2 c =
    let lent = c.octets-len.result.now in
    let less : c.match-branch-3.replaced ≡ len_of c.in_ok-other.field-0 = elim c.match-branch-3.branch [
      | in-Some w ↦ w.replaced-is ∙ ap length w.octets.ensures.octets ∙ ap len_of (sym w.in-Some.is)
      | in-None w ↦ w.replaced-is ∙ ap len_of (sym w.in-None.is)
    ] in
    let room : has_room (length lent) c.self.inside.runs.entries ≡ true =
    subst (λ (rs : Runs). has_room (length lent) rs ≡ true) (sym c.self.view_is) c.in_ok-lines.ensures.room in
    subst (λ (n : ℕ). AreHeld c.insert.new.self.entries n) (sym c.saturating_sub-self-inside.ensures)
    (more_held c.args.id c.args.run c.self.inside.runs.entries c.insert.new.self.entries lent c.self.inside.held
    c.match-branch-3.replaced c.in_ok-other.field-0 c.len-count.ensures.ordered c.self.invariant room
    c.octets-len.ensures.octets
    c.in_ok-other.ensures.old c.in_ok-other.ensures.entries (more_by_one _ _ _ c.in_ok-other.ensures.len) less)
