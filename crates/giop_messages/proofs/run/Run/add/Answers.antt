use Rattle.std.proofs.Common.{◌≡◌, false, List, ℕ, sym, subst, arith}
use Rattle.giop_messages.specs.declared.head.MessageKind.TheVariants.{Request}
use Rattle.giop_messages.specs.Framing.{added, breaks_run}
use Rattle.giop_messages.specs.Runs.{IsRun}
use Rattle.giop_messages.proofs.RunFacts.{added_alone, joined_limit, left}
use Rattle.giop_messages.proofs.run.Run.add.Goals as goal

pub add_piece-requires-clause-numbered : goal.add_piece-requires-clause-numbered
add_piece-requires-clause-numbered c =
    let is = subst IsRun c.self.view_is c.self.invariant in
    (joined_limit c.args.self.now c.args.fragment.now c.requires.head (omega (arith, is.numbered)) is.sized
    c.requires.kept
    c.requires.is.whole).0

pub add_piece-requires-clause-limited : goal.add_piece-requires-clause-limited
add_piece-requires-clause-limited c =
    let run = c.self.inside.octets.items in
    let kept = subst (λ (xs : List ℕ). breaks_run xs c.requires.head ≡ false) (sym c.self.view_is) c.requires.kept in
    (joined_limit run c.args.fragment.now c.requires.head (omega (arith, c.self.invariant.numbered))
    c.self.invariant.sized kept
    c.requires.is.whole).1

pub invariant_of-self : goal.invariant_of-self
invariant_of-self c =
    let run = c.self.inside.octets.items in
    let kept = subst (λ (xs : List ℕ). breaks_run xs c.requires.head ≡ false) (sym c.self.view_is) c.requires.kept in
    let limit = joined_limit run c.args.fragment.now c.requires.head (omega (arith, c.self.invariant.numbered))
    c.self.invariant.sized
    kept c.requires.is.whole in
    left c.add_piece.result IsRun run (added run c.args.fragment.now) c.add_piece.new.run.items
    c.add_piece.ensures.added
    c.add_piece.ensures.kept c.self.invariant (added_alone Request run c.args.fragment.now c.self.invariant limit.1)
