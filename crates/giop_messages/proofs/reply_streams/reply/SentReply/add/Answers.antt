use Rattle.std.proofs.Common.{◌≡◌, false, List, ℕ, sym, subst, arith}
use Rattle.giop_messages.specs.declared.head.MessageKind.TheVariants.{Reply}
use Rattle.giop_messages.specs.Framing.{added, breaks_run}
use Rattle.giop_messages.specs.Runs.{IsAlone}
use Rattle.giop_messages.proofs.RunFacts.{added_alone, joined_limit, left}
use Rattle.giop_messages.proofs.reply_streams.reply.SentReply.add.Goals as goal

pub add_piece-requires-clause-limited : goal.add_piece-requires-clause-limited
add_piece-requires-clause-limited c =
    let run = c.self.inside.octets.items in
    let kept = subst (λ (xs : List ℕ). breaks_run xs c.requires.head ≡ false) (sym c.self.view_is) c.requires.kept in
    (joined_limit run c.args.fragment.now c.requires.head (omega (arith, c.self.invariant.numbered))
    c.self.invariant.sized kept
    c.requires.is.1).1

pub invariant_of-self : goal.invariant_of-self
invariant_of-self c =
    let run = c.self.inside.octets.items in
    let kept = subst (λ (xs : List ℕ). breaks_run xs c.requires.head ≡ false) (sym c.self.view_is) c.requires.kept in
    let limit = joined_limit run c.args.fragment.now c.requires.head (omega (arith, c.self.invariant.numbered))
    c.self.invariant.sized
    kept c.requires.is.1 in
    left c.add_piece.result (IsAlone Reply) run (added run c.args.fragment.now) c.add_piece.new.run.items
    c.add_piece.ensures.added
    c.add_piece.ensures.kept c.self.invariant (added_alone Reply run c.args.fragment.now c.self.invariant limit.1)
