use Rattle.std.proofs.Common.{sym, subst}
use Rattle.routine_checker.proofs.NotedLaws.{NotedUpTo, noted_all, noted_more, noted_none}
use Rattle.routine_checker.proofs.noted.Counts.counted.Goals as goal

pub loop-number-init : goal.loop-number-init
loop-number-init c = λ graph right.
    subst (λ counts. NotedUpTo graph c.args.piece counts 0) (sym c.new-counts.ensures.items)
    (noted_none graph c.args.piece)

pub loop-number-preserved : goal.loop-number-preserved
loop-number-preserved c = λ graph right.
    noted_more graph c.args.piece c.loop-number.counts.items c.push.new.self.items c.loop-number.number c.of.result
    c.in_ok-push.ensures.items (c.of.ensures graph right.made) (c.loop-number.invariant graph right)

pub returns : goal.returns
returns c = λ graph right. noted_all graph c.args.piece c.loop-number.counts.items c.loop-number.number
    (c.loop-number.invariant graph right)
