use Rattle.std.proofs.Common.{◌≡◌, ◌≤◌, ◌+◌, ◌∙◌, ◌++◌, List, [], ℕ, length, drop, sym, ap, subst, arith}
use Rattle.std.proofs.lemmas.List.{drop_all, length-drop}
use Rattle.broker_answers.specs.Objects.{Served}
use Rattle.broker_answers.specs.Streams.{Cut, Open, cut, cut_of}
use Rattle.broker_answers.specs.Servants.{acts}
use Rattle.iiop_broker.specs.declared.front.Turn.TheVariants as turns
use Rattle.iiop_broker.specs.inner.Progress.{Ended, Progress, Stopped}
use Rattle.iiop_broker.proofs.Following.{dropped, ended_then, heard_closed, heard_open, on_err, progress_then, stopped_ended, stopped_here, stopped_then}
use Rattle.iiop_broker.proofs.Turning.{turned_here}
use Rattle.iiop_broker.proofs.server.Server.hear.Goals as goal

pub returns-in_err-run-clause-given_up : goal.returns-in_err-run-clause-given_up
returns-in_err-run-clause-given_up g c =
    let acting = acts g.S.Servant.says g.S.Servant.after in
    let service = c.args.self.now.service in
    let octets = c.args.octets.items in
    let all = cut c.args.run octets in
    let rest = drop c.loop-at.at octets in
    let mid = cut c.loop-at.open rest in
    let before = c.args.self.now.servant in
    let between = c.loop-at.self.servant in
    let after = c.take_turn.new.self.servant in
    let rest_is : c.split_at.result.1.now ≡ rest = c.split_at.ensures.back
    ∙ ap (drop c.loop-at.at) c.as_slice.ensures.value in
    let stopped = subst (λ (s : Served). Stopped acting s mid.raws between after) c.loop-at.invariant.same
    (subst (λ (r : List ℕ). Stopped acting c.loop-at.self.service (cut c.loop-at.open r).raws between after) rest_is
    c.in_err-run.ensures.given_up) in
    on_err c.from_residual.result (Stopped acting service all.raws before after)
    (stopped_then acting service all mid before between after c.loop-at.answer.items c.loop-at.invariant.progress
    stopped)

pub returns-in_err-add_answer-in-Goes-clause-given_up :
    goal.returns-in_err-add_answer-in-Goes-clause-given_up
returns-in_err-add_answer-in-Goes-clause-given_up g c =
    let acting = acts g.S.Servant.says g.S.Servant.after in
    let service = c.args.self.now.service in
    let octets = c.args.octets.items in
    let all = cut c.args.run octets in
    let rest = drop c.loop-at.at octets in
    let mid = cut c.loop-at.open rest in
    let before = c.args.self.now.servant in
    let between = c.loop-at.self.servant in
    let after = c.take_turn.new.self.servant in
    let rest_is : c.split_at.result.1.now ≡ rest = c.split_at.ensures.back
    ∙ ap (drop c.loop-at.at) c.as_slice.ensures.value in
    let more = c.in-Goes.more in
    let left = cut c.in-Goes.run' (drop c.in-Goes.len rest) in
    let turned = turned_here acting service c.loop-at.self.service c.loop-at.open rest c.split_at.result.1.now between
    c.in_ok-run.field-0 (turns.Goes c.in-Goes.run' c.in-Goes.len c.in-Goes.more) after c.loop-at.invariant.same rest_is
    c.in-Goes.is c.in_ok-run.ensures.turned in
    on_err c.from_residual-in_err-add_answer-in-Goes.result (Stopped acting service all.raws before after)
    (stopped_here acting service all left before after (c.loop-at.answer.items ++ more.items)
    (progress_then acting service all mid left before between after c.loop-at.answer.items more.items
    c.loop-at.invariant.progress turned.1))

pub loop-at-preserved : goal.loop-at-preserved
loop-at-preserved g c =
    let acting = acts g.S.Servant.says g.S.Servant.after in
    let service = c.args.self.now.service in
    let octets = c.args.octets.items in
    let all = cut c.args.run octets in
    let rest = drop c.loop-at.at octets in
    let mid = cut c.loop-at.open rest in
    let before = c.args.self.now.servant in
    let between = c.loop-at.self.servant in
    let after = c.take_turn.new.self.servant in
    let rest_is : c.split_at.result.1.now ≡ rest = c.split_at.ensures.back
    ∙ ap (drop c.loop-at.at) c.as_slice.ensures.value in
    let at = c.loop-at.at in
    let len = c.in-Goes.len in
    let more = c.in-Goes.more in
    let left = cut c.in-Goes.run' (drop len rest) in
    let turned = turned_here acting service c.loop-at.self.service c.loop-at.open rest c.split_at.result.1.now between
    c.in_ok-run.field-0 (turns.Goes c.in-Goes.run' c.in-Goes.len c.in-Goes.more) after c.loop-at.invariant.same rest_is
    c.in-Goes.is c.in_ok-run.ensures.turned in
    let p = progress_then acting service all mid left before between after c.loop-at.answer.items more.items
    c.loop-at.invariant.progress turned.1 in
    let answer = c.in_ok-add_answer-in-Goes.ensures in
    record {
      within = omega (arith, turned.0.within, length-drop at octets, c.loop-at.invariant.within);
      same = c.take_turn.ensures.same ∙ c.loop-at.invariant.same;
      progress = subst (λ (a : List ℕ). Progress acting service all (cut c.in-Goes.run' (drop (at + len) octets)) before
          a after)
          (sym answer)
          (subst (λ (r : List ℕ). Progress acting service all (cut c.in-Goes.run' r) before
          (c.loop-at.answer.items ++ more.items) after)
          (dropped at len octets) p);
    }

pub returns-in_err-add_answer-in-Ends-clause-given_up :
    goal.returns-in_err-add_answer-in-Ends-clause-given_up
returns-in_err-add_answer-in-Ends-clause-given_up g c =
    let acting = acts g.S.Servant.says g.S.Servant.after in
    let service = c.args.self.now.service in
    let octets = c.args.octets.items in
    let all = cut c.args.run octets in
    let rest = drop c.loop-at.at octets in
    let mid = cut c.loop-at.open rest in
    let before = c.args.self.now.servant in
    let between = c.loop-at.self.servant in
    let after = c.take_turn.new.self.servant in
    let rest_is : c.split_at.result.1.now ≡ rest = c.split_at.ensures.back
    ∙ ap (drop c.loop-at.at) c.as_slice.ensures.value in
    let more = c.in-Ends.more in
    let turned = turned_here acting service c.loop-at.self.service c.loop-at.open rest c.split_at.result.1.now between
    c.in_ok-run.field-0 (turns.Ends c.in-Ends.more) after c.loop-at.invariant.same rest_is c.in-Ends.is
    c.in_ok-run.ensures.turned in
    on_err c.from_residual-in_err-add_answer-in-Ends.result (Stopped acting service all.raws before after)
    (stopped_ended acting service all.raws before after (c.loop-at.answer.items ++ more.items)
    (ended_then acting service all mid before between after c.loop-at.answer.items more.items
    c.loop-at.invariant.progress turned))

pub returns-in-Ends-clause-heard : goal.returns-in-Ends-clause-heard
returns-in-Ends-clause-heard g c =
    let acting = acts g.S.Servant.says g.S.Servant.after in
    let service = c.args.self.now.service in
    let octets = c.args.octets.items in
    let all = cut c.args.run octets in
    let rest = drop c.loop-at.at octets in
    let mid = cut c.loop-at.open rest in
    let before = c.args.self.now.servant in
    let between = c.loop-at.self.servant in
    let after = c.take_turn.new.self.servant in
    let rest_is : c.split_at.result.1.now ≡ rest = c.split_at.ensures.back
    ∙ ap (drop c.loop-at.at) c.as_slice.ensures.value in
    let more = c.in-Ends.more in
    let turned = turned_here acting service c.loop-at.self.service c.loop-at.open rest c.split_at.result.1.now between
    c.in_ok-run.field-0 (turns.Ends c.in-Ends.more) after c.loop-at.invariant.same rest_is c.in-Ends.is
    c.in_ok-run.ensures.turned in
    let answer = c.in_ok-add_answer-in-Ends.ensures in
    heard_closed acting service all before after c.add_answer-in-Ends.new.answers.items
    (subst (λ (a : List ℕ). Ended acting service all.raws before a after) (sym answer)
    (ended_then acting service all mid before between after c.loop-at.answer.items more.items
    c.loop-at.invariant.progress turned))

pub returns-in-Waits-clause-heard : goal.returns-in-Waits-clause-heard
returns-in-Waits-clause-heard g c =
    let acting = acts g.S.Servant.says g.S.Servant.after in
    let service = c.args.self.now.service in
    let octets = c.args.octets.items in
    let all = cut c.args.run octets in
    let rest = drop c.loop-at.at octets in
    let mid = cut c.loop-at.open rest in
    let before = c.args.self.now.servant in
    let between = c.loop-at.self.servant in
    let after = c.take_turn.new.self.servant in
    let rest_is : c.split_at.result.1.now ≡ rest = c.split_at.ensures.back
    ∙ ap (drop c.loop-at.at) c.as_slice.ensures.value in
    let turned = turned_here acting service c.loop-at.self.service c.loop-at.open rest c.split_at.result.1.now between
    c.in_ok-run.field-0 (turns.Waits c.in-Waits.run') after c.loop-at.invariant.same rest_is c.in-Waits.is
    c.in_ok-run.ensures.turned in
    let left : mid ≡ cut_of [] (Open c.in-Waits.run' rest) = turned.0 in
    heard_open acting service all c.in-Waits.run' rest before after c.loop-at.answer.items c.kept_behind-kept.result
    (subst (λ s. Progress acting service all (cut_of [] (Open c.in-Waits.run' rest)) before c.loop-at.answer.items s)
    (sym turned.1)
    (subst (λ (k : Cut). Progress acting service all k before c.loop-at.answer.items between) left
    c.loop-at.invariant.progress)) c.kept_behind-kept.ensures

-- nothing is left to take
pub returns-clause-heard : goal.returns-clause-heard
returns-clause-heard g c =
    let acting = acts g.S.Servant.says g.S.Servant.after in
    let service = c.args.self.now.service in
    let octets = c.args.octets.items in
    let all = cut c.args.run octets in
    let rest = drop c.loop-at.at octets in
    let run = c.loop-at.open in
    let past : length octets ≤ c.loop-at.at =
    let len = c.len.ensures in let ok = c.args.octets.ok.0 in let test = c.loop-at-test.false in
    omega (arith, len, ok, test) in
    let nothing : rest ≡ [] = drop_all c.loop-at.at octets past in
    let is : cut run rest ≡ cut_of [] (Open run rest) =
    ap (λ (r : List ℕ). cut run r) nothing ∙ ap (λ (r : List ℕ). cut_of [] (Open run r)) (sym nothing) in
    heard_open acting service all run rest c.args.self.now.servant c.loop-at.self.servant c.loop-at.answer.items
    c.kept_behind-kept-2.result
    (subst (λ (left : Cut). Progress acting service all left c.args.self.now.servant c.loop-at.answer.items
    c.loop-at.self.servant)
    is c.loop-at.invariant.progress) c.kept_behind-kept-2.ensures
