use Rattle.std.proofs.Common.{Err, Ok, refl, subst}
use Rattle.command_words.specs.Ask.{Answer, Ask, call_ask_of, dump_ask_of}
use Rattle.idlc_main.specs.Answer.{IsAnswer}
use Rattle.idlc_main.proofs.Asked.{asks_of, not_call, not_dump, not_silent}
use Rattle.idlc_main.proofs.Ends.{ends, ends_said, ends_unread}
use Rattle.idlc_main.proofs.run.Goals as goal

pub returns-in-Err-clause-asked : goal.returns-in-Err-clause-asked
returns-in-Err-clause-asked g c ask asks =
    ends_unread (g.R.WholeFiles.reads c.args.rt.now) (g.R.WholeFiles.takes c.args.rt.now) ask _ _ c.in-Err.mistake
    c.failed.result (c.in-Err.ensures.asked (Answer ask) asks) c.failed.ensures

pub returns-in-Ok-done-clause-asked : goal.returns-in-Ok-done-clause-asked
returns-in-Ok-done-clause-asked g c ask asks =
    let reads = g.R.WholeFiles.reads c.args.rt.now in
    let takes = g.R.WholeFiles.takes c.args.rt.now in
    let same = asks_of c.in-Ok.line.said ask (c.in-Ok.ensures.asked (Answer ask) asks) c.in-Do.task c.in-Do.is in
    ends_said reads takes ask _ _ c.in-Ok-done.answer c.say-in-Ok-done.result c.say-in-Ok-done.ensures.range
    c.say-in-Ok-done.ensures.said
    (subst (λ (a : Ask). IsAnswer reads takes a (Ok c.in-Ok-done.answer)) same c.in-Ok-done.ensures.answers)

pub returns-in-Err-done-clause-asked : goal.returns-in-Err-done-clause-asked
returns-in-Err-done-clause-asked g c ask asks =
    let reads = g.R.WholeFiles.reads c.args.rt.now in
    let takes = g.R.WholeFiles.takes c.args.rt.now in
    let same = asks_of c.in-Ok.line.said ask (c.in-Ok.ensures.asked (Answer ask) asks) c.in-Do.task c.in-Do.is in
    ends reads takes ask _ _ c.in-Err-done.fault c.failed-in-Err-done.result c.failed-in-Err-done.ensures
    (subst (λ (a : Ask). IsAnswer reads takes a (Err c.in-Err-done.fault)) same c.in-Err-done.ensures.answers).fault

pub returns-in-Help-clause-asked : goal.returns-in-Help-clause-asked
returns-in-Help-clause-asked g c ask asks =
    absurd (not_silent c.in-Ok.line.said ask (c.in-Ok.ensures.asked (Answer ask) asks) _ c.in-Help.is refl)

pub returns-in-Ok-run_service-clause-asked : goal.returns-in-Ok-run_service-clause-asked
returns-in-Ok-run_service-clause-asked g c ask asks =
    absurd (not_silent c.in-Ok.line.said ask (c.in-Ok.ensures.asked (Answer ask) asks) _ c.in-Serve.is refl)

pub returns-in-Err-run_service-clause-asked : goal.returns-in-Err-run_service-clause-asked
returns-in-Err-run_service-clause-asked g c ask asks =
    absurd (not_silent c.in-Ok.line.said ask (c.in-Ok.ensures.asked (Answer ask) asks) _ c.in-Serve.is refl)

pub returns-in-Err-run_service-clause-kept : goal.returns-in-Err-run_service-clause-kept
returns-in-Err-run_service-clause-kept g c ask asks not_0 not_3 =
    absurd (not_silent c.in-Ok.line.said ask (c.in-Ok.ensures.asked (Answer ask) asks) _ c.in-Serve.is refl)

pub returns-in-Ok-called-clause-asked : goal.returns-in-Ok-called-clause-asked
returns-in-Ok-called-clause-asked g c ask asks =
    absurd (not_call c.in-Ok.line.said ask (c.in-Ok.ensures.asked (Answer ask) asks) _ (call_ask_of c.in-Call.task) c.in-Call.is refl)

pub returns-in-Ok-called-clause-kept : goal.returns-in-Ok-called-clause-kept
returns-in-Ok-called-clause-kept g c ask asks not_0 not_3 =
    absurd (not_call c.in-Ok.line.said ask (c.in-Ok.ensures.asked (Answer ask) asks) _ (call_ask_of c.in-Call.task) c.in-Call.is refl)

pub returns-in-Err-called-clause-asked : goal.returns-in-Err-called-clause-asked
returns-in-Err-called-clause-asked g c ask asks =
    absurd (not_call c.in-Ok.line.said ask (c.in-Ok.ensures.asked (Answer ask) asks) _ (call_ask_of c.in-Call.task) c.in-Call.is refl)

pub returns-in-Ok-dumped-clause-asked : goal.returns-in-Ok-dumped-clause-asked
returns-in-Ok-dumped-clause-asked g c ask asks =
    absurd (not_dump c.in-Ok.line.said ask (c.in-Ok.ensures.asked (Answer ask) asks) _ (dump_ask_of c.in-Dump.task) c.in-Dump.is refl)

pub returns-in-Err-dumped-clause-asked : goal.returns-in-Err-dumped-clause-asked
returns-in-Err-dumped-clause-asked g c ask asks =
    absurd (not_dump c.in-Ok.line.said ask (c.in-Ok.ensures.asked (Answer ask) asks) _ (dump_ask_of c.in-Dump.task) c.in-Dump.is refl)
