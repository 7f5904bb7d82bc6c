use Rattle.std.proofs.Common.{refl, ap, inr, option_map}
use Rattle.giop_messages.specs.Messages.{asked_of}
use Rattle.broker_answers.proofs.Readings.{none_is_unread}
use Rattle.broker_answers.proofs.finding.type_asked.Goals as goal

pub returns-in-None-clause-asked : goal.returns-in-None-clause-asked
returns-in-None-clause-asked c =
    inr
    (record {
      unread = none_is_unread c.table.result.now c.table.ensures (asked_of c.args.request.now)
          (option_map (λ t. t.items) c.in_ok-tape.field-0) c.in_ok-tape.ensures
          (ap (option_map (λ t. t.items)) c.in-None.is);
      finding_is = refl;
    })
