use Rattle.std.proofs.lemmas.Result.{IfOk-weaker}
use Rattle.giop_messages.specs.Messages.{answered_of}
use Rattle.command_texts.proofs.Exceptions.{none_weaker, unknown, unread}
use Rattle.command_texts.proofs.call_texts.raised.raised_text.Goals as goal

pub returns-in_default-clause-none : goal.returns-in_default-clause-none
returns-in_default-clause-none c =
    unknown c.args.table.now.model c.args.exceptions.now (answered_of c.args.reply.now) c.in_default.ensures.none

pub returns-clause-none : goal.returns-clause-none
returns-clause-none c =
    IfOk-weaker c.body_text.result _ _
    (λ o none. none_weaker o _ _
    (unread c.args.table.now.model c.args.exceptions.now (answered_of c.args.reply.now) c.in-Some.frame
    c.in-Some.ensures.found)
    none) c.body_text.ensures.none
