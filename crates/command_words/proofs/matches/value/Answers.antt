use Rattle.std.proofs.Common.{Some, None}
use Rattle.clap.specs.Words.{found_of}
use Rattle.command_words.proofs.FoundRequests.{asked}
use Rattle.command_words.proofs.matches.value.Goals as goal

pub returns-in_err-asked : goal.returns-in_err-asked
returns-in_err-asked c ask way_is form_is input_is tells =
    absurd (asked (found_of c.args.words.now) c.args.way c.args.form c.args.input.now ask tells None way_is form_is
    input_is c.in_err-asked.ensures.whole tt)

pub returns : goal.returns
returns c ask way_is form_is input_is tells =
    let e = c.in_ok-asked.ensures in
    asked (found_of c.args.words.now) c.args.way c.args.form c.args.input.now ask tells (Some c.in_ok-asked.asked)
    way_is form_is input_is e.whole
    (record {
      way_is = e.way;
      form_is = e.form;
      input_is = e.input;
      table = e.table;
      name = e.name;
      order = e.order;
      pos = e.pos;
    })
