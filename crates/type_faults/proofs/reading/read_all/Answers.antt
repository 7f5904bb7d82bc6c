use Rattle.type_faults.proofs.Texts.{unread_left, unread_own}
use Rattle.type_faults.proofs.reading.read_all.Goals as goal

pub returns-in-Err : goal.returns-in-Err
returns-in-Err c =
    unread_own c.args.tokens.now c.args.left.now c.in-Err.fault c.unread.result c.in-Err.ensures.refused
    c.unread.ensures

pub returns-in-Err-parse : goal.returns-in-Err-parse
returns-in-Err-parse c =
    unread_left c.args.tokens.now c.args.left.now c.in-Err-parse.fault c.unread-in-Err-parse.result
    c.in-Err-parse.ensures.refused
    c.unread-in-Err-parse.ensures
