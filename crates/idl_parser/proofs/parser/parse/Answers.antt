use Rattle.idl_parser.proofs.Refusing.{refuses}
use Rattle.idl_parser.proofs.parser.parse.Goals as goal

pub returns-in-Err-clause-refused : goal.returns-in-Err-clause-refused
returns-in-Err-clause-refused c =
    refuses c.args.tokens.now _ _ c.fault_of.result c.new-cursor.ensures c.fault_of.ensures c.in-Err.ensures.refused
