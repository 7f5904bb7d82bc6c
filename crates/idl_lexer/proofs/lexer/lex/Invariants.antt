use Rattle.std.proofs.Common.{◌-◌, length}
use Rattle.idl_lexer.proofs.Lexing.{Reads}
use Rattle.idl_lexer.proofs.lexer.lex.Given as goal

abbrev pub invariant-loop-at : goal.invariant-loop-at
invariant-loop-at l = Reads l.source l.tokens.items l.at l.line

abbrev pub decreases-loop-at : goal.decreases-loop-at
decreases-loop-at l = length l.octets - l.at
