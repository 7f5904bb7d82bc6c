use Rattle.idl_lexer.proofs.literal.character.Goals as goal

pub returns-in-92-clause-complete : goal.returns-in-92-clause-complete
returns-in-92-clause-complete c n v char = c.escape.ensures.complete c.args.quote n v char
