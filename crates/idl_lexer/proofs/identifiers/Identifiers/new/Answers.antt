use Rattle.std.proofs.Common.{◌∙◌, ap}
use Rattle.idl_lexer.specs.Identifiers.{words}
use Rattle.idl_lexer.proofs.WordsOfNames.{words-IsScopedName}
use Rattle.idl_lexer.proofs.identifiers.Identifiers.new.Goals as goal

pub returns-clause-scoped : goal.returns-clause-scoped
returns-clause-scoped c scoped = ap words c.as_bytes.ensures.value ∙ words-IsScopedName c.args.name.now scoped
