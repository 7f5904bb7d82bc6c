use Rattle.idl_compiler.proofs.Texts.{no_text}
use Rattle.idl_compiler.proofs.laws.text_or_refused.Goals as goal

pub returns-clause-tokens : goal.returns-clause-tokens
returns-clause-tokens c = λ source definitions fault refused text. refused.none text.tokens text.lexed

pub returns-clause-grammar : goal.returns-clause-grammar
returns-clause-grammar c = λ source definitions fault refused text.
    no_text refused.tokens text.tokens definitions
    (c.tokens_are_one.ensures source refused.tokens text.tokens refused.lexed refused.lines text.lexed text.lines)
    refused.none text.spelled text.levels
