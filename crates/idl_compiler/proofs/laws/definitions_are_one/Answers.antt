use Rattle.idl_compiler.proofs.Texts.{spells_too}
use Rattle.idl_compiler.proofs.laws.definitions_are_one.Goals as goal

pub returns : goal.returns
returns c = λ source definitions others one other.
    c.spec_is_one.ensures one.tokens definitions others one.spelled
    (spells_too one.tokens other.tokens others
    (c.tokens_are_one.ensures source one.tokens other.tokens one.lexed one.lines other.lexed other.lines) other.spelled)
