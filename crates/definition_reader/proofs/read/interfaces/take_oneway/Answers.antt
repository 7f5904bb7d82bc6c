use Rattle.definition_reader.proofs.Ways.{maybe_word}
use Rattle.definition_reader.proofs.read.interfaces.take_oneway.Goals as goal

pub returns-clause-way : goal.returns-clause-way
returns-clause-way c = maybe_word _ _ _ _ c.take_keyword.result c.take_keyword.ensures.unseen
    c.take_keyword.ensures.missing c.take_keyword.ensures.seen c.take_keyword.ensures.way
