use Rattle.definition_reader.proofs.Ways.{maybe_word, word_is}
use Rattle.definition_reader.proofs.read.interfaces.take_readonly.Goals as goal

pub returns-clause-seen : goal.returns-clause-seen
returns-clause-seen c = word_is _ c.take_keyword.result c.take_keyword.ensures.unseen c.take_keyword.ensures.seen

pub returns-clause-way : goal.returns-clause-way
returns-clause-way c = maybe_word _ _ _ _ c.take_keyword.result c.take_keyword.ensures.unseen
    c.take_keyword.ensures.missing c.take_keyword.ensures.seen c.take_keyword.ensures.way
