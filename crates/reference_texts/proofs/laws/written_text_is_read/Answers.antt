use Rattle.reference_texts.proofs.TextLaws.{text_once, text_read}
use Rattle.reference_texts.proofs.laws.written_text_is_read.Goals as goal

pub returns-clause-read : goal.returns-clause-read
returns-clause-read c = λ reference text is. text_read reference text is

pub returns-clause-once : goal.returns-clause-once
returns-clause-once c = λ reference a b h k. text_once reference a b h k
