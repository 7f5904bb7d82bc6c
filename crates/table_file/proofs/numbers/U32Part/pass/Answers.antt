use Rattle.table_file.specs.Octets.{spelled_word}
use Rattle.table_file.specs.inner.Codes.{word_long}
use Rattle.table_file.proofs.OctetRuns.{word_of_octets}
use Rattle.table_file.proofs.PassLaws.{octets_pass}
use Rattle.table_file.proofs.numbers.U32Part.pass.Goals as goal

pub returns : goal.returns
returns c =
    octets_pass spelled_word 4 word_of_octets word_long _ _ _ c.skip.ensures.octets c.skip.ensures.there
    c.skip.ensures.behind
