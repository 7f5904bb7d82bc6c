use Rattle.table_file.specs.Octets.{spelled_ascii}
use Rattle.table_file.specs.inner.Ones.{one_ascii}
use Rattle.table_file.proofs.PassedLists.{list_passes, list_short}
use Rattle.table_file.proofs.texts.NamePart.pass.Goals as goal

pub returns-in-Some : goal.returns-in-Some
returns-in-Some c = list_passes spelled_ascii _ _ _ _ _ c.in-Some.ensures.passed c.pass_ascii.ensures

pub returns-in-None : goal.returns-in-None
returns-in-None c = list_short spelled_ascii one_ascii _ _ c.word.ensures.octets c.in-None.ensures.short
    c.in-None.ensures.none
