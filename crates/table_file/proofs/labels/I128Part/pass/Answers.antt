use Rattle.table_file.specs.Octets.{spelled_label}
use Rattle.table_file.specs.inner.LabelCode.{label_long}
use Rattle.table_file.proofs.OctetRuns.{label_of_octets}
use Rattle.table_file.proofs.PassLaws.{octets_pass}
use Rattle.table_file.proofs.labels.I128Part.pass.Goals as goal

pub returns : goal.returns
returns c =
    octets_pass spelled_label 16 label_of_octets label_long _ _ _ c.skip.ensures.octets c.skip.ensures.there
    c.skip.ensures.behind
