use Rattle.table_file.specs.Octets.{spelled_octet}
use Rattle.table_file.proofs.OctetRuns.{octet_of_octets, octet_long}
use Rattle.table_file.proofs.PassLaws.{octets_pass}
use Rattle.table_file.proofs.numbers.U8Part.pass.Goals as goal

pub returns : goal.returns
returns c =
    octets_pass spelled_octet 1 octet_of_octets octet_long _ _ _ c.skip.ensures.octets c.skip.ensures.there
    c.skip.ensures.behind
