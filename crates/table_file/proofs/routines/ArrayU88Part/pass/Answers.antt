use Rattle.table_file.specs.Octets.{spelled_octet, spelled_run}
use Rattle.table_file.proofs.OctetRuns.{sets_of_octets, sets_long}
use Rattle.table_file.proofs.PassLaws.{octets_pass}
use Rattle.table_file.proofs.routines.ArrayU88Part.pass.Goals as goal

pub returns : goal.returns
returns c =
    octets_pass (spelled_run 8 spelled_octet) 8 sets_of_octets sets_long _ _ _ c.skip.ensures.octets
    c.skip.ensures.there c.skip.ensures.behind
