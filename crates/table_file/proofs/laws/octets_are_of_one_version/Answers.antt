use Rattle.table_file.specs.inner.TableCodes.{other_version}
use Rattle.table_file.proofs.laws.octets_are_of_one_version.Goals as goal

pub returns : goal.returns
returns c = λ table other octets one two. other_version table other octets one two
