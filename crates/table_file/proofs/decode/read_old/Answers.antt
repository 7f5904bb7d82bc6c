use Rattle.table_file.specs.inner.TableCodes.{old_code, spelled_old_fields}
use Rattle.table_file.proofs.Decoded.{whole_read}
use Rattle.table_file.proofs.decode.read_old.Goals as goal

pub returns : goal.returns
returns c =
    whole_read spelled_old_fields old_code.one c.args.octets.now c.read-read.result c.finished.result _ _
    c.new-cursor.ensures c.read-read.ensures c.finished.ensures.kept c.finished.ensures.refused
