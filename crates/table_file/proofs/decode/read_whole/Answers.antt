use Rattle.table_file.specs.inner.TableCodes.{one_fields, spelled_fields}
use Rattle.table_file.proofs.Decoded.{whole_read}
use Rattle.table_file.proofs.decode.read_whole.Goals as goal

pub returns : goal.returns
returns c =
    whole_read spelled_fields one_fields c.args.octets.now c.read_parts-read.result c.finished.result _ _
    c.new-cursor.ensures c.read_parts-read.ensures c.finished.ensures.kept c.finished.ensures.refused
