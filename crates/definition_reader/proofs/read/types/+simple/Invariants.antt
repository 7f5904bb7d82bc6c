use Rattle.std.proofs.Common.{◌+◌, ◌*◌, length}
use Rattle.definition_reader.proofs.read.types.+simple.Given as goal

abbrev pub decreases-read_simple_type : goal.decreases-read_simple_type
decreases-read_simple_type l = 2 * length l.cursor.now + 1

abbrev pub decreases-read_sequence : goal.decreases-read_sequence
decreases-read_sequence l = 2 * length l.cursor.now
