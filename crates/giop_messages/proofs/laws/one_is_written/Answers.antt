use Rattle.giop_types.proofs.Writings.{encodes_once}
use Rattle.giop_messages.proofs.OneWritten.{tape_written_once}
use Rattle.giop_messages.proofs.laws.one_is_written.Goals as goal

pub returns-clause-value : goal.returns-clause-value
returns-clause-value c = encodes_once

pub returns-clause-tape : goal.returns-clause-tape
returns-clause-tape c = tape_written_once
