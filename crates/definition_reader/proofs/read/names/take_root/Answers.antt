use Rattle.std.specs.Prelude.{codes}
use Rattle.definition_reader.proofs.Ways.{maybe_taken}
use Rattle.definition_reader.proofs.read.names.take_root.Goals as goal

pub returns-clause-way : goal.returns-clause-way
returns-clause-way c = maybe_taken _ _ _ _ c.take.result c.take.ensures.unseen c.take.ensures.missing
    c.take.ensures.seen c.take.ensures.way
