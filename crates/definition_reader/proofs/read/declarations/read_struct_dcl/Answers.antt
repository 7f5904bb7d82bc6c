use Rattle.std.proofs.Common.{◌∙◌, sym}
use Rattle.definition_reader.proofs.Ways.{seen, unseen, halts_seen, halts_unseen}
use Rattle.definition_reader.proofs.read.declarations.read_struct_dcl.Goals as goal

pub returns-in-Err-clause-stops : goal.returns-in-Err-clause-stops
returns-in-Err-clause-stops c = halts_seen _ (sym c.is_ahead.ensures ∙ c.if-is_ahead.true) c.in-Err.ensures.stops

pub returns-then-is_ahead-clause-way : goal.returns-then-is_ahead-clause-way
returns-then-is_ahead-clause-way c = seen _ (sym c.is_ahead.ensures ∙ c.if-is_ahead.true) c.in-Ok.ensures.way

pub returns-in-Err-read_struct-clause-stops : goal.returns-in-Err-read_struct-clause-stops
returns-in-Err-read_struct-clause-stops c =
    halts_unseen _ (sym c.is_ahead.ensures ∙ c.if-is_ahead.false) c.in-Err-read_struct.ensures.stops

pub returns-clause-way : goal.returns-clause-way
returns-clause-way c = unseen _ (sym c.is_ahead.ensures ∙ c.if-is_ahead.false) c.in-Ok-read_struct.ensures.way
