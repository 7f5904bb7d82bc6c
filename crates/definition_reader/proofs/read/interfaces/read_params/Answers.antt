use Rattle.std.proofs.Common.{◌∙◌, sym, refl}
use Rattle.definition_reader.proofs.Ways.{seen, unseen, halts_unseen}
use Rattle.definition_reader.proofs.read.interfaces.read_params.Goals as goal

pub returns-then-is_mark-clause-way : goal.returns-then-is_mark-clause-way
returns-then-is_mark-clause-way c = seen _ (sym c.is_mark.ensures ∙ c.if-is_mark.true) (refl)

pub returns-in-Err-clause-stops : goal.returns-in-Err-clause-stops
returns-in-Err-clause-stops c = halts_unseen _ (sym c.is_mark.ensures ∙ c.if-is_mark.false) (c.in-Err.ensures.stops)

pub returns-clause-way : goal.returns-clause-way
returns-clause-way c = unseen _ (sym c.is_mark.ensures ∙ c.if-is_mark.false) (c.in-Ok.ensures.way)
