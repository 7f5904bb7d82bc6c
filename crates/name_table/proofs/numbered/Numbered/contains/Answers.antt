use Rattle.std.proofs.Common.{◌∙◌, ap}
use Rattle.std.specs.Prelude.{is_some}
use Rattle.name_table.proofs.Stability.{position_any}
use Rattle.name_table.proofs.numbered.Numbered.contains.Goals as goal

pub returns : goal.returns
returns g c = c.is_some.ensures ∙ ap is_some c.number_of.ensures.is ∙ position_any _ c.args.self.now
