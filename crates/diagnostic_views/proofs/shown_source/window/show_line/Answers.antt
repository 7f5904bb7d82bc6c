use Rattle.std.proofs.lemmas.Result.{IfOk-weaker}
use Rattle.diagnostic_views.proofs.Under.{under}
use Rattle.diagnostic_views.proofs.shown_source.window.show_line.Goals as goal

pub returns-clause-under : goal.returns-clause-under
returns-clause-under c = IfOk-weaker c.cut_out.result _ _ (λ window is. under _ _ _ _ _ _ is) c.cut_out.ensures
