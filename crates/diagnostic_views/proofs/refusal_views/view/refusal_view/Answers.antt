use Rattle.diagnostic_views.proofs.refusal_views.view.refusal_view.Goals as goal

pub returns-clause-hinted : goal.returns-clause-hinted
returns-clause-hinted c = record { front = c.as_str.result.now; is = c.in_ok-lines.ensures }
