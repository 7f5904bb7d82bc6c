use Rattle.std.proofs.Common.{◌≤◌, length, sym, arith}
use Rattle.std.proofs.lemmas.List.{take_all}
use Rattle.diagnostic_views.proofs.shown_source.window.front.Goals as goal

pub returns-then-text-le-WIDTH : goal.returns-then-text-le-WIDTH
returns-then-text-le-WIDTH c = let short : length c.args.text.now ≤ 120 = omega arith in sym (take_all 120 _ short)
