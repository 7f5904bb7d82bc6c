use Rattle.std.proofs.Common.{sym}
use Rattle.marshal_program.proofs.rules.are_labels.Goals as goal

pub returns-then-is_rising : goal.returns-then-is_rising
returns-then-is_rising c = (
  λ h. record {
    rising = c.is_rising.ensures.0 c.if-is_rising.true;
    sized = let e = c.as_slice.ensures in
        rw (sym e) (c.are_sized.ensures.0 h);
  },
  λ h. c.are_sized.ensures.1 (let e = c.as_slice.ensures in rw e h.sized),
)
