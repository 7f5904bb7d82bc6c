use Rattle.std.proofs.Common.{arith, refl}
use Rattle.giop_words.proofs.frames.MessageTypes.own_frames.Goals as goal

pub own-requires : goal.own-requires
own-requires c = (11, omega arith, refl)
