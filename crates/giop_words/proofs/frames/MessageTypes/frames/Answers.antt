use Rattle.std.proofs.Common.{arith, refl}
use Rattle.giop_words.proofs.frames.MessageTypes.frames.Goals as goal

pub own-requires : goal.own-requires
own-requires c = (9, omega arith, refl)

pub own-requires-in-NonExistent : goal.own-requires-in-NonExistent
own-requires-in-NonExistent c = (11, omega arith, refl)
