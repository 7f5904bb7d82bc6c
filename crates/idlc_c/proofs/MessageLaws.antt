-- What a number says of a message that isn't handed over.
use Rattle.std.proofs.Common.{◌≡◌, ℕ, List, arith}
use Rattle.giop_messages.specs.declared.fault.GiopFault.{GiopFault}
use Rattle.giop_messages.specs.declared.fault.GiopFault.TheVariants as faults
use Rattle.giop.specs.declared.giop_buffers.fault.BufferFault.{BufferFault}
use Rattle.giop.specs.declared.giop_buffers.fault.BufferFault.TheVariants.{NoRoom, Refused}
use Rattle.giop.specs.Messages.{HasLength, Refuses}
use Rattle.idlc_c.specs.MessageAnswers.{length_of_buffer, number_of_buffer}

-- 45 says that something is so long
pub needed_of : (is : List ℕ → Type 0) (room : ℕ) (none : GiopFault → Type 0) (fault : BufferFault) (old : ℕ)
    → number_of_buffer fault ≡ 45 → Refuses is room none fault → HasLength is (length_of_buffer fault old)
needed_of is room none (NoRoom needed) old number refuses = refuses.1
needed_of is room none (Refused faults.NotGiop) old number refuses = absurd (omega (arith, number))
needed_of is room none (Refused faults.Version) old number refuses = absurd (omega (arith, number))
needed_of is room none (Refused faults.TooLong) old number refuses = absurd (omega (arith, number))
needed_of is room none (Refused faults.BadHead) old number refuses = absurd (omega (arith, number))
needed_of is room none (Refused faults.BadBody) old number refuses = absurd (omega (arith, number))
needed_of is room none (Refused faults.BadFragment) old number refuses = absurd (omega (arith, number))
needed_of is room none (Refused faults.NoMemory) old number refuses = absurd (omega (arith, number))
