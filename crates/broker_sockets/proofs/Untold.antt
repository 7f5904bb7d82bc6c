-- What a read of a socket gave.
use Rattle.std.proofs.Common.{[], None}
use Rattle.broker_sockets.specs.Parted.{Gave}
use Rattle.broker_sockets.specs.declared.partings.parting.Skip.{Skip}
use Rattle.broker_sockets.specs.declared.partings.parting.Skip.TheVariants.{Octets, NotNow, End, Failed}

pub gave_nothing : (skip : Skip) → Gave skip None None
gave_nothing Octets = ([], tt)
gave_nothing NotNow = tt
gave_nothing End = (tt, tt)
gave_nothing Failed = tt
