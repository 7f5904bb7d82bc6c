-- What faults come from: what was asked for or what a server said, the connection, want of memory.
use Rattle.giop_messages.specs.declared.fault.GiopFault.TheVariants as messages
use Rattle.call_client.specs.declared.fault.CallFault.{CallFault}
use Rattle.call_client.specs.declared.fault.CallFault.TheVariants as faults
use Rattle.call_client.specs.declared.fault.Cause.{Cause}
use Rattle.call_client.specs.declared.fault.Cause.TheVariants.{Input, Socket, Memory}

abbrev pub cause_of : CallFault → Cause
cause_of (faults.NotARequest messages.NoMemory) = Memory
cause_of faults.NoMemory = Memory
cause_of faults.CloseConnection = Socket
cause_of faults.ReadFailed = Socket
cause_of faults.EndOfStream = Socket
cause_of faults.ReadLimit = Socket
cause_of (faults.WriteFailed sent) = Socket
cause_of faults.NotReached = Socket
cause_of fault = Input
