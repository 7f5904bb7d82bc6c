-- What refusals come from.
use Rattle.call_client.specs.Causes.{cause_of as cause_of_fault}
use Rattle.call_client.specs.declared.fault.Cause.{Cause}
use Rattle.call_client.specs.declared.fault.Cause.TheVariants.{Input}
use Rattle.call_commands.specs.declared.fault.CallRefusal.{CallRefusal}
use Rattle.call_commands.specs.declared.fault.CallRefusal.TheVariants.{Unanswered}

abbrev pub cause_of : CallRefusal → Cause
cause_of (Unanswered fault) = cause_of_fault fault
cause_of refusal = Input
