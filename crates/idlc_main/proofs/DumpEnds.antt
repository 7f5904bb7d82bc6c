-- What stands on standard output where the table of a dump has a fault.
use Rattle.std.proofs.Common.{◌≡◌, refl, ℕ, List, Option}
use Rattle.idlc_main.specs.declared.fault.Fault.{Fault}
use Rattle.command_files.specs.declared.loaded.NamedFault.{NamedFault}
use Rattle.command_files.specs.declared.loaded.NamedFault.TheVariants.{NotCompiled, Refused}
use Rattle.idlc_main.specs.Dumps.{IsDumpEnd}
use Rattle.idlc_main.specs.Fault.{fault_of}

-- nothing is told before a capture is read
pub unloaded_end : {O : Type 0} (contents : O → Option (List ℕ)) (named : NamedFault) (fault : Fault) (out : O)
    → fault ≡ fault_of named → IsDumpEnd contents fault out out
unloaded_end contents (Refused refusal) fault out is = rw is refl
unloaded_end contents (NotCompiled why source) fault out is = rw is refl
