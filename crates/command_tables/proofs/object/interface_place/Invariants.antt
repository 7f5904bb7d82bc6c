use Rattle.std.proofs.Common.{◌≡◌, drop}
use Rattle.command_tables.specs.References.{interface_named}
use Rattle.command_tables.proofs.object.interface_place.Given as goal

abbrev pub invariant-loop-place : goal.invariant-loop-place
invariant-loop-place l = interface_named l.name l.interfaces ≡ interface_named l.name (drop l.place l.interfaces)
