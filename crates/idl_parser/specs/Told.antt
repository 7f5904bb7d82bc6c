-- What a fault tells of the token that can't stand where it does.
use Rattle.std.specs.Prelude.{◌≡◌}
use Rattle.idl_parser.specs.declared.fault.ParseFault.{ParseFault}
use Rattle.idl_parser.specs.declared.fault.ParseFault.TheVariants.{Unexpected, LeftOut}
use Rattle.idl_tree.specs.declared.names.Leaf.{Leaf}

-- its number and its line
abbrev pub TellsOf : Leaf → ParseFault → Type 0
TellsOf l (Unexpected at line) = (at ≡ l.number) × (line ≡ l.token.line)
TellsOf l (LeftOut what at line) = (at ≡ l.number) × (line ≡ l.token.line)
TellsOf l fault = ⊥
