-- When a source is refused.
use Rattle.std.specs.Prelude.{Bool, true, false}
use Rattle.idl_lexer.specs.declared.fault.LexFault.{LexFault}
use Rattle.idl_lexer.specs.declared.fault.LexFault.TheVariants.{NoMemory}

-- whether memory was wanted
abbrev pub wants_memory : LexFault → Bool
wants_memory NoMemory = true
wants_memory fault = false
