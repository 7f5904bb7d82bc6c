-- When a table, or a file of one, is refused.
use Rattle.std.specs.Prelude.{Bool, true, false}
use Rattle.marshal_program.specs.declared.fault.TableFault.{TableFault}
use Rattle.marshal_program.specs.declared.fault.TableFault.TheVariants.{NoMemory}

-- whether memory was wanted
abbrev pub wants_memory : TableFault → Bool
wants_memory NoMemory = true
wants_memory fault = false
