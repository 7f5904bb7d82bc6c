-- When a text is refused.
use Rattle.std.specs.Prelude.{Bool, true, false}
use Rattle.value_text.specs.declared.fault.ReadFault.{ReadFault}
use Rattle.value_text.specs.declared.fault.ReadFault.TheVariants.{NoMemory}

-- whether memory was wanted
abbrev pub wants_memory : ReadFault → Bool
wants_memory NoMemory = true
wants_memory fault = false
