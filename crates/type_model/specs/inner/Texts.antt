-- Where the text of a name stands.
use Rattle.std.specs.Prelude.{ℕ, List}
use Rattle.std.specs.String.{string_bytes}
use Rattle.type_model.specs.declared.names.Text.{Text}
use Rattle.type_model.specs.declared.names.Text.TheVariants.{Short, Long}

-- its octets
abbrev pub octets_of : Text → List ℕ
octets_of (Short short) = short.bytes
octets_of (Long long) = string_bytes long
