-- The octets of text literals that stand one behind another: together they are one text (ISO/IEC 19500-1, string
-- literals).
use Rattle.std.specs.Prelude.{List, ℕ}
use Rattle.std.specs.List.{flat_map}
use Rattle.idl_lexer.specs.Readings.{text_octets}
use Rattle.idl_tree.specs.declared.names.Leaf.{Leaf}

abbrev pub joined_octets : List Leaf → List ℕ
joined_octets literals = flat_map (λ l. text_octets l.token.text.now) literals
