use Rattle.std.proofs.Common.{◌≡◌, ◌++◌, drop}
use Rattle.std.specs.Prelude.{encode_utf8_all}
use Rattle.std.specs.String.{string_bytes}
use Rattle.value_text.proofs.scalars.characters.Given as goal

abbrev pub invariant-loop-octet : goal.invariant-loop-octet
invariant-loop-octet l = string_bytes l.text ++ encode_utf8_all (drop l.octet-index l.octets) ≡ encode_utf8_all l.octets
