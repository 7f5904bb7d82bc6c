use Rattle.std.proofs.Common.{◌≡◌}
use Rattle.std.specs.Prelude.{flat_map}
use Rattle.std.specs.String.{string_bytes}
use Rattle.value_text.specs.Escaped.{written}
use Rattle.value_text.proofs.escaped_json.escaping.each_written.Given as goal

abbrev pub invariant-loop-character : goal.invariant-loop-character
invariant-loop-character l = string_bytes l.shown ≡ flat_map written l.yielded
