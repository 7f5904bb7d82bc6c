use Rattle.std.proofs.Common.{◌≡◌, fold, map, take}
use Rattle.std.specs.Char.{to_ascii_lowercase}
use Rattle.name_table.specs.inner.Codes.{more_code}
use Rattle.name_table.proofs.key.code_of.Given as goal

abbrev pub invariant-loop-octet : goal.invariant-loop-octet
invariant-loop-octet l = l.code ≡ fold more_code 0 (map to_ascii_lowercase (take l.octet-index l.octet-items))
