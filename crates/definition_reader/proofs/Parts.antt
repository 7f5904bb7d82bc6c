-- How parts that are read one behind another are one part.
use Rattle.std.proofs.Common.{List, ◌++◌, Some, ap, ◌∙◌, arith}
use Rattle.idl_tree.specs.Pieces.{Seen, Piece, past}
use Rattle.definition_reader.specs.inner.Reading.{Parsed, Continued}
use Rattle.definition_reader.proofs.Reading.{past_append}

pub part_then : {a b c : List Seen} {x y : List Piece} → Parsed a x b → Parsed b y c → Parsed a (x ++ y) c
part_then {a = a} {x = x} {y = y} p q = record {
  spells = past_append x y (Some a) ∙ ap (past y) p.spells ∙ q.spells;
  on = omega (arith, p.on, q.on);
}

-- a part is one where there may be none
pub maybe_none : {a b : List Seen} {x : List Piece} → Parsed a x b → Continued a x b
maybe_none p = record { spells = p.spells; on = omega (arith, p.on) }

pub part_then_more : {a b c : List Seen} {x y : List Piece} → Parsed a x b → Continued b y c → Parsed a (x ++ y) c
part_then_more {a = a} {x = x} {y = y} p q = record {
  spells = past_append x y (Some a) ∙ ap (past y) p.spells ∙ q.spells;
  on = omega (arith, p.on, q.on);
}

pub more_then_part : {a b c : List Seen} {x y : List Piece} → Continued a x b → Parsed b y c → Parsed a (x ++ y) c
more_then_part {a = a} {x = x} {y = y} p q = record {
  spells = past_append x y (Some a) ∙ ap (past y) p.spells ∙ q.spells;
  on = omega (arith, p.on, q.on);
}
