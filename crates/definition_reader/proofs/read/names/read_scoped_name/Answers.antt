use Rattle.std.proofs.Common.{◌≡◌, ◌∙◌, vec_len, sym, arith}
use Rattle.std.proofs.lemmas.Bool.Decides.{Decides-eqb}
use Rattle.definition_reader.proofs.Reading.{alone_read}
use Rattle.idl_tree.specs.Descent.{name_way}
use Rattle.definition_reader.proofs.Ways.{halts, on, past}
use Rattle.definition_reader.proofs.read.names.read_scoped_name.Goals as goal

pub returns-then-is_empty-clause-spells : goal.returns-then-is_empty-clause-spells
returns-then-is_empty-clause-spells c =
    let more = c.in-Ok-read_parts.part in
    let len : vec_len more ≡ 0 = (Decides-eqb (vec_len more) 0).0 (sym (c.is_empty.ensures) ∙ c.if-is_empty.true) in
    alone_read c.take_root-root.result c.in-Ok.part more.items _ _ _ _ c.if-is_none.ensures
    (omega (arith, len, more.ok.0)) c.take_root-root.ensures.spells c.in-Ok.ensures.read
    c.in-Ok-read_parts.ensures.spells

pub returns-in-Err-clause-stops : goal.returns-in-Err-clause-stops
unfolding name_way
returns-in-Err-clause-stops c = past _ c.take_root-root.ensures.way (halts _ c.in-Err.ensures.stops)

pub returns-in-Err-read_parts-clause-stops : goal.returns-in-Err-read_parts-clause-stops
unfolding name_way
returns-in-Err-read_parts-clause-stops c =
    past _ c.take_root-root.ensures.way (past _ c.in-Ok.ensures.way c.in-Err-read_parts.ensures.stops)

pub returns-then-is_empty-clause-way : goal.returns-then-is_empty-clause-way
unfolding name_way
returns-then-is_empty-clause-way c =
    on _ c.take_root-root.ensures.way (on _ c.in-Ok.ensures.way c.in-Ok-read_parts.ensures.way)

pub returns-clause-way : goal.returns-clause-way
unfolding name_way
returns-clause-way c = on _ c.take_root-root.ensures.way (on _ c.in-Ok.ensures.way c.in-Ok-read_parts.ensures.way)
