use Rattle.std.proofs.Common.{◌≡◌, ◌∙◌, [], Some, ap, rules, sym}
use Rattle.idl_tree.specs.Pieces.{is_end}
use Rattle.definition_reader.proofs.Refusing.{stopped, left_over}
use Rattle.definition_reader.proofs.whole.read_all.Goals as goal

pub returns-clause-whole : goal.returns-clause-whole
returns-clause-whole c =
    let ended : c.read_definitions.new.cursor ≡ [] = search rules in
    record { spells = ap is_end (c.in-Ok.ensures.spells.spells ∙ ap Some ended); few = c.in-Ok.ensures.levels }

pub returns-in-Err-clause-refused : goal.returns-in-Err-clause-refused
returns-in-Err-clause-refused c = stopped c.args.levels c.args.cursor.now c.in-Err.stop c.in-Err.ensures.stops

pub returns-then-not-is_at_end-clause-refused : goal.returns-then-not-is_at_end-clause-refused
returns-then-not-is_at_end-clause-refused c =
    left_over c.args.levels c.args.cursor.now _ _ c.in-Ok.ensures.way
    (sym c.is_at_end.ensures.over ∙ c.if-not-is_at_end.true)
