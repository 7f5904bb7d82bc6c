use Rattle.std.proofs.Common.{rules, ◌≤◌, ℕ, suc, true, arith, add-one, ◌+◌, ◌-◌, ◌<◌, ◌∙◌, sym, ap, inr, ◌≡◌}
use Rattle.std.specs.Prelude.{Bool, is_some}
use Rattle.std.specs.List.{AllByRecursion}
use Rattle.std.proofs.lemmas.Result.{IfOk-weaker}
use Rattle.idl_tree.specs.Grouping.{IsOperandOf, IsOfLevel}
use Rattle.idl_tree.specs.Yields.{expr_yield, operand_yield}
use Rattle.idl_tree.specs.Levels.{expr_levels, operand_levels}
use Rattle.definition_reader.proofs.Operands.{all_more, unsigned, tightest}
use Rattle.definition_reader.proofs.Parts.{part_then, part_then_more}
use Rattle.definition_reader.proofs.Pairs.{handed, spelled_by, levels_by}
use Rattle.definition_reader.proofs.Reading.{one_more, one_more_level, then_read, none_read, none_high}
use Rattle.idl_tree.specs.Descent.{operand_way, level_way, inside_way}
use Rattle.definition_reader.proofs.Ways.{operator_found, going_on, on, halts, past, seen, halts_seen, going_begins, going_ends, going_stops, okay, full_stops, ok_so, err_so, tail_unseen, tail_halts_unseen, unary_level, level_is, operand_is, inside_none, inside_at, ends_so}
use Rattle.definition_reader.proofs.read.expressions.+expressions.Goals as goal

pub read_operands-parts-preserved : goal.read_operands-parts-preserved
read_operands-parts-preserved t c =
    let few : suc c.args.level ≤ 6 = c.requires in
    let less : 6 - (c.args.level + 1) ≡ 5 - c.args.level = omega arith in
    let tighter = rw add-one at (c.in-Ok-read_level.ensures.groups (omega (arith, few))) in
    record {
      spells = one_more operand_yield _ _ _ _ _ _ c.parts.invariant.spells
          (then_read _ _ _ _ _ c.in-Ok.ensures.spells c.in-Ok-read_level.ensures.spells) c.in-Ok-add.ensures.spells;
      operands = all_more (IsOperandOf c.args.shifts c.args.level) _ _ _ c.parts.invariant.operands
          (operator_found _ _ _ _ c.in-Some.ensures, tighter) c.in-Ok-add.ensures.spells;
      levels = one_more_level operand_levels _ _ _ _ c.parts.invariant.levels c.in-Ok-read_level.ensures.levels
          c.in-Ok-add.ensures.spells;
      way = going_on _ _ _ _ _ c.parts.invariant.way (sym (ap is_some c.in-Some.ensures))
          (operand_is (level_way (inside_way c.args.room) c.args.shifts (5 - c.args.level)) _ _ c.parts.cursor
          c.in-Some.ensures
          ∙ on _ c.in-Ok.ensures.way (rw less at c.in-Ok-read_level.ensures.way))
          (then_read _ _ _ _ _ c.in-Ok.ensures.spells c.in-Ok-read_level.ensures.spells).on;
    }

pub read_unary-returns-clause-groups : goal.read_unary-returns-clause-groups
read_unary-returns-clause-groups t c =
    IfOk-weaker c.made.result (λ e. (shifts : Bool) → IsOfLevel shifts 7 c.in-Ok.part → IsOfLevel shifts 6 e)
    (λ e. (shifts : Bool) → IsOfLevel shifts 6 e)
    (λ e signed shifts. signed shifts (c.in-Ok.ensures.groups shifts))
    (handed _ c.new_signed.result c.made.result c.new_signed.ensures.groups c.made.ensures.spells)

pub read_level-returns-clause-groups : goal.read_level-returns-clause-groups
read_level-returns-clause-groups t c =
    let few : suc c.args.level ≤ 6 = search rules in
    let first = rw add-one at (c.in-Ok.ensures.groups (omega (arith, few))) in
    IfOk-weaker c.made.result
    (λ e. (shifts : Bool) (level : ℕ) → level ≤ 5 → IsOfLevel shifts (suc level) c.in-Ok.part
    → AllByRecursion (IsOperandOf shifts level) c.in-Ok-read_operands.part.items → IsOfLevel shifts level e)
    (λ e. c.args.level ≤ 6 → IsOfLevel c.args.shifts c.args.level e)
    (λ e chain le. chain c.args.shifts c.args.level (omega (arith, few)) first c.in-Ok-read_operands.ensures.groups)
    (handed _ c.new_chain.result c.made.result c.new_chain.ensures.groups c.made.ensures.spells)

pub read_unary-returns-in_default-clause-groups : goal.read_unary-returns-in_default-clause-groups
read_unary-returns-in_default-clause-groups t c = unsigned _ c.read_primary.ensures.groups

pub read_level-returns-then-level-ge-LEVELS-clause-groups : goal.read_level-returns-then-level-ge-LEVELS-clause-groups
read_level-returns-then-level-ge-LEVELS-clause-groups t c =
    tightest _ c.args.level c.args.shifts c.if-level-ge-LEVELS.true c.read_unary.ensures.groups

pub read_primary-returns-clause-spells : goal.read_primary-returns-clause-spells
read_primary-returns-clause-spells t c =
    spelled_by _ _ expr_yield _ c.made.result
    (handed _ c.new_parenthesized.result c.made.result c.new_parenthesized.ensures.spells c.made.ensures.spells)
    (part_then (part_then c.in-Some.ensures.kept c.in-Ok-read_level.ensures.spells) c.in-Ok-mark.ensures.read)

pub read_primary-returns-clause-groups : goal.read_primary-returns-clause-groups
read_primary-returns-clause-groups t c =
    IfOk-weaker c.made.result (λ e. IsOfLevel true 0 c.in-Ok-read_level.part → (shifts : Bool) → IsOfLevel shifts 7 e)
    (λ e. (shifts : Bool) → IsOfLevel shifts 7 e)
    (λ e closed. closed (c.in-Ok-read_level.ensures.groups (omega arith)))
    (handed _ c.new_parenthesized.result c.made.result c.new_parenthesized.ensures.groups c.made.ensures.spells)

pub read_primary-returns-clause-levels : goal.read_primary-returns-clause-levels
read_primary-returns-clause-levels t c =
    levels_by expr_levels _ c.args.room c.made.result
    (handed _ c.new_parenthesized.result c.made.result c.new_parenthesized.ensures.levels c.made.ensures.spells)
    (omega (arith, c.in-Ok.ensures.levels, c.in-Ok-read_level.ensures.levels))

pub read_unary-returns-clause-spells : goal.read_unary-returns-clause-spells
read_unary-returns-clause-spells t c =
    spelled_by _ _ expr_yield _ c.made.result
    (handed _ c.new_signed.result c.made.result c.new_signed.ensures.spells c.made.ensures.spells)
    (part_then c.in-Some.ensures.read c.in-Ok.ensures.spells)

pub read_unary-returns-clause-levels : goal.read_unary-returns-clause-levels
read_unary-returns-clause-levels t c =
    levels_by expr_levels _ c.args.room c.made.result
    (handed _ c.new_signed.result c.made.result c.new_signed.ensures.levels c.made.ensures.spells)
    (omega (arith, c.in-Ok.ensures.levels))

pub read_level-returns-clause-spells : goal.read_level-returns-clause-spells
read_level-returns-clause-spells t c =
    spelled_by _ _ expr_yield _ c.made.result
    (handed _ c.new_chain.result c.made.result c.new_chain.ensures.spells c.made.ensures.spells)
    (part_then_more c.in-Ok.ensures.spells c.in-Ok-read_operands.ensures.spells)

pub read_level-returns-clause-levels : goal.read_level-returns-clause-levels
read_level-returns-clause-levels t c =
    levels_by expr_levels _ c.args.room c.made.result
    (handed _ c.new_chain.result c.made.result c.new_chain.ensures.levels c.made.ensures.spells)
    (omega (arith, c.in-Ok.ensures.levels, c.in-Ok-read_operands.ensures.levels))

pub read_primary-returns-in_default-clause-way : goal.read_primary-returns-in_default-clause-way
read_primary-returns-in_default-clause-way t c =
    tail_unseen _ _ _ c.read_atom.result c.in_default.ensures.unseen
    (rw (← c.in_default.ensures.missing) c.read_atom.ensures.way)

pub read_primary-returns-in_default-clause-stops : goal.read_primary-returns-in_default-clause-stops
read_primary-returns-in_default-clause-stops t c =
    tail_halts_unseen _ _ c.read_atom.result c.in_default.ensures.unseen
    (rw (← c.in_default.ensures.missing) c.read_atom.ensures.stops)

pub read_primary-returns-in-Err-clause-stops : goal.read_primary-returns-in-Err-clause-stops
read_primary-returns-in-Err-clause-stops t c =
    halts_seen _ c.in-Some.ensures.seen
    (past _ c.in-Some.ensures.way (halts _ (inr (inside_none _ _ c.in-Err.ensures.none))))

pub read_primary-returns-in-Err-read_level-clause-stops : goal.read_primary-returns-in-Err-read_level-clause-stops
read_primary-returns-in-Err-read_level-clause-stops t c =
    halts_seen _ c.in-Some.ensures.seen
    (past _ c.in-Some.ensures.way
    (halts _ (ends_so _ _ _ (inside_at _ _ _ c.in-Ok.ensures.levels) c.in-Err-read_level.ensures.stops)))

pub read_primary-returns-in-Err-mark-clause-stops : goal.read_primary-returns-in-Err-mark-clause-stops
read_primary-returns-in-Err-mark-clause-stops t c =
    halts_seen _ c.in-Some.ensures.seen
    (past _ c.in-Some.ensures.way
    (past _ (inside_at _ _ _ c.in-Ok.ensures.levels ∙ c.in-Ok-read_level.ensures.way) c.in-Err-mark.ensures.stops))

pub read_primary-returns-clause-way : goal.read_primary-returns-clause-way
read_primary-returns-clause-way t c =
    okay c.made.result (seen _ c.in-Some.ensures.seen
    (on _ c.in-Some.ensures.way
    (on _ (inside_at _ _ _ c.in-Ok.ensures.levels ∙ c.in-Ok-read_level.ensures.way) c.in-Ok-mark.ensures.way)))

pub read_primary-returns-clause-stops : goal.read_primary-returns-clause-stops
read_primary-returns-clause-stops t c = full_stops _ c.made.result c.made.ensures.full

pub read_unary-returns-in_default-clause-way : goal.read_unary-returns-in_default-clause-way
read_unary-returns-in_default-clause-way t c =
    tail_unseen _ _ _ c.read_primary.result c.in_default.ensures.unseen
    (rw (← c.in_default.ensures.missing) c.read_primary.ensures.way)

pub read_unary-returns-in_default-clause-stops : goal.read_unary-returns-in_default-clause-stops
read_unary-returns-in_default-clause-stops t c =
    tail_halts_unseen _ _ c.read_primary.result c.in_default.ensures.unseen
    (rw (← c.in_default.ensures.missing) c.read_primary.ensures.stops)

pub read_unary-returns-in-Err-clause-stops : goal.read_unary-returns-in-Err-clause-stops
read_unary-returns-in-Err-clause-stops t c =
    halts_seen _ c.in-Some.ensures.seen (past _ c.in-Some.ensures.way c.in-Err.ensures.stops)

pub read_unary-returns-clause-way : goal.read_unary-returns-clause-way
read_unary-returns-clause-way t c =
    okay c.made.result (seen _ c.in-Some.ensures.seen (on _ c.in-Some.ensures.way c.in-Ok.ensures.way))

pub read_unary-returns-clause-stops : goal.read_unary-returns-clause-stops
read_unary-returns-clause-stops t c = full_stops _ c.made.result c.made.ensures.full

pub read_operands-parts-init : goal.read_operands-parts-init
read_operands-parts-init t c =
    record {
      spells = none_read _ _ _ c.new-rest.ensures.items;
      operands = search rules;
      levels =
          none_high _ _ _ c.new-rest.ensures.items;
      way = going_begins _ _ _;
    }

pub read_operands-returns-in-Err-clause-stops : goal.read_operands-returns-in-Err-clause-stops
read_operands-returns-in-Err-clause-stops t c =
    going_stops _ _ _ _ _ c.parts.invariant.way (sym (ap is_some c.in-Some.ensures))
    (ends_so _ _ _ (operand_is (level_way (inside_way c.args.room) c.args.shifts (5 - c.args.level)) _ _ c.parts.cursor
    c.in-Some.ensures) (halts _ c.in-Err.ensures.stops))

pub read_operands-returns-in-Err-read_level-clause-stops : goal.read_operands-returns-in-Err-read_level-clause-stops
read_operands-returns-in-Err-read_level-clause-stops t c = let less : 6 - (c.args.level + 1) ≡ 5 - c.args.level =
    omega arith in going_stops _ _ _ _ _ c.parts.invariant.way (sym (ap is_some c.in-Some.ensures))
    (ends_so _ _ _ (operand_is (level_way (inside_way c.args.room) c.args.shifts (5 - c.args.level)) _ _ c.parts.cursor
    c.in-Some.ensures) (past _ c.in-Ok.ensures.way (rw less at c.in-Err-read_level.ensures.stops)))

pub read_operands-returns-clause-way : goal.read_operands-returns-clause-way
read_operands-returns-clause-way t c = going_ends _ _ _ _ c.parts.invariant.way (sym (ap is_some c.in_default.ensures))

pub read_level-returns-then-level-ge-LEVELS-clause-way : goal.read_level-returns-then-level-ge-LEVELS-clause-way
read_level-returns-then-level-ge-LEVELS-clause-way t c =
    ok_so _ _ c.read_unary.result (unary_level _ _ _ _ c.if-level-ge-LEVELS.true) c.read_unary.ensures.way

pub read_level-returns-then-level-ge-LEVELS-clause-stops : goal.read_level-returns-then-level-ge-LEVELS-clause-stops
read_level-returns-then-level-ge-LEVELS-clause-stops t c =
    err_so _ c.read_unary.result (unary_level _ _ _ _ c.if-level-ge-LEVELS.true) c.read_unary.ensures.stops

pub read_level-returns-in-Err-clause-stops : goal.read_level-returns-in-Err-clause-stops
read_level-returns-in-Err-clause-stops t c = let few : c.args.level < 6 = search rules in
    let less : 6 - (c.args.level + 1) ≡ 5 - c.args.level = omega arith in
    ends_so _ _ _ (level_is _ _ _ _ few) (halts _ (rw less at c.in-Err.ensures.stops))

pub read_level-returns-in-Err-read_operands-clause-stops : goal.read_level-returns-in-Err-read_operands-clause-stops
read_level-returns-in-Err-read_operands-clause-stops t c = let few : c.args.level < 6 = search rules in
    let less : 6 - (c.args.level + 1) ≡ 5 - c.args.level = omega arith in
    ends_so _ _ _ (level_is _ _ _ _ few) (past _ (rw less at c.in-Ok.ensures.way) c.in-Err-read_operands.ensures.stops)

pub read_level-returns-clause-way : goal.read_level-returns-clause-way
read_level-returns-clause-way t c = let few : c.args.level < 6 = search rules in
    let less : 6 - (c.args.level + 1) ≡ 5 - c.args.level = omega arith in
    okay c.made.result (level_is _ _ _ _ few ∙ on _ (rw less at c.in-Ok.ensures.way) c.in-Ok-read_operands.ensures.way)

pub read_level-returns-clause-stops : goal.read_level-returns-clause-stops
read_level-returns-clause-stops t c = full_stops _ c.made.result c.made.ensures.full
