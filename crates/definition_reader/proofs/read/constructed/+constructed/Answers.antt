use Rattle.std.proofs.Common.{◌++◌, refl, arith, ◌∙◌, sym, inl, ◌≡◌}
use Rattle.std.specs.Prelude.{codes}
use Rattle.std.specs.List.{flat_map}
use Rattle.idl_tree.specs.Pieces.{keyword, mark}
use Rattle.idl_tree.specs.Yields.{identifier, in_order, listed}
use Rattle.idl_tree.specs.TypeYields.{label_yield, declarator_yield, switch_yield, type_yield, member_yield, case_yield, struct_yield, union_yield}
use Rattle.idl_tree.specs.Levels.{highest}
use Rattle.idl_tree.specs.TypeLevels.{member_levels, case_levels, struct_levels, union_levels}
use Rattle.definition_reader.proofs.Parts.{part_then, more_then_part}
use Rattle.definition_reader.proofs.Pairs.{spelled_as, group_three, spelled_by, levels_by, behind_part, under_suc}
use Rattle.definition_reader.proofs.Adding.{longer, longer_level, some_more, added_ended}
use Rattle.definition_reader.specs.inner.Following.{union_body_way}
use Rattle.definition_reader.proofs.Ways.{part_braced, stays_braced, open_at, on, halts, past, seen, unseen, halts_seen, halts_unseen, tail_way, tail_stops, ends_inside, open_on, ends_open, open_halts, open_past, okay, full_stops, ok_so, err_so, ends_so, type_is, inside_stops, level_halts, two_on, two_past, open_all, closes_braced, stops_braced}
use Rattle.definition_reader.proofs.Reading.{none_read, none_high}
use Rattle.definition_reader.proofs.read.constructed.+constructed.Goals as goal

pub read_members-parts-preserved : goal.read_members-parts-preserved
read_members-parts-preserved t c = record {
  spells = rw c.if-take_mark.ensures.missing
      (longer member_yield member_levels _ _ _ _ _ _ c.parts.invariant.spells c.in-Ok.ensures.spells);
  levels = longer_level member_yield member_levels _ _ _ _ _ c.parts.invariant.levels c.in-Ok.ensures.spells;
  way = rw c.if-take_mark.ensures.missing
      (stays_braced _ _ _ (part_braced _ _ _ _ c.parts.invariant.way c.in-Ok.ensures.way
      c.in-Ok.ensures.spells.spells.on) c.if-take_mark.ensures.unseen);
}

pub read_members-returns-then-take_mark-clause-spells : goal.read_members-returns-then-take_mark-clause-spells
read_members-returns-then-take_mark-clause-spells t c =
    rw c.shrink_to_fit.ensures.items
    (more_then_part (longer member_yield member_levels _ _ _ _ _ _ c.parts.invariant.spells c.in-Ok.ensures.spells)
    c.if-take_mark.ensures.read)

pub read_members-returns-then-take_mark-clause-levels : goal.read_members-returns-then-take_mark-clause-levels
read_members-returns-then-take_mark-clause-levels t c =
    rw c.shrink_to_fit.ensures.items
    (longer_level member_yield member_levels _ _ _ _ _ c.parts.invariant.levels c.in-Ok.ensures.spells)

pub read_members-returns-then-take_mark-clause-some : goal.read_members-returns-then-take_mark-clause-some
read_members-returns-then-take_mark-clause-some t c =
    rw c.shrink_to_fit.ensures.items (some_more member_yield member_levels _ _ _ _ _ c.in-Ok.ensures.spells)

pub read_cases-parts-preserved : goal.read_cases-parts-preserved
read_cases-parts-preserved t c = record {
  spells = rw c.if-take_mark.ensures.missing
      (longer case_yield case_levels _ _ _ _ _ _ c.parts.invariant.spells c.in-Ok.ensures.spells);
  levels = longer_level case_yield case_levels _ _ _ _ _ c.parts.invariant.levels c.in-Ok.ensures.spells;
  way = rw c.if-take_mark.ensures.missing
      (stays_braced _ _ _ (part_braced _ _ _ _ c.parts.invariant.way c.in-Ok.ensures.way
      c.in-Ok.ensures.spells.spells.on) c.if-take_mark.ensures.unseen);
}

pub read_cases-returns-then-take_mark-clause-spells : goal.read_cases-returns-then-take_mark-clause-spells
read_cases-returns-then-take_mark-clause-spells t c =
    rw c.shrink_to_fit.ensures.items
    (more_then_part (longer case_yield case_levels _ _ _ _ _ _ c.parts.invariant.spells c.in-Ok.ensures.spells)
    c.if-take_mark.ensures.read)

pub read_cases-returns-then-take_mark-clause-levels : goal.read_cases-returns-then-take_mark-clause-levels
read_cases-returns-then-take_mark-clause-levels t c =
    rw c.shrink_to_fit.ensures.items
    (longer_level case_yield case_levels _ _ _ _ _ c.parts.invariant.levels c.in-Ok.ensures.spells)

pub read_cases-returns-then-take_mark-clause-some : goal.read_cases-returns-then-take_mark-clause-some
read_cases-returns-then-take_mark-clause-some t c =
    rw c.shrink_to_fit.ensures.items (some_more case_yield case_levels _ _ _ _ _ c.in-Ok.ensures.spells)

pub read_member-returns-clause-spells : goal.read_member-returns-clause-spells
read_member-returns-clause-spells t c =
    let type = c.in-Ok in
    let names = c.in-Ok-read_listed in
    added_ended member_yield member_levels c.args.room _ _ _
    (type_yield type.part ++ listed declarator_yield names.part) (mark (codes ";")) _ _
    (record { member_type = type.part; declarators = names.part }) c.mark.result
    (part_then type.ensures.spells names.ensures.spells) refl
    (omega (arith, type.ensures.levels, names.ensures.levels)) c.in-Ok-add.ensures.spells c.mark.ensures.read

pub read_case-returns-clause-spells : goal.read_case-returns-clause-spells
read_case-returns-clause-spells t c =
    let labels = c.in-Ok in
    let type = c.in-Ok-read_type in
    let name = c.in-Ok-read_declarator in
    added_ended case_yield case_levels c.args.room _ _ _
    (in_order label_yield labels.part ++ type_yield type.part ++ declarator_yield name.part) (mark (codes ";")) _ _
    (record { labels = labels.part; member_type = type.part; declarator = name.part }) c.mark.result
    (part_then (part_then labels.ensures.spells type.ensures.spells) name.ensures.spells) refl
    (omega (arith, labels.ensures.levels, type.ensures.levels, name.ensures.levels)) c.in-Ok-add.ensures.spells
    c.mark.ensures.read

pub read_struct-returns-clause-spells : goal.read_struct-returns-clause-spells
read_struct-returns-clause-spells t c =
    spelled_by _ _ struct_yield _ c.structure.result c.structure.ensures.spells
    (part_then c.in-Ok.ensures.spells c.in-Ok-read_members.ensures.spells)

pub read_struct-returns-clause-levels : goal.read_struct-returns-clause-levels
read_struct-returns-clause-levels t c =
    levels_by struct_levels _ c.args.room c.structure.result c.structure.ensures.levels
    (omega (arith, c.in-Ok.ensures.levels, c.in-Ok-read_members.ensures.levels))

pub read_union_body-returns-clause-spells : goal.read_union_body-returns-clause-spells
read_union_body-returns-clause-spells t c =
    behind_part _ _ _ (mark (codes ")") ++ mark (codes "{")) (λ r. flat_map case_yield r.items ++ mark (codes "}"))
    c.read_cases.result
    (part_then c.in-Ok.ensures.read c.in-Ok-open.ensures.read) c.read_cases.ensures.spells

pub read_union_body-returns-clause-levels : goal.read_union_body-returns-clause-levels
read_union_body-returns-clause-levels t c =
    under_suc (λ r. highest case_levels r.items) _ c.args.room c.read_cases.result c.in-Ok-open.ensures.levels
    c.read_cases.ensures.levels

pub read_union-returns-clause-spells : goal.read_union-returns-clause-spells
read_union-returns-clause-spells t c =
    let pre = keyword (codes "union") ++ identifier c.in-Ok.part ++ keyword (codes "switch") ++ mark (codes "(")
    ++ switch_yield c.in-Ok-read_switch.part in
    let cases = c.in-Ok-read_union_body in
    spelled_by _ _ union_yield _ c.union_of.result c.union_of.ensures.spells
    (spelled_as (group_three pre (mark (codes ")")) (mark (codes "{"))
    (flat_map case_yield cases.part.items ++ mark (codes "}")))
    (part_then (part_then c.in-Ok.ensures.spells c.in-Ok-read_switch.ensures.spells) cases.ensures.spells))

pub read_union-returns-clause-levels : goal.read_union-returns-clause-levels
read_union-returns-clause-levels t c =
    levels_by union_levels _ c.args.room c.union_of.result c.union_of.ensures.levels
    (omega (
      arith,
      c.saturating_sub.ensures,
      c.in-Ok-read_switch.ensures.levels,
      c.in-Ok-read_union_body.ensures.levels,
    ))

pub read_type-returns-in-Err-clause-stops : goal.read_type-returns-in-Err-clause-stops
read_type-returns-in-Err-clause-stops t c =
    ends_so _ _ _ (type_is c.args.room c.args.cursor.now)
    (halts_seen _ (sym c.is_keyword.ensures ∙ c.if-is_keyword.true) c.in-Err.ensures.stops)

pub read_type-returns-then-is_keyword-clause-way : goal.read_type-returns-then-is_keyword-clause-way
read_type-returns-then-is_keyword-clause-way t c = type_is c.args.room c.args.cursor.now
    ∙ seen _ (sym c.is_keyword.ensures ∙ c.if-is_keyword.true) c.in-Ok.ensures.way

pub read_type-returns-in-Err-read_union-clause-stops : goal.read_type-returns-in-Err-read_union-clause-stops
read_type-returns-in-Err-read_union-clause-stops t c =
    ends_so _ _ _ (type_is c.args.room c.args.cursor.now)
    (halts_unseen _ (sym c.is_keyword.ensures ∙ c.if-is_keyword.false)
    (halts_seen _ (sym c.is_keyword-2.ensures ∙ c.if-is_keyword-2.true) c.in-Err-read_union.ensures.stops))

pub read_type-returns-then-is_keyword-2-clause-way : goal.read_type-returns-then-is_keyword-2-clause-way
read_type-returns-then-is_keyword-2-clause-way t c = type_is c.args.room c.args.cursor.now
    ∙ unseen _ (sym c.is_keyword.ensures ∙ c.if-is_keyword.false)
    (seen _ (sym c.is_keyword-2.ensures ∙ c.if-is_keyword-2.true) c.in-Ok-read_union.ensures.way)

pub read_type-returns-in-Err-read_enum-clause-stops : goal.read_type-returns-in-Err-read_enum-clause-stops
read_type-returns-in-Err-read_enum-clause-stops t c =
    ends_so _ _ _ (type_is c.args.room c.args.cursor.now)
    (halts_unseen _ (sym c.is_keyword.ensures ∙ c.if-is_keyword.false)
    (halts_unseen _ (sym c.is_keyword-2.ensures ∙ c.if-is_keyword-2.false)
    (halts_seen _ (sym c.is_keyword-3.ensures ∙ c.if-is_keyword-3.true) c.in-Err-read_enum.ensures.stops)))

pub read_type-returns-then-is_keyword-3-clause-way : goal.read_type-returns-then-is_keyword-3-clause-way
read_type-returns-then-is_keyword-3-clause-way t c = type_is c.args.room c.args.cursor.now
    ∙ unseen _ (sym c.is_keyword.ensures ∙ c.if-is_keyword.false)
    (unseen _ (sym c.is_keyword-2.ensures ∙ c.if-is_keyword-2.false)
    (seen _ (sym c.is_keyword-3.ensures ∙ c.if-is_keyword-3.true) c.in-Ok-read_enum.ensures.way))

pub read_type-returns-in-Err-read_simple_type-clause-stops : goal.read_type-returns-in-Err-read_simple_type-clause-stops
read_type-returns-in-Err-read_simple_type-clause-stops t c =
    ends_so _ _ _ (type_is c.args.room c.args.cursor.now)
    (halts_unseen _ (sym c.is_keyword.ensures ∙ c.if-is_keyword.false)
    (halts_unseen _ (sym c.is_keyword-2.ensures ∙ c.if-is_keyword-2.false)
    (halts_unseen _ (sym c.is_keyword-3.ensures ∙ c.if-is_keyword-3.false) (c.in-Err-read_simple_type.ensures.stops))))

pub read_type-returns-clause-way : goal.read_type-returns-clause-way
read_type-returns-clause-way t c = type_is c.args.room c.args.cursor.now
    ∙ unseen _ (sym c.is_keyword.ensures ∙ c.if-is_keyword.false)
    (unseen _ (sym c.is_keyword-2.ensures ∙ c.if-is_keyword-2.false)
    (unseen _ (sym c.is_keyword-3.ensures ∙ c.if-is_keyword-3.false) (c.in-Ok-read_simple_type.ensures.way)))

pub read_member-returns-in-Err-clause-stops : goal.read_member-returns-in-Err-clause-stops
read_member-returns-in-Err-clause-stops t c = halts _ c.in-Err.ensures.stops

pub read_member-returns-in-Err-read_listed-clause-stops : goal.read_member-returns-in-Err-read_listed-clause-stops
read_member-returns-in-Err-read_listed-clause-stops t c =
    past _ c.in-Ok.ensures.way (halts _ c.in-Err-read_listed.ensures.stops)

pub read_member-returns-clause-way : goal.read_member-returns-clause-way
read_member-returns-clause-way t c =
    tail_way _ _ _ _ c.mark.result c.in-Ok.ensures.way
    (tail_way _ _ _ _ c.mark.result c.in-Ok-read_listed.ensures.way (c.mark.ensures.way))

pub read_member-returns-clause-stops : goal.read_member-returns-clause-stops
read_member-returns-clause-stops t c =
    tail_stops _ _ _ c.mark.result c.in-Ok.ensures.way
    (tail_stops _ _ _ c.mark.result c.in-Ok-read_listed.ensures.way (c.mark.ensures.stops))

pub read_case-returns-in-Err-clause-stops : goal.read_case-returns-in-Err-clause-stops
read_case-returns-in-Err-clause-stops t c = halts _ c.in-Err.ensures.stops

pub read_case-returns-in-Err-read_type-clause-stops : goal.read_case-returns-in-Err-read_type-clause-stops
read_case-returns-in-Err-read_type-clause-stops t c =
    past _ c.in-Ok.ensures.way (halts _ c.in-Err-read_type.ensures.stops)

pub read_case-returns-in-Err-read_declarator-clause-stops : goal.read_case-returns-in-Err-read_declarator-clause-stops
read_case-returns-in-Err-read_declarator-clause-stops t c =
    past _ c.in-Ok.ensures.way (past _ c.in-Ok-read_type.ensures.way (halts _ c.in-Err-read_declarator.ensures.stops))

pub read_case-returns-clause-way : goal.read_case-returns-clause-way
read_case-returns-clause-way t c =
    tail_way _ _ _ _ c.mark.result c.in-Ok.ensures.way
    (tail_way _ _ _ _ c.mark.result c.in-Ok-read_type.ensures.way
    (tail_way _ _ _ _ c.mark.result c.in-Ok-read_declarator.ensures.way (c.mark.ensures.way)))

pub read_case-returns-clause-stops : goal.read_case-returns-clause-stops
read_case-returns-clause-stops t c =
    tail_stops _ _ _ c.mark.result c.in-Ok.ensures.way
    (tail_stops _ _ _ c.mark.result c.in-Ok-read_type.ensures.way
    (tail_stops _ _ _ c.mark.result c.in-Ok-read_declarator.ensures.way (c.mark.ensures.stops)))

pub read_members-parts-init : goal.read_members-parts-init
read_members-parts-init t c =
    record {
      spells = none_read _ _ _ c.new-members.ensures.items;
      levels =
          none_high _ _ _ c.new-members.ensures.items;
      way = inl refl;
    }

pub read_members-returns-in-Err-clause-stops : goal.read_members-returns-in-Err-clause-stops
read_members-returns-in-Err-clause-stops t c = stops_braced _ _ _ _ c.parts.invariant.way c.in-Err.ensures.stops

pub read_members-returns-then-take_mark-clause-way : goal.read_members-returns-then-take_mark-clause-way
read_members-returns-then-take_mark-clause-way t c =
    closes_braced _ _ _ _ (part_braced _ _ _ _ c.parts.invariant.way c.in-Ok.ensures.way
    c.in-Ok.ensures.spells.spells.on) c.if-take_mark.ensures.seen c.if-take_mark.ensures.way

pub read_cases-parts-init : goal.read_cases-parts-init
read_cases-parts-init t c =
    record {
      spells = none_read _ _ _ c.new-cases.ensures.items;
      levels =
          none_high _ _ _ c.new-cases.ensures.items;
      way = inl refl;
    }

pub read_cases-returns-in-Err-clause-stops : goal.read_cases-returns-in-Err-clause-stops
read_cases-returns-in-Err-clause-stops t c = stops_braced _ _ _ _ c.parts.invariant.way c.in-Err.ensures.stops

pub read_cases-returns-then-take_mark-clause-way : goal.read_cases-returns-then-take_mark-clause-way
read_cases-returns-then-take_mark-clause-way t c =
    closes_braced _ _ _ _ (part_braced _ _ _ _ c.parts.invariant.way c.in-Ok.ensures.way
    c.in-Ok.ensures.spells.spells.on) c.if-take_mark.ensures.seen c.if-take_mark.ensures.way

pub read_struct-returns-in-Err-clause-stops : goal.read_struct-returns-in-Err-clause-stops
read_struct-returns-in-Err-clause-stops t c = level_halts _ _ _ (λ left u. _) c.in-Err.ensures.stops

pub read_struct-returns-in-Err-read_members-clause-stops : goal.read_struct-returns-in-Err-read_members-clause-stops
read_struct-returns-in-Err-read_members-clause-stops t c =
    ends_open _ c.in-Ok.ensures.levels (two_past _ _ _ _ c.in-Ok.ensures.way c.in-Err-read_members.ensures.stops)

pub read_struct-returns-clause-way : goal.read_struct-returns-clause-way
read_struct-returns-clause-way t c =
    okay c.structure.result (open_on _ c.in-Ok.ensures.levels
    (two_on _ _ _ _ c.in-Ok.ensures.way c.in-Ok-read_members.ensures.way))

pub read_struct-returns-clause-stops : goal.read_struct-returns-clause-stops
read_struct-returns-clause-stops t c = full_stops _ c.structure.result c.structure.ensures.full

pub read_union_body-returns-in-Err-clause-stops : goal.read_union_body-returns-in-Err-clause-stops
read_union_body-returns-in-Err-clause-stops t c = ends_inside _ _ _ (λ left h. halts _ c.in-Err.ensures.stops)

pub read_union_body-returns-in-Err-open-clause-stops : goal.read_union_body-returns-in-Err-open-clause-stops
read_union_body-returns-in-Err-open-clause-stops t c =
    open_past _ _ (λ left u. _) c.in-Ok.ensures.way (open_halts _ _ (λ left u. _) c.in-Err-open.ensures.stops)

pub read_union_body-returns-clause-way : goal.read_union_body-returns-clause-way
read_union_body-returns-clause-way t c =
    ok_so _ _ c.read_cases.result (open_at _ _ _ c.in-Ok-open.ensures.levels)
    (tail_way _ _ _ _ c.read_cases.result c.in-Ok.ensures.way
    (tail_way _ _ _ _ c.read_cases.result c.in-Ok-open.ensures.way c.read_cases.ensures.way))

pub read_union_body-returns-clause-stops : goal.read_union_body-returns-clause-stops
read_union_body-returns-clause-stops t c =
    err_so _ c.read_cases.result (open_at _ _ _ c.in-Ok-open.ensures.levels)
    (tail_stops _ _ _ c.read_cases.result c.in-Ok.ensures.way
    (tail_stops _ _ _ c.read_cases.result c.in-Ok-open.ensures.way c.read_cases.ensures.stops))

pub read_union-returns-in-Err-clause-stops : goal.read_union-returns-in-Err-clause-stops
read_union-returns-in-Err-clause-stops t c = ends_inside _ _ _ (λ left h. halts _ c.in-Err.ensures.stops)

pub read_union-returns-in-Err-read_switch-clause-stops : goal.read_union-returns-in-Err-read_switch-clause-stops
read_union-returns-in-Err-read_switch-clause-stops t c =
    ends_inside _ _ _ (λ left h. let same : c.saturating_sub.result ≡ left =
    omega (arith, h, c.saturating_sub.ensures) in
    past _ c.in-Ok.ensures.way (halts _ (rw same at c.in-Err-read_switch.ensures.stops)))

pub read_union-returns-in-Err-read_union_body-clause-stops : goal.read_union-returns-in-Err-read_union_body-clause-stops
read_union-returns-in-Err-read_union_body-clause-stops t c =
    ends_inside _ _ _ (λ left h. let same : c.saturating_sub.result ≡ left =
    omega (arith, h, c.saturating_sub.ensures) in
    past _ c.in-Ok.ensures.way
    (past _ (rw same at c.in-Ok-read_switch.ensures.way)
    (inside_stops left c.args.room (λ l. union_body_way l _) h c.in-Err-read_union_body.ensures.stops)))

pub read_union-returns-clause-way : goal.read_union-returns-clause-way
read_union-returns-clause-way t c =
    okay c.union_of.result (open_all _ _ _ c.in-Ok-read_union_body.ensures.way
    (λ left h body. let same : c.saturating_sub.result ≡ left = omega (arith, h, c.saturating_sub.ensures) in
    on _ c.in-Ok.ensures.way (on _ (rw same at c.in-Ok-read_switch.ensures.way) body)))

pub read_union-returns-clause-stops : goal.read_union-returns-clause-stops
read_union-returns-clause-stops t c = full_stops _ c.union_of.result c.union_of.ensures.full
