use Rattle.std.proofs.Common.{◌≡◌, ◌∙◌, ◌<◌, ◌+◌, inr, Ok, length, sym, ap, arith}
use Rattle.std.proofs.lemmas.Result.{err_from_is_err_and}
use Rattle.std.proofs.lemmas.List.{at_drop_all}
use Rattle.idl_tree.specs.Starts.{leaf_at}
use Rattle.lowered_types.specs.Faults.{each}
use Rattle.lowered_types.specs.Lowered.{already, opened}
use Rattle.lowered_types.specs.SimpleTypes.{entry_of}
use Rattle.lowered_types.specs.Labels.{no_arms, switch_read, switched}
use Rattle.lowered_types.specs.Types.{cases_of, no_members, struct_defined, union_defined, with_case_of, with_member, with_members_of}
use Rattle.lowered_types.proofs.Parts.{each_off, or_told}
use Rattle.lowered_types.proofs.Walks.{first_case, first_cases, first_member, first_of, goes_on, id_of, more_cases, rest_of, stops, struct_begun, struct_close, struct_entered, struct_in, struct_more, struct_open, struct_opened, struct_told, struct_walked, switch_of, union_begun, union_chosen, union_close, union_entered, union_id, union_in, union_more, union_open, union_opened, union_switched, union_told, union_walked}
use Rattle.lowered_types.proofs.types.+types.Goals as goal

pub lower_struct-returns-in_err-entry : goal.lower_struct-returns-in_err-entry
lower_struct-returns-in_err-entry t c =
    let p = err_from_is_err_and c.from_residual.result c.from_residual.ensures.1 in
    let es = c.args.names.now.entries in
    let w = c.args.table.now in
    let scope = c.args.scope.0 in
    let s = c.args.s.now in
    rw (p.1, p.2) (inr (struct_told es w scope s
    ∙ stops (entry_of es scope (id_of s)) _ (struct_in es w (id_of s) (first_of s) (rest_of s))
    (sym c.in_err-entry.ensures.told)))

pub lower_struct-returns-in_err-number : goal.lower_struct-returns-in_err-number
lower_struct-returns-in_err-number t c =
    let p = err_from_is_err_and c.from_residual-in_err-number.result c.from_residual-in_err-number.ensures.1 in
    let es = c.args.names.now.entries in
    let w = c.args.table.now in
    let scope = c.args.scope.0 in
    let s = c.args.s.now in
    let e = c.in_ok-entry.entry in
    let told = c.in_ok-entry.ensures.told in
    rw (p.1, p.2) (or_told c.in_err-number.ensures (λ is. struct_entered es w scope s e told
    ∙ stops (opened w e (leaf_at (id_of s))) _ (struct_open es (id_of s) (first_of s) (rest_of s) e)
    (ap (opened w e) (sym c.at-at.ensures) ∙ is)))

pub lower_struct-returns-in_err-lower_member : goal.lower_struct-returns-in_err-lower_member
lower_struct-returns-in_err-lower_member t c =
    let p = err_from_is_err_and c.from_residual-in_err-lower_member.result c.from_residual-in_err-lower_member.ensures.1
    in
    let es = c.args.names.now.entries in
    let w = c.args.table.now in
    let scope = c.args.scope.0 in
    let s = c.args.s.now in
    let e = c.in_ok-entry.entry in
    let told = c.in_ok-entry.ensures.told in
    let o = already c.declare.new.self c.in_ok-number.number in
    let opens = ap (opened w e) (sym c.at-at.ensures) ∙ c.in_ok-number.ensures in
    let same = first_member es (e + 1) c.declare.new.self c.in_ok-members.members c.deref.result.now (first_of s)
    c.in_ok-members.ensures.empty c.deref.ensures in
    rw (p.1, p.2) (or_told c.in_err-lower_member.ensures (λ is. struct_opened es w scope s e o told opens
    ∙ stops (with_member es (e + 1) (with_members_of o.lowered no_members) (first_of s)) _
    (struct_more es (id_of s) (rest_of s) e o) (same ∙ is)))

pub lower_struct-returns-in_err-lower_member-2 : goal.lower_struct-returns-in_err-lower_member-2
lower_struct-returns-in_err-lower_member-2 t c =
    let p = err_from_is_err_and c.from_residual-in_err-lower_member-2.result
    c.from_residual-in_err-lower_member-2.ensures.1 in
    let es = c.args.names.now.entries in
    let w = c.args.table.now in
    let scope = c.args.scope.0 in
    let s = c.args.s.now in
    let e = c.in_ok-entry.entry in
    let told = c.in_ok-entry.ensures.told in
    let o = already c.declare.new.self c.in_ok-number.number in
    let opens = ap (opened w e) (sym c.at-at.ensures) ∙ c.in_ok-number.ensures in
    let m = with_members_of c.lower_member.new.table c.lower_member.new.members in
    let same = first_member es (e + 1) c.declare.new.self c.in_ok-members.members c.deref.result.now (first_of s)
    c.in_ok-members.ensures.empty c.deref.ensures in
    let first : with_member es (e + 1) (with_members_of o.lowered no_members) (first_of s) ≡ Ok m =
    same ∙ c.in_ok-lower_member.ensures in
    let items = c.deref-member-items.result.now in
    let part = with_member es (e + 1) in
    let st = with_members_of c.loop-member.table c.loop-member.members in
    let k = c.loop-member.member-index in
    let here = ap (each part m) (sym c.deref-member-items.ensures.value) ∙ sym c.loop-member.invariant.told in
    let lt : k < length items = omega arith in
    rw (p.1, p.2) (or_told c.in_err-lower_member-2.ensures (λ is. struct_begun es w scope s e o m told opens first
    ∙ stops (each part m (rest_of s)) _ (struct_close (id_of s) o)
    (here ∙ each_off part st items k c.member-item.result _ lt c.member-item.is is)))

pub lower_struct-returns-in_err-define_struct : goal.lower_struct-returns-in_err-define_struct
lower_struct-returns-in_err-define_struct t c =
    let p = err_from_is_err_and c.from_residual-in_err-define_struct.result
    c.from_residual-in_err-define_struct.ensures.1 in
    let es = c.args.names.now.entries in
    let w = c.args.table.now in
    let scope = c.args.scope.0 in
    let s = c.args.s.now in
    let e = c.in_ok-entry.entry in
    let told = c.in_ok-entry.ensures.told in
    let o = already c.declare.new.self c.in_ok-number.number in
    let opens = ap (opened w e) (sym c.at-at.ensures) ∙ c.in_ok-number.ensures in
    let m = with_members_of c.lower_member.new.table c.lower_member.new.members in
    let same = first_member es (e + 1) c.declare.new.self c.in_ok-members.members c.deref.result.now (first_of s)
    c.in_ok-members.ensures.empty c.deref.ensures in
    let first : with_member es (e + 1) (with_members_of o.lowered no_members) (first_of s) ≡ Ok m =
    same ∙ c.in_ok-lower_member.ensures in
    let items = c.deref-member-items.result.now in
    let part = with_member es (e + 1) in
    let st = with_members_of c.loop-member.table c.loop-member.members in
    let k = c.loop-member.member-index in
    let here = ap (each part m) (sym c.deref-member-items.ensures.value) ∙ sym c.loop-member.invariant.told in
    let walked : each part m (rest_of s) ≡ Ok st = here ∙ at_drop_all (each part st) items k (omega arith) in
    rw (p.1, p.2) (or_told c.in_err-define_struct.ensures
    (λ is. struct_walked es w scope s e o m st told opens first walked
    ∙ stops (struct_defined st o.number (leaf_at (id_of s))) _ (λ behind. Ok (already behind o.number))
    (ap (struct_defined st o.number) (sym c.at-at.ensures) ∙ is)))

pub lower_struct-returns : goal.lower_struct-returns
lower_struct-returns t c =
    let es = c.args.names.now.entries in
    let w = c.args.table.now in
    let scope = c.args.scope.0 in
    let s = c.args.s.now in
    let e = c.in_ok-entry.entry in
    let told = c.in_ok-entry.ensures.told in
    let o = already c.declare.new.self c.in_ok-number.number in
    let opens = ap (opened w e) (sym c.at-at.ensures) ∙ c.in_ok-number.ensures in
    let m = with_members_of c.lower_member.new.table c.lower_member.new.members in
    let same = first_member es (e + 1) c.declare.new.self c.in_ok-members.members c.deref.result.now (first_of s)
    c.in_ok-members.ensures.empty c.deref.ensures in
    let first : with_member es (e + 1) (with_members_of o.lowered no_members) (first_of s) ≡ Ok m =
    same ∙ c.in_ok-lower_member.ensures in
    let items = c.deref-member-items.result.now in
    let part = with_member es (e + 1) in
    let st = with_members_of c.loop-member.table c.loop-member.members in
    let k = c.loop-member.member-index in
    let here = ap (each part m) (sym c.deref-member-items.ensures.value) ∙ sym c.loop-member.invariant.told in
    let walked : each part m (rest_of s) ≡ Ok st = here ∙ at_drop_all (each part st) items k (omega arith) in
    struct_walked es w scope s e o m st told opens first walked
    ∙ goes_on (struct_defined st o.number (leaf_at (id_of s))) c.define_struct.new.self
    (λ behind. Ok (already behind o.number))
    (ap (struct_defined st o.number) (sym c.at-at.ensures) ∙ c.in_ok-define_struct.ensures)

pub lower_union-returns-in_err-entry : goal.lower_union-returns-in_err-entry
lower_union-returns-in_err-entry t c =
    let p = err_from_is_err_and c.from_residual.result c.from_residual.ensures.1 in
    let es = c.args.names.now.entries in
    let w = c.args.table.now in
    let scope = c.args.scope.0 in
    let u = c.args.u.now in
    rw (p.1, p.2) (inr (union_told es w scope u
    ∙ stops (entry_of es scope (union_id u)) _ (union_in es w (union_id u) (switch_of u) (first_case u) (more_cases u))
    (sym c.in_err-entry.ensures.told)))

pub lower_union-returns-in_err-number : goal.lower_union-returns-in_err-number
lower_union-returns-in_err-number t c =
    let p = err_from_is_err_and c.from_residual-in_err-number.result c.from_residual-in_err-number.ensures.1 in
    let es = c.args.names.now.entries in
    let w = c.args.table.now in
    let scope = c.args.scope.0 in
    let u = c.args.u.now in
    let e = c.in_ok-entry.entry in
    let told = c.in_ok-entry.ensures.told in
    rw (p.1, p.2) (or_told c.in_err-number.ensures (λ is. union_entered es w scope u e told
    ∙ stops (opened w e (leaf_at (union_id u))) _
    (union_open es (union_id u) (switch_of u) (first_case u) (more_cases u) e)
    (ap (opened w e) (sym c.at-at.ensures) ∙ is)))

pub lower_union-returns-in_err-switch : goal.lower_union-returns-in_err-switch
lower_union-returns-in_err-switch t c =
    let p = err_from_is_err_and c.from_residual-in_err-switch.result c.from_residual-in_err-switch.ensures.1 in
    let es = c.args.names.now.entries in
    let w = c.args.table.now in
    let scope = c.args.scope.0 in
    let u = c.args.u.now in
    let e = c.in_ok-entry.entry in
    let told = c.in_ok-entry.ensures.told in
    let o = already c.declare.new.self c.in_ok-number.number in
    let opens = ap (opened w e) (sym c.at-at.ensures) ∙ c.in_ok-number.ensures in
    rw (p.1, p.2) (or_told c.in_err-switch.ensures (λ is. union_opened es w scope u e o told opens
    ∙ stops (switch_read es o.lowered (e + 1) (leaf_at (union_id u)) (switch_of u)) _
    (union_switched es (union_id u) (first_case u) (more_cases u) e o)
    (ap (λ at. switch_read es o.lowered (e + 1) at (switch_of u)) (sym c.at-at.ensures)
    ∙ ap (switch_read es o.lowered (e + 1) c.at-at.result) (sym c.deref-chosen.ensures) ∙ is)))

pub lower_union-returns-in_err-lower_case : goal.lower_union-returns-in_err-lower_case
lower_union-returns-in_err-lower_case t c =
    let p = err_from_is_err_and c.from_residual-in_err-lower_case.result c.from_residual-in_err-lower_case.ensures.1 in
    let es = c.args.names.now.entries in
    let w = c.args.table.now in
    let scope = c.args.scope.0 in
    let u = c.args.u.now in
    let e = c.in_ok-entry.entry in
    let told = c.in_ok-entry.ensures.told in
    let o = already c.declare.new.self c.in_ok-number.number in
    let opens = ap (opened w e) (sym c.at-at.ensures) ∙ c.in_ok-number.ensures in
    let sw = switched c.lower_switch.new.table c.in_ok-switch.switch in
    let switches = ap (λ at. switch_read es o.lowered (e + 1) at (switch_of u)) (sym c.at-at.ensures)
    ∙ ap (switch_read es o.lowered (e + 1) c.at-at.result) (sym c.deref-chosen.ensures) ∙ c.in_ok-switch.ensures in
    let same = first_cases es (e + 1) sw.switch c.lower_switch.new.table c.new-arms.result c.deref.result.now
    (first_case u) c.new-arms.ensures c.deref.ensures in
    rw (p.1, p.2) (or_told c.in_err-lower_case.ensures (λ is. union_chosen es w scope u e o sw told opens switches
    ∙ stops (with_case_of es (e + 1) sw.switch (cases_of sw.lowered no_arms) (first_case u)) _
    (union_more es (union_id u) (more_cases u) e o sw.switch) (same ∙ is)))

pub lower_union-returns-in_err-lower_case-2 : goal.lower_union-returns-in_err-lower_case-2
lower_union-returns-in_err-lower_case-2 t c =
    let p = err_from_is_err_and c.from_residual-in_err-lower_case-2.result c.from_residual-in_err-lower_case-2.ensures.1
    in
    let es = c.args.names.now.entries in
    let w = c.args.table.now in
    let scope = c.args.scope.0 in
    let u = c.args.u.now in
    let e = c.in_ok-entry.entry in
    let told = c.in_ok-entry.ensures.told in
    let o = already c.declare.new.self c.in_ok-number.number in
    let opens = ap (opened w e) (sym c.at-at.ensures) ∙ c.in_ok-number.ensures in
    let sw = switched c.lower_switch.new.table c.in_ok-switch.switch in
    let switches = ap (λ at. switch_read es o.lowered (e + 1) at (switch_of u)) (sym c.at-at.ensures)
    ∙ ap (switch_read es o.lowered (e + 1) c.at-at.result) (sym c.deref-chosen.ensures) ∙ c.in_ok-switch.ensures in
    let m = cases_of c.lower_case.new.table c.lower_case.new.arms in
    let same = first_cases es (e + 1) sw.switch c.lower_switch.new.table c.new-arms.result c.deref.result.now
    (first_case u) c.new-arms.ensures c.deref.ensures in
    let first : with_case_of es (e + 1) sw.switch (cases_of sw.lowered no_arms) (first_case u) ≡ Ok m =
    same ∙ c.in_ok-lower_case.ensures in
    let items = c.deref-case-items.result.now in
    let part = with_case_of es (e + 1) sw.switch in
    let st = cases_of c.loop-case.table c.loop-case.arms in
    let k = c.loop-case.case-index in
    let here = ap (each part m) (sym c.deref-case-items.ensures.value) ∙ sym c.loop-case.invariant.told in
    let lt : k < length items = omega arith in
    rw (p.1, p.2) (or_told c.in_err-lower_case-2.ensures
    (λ is. union_begun es w scope u e o sw m told opens switches first
    ∙ stops (each part m (more_cases u)) _ (union_close (union_id u) o sw.switch)
    (here ∙ each_off part st items k c.case-item.result _ lt c.case-item.is is)))

pub lower_union-returns-in_err-define_union : goal.lower_union-returns-in_err-define_union
lower_union-returns-in_err-define_union t c =
    let p = err_from_is_err_and c.from_residual-in_err-define_union.result c.from_residual-in_err-define_union.ensures.1
    in
    let es = c.args.names.now.entries in
    let w = c.args.table.now in
    let scope = c.args.scope.0 in
    let u = c.args.u.now in
    let e = c.in_ok-entry.entry in
    let told = c.in_ok-entry.ensures.told in
    let o = already c.declare.new.self c.in_ok-number.number in
    let opens = ap (opened w e) (sym c.at-at.ensures) ∙ c.in_ok-number.ensures in
    let sw = switched c.lower_switch.new.table c.in_ok-switch.switch in
    let switches = ap (λ at. switch_read es o.lowered (e + 1) at (switch_of u)) (sym c.at-at.ensures)
    ∙ ap (switch_read es o.lowered (e + 1) c.at-at.result) (sym c.deref-chosen.ensures) ∙ c.in_ok-switch.ensures in
    let m = cases_of c.lower_case.new.table c.lower_case.new.arms in
    let same = first_cases es (e + 1) sw.switch c.lower_switch.new.table c.new-arms.result c.deref.result.now
    (first_case u) c.new-arms.ensures c.deref.ensures in
    let first : with_case_of es (e + 1) sw.switch (cases_of sw.lowered no_arms) (first_case u) ≡ Ok m =
    same ∙ c.in_ok-lower_case.ensures in
    let items = c.deref-case-items.result.now in
    let part = with_case_of es (e + 1) sw.switch in
    let st = cases_of c.loop-case.table c.loop-case.arms in
    let k = c.loop-case.case-index in
    let here = ap (each part m) (sym c.deref-case-items.ensures.value) ∙ sym c.loop-case.invariant.told in
    let walked : each part m (more_cases u) ≡ Ok st = here ∙ at_drop_all (each part st) items k (omega arith) in
    rw (p.1, p.2) (or_told c.in_err-define_union.ensures
    (λ is. union_walked es w scope u e o sw m st told opens switches first walked
    ∙ stops (union_defined sw.switch st o.number (leaf_at (union_id u))) _ (λ behind. Ok (already behind o.number))
    (ap (union_defined sw.switch st o.number) (sym c.at-at.ensures) ∙ is)))

pub lower_union-returns : goal.lower_union-returns
lower_union-returns t c =
    let es = c.args.names.now.entries in
    let w = c.args.table.now in
    let scope = c.args.scope.0 in
    let u = c.args.u.now in
    let e = c.in_ok-entry.entry in
    let told = c.in_ok-entry.ensures.told in
    let o = already c.declare.new.self c.in_ok-number.number in
    let opens = ap (opened w e) (sym c.at-at.ensures) ∙ c.in_ok-number.ensures in
    let sw = switched c.lower_switch.new.table c.in_ok-switch.switch in
    let switches = ap (λ at. switch_read es o.lowered (e + 1) at (switch_of u)) (sym c.at-at.ensures)
    ∙ ap (switch_read es o.lowered (e + 1) c.at-at.result) (sym c.deref-chosen.ensures) ∙ c.in_ok-switch.ensures in
    let m = cases_of c.lower_case.new.table c.lower_case.new.arms in
    let same = first_cases es (e + 1) sw.switch c.lower_switch.new.table c.new-arms.result c.deref.result.now
    (first_case u) c.new-arms.ensures c.deref.ensures in
    let first : with_case_of es (e + 1) sw.switch (cases_of sw.lowered no_arms) (first_case u) ≡ Ok m =
    same ∙ c.in_ok-lower_case.ensures in
    let items = c.deref-case-items.result.now in
    let part = with_case_of es (e + 1) sw.switch in
    let st = cases_of c.loop-case.table c.loop-case.arms in
    let k = c.loop-case.case-index in
    let here = ap (each part m) (sym c.deref-case-items.ensures.value) ∙ sym c.loop-case.invariant.told in
    let walked : each part m (more_cases u) ≡ Ok st = here ∙ at_drop_all (each part st) items k (omega arith) in
    union_walked es w scope u e o sw m st told opens switches first walked
    ∙ goes_on (union_defined sw.switch st o.number (leaf_at (union_id u))) c.define_union.new.self
    (λ behind. Ok (already behind o.number))
    (ap (union_defined sw.switch st o.number) (sym c.at-at.ensures) ∙ c.in_ok-define_union.ensures)
