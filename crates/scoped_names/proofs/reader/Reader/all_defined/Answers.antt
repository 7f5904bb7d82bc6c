use Rattle.std.proofs.Common.{◌≡◌, ◌∙◌, ap, length, slice_get, subst, sym, arith}
use Rattle.scoped_names.specs.Faults.{left_open, never_defined}
use Rattle.scoped_names.specs.Reading.{Checks}
use Rattle.scoped_names.specs.Tests.{at_entry}
use Rattle.scoped_names.proofs.Readings.{open_off, open_on}
use Rattle.scoped_names.proofs.reader.Reader.all_defined.Goals as goal

pub returns-then-is_left_open : goal.returns-then-is_left_open
returns-then-is_left_open c =
    let st = c.args.self.now in
    let k = c.loop-number.number in
    let count : c.len-number-end.result ≡ length st.entries = c.len-number-end.ensures.count
    ∙ ap length c.table.ensures in
    let is : c.declared_at.result ≡ left_open st 0 st.entries =
    c.declared_at.ensures ∙ ap (λ es. at_entry (slice_get es k)) c.table-then-is_left_open.ensures
    ∙ sym (open_off st k c.is_left_open.result (omega arith) c.is_left_open.ensures c.if-is_left_open.true)
    ∙ c.loop-number.invariant in
    subst (λ o. Checks c.never_defined.result (never_defined o)) is c.never_defined.ensures

pub loop-number-preserved : goal.loop-number-preserved
loop-number-preserved c =
    let st = c.args.self.now in
    let k = c.loop-number.number in
    let count : c.len-number-end.result ≡ length st.entries = c.len-number-end.ensures.count
    ∙ ap length c.table.ensures in
    open_on st k c.is_left_open.result (omega arith) c.is_left_open.ensures c.if-is_left_open.false
    ∙ c.loop-number.invariant
