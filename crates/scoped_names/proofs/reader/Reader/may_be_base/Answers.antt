use Rattle.std.proofs.Common.{◌≡◌, ◌∙◌, inr, true, false, not, nat_eq, sym, ap}
use Rattle.std.specs.List.{list_any}
use Rattle.name_table.specs.Entry.{bases_of}
use Rattle.name_table.specs.Features.{differ, features_of}
use Rattle.scoped_names.specs.Faults.{is_defined_interface}
use Rattle.scoped_names.proofs.Readings.{fitness}
use Rattle.scoped_names.proofs.reader.Reader.may_be_base.Goals as goal

pub returns-then-has_base : goal.returns-then-has_base
returns-then-has_base c =
    let st = c.args.self.now in
    let base = c.args.base in
    let clashes = differ (features_of st.entries) c.args.inner.0 base in
    let closed : not (is_defined_interface st base.entry) ≡ false =
    ap not (sym c.is_defined_interface.ensures ∙ c.if-not-is_defined_interface.false) in
    let twice : list_any (λ b. nat_eq b.entry base.entry) (bases_of st.entries c.args.inner.0) ≡ true =
    sym (ap (λ es. list_any (λ b. nat_eq b.entry base.entry) (bases_of es c.args.inner.0)) c.table.ensures)
    ∙ sym c.has_base.ensures ∙ c.if-has_base.true in
    inr (ap (λ a. fitness c.args.at a (list_any (λ b. nat_eq b.entry base.entry) (bases_of st.entries c.args.inner.0))
    clashes) closed
    ∙ ap (λ b. fitness c.args.at false b clashes) twice)

pub returns-then-branch : goal.returns-then-branch
returns-then-branch c =
    let st = c.args.self.now in
    let base = c.args.base in
    let closed : not (is_defined_interface st base.entry) ≡ false =
    ap not (sym c.is_defined_interface.ensures ∙ c.if-not-is_defined_interface.false) in
    let once : list_any (λ b. nat_eq b.entry base.entry) (bases_of st.entries c.args.inner.0) ≡ false =
    sym (ap (λ es. list_any (λ b. nat_eq b.entry base.entry) (bases_of es c.args.inner.0)) c.table.ensures)
    ∙ sym c.has_base.ensures ∙ c.if-has_base.false in
    let clashes : differ (features_of st.entries) c.args.inner.0 base ≡ true =
    sym (ap (λ s. differ (features_of s.entries) c.args.inner.0 base) c.self.view_is) ∙ sym c.in_ok-differ.ensures
    ∙ c.if-branch.true in
    inr (ap (λ a. fitness c.args.at a (list_any (λ b. nat_eq b.entry base.entry) (bases_of st.entries c.args.inner.0))
    (differ (features_of st.entries) c.args.inner.0 base)) closed
    ∙ ap (λ b. fitness c.args.at false b (differ (features_of st.entries) c.args.inner.0 base)) once
    ∙ ap (λ d. fitness c.args.at false false d) clashes)
