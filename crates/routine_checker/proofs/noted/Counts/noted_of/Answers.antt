use Rattle.std.proofs.Common.{◌≡◌, ◌<◌, List, length, get_or, sym, subst}
use Rattle.routine_checker.specs.declared.noted.Noted.{Noted}
use Rattle.routine_checker.specs.inner.Noted.{IsNoted}
use Rattle.routine_checker.proofs.NotedLaws.{noted_at}
use Rattle.routine_checker.proofs.noted.Counts.noted_of.Goals as goal

pub returns-then-is_same : goal.returns-then-is_same
returns-then-is_same c = λ graph right.
    let piece = c.args.piece in
    let place = c.in_ok-place.field-0.now in
    let noted = c.in_ok-noted.noted.now in
    let found = c.in_ok-noted.ensures.lookup in
    let list = c.deref-2.ensures.value in
    let within = subst (λ (all : List Noted). place < length all) list found.3.0 in
    let is = subst (λ (all : List Noted). noted ≡ get_or all place noted) list found.1 in
    subst (IsNoted graph piece) (sym c.as_slice.ensures.value)
    (noted_at graph c.args.self.now place noted piece right within is (c.is_same.ensures c.if-is_same.true))
