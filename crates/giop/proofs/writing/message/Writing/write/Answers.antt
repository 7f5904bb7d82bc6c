use Rattle.std.proofs.Common.{◌≡◌, ℕ, List, length, ap, sym, ◌∙◌, subst, arith}
use Rattle.type_graph.specs.declared.width.Order.{Order}
use Rattle.program_runner.proofs.Refusals.{not_for_memory}
use Rattle.giop.proofs.Refusals.{without_body, too_long}
use Rattle.giop.specs.Made.{IsHeader, given_by}
use Rattle.giop.proofs.writing.message.Writing.write.Goals as goal

-- a header that was lent
header : (order : Order) (node : ℕ) (tape items lent : List ℕ) → lent ≡ items → IsHeader order node tape items
    → IsHeader order node tape lent
header order node tape items lent e is = subst (λ (l : List ℕ). IsHeader order node tape l) (sym e) is

pub returns-in_default-clause-refused : goal.returns-in_default-clause-refused
returns-in_default-clause-refused c =
    not_for_memory c.in-Err.fault _ c.in_default.not-NoMemory c.in-Err.ensures.refused

pub returns-in-Err-after_header-clause-refused : goal.returns-in-Err-after_header-clause-refused
returns-in-Err-after_header-clause-refused c =
    let w = c.args.self.now in
    without_body c.in-Err-after_header.fault w.order w.kind w.node c.args.tape.now (given_by c.args.body)
    c.as_slice.result.now (header w.order w.node c.args.tape.now c.in-Ok.header.items c.as_slice.result.now
    c.as_slice.ensures.value c.in-Ok.ensures.found) c.in-Err-after_header.ensures.refused

pub returns-in_default-size_of-clause-refused : goal.returns-in_default-size_of-clause-refused
returns-in_default-size_of-clause-refused c =
    let w = c.args.self.now in
    too_long w.order w.kind w.node c.args.tape.now (given_by c.args.body) c.as_slice.result.now
    c.in-Ok-after_header.behind.1.items c.in-Ok-after_header.behind.0
    (header w.order w.node c.args.tape.now c.in-Ok.header.items c.as_slice.result.now
    c.as_slice.ensures.value c.in-Ok.ensures.found) c.in-Ok-after_header.ensures.body
    (omega (
      arith,
      c.in_default-size_of.ensures.refused,
      ap length (c.as_slice-2.ensures.value ∙ sym c.as_slice.ensures.value),
      ap length c.as_slice-3.ensures.value,
    ))
