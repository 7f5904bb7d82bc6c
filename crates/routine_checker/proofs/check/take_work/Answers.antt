use Rattle.std.proofs.Common.{◌≡◌, ◌<◌, List, ◌∷◌, [], length, get_or, Some, None, sym, ap, subst, ◌∙◌}
use Rattle.marshal_program.specs.declared.instr.Instr.{Instr}
use Rattle.routine_checker.specs.inner.Work.{work_of}
use Rattle.routine_checker.proofs.ProgressLaws.{took, behind_none, behind_next, taken_short}
use Rattle.routine_checker.proofs.check.take_work.Goals as goal

pub loop-n-init : goal.loop-n-init
loop-n-init c = behind_none c.args.graph.now c.args.program.now c.args.routine.now.code (c.args.routine.now.node ∷ [])
    ∙ ap (λ work. Some work) (sym c.in_ok-work.ensures)

pub returns-then-not-branch : goal.returns-then-not-branch
returns-then-not-branch c =
    let work = work_of c.loop-n.work.items.items in
    let instr = c.index-code-n.result in
    let none = took c.args.graph.now c.args.program.now c.nodes.result.now instr c.pieces.result work None
    c.nodes.ensures.value c.pieces.ensures (c.in_ok-take.ensures.refused c.if-not-branch.true) in
    let fits = subst (λ (code : List Instr). c.loop-n.n < length code) c.as_slice-code.ensures c.loop-n-test.true in
    let is = subst (λ (code : List Instr). get_or code c.loop-n.n instr ≡ instr) c.as_slice-code.ensures
    (sym c.index-code-n.is) in
    taken_short c.args.graph.now c.args.program.now c.args.routine.now c.loop-n.n instr work fits is c.loop-n.invariant
    none

pub loop-n-preserved : goal.loop-n-preserved
loop-n-preserved c =
    let work = work_of c.loop-n.work.items.items in
    let rest = work_of c.take.new.self.items.items in
    let instr = c.index-code-n.result in
    let some = took c.args.graph.now c.args.program.now c.nodes.result.now instr c.pieces.result work (Some rest)
    c.nodes.ensures.value c.pieces.ensures (c.in_ok-take.ensures.taken c.if-not-branch.false) in
    let fits = subst (λ (code : List Instr). c.loop-n.n < length code) c.as_slice-code.ensures c.loop-n-test.true in
    let is = subst (λ (code : List Instr). get_or code c.loop-n.n instr ≡ instr) c.as_slice-code.ensures
    (sym c.index-code-n.is) in
    behind_next c.args.graph.now c.args.program.now c.args.routine.now.code c.loop-n.n instr
    (c.args.routine.now.node ∷ []) work rest fits is c.loop-n.invariant some
