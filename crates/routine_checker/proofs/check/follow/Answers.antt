use Rattle.std.proofs.Common.{◌≡◌, ◌<◌, ◌≤◌, ◌+◌, List, length, get_or, sym, ap, subst, ◌∙◌, arith}
use Rattle.std.proofs.lemmas.Option.{same_Some}
use Rattle.marshal_program.specs.declared.instr.Instr.{Instr}
use Rattle.routine_checker.specs.Steps.{followed}
use Rattle.routine_checker.specs.inner.Progress.{state_of}
use Rattle.routine_checker.proofs.ProgressLaws.{behind_none, behind_split, behind_first, followed_more, followed_ends}
use Rattle.routine_checker.proofs.check.follow.Goals as goal

pub loop-n-init : goal.loop-n-init
loop-n-init c = λ work rest behind.
    let same = same_Some work rest (sym (behind_none c.args.graph.now c.args.program.now c.args.routine.now.code work)
    ∙ behind) in
    ap (λ work. followed c.args.graph.now c.args.program.now c.args.at 0 c.args.routine.now.code
    (state_of work c.args.start)) same

pub loop-n-preserved : goal.loop-n-preserved
loop-n-preserved c = λ work rest behind.
    let graph = c.args.graph.now in
    let program = c.args.program.now in
    let code = c.args.routine.now.code in
    let n = c.loop-n.n in
    let instr = c.index-code-n.result in
    let fits : n < length code = omega (arith, c.loop-n-test.true, c.requires.instrs) in
    let is = subst (λ (code : List Instr). get_or code n instr ≡ instr) c.as_slice-code.ensures (sym c.index-code-n.is)
    in
    let parts = behind_split graph program code n instr work rest fits is behind in
    c.loop-n.invariant work parts.0 parts.1
    ∙ followed_more graph program code c.args.at n instr (state_of parts.0 c.loop-n.reached)
    (state_of rest c.in-Ok.next) fits is (c.in-Ok.ensures.ok parts.0 rest parts.2)

pub returns-in-Err-clause-refused : goal.returns-in-Err-clause-refused
returns-in-Err-clause-refused c = λ work rest behind.
    let graph = c.args.graph.now in
    let program = c.args.program.now in
    let code = c.args.routine.now.code in
    let n = c.loop-n.n in
    let instr = c.index-code-n.result in
    let fits : n < length code = omega (arith, c.loop-n-test.true, c.requires.instrs) in
    let is = subst (λ (code : List Instr). get_or code n instr ≡ instr) c.as_slice-code.ensures (sym c.index-code-n.is)
    in
    let next : n + 1 ≤ c.args.instrs = omega (arith, c.loop-n-test.true) in
    let here = behind_first graph program code (n + 1) c.args.instrs work rest next behind in
    let parts = behind_split graph program code n instr work here.0 fits is here.1 in
    c.loop-n.invariant work parts.0 parts.1
    ∙ followed_ends graph program code c.args.at n instr (state_of parts.0 c.loop-n.reached) c.in-Err.fault fits is
    (c.in-Err.ensures.refused parts.0 here.0 parts.2)
