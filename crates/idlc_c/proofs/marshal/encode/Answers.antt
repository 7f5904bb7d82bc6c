use Rattle.std.proofs.Common.{subst}
use Rattle.std.specs.Bool.{OnFalse}
use Rattle.program_runner.specs.Refusal.{wants_memory}
use Rattle.idlc_c.specs.declared.held.Loaded.{Loaded}
use Rattle.idlc_c.specs.declared.held.Shared.{Shared}
use Rattle.idlc_c.specs.Answers.{HasNoOctets}
use Rattle.idlc_c.proofs.marshal.encode.Goals as goal

pub returns-in-Err-clause-refused : goal.returns-in-Err-clause-refused
returns-in-Err-clause-refused c =
    let Refuses = λ (h : Loaded). OnFalse (wants_memory c.in-Err.fault)
    (HasNoOctets c.args.node c.args.order c.args.pos c.args.tape.now h.table)
    in subst Refuses c.held.view_is (subst (λ (s : Shared). Refuses s.loaded) c.deref.ensures c.in-Err.ensures.refused)
