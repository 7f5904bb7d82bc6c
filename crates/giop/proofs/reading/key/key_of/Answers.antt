use Rattle.std.proofs.Common.{List, ℕ, Some, sym, subst}
use Rattle.giop_messages.specs.Headers.{IsKeyOf}
use Rattle.giop.specs.declared.reading.target.Target.{Target}
use Rattle.giop.specs.inner.Targets.{TellsTarget}
use Rattle.giop.proofs.reading.key.key_of.Goals as goal

pub returns-in_ok-copy-in-Key : goal.returns-in_ok-copy-in-Key
returns-in_ok-copy-in-Key c = λ tree tells.
    let told = subst (λ (t : Target). TellsTarget tree t) c.in-Key.is tells in
    subst (λ (l : List ℕ). IsKeyOf tree (Some l)) (sym c.in_ok-copy-in-Key.ensures) told
