-- What was found, or wasn't, and the faults of tapes that aren't want of memory.
use Rattle.std.proofs.Common.{◌≡◌, Option, Some, None, IfSome, IfNone, refl, subst}
use Rattle.giop_types.specs.declared.tapes.fault.TapeFault.{TapeFault}
use Rattle.giop_types.specs.declared.tapes.fault.TapeFault.TheVariants as tapes
use Rattle.giop_types.specs.TapeRefusal.{RefusesReading}

pub no_tape : (fault : TapeFault) (P : Type 0) → (fault ≡ tapes.NoMemory → ⊥) → RefusesReading fault P → P
no_tape tapes.NoMemory P other h = absurd (other refl)
no_tape tapes.NotATape P other h = h
no_tape tapes.TooLong P other h = absurd h

pub none_then : {X : Type 0} (o : Option X) (P : Type 0) → o ≡ None → IfNone o P → P
none_then None P e h = h
none_then (Some x) P e h = absurd (cc)

pub some_then : {X : Type 0} (o : Option X) (x : X) (P : X → Type 0) → o ≡ Some x → IfSome o P → P x
some_then {X = X} o x P e h = subst (λ (q : Option X). IfSome q P) e h
