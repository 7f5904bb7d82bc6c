-- What a refusal says, weakened.
use Rattle.std.proofs.Common.{Bool}
use Rattle.std.proofs.lemmas.Bool.{OnFalse_at, OnFalse_from}
use Rattle.std.specs.Bool.{OnFalse}

pub only_if_weaker : (memory : Bool) (P Q : Type 0) → (P → Q) → OnFalse memory P → OnFalse memory Q
only_if_weaker memory P Q then' h = OnFalse_from memory Q (λ other. then' (OnFalse_at other h))

pub only_if_holds : (memory : Bool) (P : Type 0) → P → OnFalse memory P
only_if_holds memory P h = OnFalse_from memory P (λ other. h)
