-- What is lowered once is lowered as one thing.
use Rattle.std.proofs.Common.{◌≡◌, Result, Ok, Err}
use Rattle.lowered_types.specs.declared.fault.BuildFault.{BuildFault}
use Rattle.lowered_types.specs.declared.fault.BuildFault.TheVariants.{Types}
use Rattle.lowered_types.specs.declared.fault.TypeFault.{TypeFault}

pub lowered_once : {A F : Type 0} → {r : Result A F} → {x y : A} → r ≡ Ok x → r ≡ Ok y → x ≡ y
lowered_once a b = cc

pub lowered_or_not : {A F : Type 0} → {r : Result A F} → {x : A} → {f : F} → r ≡ Ok x → r ≡ Err f → ⊥
lowered_or_not a b = absurd cc

pub refused_once : {A : Type 0} → {r : Result A BuildFault} → {one other : TypeFault} → r ≡ Err (Types one)
    → r ≡ Err (Types other) → one ≡ other
refused_once a b = cc
