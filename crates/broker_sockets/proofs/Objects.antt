-- The object that is served.
use Rattle.std.proofs.Common.{ℕ, zero, suc, ◌<◌, List, [], ◌∷◌, length, All, subst, sym, arith}
use Rattle.std.specs.List.{IsDistinct}
use Rattle.std.proofs.lemmas.Option.{slice_get_within}
use Rattle.type_model.specs.ModelRules.{Parts}
use Rattle.broker_answers.specs.Objects.{AreServed, Objects}
use Rattle.broker_answers.specs.Keeping.{Keeping}
use Rattle.broker_sockets.specs.Objects.{AreOf}

all_of_one : {X : Type 0} (P : X → Type 0) (x : X) → P x → All P (x ∷ [])
all_of_one P x h zero d within = h
all_of_one P x h (suc k) d within = let none : ⊥ = omega (arith, within) in absurd none

-- one object whose interface is there can be served
pub lone_served : (model : Parts) (word : List ℕ) (objects : Objects) (keeper : Keeping)
    → AreOf model word objects keeper
    → AreServed model objects
unfolding IsDistinct
lone_served model word objects keeper of =
    subst (AreServed model) (sym of.alone) (record {
      distinct = (tt, tt);
      within = all_of_one (λ object. object.1 < length model.interfaces) of.object
          (slice_get_within model.interfaces of.object.1 of.is.interface of.is.there);
    })
