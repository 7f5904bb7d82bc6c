use Rattle.std.proofs.Common.{◌≡◌, ℕ, List, drop}
use Rattle.broker_answers.specs.Attributes.{place_from}
use Rattle.broker_answers.specs.inner.Places.{place_in}
use Rattle.broker_answers.proofs.attribute_keeper.attributes.find_places.Given as goal

abbrev pub invariant-loop-place : goal.invariant-loop-place
invariant-loop-place l = (name : List ℕ) → place_in l.places.entries name
    ≡ place_from l.model l.place name (drop l.place l.getters)
