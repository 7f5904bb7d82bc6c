-- What a listener tells of connections that are there and that went.
use Rattle.std.specs.Prelude.{◌≡◌, ℕ, List}
use Rattle.broker_loop.specs.Visits.{Gone}

-- all of it is as it was, and what may be told of those that went may still be told
pub record Stays {L : Type 0} (Ended : L → List (ℕ × Gone) → Type 0) (there most looks : L → ℕ) (before after : L)
    : Type 0 where
  pub ended : (all : List (ℕ × Gone)) → Ended before all → Ended after all
  pub there_is : there after ≡ there before
  pub most_is : most after ≡ most before
  pub looks_are : looks after ≡ looks before
