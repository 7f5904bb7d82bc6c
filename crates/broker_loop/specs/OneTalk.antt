-- That a talk is one.
use Rattle.std.specs.Prelude.{◌≡◌, List, map}
use Rattle.broker_answers.specs.Talk.{Event}
use Rattle.broker_loop.specs.Carried.{Log}

-- the events without their answers
abbrev pub events : Log → List Event
events = map (λ one. one.0)

-- the answers are the same, and so is the servant's state
pub record IsSameTalk {S : Type 0} (said more : Log) (one other : S) : Type 0 where
  pub answers : said ≡ more
  pub state : one ≡ other
