-- One piece that was read.
use Rattle.std.specs.Prelude.{◌≡◌, ◌↔◌, ◌≤◌, ℕ, Bool, true, List, [], length, take, Option, Some}
use Rattle.broker_answers.specs.Streams.{Stream, Closed}
use Rattle.broker_answers.specs.Connections.{at}
use Rattle.broker_answers.specs.Talk.{World, rests, Answers, Abandons}
use Rattle.broker_answers.specs.Servants.{Acting}
use Rattle.broker_answers.specs.Objects.{Served}
use Rattle.broker_answers.specs.Serving.{Moves, Serves}
use Rattle.iiop_broker.specs.Ends.{Adds}

-- its answer, of so many octets, is written; whether the connection is closed then
pub record IsSent {S : Type 0} (acting : Acting S) (served : Served) (c : ℕ)
    (before : World S Stream) (piece : List ℕ) (written : Option (List ℕ))
    (n : ℕ) (shut : Bool) (after : World S Stream) (written' : Option (List ℕ)) : Type 0 where
  pub answer : List ℕ
  pub answers : Answers rests (Serves acting served) before c piece answer after
  pub wrote : Adds written answer written'
  pub count : n ≡ length answer
  pub closed : (shut ≡ true) ↔ (at c after.there ≡ Some Closed)

-- just so many octets of its answer are written
pub record IsStuck {S : Type 0} (acting : Acting S) (served : Served) (c : ℕ)
    (before : World S Stream) (piece : List ℕ) (written : Option (List ℕ)) (n : ℕ)
    (after : World S Stream) (written' : Option (List ℕ)) (failure : Bool) : Type 0 where
  pub answer : List ℕ
  pub answers : Answers rests (Serves acting served) before c piece answer after
  pub within : n ≤ length answer
  pub wrote : Adds written (take n answer) written'
  pub failed : failure ≡ true

-- it was given up
pub record IsGivenUp {S : Type 0} (acting : Acting S) (served : Served) (c : ℕ)
    (before : World S Stream) (piece : List ℕ) (written : Option (List ℕ))
    (after : World S Stream) (written' : Option (List ℕ)) : Type 0 where
  pub j : ℕ
  pub abandons : Abandons rests (Moves acting served) before c piece j [] after
  pub silent : written' ≡ written
