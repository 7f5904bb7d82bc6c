-- A connection that is served from its begin to its end.
use Rattle.std.specs.Prelude.{◌≡◌, ℕ, Bool, false, List, [], ◌∷◌, ◌++◌, take, None}
use Rattle.broker_answers.specs.Streams.{Stream, Closed, cut}
use Rattle.broker_answers.specs.Connections.{at}
use Rattle.broker_answers.specs.Talk.{World, rests, kept_or_shut}
use Rattle.broker_answers.specs.Servants.{Acting}
use Rattle.broker_answers.specs.Objects.{Served}
use Rattle.broker_answers.specs.Serving.{Moves, Serves}

-- octets of a connection were answered as one stream, however they came in pieces; other connections are as they were
pub record AnsweredStream {S : Type 0} (acting : Acting S) (served : Served) (c : ℕ) (others : List (ℕ × Stream))
    (before : S) (octets answer : List ℕ) (closes : Bool) (now : World S Stream) : Type 0 where
  pub absent : at c others ≡ None
  pub serves : Serves acting served (cut None octets).raws before answer closes now.servant
  pub there : now.there ≡ others ++ (c, kept_or_shut rests closes (cut None octets).left) ∷ []

-- after these octets, more came and were given up: the servant was given the calls of a front of the messages in them
pub record GivenUp {S : Type 0} (acting : Acting S) (served : Served) (c : ℕ) (others : List (ℕ × Stream))
    (before : S) (octets answer more : List ℕ) (now : World S Stream) : Type 0 where
  pub absent : at c others ≡ None
  pub between : S
  pub serves : Serves acting served (cut None octets).raws before answer false between
  pub j : ℕ
  pub moves : Moves acting served (take j (rests.heard (cut None octets).left more).raws) between now.servant
  pub there : now.there ≡ others ++ (c, Closed) ∷ []

-- the same when the connection has ended: it isn't there any more
pub record Talked {S : Type 0} (acting : Acting S) (served : Served) (before : World S Stream)
    (octets answer : List ℕ) (closes : Bool) (after : World S Stream) : Type 0 where
  pub serves : Serves acting served (cut None octets).raws before.servant answer closes after.servant
  pub there : after.there ≡ before.there

pub record TalkedInPart {S : Type 0} (acting : Acting S) (served : Served)
    (before : World S Stream) (octets answer more : List ℕ) (after : World S Stream) : Type 0 where
  pub between : S
  pub serves : Serves acting served (cut None octets).raws before.servant answer false between
  pub j : ℕ
  pub moves : Moves acting served (take j (rests.heard (cut None octets).left more).raws) between after.servant
  pub there : after.there ≡ before.there
