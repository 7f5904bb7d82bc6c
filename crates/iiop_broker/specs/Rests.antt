-- What is kept of connections, by their whole histories.
use Rattle.std.specs.Prelude.{◌≡◌, ℕ, List, [], map, None}
use Rattle.broker_answers.specs.Streams.{Stream, Closed, cut}
use Rattle.broker_answers.specs.Talk.{Event, World, world, History, Since, Shut, Serving, Moving, Follows, histories}

abbrev pub rest_of : History → Stream
rest_of (Since octets) = (cut None octets).left
rest_of Shut = Closed

-- what was said leads, where whole histories are kept, to the servant's state and the histories of just these
-- connections
pub record IsTalked {S : Type 0} (Serves : Serving S) (Moves : Moving S) (servant : S)
    (said : List (Event × List ℕ)) (after : World S Stream) : Type 0 where
  pub talked : World S History
  pub follows : Follows histories Serves Moves (world servant []) said talked
  pub state : after.servant ≡ talked.servant
  pub rests : after.there ≡ map (λ one. (one.0, rest_of one.1)) talked.there
