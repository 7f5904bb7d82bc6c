-- How far the messages of a stream are served.
use Rattle.std.specs.Prelude.{◌≡◌, ℕ, Bool, true, false, List, ◌++◌}
use Rattle.broker_answers.specs.Streams.{Raw, Cut, cut_of}
use Rattle.broker_answers.specs.Talk.{rests, kept_or_shut}
use Rattle.broker_answers.specs.Servants.{Acting}
use Rattle.broker_answers.specs.Objects.{Served}
use Rattle.broker_answers.specs.Serving.{Moves, Serves}
use Rattle.iiop_broker.specs.declared.kept.Kept.{Kept}
use Rattle.iiop_broker.specs.Kept.{stream_of}

-- messages, and those behind them
abbrev pub behind : List Raw → Cut → Cut
behind raws c = cut_of (raws ++ c.raws) c.left

-- the first of them are served, and none of these closes
pub record Progress {S : Type 0} (acting : Acting S) (served : Served)
    (all left : Cut) (before : S) (answer : List ℕ) (after : S) : Type 0 where
  pub done : List Raw
  pub cut_is : all ≡ behind done left
  pub serves : Serves acting served done before answer false after

-- the first of them are served, and the last of these closes
pub record Ended {S : Type 0} (acting : Acting S) (served : Served)
    (all : List Raw) (before : S) (answer : List ℕ) (after : S) : Type 0 where
  pub done : List Raw
  pub left : List Raw
  pub raws_are : all ≡ done ++ left
  pub serves : Serves acting served done before answer true after

-- the first of them are seen to
pub record Stopped {S : Type 0} (acting : Acting S) (served : Served) (all : List Raw) (before after : S) : Type 0 where
  pub done : List Raw
  pub left : List Raw
  pub raws_are : all ≡ done ++ left
  pub moves : Moves acting served done before after

-- all of them are served, and this is kept of the connection
pub record IsHeard {S : Type 0} (acting : Acting S) (served : Served) (all : Cut)
    (before : S) (answer : List ℕ) (kept : Kept) (after : S) : Type 0 where
  pub closed : Bool
  pub serves : Serves acting served all.raws before answer closed after
  pub kept_is : stream_of kept ≡ kept_or_shut rests closed all.left
