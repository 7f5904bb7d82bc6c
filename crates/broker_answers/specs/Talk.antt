-- What is said on connections that interleave in any way. One step is one event of one connection.
use Rattle.std.specs.Prelude.{◌≡◌, ℕ, ◌<◌, Bool, true, false, List, [], ◌∷◌, ◌++◌, length, take, drop, Some, None}
use Rattle.broker_answers.specs.Streams.{Raw, Stream, Open, Closed, cut, cut_behind}
use Rattle.broker_answers.specs.Connections.{at, put, without, max_connections}

-- what happens to a connection: it begins; octets come; octets come and are given up after so many messages; it ends
pub data Event : Type 0 where
  Begins : ℕ → Event
  Brings : ℕ → List ℕ → Event
  GivesUp : ℕ → List ℕ → ℕ → Event
  Ends : ℕ → Event

-- the messages that octets bring to a connection, and what is kept of it then
pub record Heard (C : Type 0) : Type 0 where
  pub raws : List Raw
  pub kept : C

-- what is kept of a connection: at first, when it is closed, when octets come
pub record Keeping (C : Type 0) : Type 0 where
  pub fresh : C
  pub shut : C
  pub heard : C → List ℕ → Heard C

-- the rest of its stream
abbrev pub rests : Keeping Stream
rests = record {
  fresh = Open None [];
  shut = Closed;
  heard = λ stream octets. let c = cut_behind stream octets in record { raws = c.raws; kept = c.left };
}

-- all its octets since it began
pub data History : Type 0 where
  Since : List ℕ → History
  Shut : History

-- the messages of the whole stream with these octets that aren't there without them
abbrev pub own : History → List ℕ → Heard History
own (Since so) octets = record {
  raws = drop (length (cut None so).raws) (cut None (so ++ octets)).raws;
  kept = Since (so ++ octets);
}
own Shut octets = record { raws = []; kept = Shut }

abbrev pub histories : Keeping History
histories = record { fresh = Since []; shut = Shut; heard = own }

-- How messages are served: their answers joined, and whether one of them closes the connection; and the state that a
-- servant has after them alone.
abbrev pub Serving : Type 0 → Type 1
Serving S = List Raw → S → List ℕ → Bool → S → Type 0

abbrev pub Moving : Type 0 → Type 1
Moving S = List Raw → S → S → Type 0

-- the servant's state, and the connections that are there
pub record World (S C : Type 0) : Type 0 where
  pub servant : S
  pub there : List (ℕ × C)

abbrev pub world : {S C : Type 0} → S → List (ℕ × C) → World S C
world servant there = record { servant = servant; there = there }

pub record Opens {S C : Type 0} (keeping : Keeping C) (before : World S C) (c : ℕ) (answer : List ℕ) (after : World S C)
    : Type 0 where
  pub absent : at c before.there ≡ None
  pub room : length before.there < max_connections
  pub silent : answer ≡ []
  pub now : after ≡ world before.servant (before.there ++ (c, keeping.fresh) ∷ [])

abbrev pub kept_or_shut : {C : Type 0} → Keeping C → Bool → C → C
kept_or_shut keeping true kept = keeping.shut
kept_or_shut keeping false kept = kept

-- each of its messages is answered
pub record Answers {S C : Type 0} (keeping : Keeping C) (Serves : Serving S)
    (before : World S C) (c : ℕ) (octets answer : List ℕ) (after : World S C) : Type 0 where
  pub kept : C
  pub there : at c before.there ≡ Some kept
  pub closes : Bool
  pub servant : S
  pub served : Serves (keeping.heard kept octets).raws before.servant answer closes servant
  pub now : after ≡ world servant (put c (kept_or_shut keeping closes (keeping.heard kept octets).kept) before.there)

-- Only so many of its messages are seen to, no octets go out, and the connection is closed.
pub record Abandons {S C : Type 0} (keeping : Keeping C) (Moves : Moving S) (before : World S C)
    (c : ℕ) (octets : List ℕ) (j : ℕ) (answer : List ℕ) (after : World S C) : Type 0 where
  pub kept : C
  pub there : at c before.there ≡ Some kept
  pub servant : S
  pub moved : Moves (take j (keeping.heard kept octets).raws) before.servant servant
  pub silent : answer ≡ []
  pub now : after ≡ world servant (put c keeping.shut before.there)

pub record Leaves {S C : Type 0} (before : World S C) (c : ℕ) (answer : List ℕ) (after : World S C) : Type 0 where
  pub kept : C
  pub there : at c before.there ≡ Some kept
  pub silent : answer ≡ []
  pub now : after ≡ world before.servant (without c before.there)

-- an event that is accepted, what it is answered, and the world after it
abbrev pub Happens : {S C : Type 0} → Keeping C → Serving S → Moving S → World S C → Event → List ℕ → World S C → Type 0
Happens keeping Serves Moves before (Begins c) answer after = Opens keeping before c answer after
Happens keeping Serves Moves before (Brings c octets) answer after = Answers keeping Serves before c octets answer after
Happens keeping Serves Moves before (GivesUp c octets j) answer after =
    Abandons keeping Moves before c octets j answer after
Happens keeping Serves Moves before (Ends c) answer after = Leaves before c answer after

-- events one after another, each with its answer
abbrev pub Follows : {S C : Type 0} → Keeping C → Serving S → Moving S → World S C → List (Event × List ℕ) → World S C
    → Type 0
Follows keeping Serves Moves before [] after = after ≡ before
Follows {S} {C} keeping Serves Moves before (one ∷ more) after =
    (between : World S C) × Happens keeping Serves Moves before one.0 one.1 between
    × Follows keeping Serves Moves between more after

-- all is said from the start, when no connection is there
abbrev pub Says : {S C : Type 0} → Keeping C → Serving S → Moving S → S → List (Event × List ℕ) → S → Type 0
Says {S} {C} keeping Serves Moves servant said servant' =
    (there : List (ℕ × C)) × Follows keeping Serves Moves (world servant []) said (world servant' there)

-- The talk: the messages of an event are those of the connection's whole stream that aren't there without it.
abbrev pub Talk : {S : Type 0} → Serving S → Moving S → S → List (Event × List ℕ) → S → Type 0
Talk Serves Moves servant said servant' = Says histories Serves Moves servant said servant'

-- the same, where only the rest of each stream is kept
abbrev pub Steps : {S : Type 0} → Serving S → Moving S → S → List (Event × List ℕ) → S → Type 0
Steps Serves Moves servant said servant' = Says rests Serves Moves servant said servant'
