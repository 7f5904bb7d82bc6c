-- What the events of many connections carry over one of them.
use Rattle.std.specs.Prelude.{ℕ, List, [], ◌∷◌, cond, nat_eq}
use Rattle.std.specs.List.{flat_map}
use Rattle.broker_answers.specs.Talk.{Event, Begins, Brings, GivesUp, Ends}

-- events one after another, each with its answer
abbrev pub Log : Type 0
Log = List (Event × List ℕ)

-- the connection of an event
abbrev pub connection_of : Event → ℕ
connection_of (Begins c) = c
connection_of (Brings c octets) = c
connection_of (GivesUp c octets j) = c
connection_of (Ends c) = c

-- the octets that come with it
abbrev pub octets_of : Event → List ℕ
octets_of (Begins c) = []
octets_of (Brings c octets) = octets
octets_of (GivesUp c octets j) = octets
octets_of (Ends c) = []

-- something of the connection's own events
abbrev pub if_of : ℕ → Event → List ℕ → List ℕ
if_of c event octets = cond (nat_eq c (connection_of event)) octets []

-- all octets that came on a connection
abbrev pub brought : ℕ → Log → List ℕ
brought c = flat_map (λ one. if_of c one.0 (octets_of one.0))

-- all that it was answered
abbrev pub answered : ℕ → Log → List ℕ
answered c = flat_map (λ one. if_of c one.0 one.1)

-- what an event brings a connection, with its answer, unless it was given up
abbrev pub hearing_of : ℕ → Event → List ℕ → List (List ℕ × List ℕ)
hearing_of c (Begins d) answer = []
hearing_of c (Brings d octets) answer = cond (nat_eq c d) ((octets, answer) ∷ []) []
hearing_of c (GivesUp d octets j) answer = []
hearing_of c (Ends d) answer = []

-- all that came on it in order, each with what it was answered
abbrev pub hearings : ℕ → Log → List (List ℕ × List ℕ)
hearings c = flat_map (λ one. hearing_of c one.0 one.1)
