-- Connections that a client makes.
use Rattle.std.specs.Prelude.{ℕ, List, [], ◌∷◌, Option, Some, None}
use Rattle.iiop_broker.specs.Outcomes.{Ends}
use Rattle.reference_listing.specs.Listings.{Row, OfIiop, OfOther}
use Rattle.call_client.specs.declared.object_calls.dial.DialFault.{DialFault}
use Rattle.call_client.specs.declared.object_calls.dial.DialFault.TheVariants.{NotReached, NoMemory}

-- a port of a host that was dialled, and what the reader and the writer of the connection told then, if one was made
pub record Line : Type 0 where
  pub host : List ℕ
  pub port : ℕ
  pub told : Option Ends

abbrev pub made : List ℕ → ℕ → Ends → Line
made host port told = record { host = host; port = port; told = Some told }

abbrev pub missed : List ℕ → ℕ → Line
missed host port = record { host = host; port = port; told = None }

-- what dialling adds that makes no connection; nothing was dialled where memory was wanted
abbrev pub vain_of : DialFault → List ℕ → ℕ → List Line
vain_of NotReached host port = missed host port ∷ []
vain_of NoMemory host port = []

-- the profiles of IIOP among these were dialled, and no connection was made
abbrev pub all_missed : List Row → List Line
all_missed [] = []
all_missed (OfIiop iiop ∷ rows) = missed iiop.body.host iiop.body.port ∷ all_missed rows
all_missed (OfOther tag octets ∷ rows) = all_missed rows
