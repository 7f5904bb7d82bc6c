-- The list of connections.
use Rattle.std.specs.Prelude.{◌≡◌, ℕ, suc, ◌+◌, ◌<◌, ◌≤◌, List, [], ◌∷◌, ◌++◌, length, cond, nat_eq, Option, Some, None}
use Rattle.broker_answers.specs.Streams.{Stream, Open}
use Rattle.broker_answers.specs.Connections.{at, without, max_connections}
use Rattle.iiop_broker.specs.declared.fault.BrokerFault.{BrokerFault}
use Rattle.iiop_broker.specs.declared.fault.BrokerFault.TheVariants as faults

-- the place of the first with the number, where the first of all has this place
abbrev pub place_from : {C : Type 0} → ℕ → ℕ → List (ℕ × C) → Option ℕ
place_from n c [] = None
place_from n c (one ∷ more) = cond (nat_eq c one.0) (Some n) (place_from (suc n) c more)

-- the first with the number stands at the place, where the first of all has place n
pub record IsPlace {C : Type 0} (n c place : ℕ) (there : List (ℕ × C)) : Type 0 where
  pub before : List (ℕ × C)
  pub kept : C
  pub more : List (ℕ × C)
  pub split : there ≡ before ++ (c, kept) ∷ more
  pub place_is : place ≡ n + length before
  pub first : at c before ≡ None

pub record IsBegun (c : ℕ) (before after : List (ℕ × Stream)) : Type 0 where
  pub absent : at c before ≡ None
  pub room : length before < max_connections
  pub now : after ≡ before ++ (c, Open None []) ∷ []

pub record IsThere (c : ℕ) (there : List (ℕ × Stream)) : Type 0 where
  pub kept : Stream
  pub found : at c there ≡ Some kept

abbrev pub IsNotBegun : BrokerFault → ℕ → List (ℕ × Stream) → List (ℕ × Stream) → Type 0
IsNotBegun faults.NoSuchConnection c before after = ⊥
IsNotBegun faults.AlreadyThere c before after = IsThere c before × (after ≡ before)
IsNotBegun faults.TooMany c before after =
    (at c before ≡ None) × (max_connections ≤ length before) × (after ≡ before)
IsNotBegun faults.NoMemory c before after =
    (at c before ≡ None) × (length before < max_connections) × (after ≡ before)

pub record IsLeft (c : ℕ) (before after : List (ℕ × Stream)) : Type 0 where
  pub there : IsThere c before
  pub now : after ≡ without c before

pub record IsNotLeft (fault : BrokerFault) (c : ℕ) (before after : List (ℕ × Stream)) : Type 0 where
  pub fault_is : fault ≡ faults.NoSuchConnection
  pub absent : at c before ≡ None
  pub same : after ≡ before
