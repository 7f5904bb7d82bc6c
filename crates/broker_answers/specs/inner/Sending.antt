-- What is told of a reply that was to be sent.
use Rattle.std.specs.Prelude.{◌≡◌, ℕ, ◌⊎◌, List, None, slice_get}
use Rattle.type_model.specs.declared.signatures.Exception.{Exception}
use Rattle.type_model.specs.declared.signatures.Operation.{Operation}
use Rattle.type_model.specs.ModelRules.{Parts}
use Rattle.giop_types.specs.TapeParts.{IsCounted}
use Rattle.broker_answers.specs.declared.exception.BrokerException.TheVariants.{Internal, Unknown}
use Rattle.giop_messages.specs.Messages.{Asked}
use Rattle.broker_answers.specs.Replies.{Reply, IsSent, IsThrown, IsUnsendable, exception_reply, throw}

-- none could be sent, and so the exception that tells it is
pub record IsFailure (asked : Asked) (reply : Reply) (octets : List ℕ) : Type 0 where
  pub unsendable : IsUnsendable asked reply
  pub sent : IsSent asked (exception_reply Internal) octets

abbrev pub IsTried : Asked → Reply → List ℕ → Type 0
IsTried asked reply octets = IsSent asked reply octets ⊎ IsFailure asked reply octets

-- what is said of an exception was tried, if its id can be counted
pub record IsUncounted (asked : Asked) (exception : Exception) (octets : List ℕ) : Type 0 where
  pub long : IsCounted exception.id → ⊥
  pub sent : IsSent asked (exception_reply Internal) octets

pub record IsCountedThrow (model : Parts) (asked : Asked) (exception : Exception) (tape octets : List ℕ) : Type 0 where
  pub counted : IsCounted exception.id
  pub tried : IsTried asked (throw model exception tape) octets

abbrev pub IsThrowing : Parts → Asked → Exception → List ℕ → List ℕ → Type 0
IsThrowing model asked exception tape octets =
    IsCountedThrow model asked exception tape octets ⊎ IsUncounted asked exception octets

-- one of the list was thrown
pub record IsListed (model : Parts) (asked : Asked) (operation : Operation) (place : ℕ) (tape octets : List ℕ)
    : Type 0 where
  pub exception : Exception
  pub thrown : IsThrown model operation place exception
  pub throwing : IsThrowing model asked exception tape octets

-- none of the list was
pub record IsUnlisted (asked : Asked) (operation : Operation) (place : ℕ) (octets : List ℕ) : Type 0 where
  pub none : slice_get operation.exceptions place ≡ None
  pub sent : IsSent asked (exception_reply Unknown) octets

abbrev pub IsRaising : Parts → Asked → Operation → ℕ → List ℕ → List ℕ → Type 0
IsRaising model asked operation place tape octets =
    IsListed model asked operation place tape octets ⊎ IsUnlisted asked operation place octets
