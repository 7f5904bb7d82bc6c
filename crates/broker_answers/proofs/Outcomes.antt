-- What is replied to what a servant says.
use Rattle.std.proofs.Common.{inl, inr, ℕ, List, refl}
use Rattle.type_model.specs.declared.signatures.Operation.{Operation}
use Rattle.type_model.specs.declared.signatures.Exception.{Exception}
use Rattle.type_model.specs.ModelRules.{Parts}
use Rattle.giop_types.specs.TapeParts.{IsCounted}
use Rattle.giop_messages.specs.Messages.{Asked}
use Rattle.broker_answers.specs.Servants.{Done, Raised}
use Rattle.broker_answers.specs.Replies.{Replies, Succeeds, FailsToSucceed, Throws, FailsToThrow, ThrowsUnknown, IsThrown, success, throw}
use Rattle.broker_answers.specs.inner.Sending.{IsTried, IsThrowing, IsRaising}

pub done_replied : (model : Parts) (asked : Asked) (operation : Operation) (tape octets : List ℕ)
    → IsTried asked (success model operation tape) octets → Replies model asked operation (Done tape) octets
done_replied model asked operation tape octets (inl sent) = Succeeds tape refl sent
done_replied model asked operation tape octets (inr failed) = FailsToSucceed tape refl failed.unsendable failed.sent

thrown_replied : (model : Parts) (asked : Asked) (operation : Operation) (place : ℕ) (exception : Exception)
    (tape octets : List ℕ) → IsThrown model operation place exception → IsCounted exception.id
    → IsTried asked (throw model exception tape) octets → Replies model asked operation (Raised place tape) octets
thrown_replied model asked operation place exception tape octets thrown counted (inl sent) =
    Throws place tape exception refl thrown counted sent
thrown_replied model asked operation place exception tape octets thrown counted (inr failed) =
    FailsToThrow place tape exception refl thrown (λ c. failed.unsendable) failed.sent

throwing_replied : (model : Parts) (asked : Asked) (operation : Operation) (place : ℕ) (exception : Exception)
    (tape octets : List ℕ) → IsThrown model operation place exception → IsThrowing model asked exception tape octets
    → Replies model asked operation (Raised place tape) octets
throwing_replied model asked operation place exception tape octets thrown (inl c) =
    thrown_replied model asked operation place exception tape octets thrown c.counted c.tried
throwing_replied model asked operation place exception tape octets thrown (inr u) =
    FailsToThrow place tape exception refl thrown (λ c. absurd (u.long c)) u.sent

pub raising_replied : (model : Parts) (asked : Asked) (operation : Operation) (place : ℕ) (tape octets : List ℕ)
    → IsRaising model asked operation place tape octets → Replies model asked operation (Raised place tape) octets
raising_replied model asked operation place tape octets (inl listed) =
    throwing_replied model asked operation place listed.exception tape octets listed.thrown listed.throwing
raising_replied model asked operation place tape octets (inr unlisted) =
    ThrowsUnknown place tape refl unlisted.none unlisted.sent
