-- What is answered to a request, and what becomes of the servant meanwhile.
use Rattle.std.specs.Prelude.{◌≡◌, ◌⊎◌, ℕ, List}
use Rattle.giop_messages.specs.Messages.{Asked}
use Rattle.broker_answers.specs.declared.scope.SyncScope.{SyncScope as Scope}
use Rattle.broker_answers.specs.declared.scope.SyncScope.TheVariants as scopes
use Rattle.broker_answers.specs.Servants.{Acting, Call, Said}
use Rattle.broker_answers.specs.Objects.{Served}
use Rattle.broker_answers.specs.Findings.{Finding}
use Rattle.broker_answers.specs.Replies.{SyncScope, WithTarget, WithServer, NoResponse, IsAnswer, sync_scope}
use Rattle.broker_answers.specs.Streams.{Raw}
use Rattle.broker_answers.specs.Serving.{Item, MovesRaw, MovesRequest}

abbrev pub scope_by : Scope → SyncScope
scope_by scopes.WithTarget = WithTarget
scope_by scopes.WithServer = WithServer
scope_by scopes.NoResponse = NoResponse

-- the answer to what a request asks
pub record IsAnswered (served : Served) (asked : Asked) (finding : Finding) (says : Call → Said) (octets : List ℕ)
    : Type 0 where
  pub answer : IsAnswer (sync_scope asked.flags) served asked finding says octets

-- it wasn't seen to, or it was
abbrev pub MayMove : {S : Type 0} → Acting S → Served → Asked → S → S → Type 0
MayMove acting served asked before after = (after ≡ before) ⊎ MovesRequest acting served asked before after

-- a message that wasn't seen to, or was
abbrev pub MayMoveRaw : {S : Type 0} → Acting S → Served → Raw → S → S → Type 0
MayMoveRaw acting served raw before after =
    (after ≡ before) ⊎ ((item : Item) × MovesRaw acting served raw item before after)
