-- From what a request asks to its answer.
use Rattle.std.proofs.Common.{◌≡◌, ◌⊎◌, inl, inr, ℕ, List, [], Some, slice_get, sym, subst}
use Rattle.giop_messages.specs.Messages.{Asked}
use Rattle.type_model.specs.declared.signatures.Operation.{Operation}
use Rattle.broker_answers.specs.Servants.{Acting, Call, Said}
use Rattle.broker_answers.specs.Objects.{Served}
use Rattle.broker_answers.specs.Findings.{Finding, Calls, Finds}
use Rattle.broker_answers.specs.Replies.{AnswersRequest, IsAnswer, IsSent, Replies, SyncScope, WithTarget, WithServer, NoResponse, acceptance, sync_scope}
use Rattle.broker_answers.specs.Answering.{IsAnswered, MayMove}
use Rattle.broker_answers.specs.Serving.{MovesRequest, state_after}

pub is_answered : (served : Served) (asked : Asked) (finding : Finding) (says : Call → Said) (octets : List ℕ)
    → Finds served asked finding → IsAnswered served asked finding says octets → AnswersRequest served asked says octets
is_answered served asked finding says octets finds a = record { finding = finding; finds = finds; answer = a.answer }

pub is_moved : {S : Type 0} (acting : Acting S) (served : Served) (asked : Asked) (finding : Finding) (before after : S)
    → Finds served asked finding → after ≡ state_after acting before finding
    → MovesRequest acting served asked before after
is_moved acting served asked finding before after finds now = record { finding = finding; finds = finds; now = now }

pub may_move : {S : Type 0} (acting : Acting S) (served : Served) (asked : Asked) (finding : Finding) (before after : S)
    → Finds served asked finding → (after ≡ before) ⊎ (after ≡ state_after acting before finding)
    → MayMove acting served asked before after
may_move acting served asked finding before after finds (inl same) = inl same
may_move acting served asked finding before after finds (inr moved) =
    inr (is_moved acting served asked finding before after finds moved)

-- ---- the answer to a call, by the scope that the request asks for

pub replied : (served : Served) (asked : Asked) (call : Call) (says : Call → Said) (operation : Operation) (said : Said)
    (octets : List ℕ) → Finds served asked (Calls call) → WithTarget ≡ sync_scope asked.flags
    → slice_get served.model.operations call.operation ≡ Some operation → said ≡ says call
    → Replies served.model asked operation said octets → AnswersRequest served asked says octets
replied served asked call says operation said octets finds scope there is replies = record {
  finding = Calls call;
  finds = finds;
  answer = subst (λ (s : SyncScope). IsAnswer s served asked (Calls call) says octets) scope
      (operation, there, subst (λ (s : Said). Replies served.model asked operation s octets) is replies);
}

pub accepted : (served : Served) (asked : Asked) (call : Call) (says : Call → Said) (octets : List ℕ)
    → Finds served asked (Calls call) → WithServer ≡ sync_scope asked.flags → IsSent asked acceptance octets
    → AnswersRequest served asked says octets
accepted served asked call says octets finds scope sent = record {
  finding = Calls call;
  finds = finds;
  answer = subst (λ (s : SyncScope). IsAnswer s served asked (Calls call) says octets) scope sent;
}

pub silent : (served : Served) (asked : Asked) (call : Call) (says : Call → Said) (octets : List ℕ)
    → Finds served asked (Calls call) → NoResponse ≡ sync_scope asked.flags → octets ≡ []
    → AnswersRequest served asked says octets
silent served asked call says octets finds scope none = record {
  finding = Calls call;
  finds = finds;
  answer = subst (λ (s : SyncScope). IsAnswer s served asked (Calls call) says octets) scope none;
}
