-- One message that is served.
use Rattle.std.proofs.Common.{◌≡◌, ◌∙◌, ◌⊎◌, inl, inr, ℕ, Bool, true, List, [], Some, None, Result, Ok, Err, IfOk, refl, ap, subst}
use Rattle.giop_messages.specs.declared.message.Message.{Message}
use Rattle.giop_messages.specs.declared.message.Message.TheVariants as messages
use Rattle.giop_messages.specs.Messages.{Answered, Answers, Cancels, Closes, Content, Fails, Says, content_of}
use Rattle.broker_answers.specs.declared.serving.Answer.{Answer}
use Rattle.broker_answers.specs.Servants.{Acting}
use Rattle.broker_answers.specs.Objects.{Served}
use Rattle.broker_answers.specs.Serving.{AnswersItem, MovesItem, ServesRaw, closes, message_error}
use Rattle.broker_answers.specs.Answering.{MayMoveRaw}

pub served_raw : {S : Type 0} (acting : Acting S) (served : Served) (message : List ℕ) (content : Content)
    (before after : S)
    (octets : List ℕ) (closed : Bool) → Says message content → MovesItem acting served (Some content) before after
    → AnswersItem served (acting.says before) (Some content) octets → closed ≡ closes (Some content)
    → ServesRaw acting served (Some message) before octets closed after
served_raw acting served message content before after octets closed says moves answers closed_is = record {
  item = Some content;
  moves = record { is = says; moves = moves };
  answers = answers;
  closed_is = closed_is;
}

pub no_message : {S : Type 0} (acting : Acting S) (served : Served) (message : List ℕ) (before after : S)
    (octets : List ℕ)
    (closed : Bool) → ((content : Content) → Says message content → ⊥) → octets ≡ message_error → closed ≡ true
    → after ≡ before → ServesRaw acting served (Some message) before octets closed after
no_message acting served message before after octets closed none answers closed_is same = record {
  item = None;
  moves = record { is = none; moves = same };
  answers = answers;
  closed_is = closed_is;
}

-- a reply, which is none for this side
pub refused_reply : {S E : Type 0} (acting : Acting S) (served : Served) (message : List ℕ) (answered : Answered)
    (before : S)
    (r : Result Answer E) → Says message (Answers answered) → IfOk r (λ a. a.octets.items ≡ message_error)
    → IfOk r (λ a. a.closes ≡ true)
    → IfOk r (λ a. ServesRaw acting served (Some message) before a.octets.items a.closes before)
refused_reply acting served message answered before (Ok a) says octets closes =
    served_raw acting served message (Answers answered) before before a.octets.items a.closes says refl octets closes
refused_reply acting served message answered before (Err e) says octets closes = tt

-- what is given up, and what closes the connection, have no answer
pub unanswered : {S : Type 0} (acting : Acting S) (served : Served) (octets : List ℕ) (message : Message) (before : S)
    (answer : List ℕ) (closed : Bool)
    → ((id : ℕ) × (message ≡ messages.Cancel id))
    ⊎ ((message ≡ messages.CloseConnection) ⊎ (message ≡ messages.MessageError))
    → Says octets (content_of message) → answer ≡ [] → closed ≡ closes (Some (content_of message))
    → ServesRaw acting served (Some octets) before answer closed before
unanswered acting served octets message before answer closed (inl (id, is)) says none shut =
    served_raw acting served octets (Cancels id) before before answer closed
    (subst (λ (m : Message). Says octets (content_of m)) is says) refl none
    (shut ∙ ap (λ (m : Message). closes (Some (content_of m))) is)
unanswered acting served octets message before answer closed (inr (inl is)) says none shut =
    served_raw acting served octets Closes before before answer closed
    (subst (λ (m : Message). Says octets (content_of m)) is says) refl none
    (shut ∙ ap (λ (m : Message). closes (Some (content_of m))) is)
unanswered acting served octets message before answer closed (inr (inr is)) says none shut =
    served_raw acting served octets Fails before before answer closed
    (subst (λ (m : Message). Says octets (content_of m)) is says) refl none
    (shut ∙ ap (λ (m : Message). closes (Some (content_of m))) is)

-- a head or a rule of fragments that is broken
pub broken : {S : Type 0} (acting : Acting S) (served : Served) (before after : S) (octets : List ℕ) (closed : Bool)
    → octets ≡ message_error → closed ≡ true → after ≡ before → ServesRaw acting served None before octets closed after
broken acting served before after octets closed answers closed_is same = record {
  item = None;
  moves = record { is = tt; moves = same };
  answers = answers;
  closed_is = closed_is;
}

pub may_move_raw : {S : Type 0} (acting : Acting S) (served : Served) (message : List ℕ) (content : Content)
    (before after : S)
    → Says message content → (after ≡ before) ⊎ MovesItem acting served (Some content) before after
    → MayMoveRaw acting served (Some message) before after
may_move_raw acting served message content before after says (inl same) = inl same
may_move_raw acting served message content before after says (inr moves) =
    inr (Some content, record { is = says; moves = moves })
