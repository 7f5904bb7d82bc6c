-- What the reply to a request says.
use Rattle.std.specs.Prelude.{◌≡◌, ℕ, List}
use Rattle.giop_messages.specs.Messages.{Answered, Answers, Says}
use Rattle.giop_messages.specs.Heard.{Replies, heard}
use Rattle.call_client.specs.declared.answer.ReplyBody.{ReplyBody}

-- what an answer says
abbrev pub answer_of : ReplyBody → Answered
answer_of answer = record {
  id = answer.id;
  status = answer.status;
  order = answer.order;
  body_at = answer.body_at;
  body = answer.body.items;
}

-- The octets of a stream answer the request of the number: this is what the first reply with it says, whatever came
-- before.
pub record IsAnswered (id : ℕ) (octets : List ℕ) (answered : Answered) : Type 0 where
  pub message : List ℕ
  pub heard_is : heard id octets ≡ Replies message
  pub says : Says message (Answers answered)
  pub id_is : answered.id ≡ id

-- The reply is there, but doesn't say that it is one with the number.
pub record IsUnreadable (id : ℕ) (octets : List ℕ) : Type 0 where
  pub message : List ℕ
  pub heard_is : heard id octets ≡ Replies message
  pub none : (answered : Answered) → Says message (Answers answered) → answered.id ≡ id → ⊥
