-- How messages are served: one after another, up to one that closes the connection.
use Rattle.std.specs.Prelude.{◌≡◌, ℕ, Bool, true, false, List, [], ◌∷◌, ◌++◌, Option, Some, None, is_some}
use Rattle.type_graph.specs.declared.width.Order.TheVariants.{Big}
use Rattle.giop_messages.specs.Headers.{here_tree, here_number}
use Rattle.giop_messages.specs.Messages.{Asked, Content, Asks, Answers, Cancels, Seeks, Closes, Fails, Sought, Says}
use Rattle.giop_messages.specs.Written.{IsWritten, head_octets}
use Rattle.broker_answers.specs.Streams.{Raw}
use Rattle.broker_answers.specs.Servants.{Call, Said, Acting}
use Rattle.broker_answers.specs.Objects.{Served, object_with}
use Rattle.broker_answers.specs.Findings.{Finding, Refuses, Tells, Calls, Finds}
use Rattle.broker_answers.specs.Replies.{AnswersRequest}
use Rattle.giop_types.specs.GiopNodes.{locate_reply_header_node}
use Rattle.giop_messages.specs.Heads.{locate_reply_type, message_error_type}

-- what a message says, or none where it is no message
abbrev pub Item : Type 0
Item = Option Content

abbrev pub IsItem : Raw → Item → Type 0
IsItem (Some message) (Some content) = Says message content
IsItem (Some message) None = (content : Content) → Says message content → ⊥
IsItem None (Some content) = ⊥
IsItem None None = Unit {0}

-- What is no message closes the connection, and so do replies, which are none for this side, and the messages that
-- close (GIOP: CloseConnection, MessageError).
abbrev pub closes : Item → Bool
closes None = true
closes (Some (Asks asked)) = false
closes (Some (Answers answered)) = true
closes (Some (Cancels id)) = false
closes (Some (Seeks sought)) = false
closes (Some Closes) = true
closes (Some Fails) = true

-- MessageError in big order
abbrev pub message_error : List ℕ
message_error = head_octets Big message_error_type 0

-- whether an object has the key (GIOP: LocateReply)
pub record IsLocated (served : Served) (sought : Sought) (octets : List ℕ) : Type 0 where
  pub written : IsWritten sought.order locate_reply_type locate_reply_header_node
      (here_tree sought.id (here_number (is_some (object_with served.objects sought.key)))) None octets

-- the answer to a message, by what the servant says to calls
abbrev pub AnswersItem : Served → (Call → Said) → Item → List ℕ → Type 0
AnswersItem served says None octets = octets ≡ message_error
AnswersItem served says (Some (Asks asked)) octets = AnswersRequest served asked says octets
AnswersItem served says (Some (Answers answered)) octets = octets ≡ message_error
AnswersItem served says (Some (Cancels id)) octets = octets ≡ []
AnswersItem served says (Some (Seeks sought)) octets = IsLocated served sought octets
AnswersItem served says (Some Closes) octets = octets ≡ []
AnswersItem served says (Some Fails) octets = octets ≡ []

-- only a call changes the servant's state
abbrev pub state_after : {S : Type 0} → Acting S → S → Finding → S
state_after acting state (Refuses exception) = state
state_after acting state (Tells truth) = state
state_after acting state (Calls call) = acting.after state call

pub record MovesRequest {S : Type 0} (acting : Acting S) (served : Served) (asked : Asked) (before after : S)
    : Type 0 where
  pub finding : Finding
  pub finds : Finds served asked finding
  pub now : after ≡ state_after acting before finding

abbrev pub MovesItem : {S : Type 0} → Acting S → Served → Item → S → S → Type 0
MovesItem acting served (Some (Asks asked)) before after = MovesRequest acting served asked before after
MovesItem acting served item before after = after ≡ before

-- one message: what it says, the state after it
pub record MovesRaw {S : Type 0} (acting : Acting S) (served : Served) (raw : Raw) (item : Item) (before after : S)
    : Type 0 where
  pub is : IsItem raw item
  pub moves : MovesItem acting served item before after

-- One message that is answered: what it says, the state after it, and whether it closes the connection.
pub record ServesRaw {S : Type 0} (acting : Acting S) (served : Served) (raw : Raw)
    (before : S) (octets : List ℕ) (closed : Bool) (after : S) : Type 0 where
  pub item : Item
  pub moves : MovesRaw acting served raw item before after
  pub answers : AnswersItem served (acting.says before) item octets
  pub closed_is : closed ≡ closes item

-- the one where a message closes, else the other
abbrev pub Unless : Bool → Type 0 → Type 0 → Type 0
Unless true ended further = ended
Unless false ended further = further

-- the state after messages, up to one that closes
abbrev pub Moves : {S : Type 0} → Acting S → Served → List Raw → S → S → Type 0
Moves acting served [] before after = after ≡ before
Moves {S} acting served (raw ∷ more) before after =
    (item : Item) × (between : S) × MovesRaw acting served raw item before between
    × Unless (closes item) (after ≡ between) (Moves acting served more between after)

-- their answers joined, whether one of them closes, and the state after them
abbrev pub Serves : {S : Type 0} → Acting S → Served → List Raw → S → List ℕ → Bool → S → Type 0
Serves acting served [] before octets closed after = (octets ≡ []) × (closed ≡ false) × (after ≡ before)
Serves {S} acting served (raw ∷ more) before octets closed after =
    (ends : Bool) × (between : S) × (first : List ℕ) × ServesRaw acting served raw before first ends between
    × Unless ends ((octets ≡ first) × (closed ≡ true) × (after ≡ between))
    ((others : List ℕ) × (octets ≡ first ++ others) × Serves acting served more between others closed after)
