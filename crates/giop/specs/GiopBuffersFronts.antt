-- What a caller is told of the front of a stream (ISO/IEC 19500-2, GIOP message types).
use Rattle.std.specs.Prelude.{◌≡◌, ℕ, Bool, true, false, List, [], ◌++◌, length, Option, Some, None, is_some}
use Rattle.type_graph.specs.declared.width.Order.{Order}
use Rattle.type_graph.specs.declared.width.Order.TheVariants.{Big, Little}
use Rattle.giop_messages.specs.Headers.{number_of}
use Rattle.giop_messages.specs.Messages.{Asked, Answered, Sought, Content, Asks, Answers, Cancels, Seeks, Closes, Fails, content_of}
use Rattle.giop.specs.declared.front.Front.{Front}
use Rattle.giop.specs.declared.front.Front.TheVariants.{More, Whole, Part}
use Rattle.giop.specs.Fronts.{IsFound}
use Rattle.giop.specs.declared.giop_buffers.front.MessageFront.{MessageFront}

abbrev pub is_little : Order → Bool
is_little Big = false
is_little Little = true

-- nothing for an object of which no key is told
abbrev pub key_octets : Option (List ℕ) → List ℕ
key_octets None = []
key_octets (Some key) = key

-- a message of the type with this number, of so many octets, which says nothing else
abbrev pub bare : ℕ → ℕ → MessageFront
bare kind taken = record {
  kind = kind;
  id = 0;
  detail = 0;
  little = false;
  has_key = false;
  taken = taken;
  body_at = 0;
  key_len = 0;
  operation_len = 0;
}

abbrev pub asked : Asked → ℕ → MessageFront
asked a taken = record {
  kind = 0;
  id = a.id;
  detail = a.flags;
  little = is_little a.order;
  has_key = is_some a.key;
  taken = taken;
  body_at = a.body_at;
  key_len = length (key_octets a.key);
  operation_len = length a.operation;
}

abbrev pub answered : Answered → ℕ → MessageFront
answered a taken = record {
  kind = 1;
  id = a.id;
  detail = number_of a.status;
  little = is_little a.order;
  has_key = false;
  taken = taken;
  body_at = a.body_at;
  key_len = 0;
  operation_len = 0;
}

abbrev pub sought : Sought → ℕ → MessageFront
sought s taken = record {
  kind = 3;
  id = s.id;
  detail = 0;
  little = is_little s.order;
  has_key = is_some s.key;
  taken = taken;
  body_at = 0;
  key_len = length (key_octets s.key);
  operation_len = 0;
}

-- what a whole message of so many octets says: the numbers are those of the types of messages
abbrev pub said : Content → ℕ → MessageFront
said (Asks a) taken = asked a taken
said (Answers a) taken = answered a taken
said (Cancels id) taken = record (bare 2 taken) { id = id }
said (Seeks s) taken = sought s taken
said Closes taken = bare 5 taken
said Fails taken = bare 6 taken

-- 1 for the first piece of a request, 2 for the last
abbrev pub piece_detail : Bool → Bool → ℕ
piece_detail true true = 3
piece_detail true false = 1
piece_detail false true = 2
piece_detail false false = 0

-- 7 is a piece of a request that comes in fragments, 8 that no whole message is there yet
abbrev pub told_of : Front → MessageFront
told_of More = bare 8 0
told_of (Whole message taken) = said (content_of message) taken
told_of (Part id first last taken) = record (bare 7 taken) { id = id; detail = piece_detail first last }

-- the key of the object that is asked or sought, and behind it the operation
abbrev pub texts_in : Content → List ℕ
texts_in (Asks a) = key_octets a.key ++ a.operation
texts_in (Seeks s) = key_octets s.key
texts_in content = []

abbrev pub texts_of : Front → List ℕ
texts_of (Whole message taken) = texts_in (content_of message)
texts_of front = []

-- What stands at the front of the octets is told so, with these texts.
pub record IsTold (octets : List ℕ) (told : MessageFront) (texts : List ℕ) : Type 0 where
  pub front : Front
  pub found : IsFound None octets front
  pub told_is : told ≡ told_of front
  pub texts_are : texts ≡ texts_of front

-- Something that stands there has texts.
pub record HasTexts (octets : List ℕ) (texts : List ℕ) : Type 0 where
  pub told : MessageFront
  pub is : IsTold octets told texts
