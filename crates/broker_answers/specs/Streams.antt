-- The octets of a connection, cut into messages.
use Rattle.std.specs.Prelude.{ℕ, zero, suc, List, [], ◌∷◌, ◌++◌, length, Option, Some, None}
use Rattle.giop_messages.specs.Framing.{Front, More, Broken, Piece, Whole, front}

-- What stands in a stream: the octets of a whole message, or none, where a head or a rule of fragments is broken. All
-- fragments of a request are one message, which stands where its last fragment does.
abbrev pub Raw : Type 0
Raw = Option (List ℕ)

-- what is left of a stream: the run of fragments that is open and the octets behind; a stream with something broken in
-- it has nothing left
pub data Stream : Type 0 where
  Open : Option (List ℕ) → List ℕ → Stream
  Closed : Stream

-- the messages at the front, and what is left
pub record Cut : Type 0 where
  pub raws : List Raw
  pub left : Stream

abbrev pub cut_of : List Raw → Stream → Cut
cut_of raws left = record { raws = raws; left = left }

abbrev pub with_message : List ℕ → Cut → Cut
with_message message cut = cut_of (Some message ∷ cut.raws) cut.left

abbrev pub cut_front : (Option (List ℕ) → List ℕ → Cut) → Option (List ℕ) → List ℕ → Front → Cut
cut_front further run octets More = cut_of [] (Open run octets)
cut_front further run octets (Broken fault) = cut_of (None ∷ []) Closed
cut_front further run octets (Piece begun rest) = further (Some begun) rest
cut_front further run octets (Whole message kept rest) = with_message message (further kept rest)

-- so many pieces and messages at most
abbrev pub cut_within : ℕ → Option (List ℕ) → List ℕ → Cut
cut_within zero run octets = cut_of [] (Open run octets)
cut_within (suc n) run octets = cut_front (cut_within n) run octets (front run octets)

-- All of them: each has an octet at least.
abbrev pub cut : Option (List ℕ) → List ℕ → Cut
cut run octets = cut_within (length octets) run octets

-- what more octets bring to a stream of which this is left
abbrev pub cut_behind : Stream → List ℕ → Cut
cut_behind (Open run rest) octets = cut run (rest ++ octets)
cut_behind Closed octets = cut_of [] Closed

-- the messages of a stream and of one that goes on
abbrev pub joined : Cut → (Stream → Cut) → Cut
joined first further = cut_of (first.raws ++ (further first.left).raws) (further first.left).left
