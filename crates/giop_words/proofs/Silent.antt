-- Octets that say nothing.
use Rattle.std.proofs.Common.{◌≡◌, ◌≢◌, ◌+◌, ◌<◌, ℕ, List, length, false, true, Ok, Err, arith}
use Rattle.giop_messages.specs.declared.fault.FramingFault.{FramingFault}
use Rattle.giop_messages.specs.declared.head.MessageKind.TheVariants as kinds
use Rattle.giop_messages.specs.declared.head.Head.{Head}
use Rattle.giop_messages.specs.Heads.{head_in}
use Rattle.giop_messages.specs.Messages.{Asks, Answers, Cancels, Seeks, Closes, Fails, Content, IsWhole, Says}
use Rattle.giop_messages.specs.Runs.{IsMessage}
use Rattle.giop_words.specs.Said.{IsLocateReply, SaysNothing}
use Rattle.giop_words.specs.declared.said.Located.{Located}

-- a whole message that isn't a reply to a locate request
record Wholly (octets : List ℕ) : Type 0 where
  head : Head
  is : IsMessage head octets
  alone : head.goes_on ≡ false
  other : head.kind ≢ kinds.LocateReply

-- octets that say something are one
content_whole : (octets : List ℕ) (content : Content) → Says octets content → Wholly octets
content_whole octets (Asks asked) says =
    record {
      head = says.head;
      is = says.is.is;
      alone = says.is.alone;
      other = λ located. let own = says.is.kind_is in
          cc;
    }
content_whole octets (Answers answered) says =
    record {
      head = says.head;
      is = says.is.is;
      alone = says.is.alone;
      other = λ located. let own = says.is.kind_is in
          cc;
    }
content_whole octets (Cancels id) says =
    record {
      head = says.head;
      is = says.is.is;
      alone = says.is.alone;
      other = λ located. let own = says.is.kind_is in
          cc;
    }
content_whole octets (Seeks sought) says =
    record {
      head = says.head;
      is = says.is.is;
      alone = says.is.alone;
      other = λ located. let own = says.is.kind_is in
          cc;
    }
content_whole octets Closes says =
    record {
      head = says.head;
      is = says.is.is;
      alone = says.is.alone;
      other = λ located. let own = says.is.kind_is in
          cc;
    }
content_whole octets Fails says =
    record {
      head = says.head;
      is = says.is.is;
      alone = says.is.alone;
      other = λ located. let own = says.is.kind_is in
          cc;
    }

silent : (octets : List ℕ) → (Wholly octets → ⊥) → ((located : Located) → IsLocateReply octets located → ⊥)
    → SaysNothing octets
silent octets none not_located =
    record { no_content = λ content says. none (content_whole octets content says); not_located = not_located }

same_head : (octets : List ℕ) (one other : Head) → Ok one ≡ head_in octets → head_in octets ≡ Ok other → one ≡ other
same_head octets one other first second = cc

-- octets without a head
pub no_head : (octets : List ℕ) (fault : FramingFault) → Err fault ≡ head_in octets → SaysNothing octets
no_head octets fault broken =
    silent octets (λ whole. let read = whole.is.head_is in cc) (λ located says. let read = says.is.is.head_is in cc)

-- octets of which the head doesn't tell how many they are
pub no_size : (octets : List ℕ) (head : Head) → Ok head ≡ head_in octets → length octets ≢ 12 + head.size
    → SaysNothing octets
no_size octets head read other =
    silent octets
    (λ whole. let same = same_head octets head whole.head read whole.is.head_is in let size = whole.is.whole in
    other (rw same size))
    (λ located says. let same = same_head octets head says.head read says.is.is.head_is in let size =
    says.is.is.whole in other (rw same size))

-- a first piece
pub no_end : (octets : List ℕ) (head : Head) → Ok head ≡ head_in octets → head.goes_on ≡ true → SaysNothing octets
no_end octets head read goes_on =
    silent octets
    (λ whole. let same = same_head octets head whole.head read whole.is.head_is in let alone = whole.alone in cc)
    (λ located says. let same = same_head octets head says.head read says.is.is.head_is in let alone = says.is.alone in
    cc)

-- a reply to a locate request without both numbers
pub no_numbers : (octets : List ℕ) (head : Head) → IsWhole kinds.LocateReply octets head → length octets < 20
    → SaysNothing octets
no_numbers octets head whole short =
    silent octets
    (λ one. let first = whole.is.head_is in let second = one.is.head_is in let same : one.head ≡ head = cc in
    one.other (rw same whole.kind_is))
    (λ located says. let long = says.numbers.long in omega arith)

-- any other message that giop reads nothing of
pub no_content : (octets : List ℕ) (head : Head) → IsMessage head octets → head.kind ≢ kinds.LocateReply
    → ((content : Content) → Says octets content → ⊥) → SaysNothing octets
no_content octets head is other none = record {
  no_content = none;
  not_located = λ located says.
      let first = is.head_is in let second = says.is.is.head_is in let same : says.head ≡ head = cc in let kind =
      says.is.kind_is in
      other (rw (← same) kind);
}
