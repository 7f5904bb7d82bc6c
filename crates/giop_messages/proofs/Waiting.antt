-- A stream whose message hasn't come says nothing.
use Rattle.std.proofs.Common.{◌≡◌, ℕ, ◌+◌, ◌-◌, ◌<◌, ◌≤◌, Bool, true, false, List, ◌++◌, length, Option, Result, Ok, Err, nat_lt, if◌then◌else◌, refl, sym, ap, subst, ◌∙◌, arith}
use Rattle.std.proofs.lemmas.List.{length-append}
use Rattle.std.proofs.lemmas.Bool.{le-ltb, lt-ltb, ltb-false}
use Rattle.giop_messages.specs.declared.fault.FramingFault.{FramingFault}
use Rattle.giop_messages.specs.declared.head.Head.{Head}
use Rattle.giop_messages.specs.Room.{wanted_by}
use Rattle.giop_messages.specs.ReplyStreamsHeads.{reply_head}
use Rattle.giop_messages.specs.Fronts.{Front, More, front, front_behind}
use Rattle.giop_messages.specs.Heard.{Heard, Waits, Replies, Breaks, Ends, Refuses, heard, heard_from, heard_more}
use Rattle.giop_messages.specs.ReplyStreamsRoom.{wanted}
use Rattle.giop_messages.proofs.ReplyStreamsHeadFacts.{reply_longer}
use Rattle.giop_messages.proofs.Hearing.{heard_waits, in_pieces}

-- the first branch of a test that holds
first_if : (b : Bool) (f g : Front) → b ≡ true → (if b then f else g) ≡ f
first_if true f g e = refl
first_if false f g e = absurd (cc)

more_by : (id : ℕ) (run : Option (List ℕ)) (rest more : List ℕ) (said : Result Head FramingFault)
    → length more < wanted_by said (length rest) → front_behind id run (rest ++ more) said ≡ More
more_by id run rest more (Ok head) less =
    first_if (nat_lt (length (rest ++ more)) (12 + head.size)) More _
    (lt-ltb (length (rest ++ more)) (12 + head.size) (omega (arith, less, length-append rest more)))
more_by id run rest more (Err fault) less = absurd (omega (arith, less))

more_in : (id : ℕ) (run : Option (List ℕ)) (rest more : List ℕ) (b : Bool) → nat_lt (length rest) 12 ≡ b
    → length more < (if b then 12 - length rest else wanted_by (reply_head rest) (length rest))
    → front id run (rest ++ more) ≡ More
more_in id run rest more true e less =
    first_if (nat_lt (length (rest ++ more)) 12) More _
    (lt-ltb (length (rest ++ more)) 12 (omega (arith, less, length-append rest more)))
more_in id run rest more false e less =
    let long = ltb-false (length rest) 12 e in
    let all = rest ++ more in
    let behind : front_behind id run all (reply_head all) ≡ More =
    ap (front_behind id run all) (reply_longer rest more long) ∙ more_by id run rest more (reply_head rest) less in
    let later : nat_lt (length all) 12 ≡ false =
    le-ltb (length all) 12 (omega (arith, long, length-append rest more)) in
    ap (λ (t : Bool). if t then More else front_behind id run all (reply_head all)) later ∙ behind

pub still_waits : (id : ℕ) (run : Option (List ℕ)) (rest more : List ℕ) → length more < wanted rest
    → heard_more id (Waits run rest) more ≡ Waits run (rest ++ more)
still_waits id run rest more less =
    heard_waits id run (rest ++ more) (more_in id run rest more (nat_lt (length rest) 12) refl less)

-- nothing was said
pub record SaysNothing (id : ℕ) (octets : List ℕ) : Type 0 where
  pub run : Option (List ℕ)
  pub rest : List ℕ
  pub waits : heard id octets ≡ Waits run rest

waited : (id : ℕ) (front more : List ℕ) (run : Option (List ℕ)) (rest : List ℕ) (said : Heard) → heard id front ≡ said
    → heard_more id said more ≡ Waits run rest → SaysNothing id front
waited id front more run rest (Waits held left) is on = record { run = held; rest = left; waits = is }
waited id front more run rest (Replies message) is on = absurd (cc)
waited id front more run rest (Breaks fault) is on = absurd (cc)
waited id front more run rest Ends is on = absurd (cc)
waited id front more run rest Refuses is on = absurd (cc)

-- where a stream says nothing, none of its fronts does
pub waited_before : (id : ℕ) (front more : List ℕ) (run : Option (List ℕ)) (rest : List ℕ)
    → heard id (front ++ more) ≡ Waits run rest → SaysNothing id front
waited_before id front more run rest e =
    waited id front more run rest (heard id front) refl (sym (in_pieces id front more) ∙ e)
