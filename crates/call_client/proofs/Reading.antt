-- A stream that is read until it says its reply.
use Rattle.std.proofs.Common.{◌≡◌, inl, inr, ℕ, ◌+◌, ◌<◌, ◌≤◌, max, Bool, true, List, [], ◌++◌, length, take, drop, length-append, length-drop, append-nil, Option, None, Result, Ok, Err, sym, ap, subst, ◌∙◌, arith}
use Rattle.std.proofs.lemmas.Bool.{cases_lt}
use Rattle.std.proofs.lemmas.List.{take-append-drop, take-append-le}
use Rattle.std.proofs.Math.Seq.{take-append_seam}
use Rattle.giop_messages.specs.declared.fault.FramingFault.{FramingFault}
use Rattle.giop_messages.specs.Messages.{Answered, Answers, Says}
use Rattle.iiop_broker.specs.Ends.{Gives, IsEmpty}
use Rattle.iiop_broker.proofs.Going.{gives_start, gives_then}
use Rattle.giop_messages.specs.Heard.{Breaks, Ends, Heard, Refuses, Replies, Waits, heard, heard_more}
use Rattle.giop_messages.specs.ReplyStreamsRoom.{wanted}
use Rattle.giop_messages.proofs.Hearing.{in_pieces}
use Rattle.giop_messages.proofs.Waiting.{SaysNothing, still_waits, waited_before}
use Rattle.call_client.specs.declared.answer.ReplyBody.{ReplyBody}
use Rattle.call_client.specs.declared.fault.CallFault.{CallFault}
use Rattle.call_client.specs.declared.fault.CallFault.TheVariants as faults
use Rattle.call_client.specs.Answers.{IsAnswered, IsUnreadable, answer_of}
use Rattle.call_client.specs.Outcomes.{AreRead, IsBrought, IsGivenUp, IsOutcome, IsUnanswered}
use Rattle.call_client.specs.inner.Replies.{IsAnswerIn}

-- ---- what is read

-- octets were read, and then none
gives_no_more : (a b d : Option (List ℕ)) (xs : List ℕ) → Gives a xs b → Gives b [] d → Gives a xs d
gives_no_more a b d xs g h = subst (λ (o : List ℕ). Gives a o d) (append-nil xs) (gives_then a b d xs [] g h)

-- ---- so far

-- no answer has come in the octets that were read; so many reads gave some
pub record Going (id : ℕ) (before : Option (List ℕ)) (run : Option (List ℕ)) (rest : List ℕ) (now : Option (List ℕ))
    (count : ℕ) : Type 0 where
  pub octets : List ℕ
  pub read : Gives before octets now
  pub waits : heard id octets ≡ Waits run rest
  pub many : count ≤ length octets

pub going_start : (id : ℕ) (before run : Option (List ℕ)) (rest : List ℕ) → run ≡ None → rest ≡ []
    → Going id before run rest before 0
going_start id before run rest e f = record {
  octets = [];
  read = gives_start before;
  waits = ap (λ (o : Option (List ℕ)). Waits o []) (sym e) ∙ ap (λ (l : List ℕ). Waits run l) (sym f);
  many = omega arith;
}

-- ---- nothing more than is wanted

-- no front of the octets had an answer
abbrev pub IsFirst : ℕ → List ℕ → Type 0
IsFirst id octets = (front more : List ℕ) → octets ≡ front ++ more → 0 < length more → IsUnanswered id front

unanswered : (id : ℕ) (octets : List ℕ) → SaysNothing id octets → IsUnanswered id octets
unanswered id octets s = record { run = s.run; rest = s.rest; waits = s.waits }

-- a front of what was read before
in_octets : (id : ℕ) (run : Option (List ℕ)) (rest octets piece front more : List ℕ) → heard id octets ≡ Waits run rest
    → octets ++ piece ≡ front ++ more → length front ≤ length octets → IsUnanswered id front
in_octets id run rest octets piece front more e same le =
    let fronts : take (length front) octets ≡ front =
    sym (take-append-le (length front) octets piece le) ∙ ap (take (length front)) same ∙ take-append_seam front more in
    let cut : octets ≡ front ++ drop (length front) octets =
    sym (take-append-drop (length front) octets) ∙ ap (λ (l : List ℕ). l ++ drop (length front) octets) fronts in
    unanswered id front
    (waited_before id front (drop (length front) octets) run rest (ap (heard id) (sym cut) ∙ e))

-- a front that has a part of the piece
in_piece : (id : ℕ) (run : Option (List ℕ)) (rest octets piece front more : List ℕ) → heard id octets ≡ Waits run rest
    → length piece ≤ max (wanted rest) 1 → octets ++ piece ≡ front ++ more → 0 < length more
    → length octets < length front → IsUnanswered id front
in_piece id run rest octets piece front more e few same some longer =
    let part = drop (length octets) front in
    let begins : take (length octets) front ≡ octets =
    sym (take-append-le (length octets) front more (omega (arith, longer))) ∙ ap (take (length octets)) (sym same)
    ∙ take-append_seam octets piece in
    let cut : front ≡ octets ++ part =
    sym (take-append-drop (length octets) front) ∙ ap (λ (l : List ℕ). l ++ part) begins in
    let lengths : length octets + length piece ≡ length front + length more =
    sym (length-append octets piece) ∙ ap length same ∙ length-append front more in
    let less : length part < wanted rest =
    omega (arith, few, some, longer, lengths, length-drop (length octets) front) in
    record {
      run = run;
      rest = rest ++ part;
      waits = ap (heard id) cut ∙ in_pieces id octets part ∙ ap (λ (s : Heard). heard_more id s part) e
          ∙ still_waits id run rest part less;
    }

-- a piece that is no longer than is wanted brings nothing before its end
pub brings_last : (id : ℕ) (run : Option (List ℕ)) (rest octets piece : List ℕ) → heard id octets ≡ Waits run rest
    → length piece ≤ max (wanted rest) 1 → IsFirst id (octets ++ piece)
brings_last id run rest octets piece e few = λ front more same some.
    elim (cases_lt (length octets) (length front)) [
      | inl lt ↦ in_piece id run rest octets piece front more e few same some lt
      | inr le ↦ in_octets id run rest octets piece front more e same le
    ]

-- what the stream says with what was read next
pub record ReadOn (id : ℕ) (before : Option (List ℕ)) (piece : List ℕ) (count : ℕ) (says : Heard)
    (after : Option (List ℕ))
    : Type 0 where
  pub octets : List ℕ
  pub read : Gives before octets after
  pub heard_is : heard id octets ≡ says
  pub last : IsFirst id octets
  pub many : count + length piece ≤ length octets

pub read_on : (id : ℕ) (before now after : Option (List ℕ)) (run : Option (List ℕ)) (rest piece : List ℕ) (count : ℕ)
    (says : Heard) → Going id before run rest now count → Gives now piece after
    → says ≡ heard_more id (Waits run rest) piece
    → length piece ≤ max (wanted rest) 1 → ReadOn id before piece count says after
read_on id before now after run rest piece count says g h e few = record {
  octets = g.octets ++ piece;
  read = gives_then before now after g.octets piece g.read h;
  heard_is = in_pieces id g.octets piece ∙ ap (λ (s : Heard). heard_more id s piece) g.waits ∙ sym e;
  last = brings_last id run rest g.octets piece g.waits few;
  many = omega (arith, g.many, length-append g.octets piece);
}

pub goes_on : (id : ℕ) (before after : Option (List ℕ)) (run : Option (List ℕ)) (rest piece : List ℕ) (count : ℕ)
    → ReadOn id before piece count (Waits run rest) after → 0 < length piece
    → Going id before run rest after (count + 1)
goes_on id before after run rest piece count r some =
    record { octets = r.octets; read = r.read; waits = r.heard_is; many = omega (arith, r.many, some) }

-- ---- how it ends

pub ended : (id : ℕ) (before now after : Option (List ℕ)) (run : Option (List ℕ)) (rest piece : List ℕ) (count : ℕ)
    → Going id before run rest now count → Gives now piece after → piece ≡ [] → IsEmpty after
    → AreRead before (IsGivenUp id (IsEmpty after)) after
ended id before now after run rest piece count g h none empty =
    let nothing : Gives now [] after = subst (λ (p : List ℕ). Gives now p after) none h in
    record {
      octets = g.octets;
      read = gives_no_more before now after g.octets g.read nothing;
      so = record { unanswered = record { run = run; rest = rest; waits = g.waits }; cause_is = empty };
    }

pub failed : (id : ℕ) (before now after : Option (List ℕ)) (run : Option (List ℕ)) (rest : List ℕ) (count : ℕ)
    (failure : Bool)
    → Going id before run rest now count → Gives now [] after → failure ≡ true
    → AreRead before (IsGivenUp id (failure ≡ true)) after
failed id before now after run rest count failure g same e = record {
  octets = g.octets;
  read = gives_no_more before now after g.octets g.read same;
  so = record { unanswered = record { run = run; rest = rest; waits = g.waits }; cause_is = e };
}

pub limit : (id : ℕ) (before now : Option (List ℕ)) (run : Option (List ℕ)) (rest : List ℕ) (count reads : ℕ)
    → Going id before run rest now count → reads ≤ count
    → AreRead before (λ octets. IsUnanswered id octets × (reads ≤ length octets)) now
limit id before now run rest count reads g past = record {
  octets = g.octets;
  read = g.read;
  so = (record { run = run; rest = rest; waits = g.waits }, omega (arith, g.many, past));
}

pub broken : (id : ℕ) (before after : Option (List ℕ)) (piece : List ℕ) (count : ℕ) (fault : FramingFault)
    → ReadOn id before piece count (Breaks fault) after
    → AreRead before (IsBrought id (λ octets. heard id octets ≡ Breaks fault)) after
broken id before after piece count fault r =
    record { octets = r.octets; read = r.read; so = record { so = r.heard_is; last = r.last } }

pub closed : (id : ℕ) (before after : Option (List ℕ)) (piece : List ℕ) (count : ℕ)
    → ReadOn id before piece count Ends after → AreRead before (IsBrought id (λ octets. heard id octets ≡ Ends)) after
closed id before after piece count r =
    record { octets = r.octets; read = r.read; so = record { so = r.heard_is; last = r.last } }

pub refused : (id : ℕ) (before after : Option (List ℕ)) (piece : List ℕ) (count : ℕ)
    → ReadOn id before piece count Refuses after
    → AreRead before (IsBrought id (λ octets. heard id octets ≡ Refuses)) after
refused id before after piece count r =
    record { octets = r.octets; read = r.read; so = record { so = r.heard_is; last = r.last } }

pub answered : (id : ℕ) (before after : Option (List ℕ)) (piece message : List ℕ) (count : ℕ) (said : Answered)
    → ReadOn id before piece count (Replies message) after → Says message (Answers said) → said.id ≡ id
    → AreRead before (IsBrought id (λ octets. IsAnswered id octets said)) after
answered id before after piece message count said r s e = record {
  octets = r.octets;
  read = r.read;
  so = record { so = record { message = message; heard_is = r.heard_is; says = s; id_is = e }; last = r.last };
}

pub unreadable : (id : ℕ) (before after : Option (List ℕ)) (piece message : List ℕ) (count : ℕ)
    → ReadOn id before piece count (Replies message) after
    → ((said : Answered) → Says message (Answers said) → said.id ≡ id → ⊥)
    → AreRead before (IsBrought id (IsUnreadable id)) after
unreadable id before after piece message count r none =
    record {
      octets = r.octets;
      read = r.read;
      so =
          record { so = record { message = message; heard_is = r.heard_is; none = none }; last = r.last };
    }

-- what the reply that came says
pub outcome_in : (id reads : ℕ) (before after : Option (List ℕ)) (piece message : List ℕ) (count : ℕ)
    (result : Result ReplyBody CallFault) (failure : Bool) → ReadOn id before piece count (Replies message) after
    → IsAnswerIn id message result → IsOutcome id reads before result after failure
outcome_in id reads before after piece message count (Ok answer) failure r is =
    answered id before after piece message count (answer_of answer) r is.0 is.1
outcome_in id reads before after piece message count (Err faults.BadReply) failure r is =
    unreadable id before after piece message count r is
outcome_in id reads before after piece message count (Err faults.NoMemory) failure r is = tt
outcome_in id reads before after piece message count (Err fault) failure r is = absurd is
