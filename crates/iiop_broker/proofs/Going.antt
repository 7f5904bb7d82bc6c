-- A stream that goes on.
use Rattle.std.proofs.Common.{◌≡◌, inl, inr, ℕ, suc, ◌+◌, ◌≤◌, ◌<◌, Bool, true, false, List, [], ◌∷◌, ◌++◌, length, length-append, take, Option, Some, None, refl, sym, ap, subst, ◌∙◌, append_assoc, append-nil, arith}
use Rattle.broker_answers.specs.Streams.{Stream, Closed, cut}
use Rattle.broker_answers.specs.Connections.{at}
use Rattle.broker_answers.specs.Talk.{World, rests, kept_or_shut}
use Rattle.broker_answers.specs.Servants.{Acting}
use Rattle.broker_answers.specs.Objects.{Served}
use Rattle.iiop_broker.specs.Listed.{IsThere}
use Rattle.iiop_broker.specs.Ends.{Adds, Gives, IsEmpty}
use Rattle.iiop_broker.specs.AnsweredStreams.{AnsweredStream, GivenUp}
use Rattle.iiop_broker.specs.Outcomes.{Ends, Finished, Unread, Unended, Unwritten, Unserved}
use Rattle.iiop_broker.specs.inner.StreamPieces.{IsSent, IsStuck, IsGivenUp}
use Rattle.iiop_broker.proofs.AnsweredStreams.{stream_on, given_up, is_kept}
use Rattle.iiop_broker.proofs.Written.{adds_nothing, adds_then}

-- ---- what is read

gives_from : (b : Option (List ℕ)) (rest y : List ℕ) (d : Option (List ℕ)) → b ≡ Some rest → Gives b y d
    → Gives (Some rest) y d
gives_from b rest y d e g = subst (λ (t : Option (List ℕ)). Gives t y d) e g

pub gives_then : (a b d : Option (List ℕ)) (x y : List ℕ) → Gives a x b → Gives b y d → Gives a (x ++ y) d
gives_then None b d x y g h = tt
gives_then (Some left) b d x y (rest, e, now) h =
    let k = gives_from b rest y d now h in
    (k.0, e ∙ ap (λ (r : List ℕ). x ++ r) k.1 ∙ sym (append_assoc x y k.0), k.2)

pub gives_start : (a : Option (List ℕ)) → Gives a [] a
gives_start None = tt
gives_start (Some left) = (left, refl, refl)

-- ---- so far

pub record Going {S : Type 0} (acting : Acting S) (served : Served) (c : ℕ) (others : List (ℕ × Stream)) (before : S)
    (start now : Ends) (sent count : ℕ) (w : World S Stream) : Type 0 where
  pub octets : List ℕ
  pub answer : List ℕ
  pub stream : AnsweredStream acting served c others before octets answer false w
  pub read : Gives start.left octets now.left
  pub wrote : Adds start.written answer now.written
  pub sent_is : sent ≡ length answer
  pub many : count ≤ length octets

pub going_start : {S : Type 0} (acting : Acting S) (served : Served) (c : ℕ) (others : List (ℕ × Stream)) (before : S)
    (start : Ends) (w : World S Stream) → AnsweredStream acting served c others before [] [] false w
    → Going acting served c others before start start 0 0 w
going_start acting served c others before start w stream = record {
  octets = [];
  answer = [];
  stream = stream;
  read = gives_start start.left;
  wrote = adds_nothing start.written;
  sent_is = refl;
  many = omega arith;
}

pub still_there : {S : Type 0} (acting : Acting S) (served : Served) (c : ℕ) (others : List (ℕ × Stream)) (before : S)
    (octets answer : List ℕ) (closes : Bool) (w : World S Stream)
    → AnsweredStream acting served c others before octets answer closes w → IsThere c w.there
still_there acting served c others before octets answer closes w stream = record {
  kept = kept_or_shut rests closes (cut None octets).left;
  found = is_kept acting served c others before octets answer closes w stream;
}

same_kept : (a b : Stream) → Some a ≡ Some b → a ≡ b
same_kept a b e = cc

true_false : {A : Type 0} → true ≡ false → A
true_false e = absurd (cc)

-- the connection isn't closed, so no message closed it
open_still : {S : Type 0} (acting : Acting S) (served : Served) (c : ℕ) (others : List (ℕ × Stream)) (before : S)
    (octets answer : List ℕ) (closes closed : Bool) (w : World S Stream)
    → AnsweredStream acting served c others before octets answer closes w → (at c w.there ≡ Some Closed → closed ≡ true)
    → closed ≡ false → AnsweredStream acting served c others before octets answer false w
open_still acting served c others before octets answer true closed w stream tells e =
    true_false (sym (tells (is_kept acting served c others before octets answer true w stream)) ∙ e)
open_still acting served c others before octets answer false closed w stream tells e = stream

pub going_on : {S : Type 0} (acting : Acting S) (served : Served) (c : ℕ) (others : List (ℕ × Stream)) (before : S)
    (start now after : Ends) (sent count : ℕ) (w w' : World S Stream) (piece : List ℕ) (n : ℕ) (shut : Bool)
    → Going acting served c others before start now sent count w → Gives now.left piece after.left → 0 < length piece
    → IsSent acting served c w piece now.written n shut w' after.written → shut ≡ false
    → Going acting served c others before start after (sent + n) (count + 1) w'
going_on acting served c others before start now after sent count w w' piece n shut going gives some is unshut =
    record {
      octets = going.octets ++ piece;
      answer = going.answer ++ is.answer;
      stream = open_still acting served c others before (going.octets ++ piece) (going.answer ++ is.answer)
          is.answers.closes shut w'
          (stream_on acting served c others before going.octets going.answer piece is.answer w w' going.stream
          is.answers)
          is.closed.1 unshut;
      read = gives_then start.left now.left after.left going.octets piece going.read gives;
      wrote = adds_then start.written now.written after.written going.answer is.answer going.wrote is.wrote;
      sent_is = let so_far = going.sent_is in let more = is.count in
          omega (arith, so_far, more, length-append going.answer is.answer);
      many = let m = going.many in omega (arith, m, some, length-append going.octets piece);
    }

pub all_read : {S : Type 0} (acting : Acting S) (served : Served) (c : ℕ) (others : List (ℕ × Stream)) (before : S)
    (start now after : Ends) (sent count : ℕ) (w : World S Stream) (got : List ℕ)
    → Going acting served c others before start now sent count w → Gives now.left got after.left → got ≡ []
    → IsEmpty after.left → after.written ≡ now.written
    → Finished (λ o a k. AnsweredStream acting served c others before o a k w) start after
all_read acting served c others before start now after sent count w got going gives none end same =
    let nothing : Gives now.left [] after.left = subst (λ (g : List ℕ). Gives now.left g after.left) none gives in
    record {
      octets = going.octets;
      answer = going.answer;
      closes = false;
      told = going.stream;
      read = subst (λ (o : List ℕ). Gives start.left o after.left) (append-nil going.octets)
          (gives_then start.left now.left after.left going.octets [] going.read nothing);
      wrote = subst (Adds start.written going.answer) (sym same) going.wrote;
      finished = inr end;
    }

pub all_said : {S : Type 0} (acting : Acting S) (served : Served) (c : ℕ) (others : List (ℕ × Stream)) (before : S)
    (start now after : Ends) (sent count : ℕ) (w w' : World S Stream) (piece : List ℕ) (n : ℕ) (closed : Bool)
    → Going acting served c others before start now sent count w → Gives now.left piece after.left
    → IsSent acting served c w piece now.written n closed w' after.written → closed ≡ true
    → Finished (λ o a k. AnsweredStream acting served c others before o a k w') start after
all_said acting served c others before start now after sent count w w' piece n closed going gives is shut =
    let stream =
    stream_on acting served c others before going.octets going.answer piece is.answer w w' going.stream is.answers in
    record {
      octets = going.octets ++ piece;
      answer = going.answer ++ is.answer;
      closes = is.answers.closes;
      told = stream;
      read = gives_then start.left now.left after.left going.octets piece going.read gives;
      wrote = adds_then start.written now.written after.written going.answer is.answer going.wrote is.wrote;
      finished = inl
          (same_kept (kept_or_shut rests is.answers.closes (cut None (going.octets ++ piece)).left) Closed
          (sym (is_kept acting served c others before (going.octets ++ piece) (going.answer ++ is.answer)
          is.answers.closes w' stream)
          ∙ is.closed.0 shut));
    }

seam : (a b : List ℕ) (n : ℕ) → take (length a + n) (a ++ b) ≡ a ++ take n b
seam [] b n = let e : 0 + n ≡ n = omega arith in ap (λ (k : ℕ). take k b) e
seam (x ∷ a) b n =
    let e : suc (length a) + n ≡ suc (length a + n) = omega arith in
    ap (λ (k : ℕ). take k (x ∷ (a ++ b))) e ∙ ap (λ (xs : List ℕ). x ∷ xs) (seam a b n)

pub stuck : {S : Type 0} (acting : Acting S) (served : Served) (c : ℕ) (others : List (ℕ × Stream)) (before : S)
    (start now after : Ends) (sent count n : ℕ) (w w' : World S Stream) (piece : List ℕ)
    → Going acting served c others before start now sent count w → Gives now.left piece after.left
    → IsStuck acting served c w piece now.written n w' after.written after.unwritten
    → Unwritten (λ o a k. AnsweredStream acting served c others before o a k w') (sent + n) start after
stuck acting served c others before start now after sent count n w w' piece going gives is =
    let so_far = going.sent_is in
    let here : length going.answer + n ≡ sent + n = omega (arith, so_far) in
    record {
      octets = going.octets ++ piece;
      answer = going.answer ++ is.answer;
      closes = is.answers.closes;
      told = stream_on acting served c others before going.octets going.answer piece is.answer w w' going.stream
          is.answers;
      read = gives_then start.left now.left after.left going.octets piece going.read gives;
      within = let m = is.within in omega (arith, so_far, m, length-append going.answer is.answer);
      wrote = subst (λ (xs : List ℕ). Adds start.written xs after.written)
          (sym (seam going.answer is.answer n) ∙ ap (λ (k : ℕ). take k (going.answer ++ is.answer)) here)
          (adds_then start.written now.written after.written going.answer (take n is.answer) going.wrote is.wrote);
      failed = is.failed;
    }

pub unserved : {S : Type 0} (acting : Acting S) (served : Served) (c : ℕ) (others : List (ℕ × Stream)) (before : S)
    (start now after : Ends) (sent count : ℕ) (w w' : World S Stream) (piece : List ℕ)
    → Going acting served c others before start now sent count w → Gives now.left piece after.left
    → IsGivenUp acting served c w piece now.written w' after.written
    → Unserved (λ o a m. GivenUp acting served c others before o a m w') start after
unserved acting served c others before start now after sent count w w' piece going gives is = record {
  octets = going.octets;
  answer = going.answer;
  more = piece;
  told = given_up acting served c others before going.octets going.answer piece [] is.j w w' going.stream is.abandons;
  read = gives_then start.left now.left after.left going.octets piece going.read gives;
  wrote = subst (Adds start.written going.answer) (sym is.silent) going.wrote;
}

pub unread : {S : Type 0} (acting : Acting S) (served : Served) (c : ℕ) (others : List (ℕ × Stream)) (before : S)
    (start now after : Ends) (sent count : ℕ) (w : World S Stream)
    → Going acting served c others before start now sent count w → Gives now.left [] after.left
    → after.written ≡ now.written
    → after.unread ≡ true → Unread (λ o a k. AnsweredStream acting served c others before o a k w) start after
unread acting served c others before start now after sent count w going same kept failed = record {
  octets = going.octets;
  answer = going.answer;
  told = going.stream;
  read = subst (λ (o : List ℕ). Gives start.left o after.left) (append-nil going.octets)
      (gives_then start.left now.left after.left going.octets [] going.read same);
  wrote = subst (Adds start.written going.answer) (sym kept) going.wrote;
  failed = failed;
}

pub unended : {S : Type 0} (acting : Acting S) (served : Served) (c : ℕ) (others : List (ℕ × Stream)) (before : S)
    (start now : Ends) (sent count reads : ℕ) (w : World S Stream)
    → Going acting served c others before start now sent count w → reads ≤ count
    → Unended (λ o a k. AnsweredStream acting served c others before o a k w) reads start now
unended acting served c others before start now sent count reads w going enough = record {
  octets = going.octets;
  answer = going.answer;
  told = going.stream;
  read = going.read;
  wrote = going.wrote;
  many = let m = going.many in omega (arith, m, enough);
}
