-- One piece more.
use Rattle.std.proofs.Common.{◌≡◌, ℕ, Bool, false, List, [], ◌∷◌, ◌++◌, take, Some, None, refl, sym, ap, subst, ◌∙◌, append-nil}
use Rattle.broker_answers.specs.Streams.{Raw, Cut, Stream, Closed, cut, cut_behind}
use Rattle.broker_answers.specs.Connections.{at, put, without}
use Rattle.broker_answers.specs.Talk.{World, rests, kept_or_shut, Opens, Answers, Abandons, Leaves}
use Rattle.broker_answers.proofs.Cuts.{in_pieces}
use Rattle.broker_answers.specs.Servants.{Acting}
use Rattle.broker_answers.specs.Objects.{Served}
use Rattle.broker_answers.specs.Serving.{Moves, Serves}
use Rattle.broker_answers.proofs.ServedLists.{serves_then}
use Rattle.iiop_broker.proofs.Places.{at_split, put_split, without_split}
use Rattle.iiop_broker.specs.AnsweredStreams.{AnsweredStream, GivenUp, Talked, TalkedInPart}

same_kept : (a b : Stream) → Some a ≡ Some b → a ≡ b
same_kept a b e = cc

pub begun : {S : Type 0} (acting : Acting S) (served : Served) (c : ℕ) (before after : World S Stream) (answer : List ℕ)
    → Opens rests before c answer after → AnsweredStream acting served c before.there before.servant [] [] false after
begun acting served c before after answer o = record {
  absent = o.absent;
  serves = (refl, refl, ap (λ w. w.servant) o.now);
  there = ap (λ w. w.there) o.now;
}

-- what is kept of the connection
kept_is : {S : Type 0} (acting : Acting S) (served : Served) (c : ℕ) (others : List (ℕ × Stream)) (before : S)
    (octets answer : List ℕ) (closes : Bool) (now : World S Stream) (kept : Stream)
    → AnsweredStream acting served c others before octets answer closes now → at c now.there ≡ Some kept
    → kept ≡ kept_or_shut rests closes (cut None octets).left
kept_is acting served c others before octets answer closes now kept stream there =
    same_kept kept (kept_or_shut rests closes (cut None octets).left)
    (sym there
    ∙ ap (at c) stream.there
    ∙ at_split c others (kept_or_shut rests closes (cut None octets).left) [] stream.absent)

pub is_kept : {S : Type 0} (acting : Acting S) (served : Served) (c : ℕ) (others : List (ℕ × Stream)) (before : S)
    (octets answer : List ℕ) (closes : Bool) (now : World S Stream)
    → AnsweredStream acting served c others before octets answer closes now
    → at c now.there ≡ Some (kept_or_shut rests closes (cut None octets).left)
is_kept acting served c others before octets answer closes now stream =
    ap (at c) stream.there ∙ at_split c others (kept_or_shut rests closes (cut None octets).left) [] stream.absent

put_there : {S : Type 0} (acting : Acting S) (served : Served) (c : ℕ) (others : List (ℕ × Stream)) (before : S)
    (octets answer : List ℕ) (closes : Bool) (now : World S Stream) (other : Stream)
    → AnsweredStream acting served c others before octets answer closes now
    → put c other now.there ≡ others ++ (c, other) ∷ []
put_there acting served c others before octets answer closes now other stream =
    ap (put c other) stream.there
    ∙ put_split c others (kept_or_shut rests closes (cut None octets).left) other [] stream.absent

pub stream_on : {S : Type 0} (acting : Acting S) (served : Served) (c : ℕ) (others : List (ℕ × Stream)) (before : S)
    (octets answer piece more : List ℕ) (now after : World S Stream)
    → AnsweredStream acting served c others before octets answer false now
    → (a : Answers rests (Serves acting served) now c piece more after)
    → AnsweredStream acting served c others before (octets ++ piece) (answer ++ more) a.closes after
stream_on {S} acting served c others before octets answer piece more now after stream a =
    let left = (cut None octets).left in
    let kept : a.kept ≡ left = kept_is acting served c others before octets answer false now a.kept stream a.there in
    let whole = in_pieces None octets piece in
    let second : Serves acting served (cut_behind left piece).raws now.servant more a.closes a.servant =
    subst (λ (k : Stream). Serves acting served (cut_behind k piece).raws now.servant more a.closes a.servant) kept
    a.served in
    let both = serves_then acting served (cut None octets).raws (cut_behind left piece).raws before now.servant
    a.servant answer
    more a.closes stream.serves second in
    record {
      absent = stream.absent;
      serves = subst (λ (s : S). Serves acting served (cut None (octets ++ piece)).raws before (answer ++ more) a.closes
          s)
          (sym (ap (λ (w : World S Stream). w.servant) a.now))
          (subst (λ (raws : List Raw). Serves acting served raws before (answer ++ more) a.closes a.servant)
          (sym (ap (λ (k : Cut). k.raws) whole)) both);
      there = ap (λ (w : World S Stream). w.there) a.now
          ∙ put_there acting served c others before octets answer false now
          (kept_or_shut rests a.closes (rests.heard a.kept piece).kept) stream
          ∙ ap (λ (k : Stream). others ++ (c, kept_or_shut rests a.closes (rests.heard k piece).kept) ∷ []) kept
          ∙ ap (λ (k : Cut). others ++ (c, kept_or_shut rests a.closes k.left) ∷ []) (sym whole);
    }

pub given_up : {S : Type 0} (acting : Acting S) (served : Served) (c : ℕ) (others : List (ℕ × Stream)) (before : S)
    (octets answer piece silence : List ℕ) (j : ℕ) (now after : World S Stream)
    → AnsweredStream acting served c others before octets answer false now
    → Abandons rests (Moves acting served) now c piece j silence after
    → GivenUp acting served c others before octets answer piece after
given_up {S} acting served c others before octets answer piece silence j now after stream a =
    let left = (cut None octets).left in
    let kept : a.kept ≡ left = kept_is acting served c others before octets answer false now a.kept stream a.there in
    record {
      absent = stream.absent;
      between = now.servant;
      serves = stream.serves;
      j = j;
      moves = subst (λ (s : S). Moves acting served (take j (rests.heard left piece).raws) now.servant s)
          (sym (ap (λ (w : World S Stream). w.servant) a.now))
          (subst (λ (k : Stream). Moves acting served (take j (rests.heard k piece).raws) now.servant a.servant) kept
          a.moved);
      there = ap (λ (w : World S Stream). w.there) a.now
          ∙ put_there acting served c others before octets answer false now Closed stream;
    }

-- the end
pub left_there : {S : Type 0} (c : ℕ) (others : List (ℕ × Stream)) (kept : Stream) (now after : World S Stream)
    (answer : List ℕ) → at c others ≡ None → now.there ≡ others ++ (c, kept) ∷ [] → Leaves now c answer after
    → after.there ≡ others
left_there {S} c others kept now after answer absent there l =
    ap (λ (w : World S Stream). w.there) l.now
    ∙ ap (without c) there
    ∙ without_split c others kept [] absent
    ∙ append-nil others

pub left_servant : {S : Type 0} (c : ℕ) (now after : World S Stream) (answer : List ℕ) → Leaves now c answer after
    → after.servant ≡ now.servant
left_servant {S} c now after answer l = ap (λ (w : World S Stream). w.servant) l.now

pub talked : {S : Type 0} (acting : Acting S) (served : Served) (c : ℕ) (before now after : World S Stream)
    (octets answer silence : List ℕ) (closes : Bool)
    → AnsweredStream acting served c before.there before.servant octets answer closes now → Leaves now c silence after
    → Talked acting served before octets answer closes after
talked {S} acting served c before now after octets answer silence closes stream l = record {
  serves = subst (λ (s : S). Serves acting served (cut None octets).raws before.servant answer closes s)
      (sym (left_servant c now after silence l)) stream.serves;
  there = left_there c before.there (kept_or_shut rests closes (cut None octets).left) now after silence stream.absent
      stream.there l;
}

pub talked_in_part : {S : Type 0} (acting : Acting S) (served : Served) (c : ℕ) (before now after : World S Stream)
    (octets answer more silence : List ℕ) → GivenUp acting served c before.there before.servant octets answer more now
    → Leaves now c silence after → TalkedInPart acting served before octets answer more after
talked_in_part {S} acting served c before now after octets answer more silence g l = record {
  between = g.between;
  serves = g.serves;
  j = g.j;
  moves = subst (λ (s : S). Moves acting served (take g.j (rests.heard (cut None octets).left more).raws) g.between s)
      (sym (left_servant c now after silence l)) g.moves;
  there = left_there c before.there Closed now after silence g.absent g.there l;
}
