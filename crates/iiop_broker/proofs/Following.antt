-- Messages served one after another.
use Rattle.std.proofs.Common.{◌≡◌, ℕ, zero, suc, ◌+◌, drop, true, false, List, [], ◌∷◌, ◌++◌, Option, refl, sym, ap, subst, ◌∙◌, append_assoc, append-nil, Result, Ok, Err, OnErr, arith}
use Rattle.broker_answers.specs.Streams.{Raw, Cut, Open, cut_of}
use Rattle.broker_answers.specs.Servants.{Acting}
use Rattle.broker_answers.specs.Objects.{Served}
use Rattle.broker_answers.specs.Serving.{Serves}
use Rattle.broker_answers.proofs.ServedLists.{serves_then, serves_closed, moves_then, moved_of}
use Rattle.iiop_broker.specs.declared.kept.Kept.{Kept}
use Rattle.iiop_broker.specs.declared.kept.Kept.TheVariants as kepts
use Rattle.iiop_broker.specs.Kept.{stream_of}
use Rattle.iiop_broker.specs.inner.Progress.{Progress, Ended, IsHeard, Stopped, behind}

pub progress_then : {S : Type 0} (acting : Acting S) (served : Served) (all mid left : Cut) (before between after : S)
    (answer more : List ℕ) → Progress acting served all mid before answer between
    → Progress acting served mid left between more after → Progress acting served all left before (answer ++ more) after
progress_then acting served all mid left before between after answer more p q = record {
  done = p.done ++ q.done;
  cut_is = p.cut_is
      ∙ ap (behind p.done) q.cut_is
      ∙ ap (λ (raws : List Raw). cut_of raws left.left) (sym (append_assoc p.done q.done left.raws));
  serves = serves_then acting served p.done q.done before between after answer more false p.serves q.serves;
}

pub ended_then : {S : Type 0} (acting : Acting S) (served : Served) (all mid : Cut) (before between after : S)
    (answer more : List ℕ) → Progress acting served all mid before answer between
    → Ended acting served mid.raws between more after → Ended acting served all.raws before (answer ++ more) after
ended_then acting served all mid before between after answer more p q = record {
  done = p.done ++ q.done;
  left = q.left;
  raws_are = ap (λ (c : Cut). c.raws) p.cut_is
      ∙ ap (λ (raws : List Raw). p.done ++ raws) q.raws_are
      ∙ sym (append_assoc p.done q.done q.left);
  serves = serves_then acting served p.done q.done before between after answer more true p.serves q.serves;
}

pub stopped_then : {S : Type 0} (acting : Acting S) (served : Served) (all mid : Cut) (before between after : S)
    (answer : List ℕ) → Progress acting served all mid before answer between
    → Stopped acting served mid.raws between after → Stopped acting served all.raws before after
stopped_then acting served all mid before between after answer p q = record {
  done = p.done ++ q.done;
  left = q.left;
  raws_are = ap (λ (c : Cut). c.raws) p.cut_is
      ∙ ap (λ (raws : List Raw). p.done ++ raws) q.raws_are
      ∙ sym (append_assoc p.done q.done q.left);
  moves = moves_then acting served p.done q.done before between after answer p.serves q.moves;
}

pub stopped_here : {S : Type 0} (acting : Acting S) (served : Served) (all left : Cut) (before after : S)
    (answer : List ℕ) → Progress acting served all left before answer after
    → Stopped acting served all.raws before after
stopped_here acting served all left before after answer p = record {
  done = p.done;
  left = left.raws;
  raws_are = ap (λ (c : Cut). c.raws) p.cut_is;
  moves = moved_of acting served p.done before after answer false p.serves;
}

pub stopped_ended : {S : Type 0} (acting : Acting S) (served : Served) (all : List Raw) (before after : S)
    (answer : List ℕ) → Ended acting served all before answer after → Stopped acting served all before after
stopped_ended acting served all before after answer p = record {
  done = p.done;
  left = p.left;
  raws_are = p.raws_are;
  moves = moved_of acting served p.done before after answer true p.serves;
}

-- all of them
pub all_served : {S : Type 0} (acting : Acting S) (served : Served) (all : Cut) (left : Cut) (before after : S)
    (answer : List ℕ) → left.raws ≡ [] → Progress acting served all left before answer after
    → Serves acting served all.raws before answer false after
all_served acting served all left before after answer none p =
    subst (λ (raws : List Raw). Serves acting served raws before answer false after)
    (sym (ap (λ (c : Cut). c.raws) p.cut_is ∙ ap (λ (raws : List Raw). p.done ++ raws) none ∙ append-nil p.done))
    p.serves

pub all_ended : {S : Type 0} (acting : Acting S) (served : Served) (all : List Raw) (before after : S)
    (answer : List ℕ) → Ended acting served all before answer after → Serves acting served all before answer true after
all_ended acting served all before after answer p =
    subst (λ (raws : List Raw). Serves acting served raws before answer true after) (sym p.raws_are)
    (serves_closed acting served p.done p.left before after answer p.serves)

-- what is behind them is kept
pub heard_open : {S : Type 0} (acting : Acting S) (served : Served) (all : Cut) (run : Option (List ℕ)) (rest : List ℕ)
    (before after : S) (answer : List ℕ) (kept : Kept)
    → Progress acting served all (cut_of [] (Open run rest)) before answer after → stream_of kept ≡ Open run rest
    → IsHeard acting served all before answer kept after
heard_open acting served all run rest before after answer kept p is = record {
  closed = false;
  serves = all_served acting served all (cut_of [] (Open run rest)) before after answer refl p;
  kept_is = is ∙ sym (ap (λ (c : Cut). c.left) p.cut_is);
}

pub heard_closed : {S : Type 0} (acting : Acting S) (served : Served) (all : Cut) (before after : S) (answer : List ℕ)
    → Ended acting served all.raws before answer after → IsHeard acting served all before answer kepts.Closed after
heard_closed acting served all before after answer p = record {
  closed = true;
  serves = all_ended acting served all.raws before after answer p;
  kept_is = refl;
}

pub on_err : {A E : Type 0} (r : Result A E) (P : Type 0) → P → OnErr r P
on_err (Ok a) P p = tt
on_err (Err e) P p = p

drop_nil : (m : ℕ) → drop {A = ℕ} m [] ≡ []
drop_nil zero = refl
drop_nil (suc m) = refl

pub dropped : (n m : ℕ) (xs : List ℕ) → drop m (drop n xs) ≡ drop (n + m) xs
dropped zero m xs = let e : m ≡ 0 + m = omega arith in ap (λ (k : ℕ). drop k xs) e
dropped (suc n) m [] = drop_nil m ∙ sym (drop_nil (suc n + m))
dropped (suc n) m (x ∷ xs) =
    let e : suc (n + m) ≡ suc n + m = omega arith in dropped n m xs ∙ ap (λ (k : ℕ). drop k (x ∷ xs)) e
