-- What is kept of connections may be more or less: the talk is the same.
use Rattle.std.proofs.Common.{◌≡◌, ℕ, suc, ◌≤◌, Bool, true, false, cond, nat_eq, List, [], ◌∷◌, ◌++◌, length, take, drop, refl, sym, ap, subst, ◌∙◌, arith}
use Rattle.std.proofs.Common.{Some, None}
use Rattle.std.proofs.Math.Seq.{drop-append_seam}
use Rattle.std.proofs.lemmas.List.{length-append}
use Rattle.broker_answers.specs.Streams.{Stream, Closed, cut, cut_behind}
use Rattle.broker_answers.specs.Connections.{at, put, without}
use Rattle.broker_answers.specs.Talk.{Event, Begins, Brings, GivesUp, Ends, Keeping, rests, History, Since, Shut, own, histories, Serving, Moving, World, world, Opens, kept_or_shut, Answers, Abandons, Leaves, Happens, Follows, Says}
use Rattle.broker_answers.proofs.Cuts.{in_pieces}

-- two ways to keep connections that tell the same messages
pub record Alike {C D : Type 0} (one : Keeping C) (other : Keeping D) (Same : C → D → Type 0) : Type 0 where
  pub fresh : Same one.fresh other.fresh
  pub shut : Same one.shut other.shut
  pub raws : (c : C) (d : D) (octets : List ℕ) → Same c d → (one.heard c octets).raws ≡ (other.heard d octets).raws
  pub kept : (c : C) (d : D) (octets : List ℕ) → Same c d → Same (one.heard c octets).kept (other.heard d octets).kept

-- the same connections, of which the same is kept
abbrev pub AreSame : {C D : Type 0} → (C → D → Type 0) → List (ℕ × C) → List (ℕ × D) → Type 0
AreSame Same [] [] = Unit {0}
AreSame Same [] (d ∷ ds) = ⊥
AreSame Same (c ∷ cs) [] = ⊥
AreSame Same (c ∷ cs) (d ∷ ds) = (c.0 ≡ d.0) × Same c.1 d.1 × AreSame Same cs ds

some_is : {A : Type 0} (a b : A) → Some a ≡ Some b → a ≡ b
some_is a b e = cc

none_isnt : {A : Type 0} (a : A) → None ≡ Some a → ⊥
none_isnt a e = absurd (cc)

none_here : {C D : Type 0} (Same : C → D → Type 0) (c : ℕ) (x : ℕ × C) (xs : List (ℕ × C)) (y : ℕ × D)
    (ys : List (ℕ × D))
    → x.0 ≡ y.0 → at c (x ∷ xs) ≡ None → (at c xs ≡ None → at c ys ≡ None) → (b : Bool) → nat_eq c x.0 ≡ b
    → at c (y ∷ ys) ≡ None
none_here Same c x xs y ys number e further true t =
    absurd (none_isnt x.1 (sym e ∙ ap (λ b. cond b (Some x.1) (at c xs)) t))
none_here Same c x xs y ys number e further false t =
    ap (λ b. cond b (Some y.1) (at c ys)) (sym (ap (nat_eq c) number) ∙ t)
    ∙ further (sym (ap (λ b. cond b (Some x.1) (at c xs)) t) ∙ e)

at_none : {C D : Type 0} (Same : C → D → Type 0) (c : ℕ) (xs : List (ℕ × C)) (ys : List (ℕ × D)) → AreSame Same xs ys
    → at c xs ≡ None → at c ys ≡ None
at_none Same c [] [] same e = refl
at_none Same c [] (y ∷ ys) same e = absurd same
at_none Same c (x ∷ xs) [] same e = absurd same
at_none Same c (x ∷ xs) (y ∷ ys) same e =
    none_here Same c x xs y ys same.0 e (at_none Same c xs ys same.2) (nat_eq c x.0) refl

abbrev IsAt : {C D : Type 0} → (C → D → Type 0) → ℕ → List (ℕ × D) → C → Type 0
IsAt {C} {D} Same c ys k = (l : D) × (at c ys ≡ Some l) × Same k l

some_here : {C D : Type 0} (Same : C → D → Type 0) (c : ℕ) (x : ℕ × C) (xs : List (ℕ × C)) (y : ℕ × D)
    (ys : List (ℕ × D))
    (k : C) → x.0 ≡ y.0 → Same x.1 y.1 → at c (x ∷ xs) ≡ Some k → (at c xs ≡ Some k → IsAt Same c ys k) → (b : Bool)
    → nat_eq c x.0 ≡ b → IsAt Same c (y ∷ ys) k
some_here Same c x xs y ys k number same e further true t = (
  y.1,
  ap (λ b. cond b (Some y.1) (at c ys)) (sym (ap (nat_eq c) number) ∙ t),
  subst (λ v. Same v y.1) (some_is x.1 k (sym (ap (λ b. cond b (Some x.1) (at c xs)) t) ∙ e)) same,
)
some_here Same c x xs y ys k number same e further false t =
    let r = further (sym (ap (λ b. cond b (Some x.1) (at c xs)) t) ∙ e) in
    (r.0, ap (λ b. cond b (Some y.1) (at c ys)) (sym (ap (nat_eq c) number) ∙ t) ∙ r.1, r.2)

at_some : {C D : Type 0} (Same : C → D → Type 0) (c : ℕ) (xs : List (ℕ × C)) (ys : List (ℕ × D)) (k : C)
    → AreSame Same xs ys → at c xs ≡ Some k → IsAt Same c ys k
at_some Same c [] [] k same e = absurd (none_isnt k e)
at_some Same c [] (y ∷ ys) k same e = absurd same
at_some Same c (x ∷ xs) [] k same e = absurd same
at_some Same c (x ∷ xs) (y ∷ ys) k same e =
    some_here Same c x xs y ys k same.0 same.1 e (at_some Same c xs ys k same.2) (nat_eq c x.0) refl

same_cond : {C D : Type 0} (Same : C → D → Type 0) (b : Bool) (p q : List (ℕ × C)) (r s : List (ℕ × D))
    → AreSame Same p r → AreSame Same q s → AreSame Same (cond b p q) (cond b r s)
same_cond Same true p q r s one other = one
same_cond Same false p q r s one other = other

put_same : {C D : Type 0} (Same : C → D → Type 0) (c : ℕ) (k : C) (l : D) (xs : List (ℕ × C)) (ys : List (ℕ × D))
    → AreSame Same xs ys → Same k l → AreSame Same (put c k xs) (put c l ys)
put_same Same c k l [] [] same now = tt
put_same Same c k l [] (y ∷ ys) same now = absurd same
put_same Same c k l (x ∷ xs) [] same now = absurd same
put_same Same c k l (x ∷ xs) (y ∷ ys) same now =
    subst (λ n. AreSame Same (put c k (x ∷ xs)) (cond (nat_eq c n) ((c, l) ∷ ys) (y ∷ put c l ys))) same.0
    (same_cond Same (nat_eq c x.0) ((c, k) ∷ xs) (x ∷ put c k xs) ((c, l) ∷ ys) (y ∷ put c l ys)
    (refl, now, same.2) (same.0, same.1, put_same Same c k l xs ys same.2 now))

without_same : {C D : Type 0} (Same : C → D → Type 0) (c : ℕ) (xs : List (ℕ × C)) (ys : List (ℕ × D))
    → AreSame Same xs ys → AreSame Same (without c xs) (without c ys)
without_same Same c [] [] same = tt
without_same Same c [] (y ∷ ys) same = absurd same
without_same Same c (x ∷ xs) [] same = absurd same
without_same Same c (x ∷ xs) (y ∷ ys) same =
    subst (λ n. AreSame Same (without c (x ∷ xs)) (cond (nat_eq c n) ys (y ∷ without c ys))) same.0
    (same_cond Same (nat_eq c x.0) xs (x ∷ without c xs) ys (y ∷ without c ys) same.2
    (same.0, same.1, without_same Same c xs ys same.2))

one_more : {C D : Type 0} (Same : C → D → Type 0) (c : ℕ) (k : C) (l : D) (xs : List (ℕ × C)) (ys : List (ℕ × D))
    → AreSame Same xs ys → Same k l → AreSame Same (xs ++ (c, k) ∷ []) (ys ++ (c, l) ∷ [])
one_more Same c k l [] [] same now = (refl, now, tt)
one_more Same c k l [] (y ∷ ys) same now = absurd same
one_more Same c k l (x ∷ xs) [] same now = absurd same
one_more Same c k l (x ∷ xs) (y ∷ ys) same now = (same.0, same.1, one_more Same c k l xs ys same.2 now)

length_same : {C D : Type 0} (Same : C → D → Type 0) (xs : List (ℕ × C)) (ys : List (ℕ × D)) → AreSame Same xs ys
    → length xs ≡ length ys
length_same Same [] [] same = refl
length_same Same [] (y ∷ ys) same = absurd same
length_same Same (x ∷ xs) [] same = absurd same
length_same Same (x ∷ xs) (y ∷ ys) same = ap suc (length_same Same xs ys same.2)

-- ---- one event

pub record Matches {S C D : Type 0} (Same : C → D → Type 0) (w : World S C) (v : World S D) : Type 0 where
  pub servant : w.servant ≡ v.servant
  pub there : AreSame Same w.there v.there

-- what happens to a world happens to one that matches it, and leads to one that does
abbrev IsMatched : {S C D : Type 0} → (C → D → Type 0) → Keeping D → Serving S → Moving S → World S D → Event → List ℕ
    → World S C → Type 0
IsMatched {S} {C} {D} Same other Serves Moves v event answer w =
    (after : World S D) × Happens other Serves Moves v event answer after × Matches Same w after

opens_same : {S C D : Type 0} (one : Keeping C) (other : Keeping D) (Same : C → D → Type 0) → Alike one other Same
    → (Serves : Serving S) (Moves : Moving S) (w : World S C) (v : World S D) (c : ℕ) (answer : List ℕ)
    (after : World S C)
    → Matches Same w v → Opens one w c answer after → IsMatched Same other Serves Moves v (Begins c) answer after
opens_same one other Same alike Serves Moves w v c answer after m h = (
  world v.servant (v.there ++ (c, other.fresh) ∷ []),
  record {
    absent = at_none Same c w.there v.there m.there h.absent;
    room = omega (arith, length_same Same w.there v.there m.there, h.room);
    silent = h.silent;
    now = refl;
  },
  record {
    servant = ap (λ x. x.servant) h.now ∙ m.servant;
    there = subst (λ x. AreSame Same x (v.there ++ (c, other.fresh) ∷ [])) (sym (ap (λ x. x.there) h.now))
        (one_more Same c one.fresh other.fresh w.there v.there m.there alike.fresh);
  },
)

kept_same : {C D : Type 0} (one : Keeping C) (other : Keeping D) (Same : C → D → Type 0) → Alike one other Same
    → (closes : Bool) (k : C) (l : D) → Same k l → Same (kept_or_shut one closes k) (kept_or_shut other closes l)
kept_same one other Same alike true k l same = alike.shut
kept_same one other Same alike false k l same = same

answers_same : {S C D : Type 0} (one : Keeping C) (other : Keeping D) (Same : C → D → Type 0) → Alike one other Same
    → (Serves : Serving S) (Moves : Moving S) (w : World S C) (v : World S D) (c : ℕ) (octets answer : List ℕ)
    (after : World S C)
    → Matches Same w v → Answers one Serves w c octets answer after
    → IsMatched Same other Serves Moves v (Brings c octets) answer after
answers_same one other Same alike Serves Moves w v c octets answer after m h =
    let l = at_some Same c w.there v.there h.kept m.there h.there in
    let raws = alike.raws h.kept l.0 octets l.2 in
    let kept = kept_same one other Same alike h.closes (one.heard h.kept octets).kept (other.heard l.0 octets).kept
    (alike.kept h.kept l.0 octets l.2) in (
      world h.servant (put c (kept_or_shut other h.closes (other.heard l.0 octets).kept) v.there),
      record {
        kept = l.0;
        there = l.1;
        closes = h.closes;
        servant = h.servant;
        served = subst (λ s. Serves (other.heard l.0 octets).raws s answer h.closes h.servant) m.servant
            (subst (λ r. Serves r w.servant answer h.closes h.servant) raws h.served);
        now = refl;
      },
      record {
        servant = ap (λ x. x.servant) h.now;
        there = subst
            (λ x. AreSame Same x (put c (kept_or_shut other h.closes (other.heard l.0 octets).kept) v.there))
            (sym (ap (λ x. x.there) h.now))
            (put_same Same c (kept_or_shut one h.closes (one.heard h.kept octets).kept)
            (kept_or_shut other h.closes (other.heard l.0 octets).kept) w.there v.there m.there kept);
      },
    )

abandons_same : {S C D : Type 0} (one : Keeping C) (other : Keeping D) (Same : C → D → Type 0) → Alike one other Same
    → (Serves : Serving S) (Moves : Moving S) (w : World S C) (v : World S D) (c : ℕ) (octets : List ℕ) (j : ℕ)
    (answer : List ℕ)
    (after : World S C) → Matches Same w v → Abandons one Moves w c octets j answer after
    → IsMatched Same other Serves Moves v (GivesUp c octets j) answer after
abandons_same one other Same alike Serves Moves w v c octets j answer after m h =
    let l = at_some Same c w.there v.there h.kept m.there h.there in
    let raws = alike.raws h.kept l.0 octets l.2 in (
      world h.servant (put c other.shut v.there),
      record {
        kept = l.0;
        there = l.1;
        servant = h.servant;
        moved = subst (λ s. Moves (take j (other.heard l.0 octets).raws) s h.servant) m.servant
            (subst (λ r. Moves (take j r) w.servant h.servant) raws h.moved);
        silent = h.silent;
        now = refl;
      },
      record {
        servant = ap (λ x. x.servant) h.now;
        there = subst (λ x. AreSame Same x (put c other.shut v.there)) (sym (ap (λ x. x.there) h.now))
            (put_same Same c one.shut other.shut w.there v.there m.there alike.shut);
      },
    )

leaves_same : {S C D : Type 0} (other : Keeping D) (Same : C → D → Type 0)
    → (Serves : Serving S) (Moves : Moving S) (w : World S C) (v : World S D) (c : ℕ) (answer : List ℕ)
    (after : World S C)
    → Matches Same w v → Leaves w c answer after → IsMatched Same other Serves Moves v (Ends c) answer after
leaves_same other Same Serves Moves w v c answer after m h =
    let l = at_some Same c w.there v.there h.kept m.there h.there in (
      world v.servant (without c v.there),
      record { kept = l.0; there = l.1; silent = h.silent; now = refl },
      record {
        servant = ap (λ x. x.servant) h.now ∙ m.servant;
        there = subst (λ x. AreSame Same x (without c v.there)) (sym (ap (λ x. x.there) h.now))
            (without_same Same c w.there v.there m.there);
      },
    )

happens_same : {S C D : Type 0} (one : Keeping C) (other : Keeping D) (Same : C → D → Type 0) → Alike one other Same
    → (Serves : Serving S) (Moves : Moving S) (w : World S C) (v : World S D) (event : Event) (answer : List ℕ)
    (after : World S C) → Matches Same w v → Happens one Serves Moves w event answer after
    → IsMatched Same other Serves Moves v event answer after
happens_same one other Same alike Serves Moves w v (Begins c) answer after m h =
    opens_same one other Same alike Serves Moves w v c answer after m h
happens_same one other Same alike Serves Moves w v (Brings c octets) answer after m h =
    answers_same one other Same alike Serves Moves w v c octets answer after m h
happens_same one other Same alike Serves Moves w v (GivesUp c octets j) answer after m h =
    abandons_same one other Same alike Serves Moves w v c octets j answer after m h
happens_same one other Same alike Serves Moves w v (Ends c) answer after m h =
    leaves_same other Same Serves Moves w v c answer after m h

-- ---- all events

pub follows_same : {S C D : Type 0} (one : Keeping C) (other : Keeping D) (Same : C → D → Type 0) → Alike one other Same
    → (Serves : Serving S) (Moves : Moving S) (said : List (Event × List ℕ)) (w : World S C) (v : World S D)
    (after : World S C) → Matches Same w v → Follows one Serves Moves w said after
    → (end' : World S D) × Follows other Serves Moves v said end' × Matches Same after end'
follows_same one other Same alike Serves Moves [] w v after m e =
    (v, refl, subst (λ x. Matches Same x v) (sym e) m)
follows_same one other Same alike Serves Moves (first ∷ more) w v after m h =
    let next = happens_same one other Same alike Serves Moves w v first.0 first.1 h.0 m h.1 in
    let rest = follows_same one other Same alike Serves Moves more h.0 next.0 after next.2 h.2 in
    (rest.0, (next.0, next.1, rest.1), rest.2)

pub says_same : {S C D : Type 0} (one : Keeping C) (other : Keeping D) (Same : C → D → Type 0) → Alike one other Same
    → (Serves : Serving S) (Moves : Moving S) (servant : S) (said : List (Event × List ℕ)) (servant' : S)
    → Says one Serves Moves servant said servant' → Says other Serves Moves servant said servant'
says_same one other Same alike Serves Moves servant said servant' h =
    let r = follows_same one other Same alike Serves Moves said (world servant []) (world servant [])
    (world servant' h.0) (record { servant = refl; there = tt }) h.1 in (
      r.0.there,
      subst (λ s. Follows other Serves Moves (world servant []) said (world s r.0.there)) (sym r.2.servant) r.1,
    )

-- ---- histories and rests

-- what is left of the history, or nothing
abbrev pub IsLeft : History → Stream → Type 0
IsLeft (Since so) stream = stream ≡ (cut None so).left
IsLeft Shut stream = stream ≡ Closed

own_raws : (h : History) (stream : Stream) (octets : List ℕ) → IsLeft h stream
    → (own h octets).raws ≡ (cut_behind stream octets).raws
own_raws (Since so) stream octets e =
    let first = (cut None so).raws in
    let behind = (cut_behind (cut None so).left octets).raws in
    ap (λ c. drop (length first) c.raws) (in_pieces None so octets) ∙ drop-append_seam first behind
    ∙ ap (λ s. (cut_behind s octets).raws) (sym e)
own_raws Shut stream octets e = ap (λ s. (cut_behind s octets).raws) (sym e)

own_left : (h : History) (stream : Stream) (octets : List ℕ) → IsLeft h stream
    → IsLeft (own h octets).kept (cut_behind stream octets).left
own_left (Since so) stream octets e =
    ap (λ s. (cut_behind s octets).left) e ∙ sym (ap (λ c. c.left) (in_pieces None so octets))
own_left Shut stream octets e = ap (λ s. (cut_behind s octets).left) e

pub histories_alike : Alike histories rests IsLeft
histories_alike = record { fresh = refl; shut = refl; raws = own_raws; kept = own_left }

pub rests_alike : Alike rests histories (λ stream h. IsLeft h stream)
rests_alike = record {
  fresh = refl;
  shut = refl;
  raws = λ stream h octets e. sym (own_raws h stream octets e);
  kept = λ stream h octets e. own_left h stream octets e;
}

-- ---- how many connections there are

put_length : {C : Type 0} (c : ℕ) (k : C) (xs : List (ℕ × C)) → length (put c k xs) ≡ length xs
put_length c k [] = refl
put_length c k (x ∷ xs) = by (nat_eq c x.0) (put_length c k xs) where
  by : (b : Bool) → length (put c k xs) ≡ length xs → length (cond b ((c, k) ∷ xs) (x ∷ put c k xs)) ≡ suc (length xs)
  by true e = refl
  by false e = ap suc e

without_length : {C : Type 0} (c : ℕ) (xs : List (ℕ × C)) → length (without c xs) ≤ length xs
without_length c [] = omega arith
without_length c (x ∷ xs) = by (nat_eq c x.0) (without_length c xs) where
  by : (b : Bool) → length (without c xs) ≤ length xs → length (cond b xs (x ∷ without c xs)) ≤ suc (length xs)
  by true e = omega arith
  by false e = omega (arith, e)

happens_few : {S C : Type 0} (keeping : Keeping C) (Serves : Serving S) (Moves : Moving S) (w : World S C)
    (event : Event)
    (answer : List ℕ) (after : World S C) → Happens keeping Serves Moves w event answer after → length w.there ≤ 64
    → length after.there ≤ 64
happens_few keeping Serves Moves w (Begins c) answer after h few =
    subst (λ (n : ℕ). n ≤ 64) (sym (ap (λ x. length x.there) h.now))
    (omega (arith, h.room, length-append w.there ((c, keeping.fresh) ∷ [])))
happens_few keeping Serves Moves w (Brings c octets) answer after h few =
    subst (λ (n : ℕ). n ≤ 64)
    (sym (ap (λ x. length x.there) h.now
    ∙ put_length c (kept_or_shut keeping h.closes (keeping.heard h.kept octets).kept) w.there)) few
happens_few keeping Serves Moves w (GivesUp c octets j) answer after h few =
    subst (λ (n : ℕ). n ≤ 64) (sym (ap (λ x. length x.there) h.now ∙ put_length c keeping.shut w.there)) few
happens_few keeping Serves Moves w (Ends c) answer after h few =
    subst (λ (n : ℕ). n ≤ 64) (sym (ap (λ x. length x.there) h.now)) (omega (arith, few, without_length c w.there))

pub follows_few : {S C : Type 0} (keeping : Keeping C) (Serves : Serving S) (Moves : Moving S)
    (said : List (Event × List ℕ)) (w after : World S C) → Follows keeping Serves Moves w said after
    → length w.there ≤ 64 → length after.there ≤ 64
follows_few keeping Serves Moves [] w after e few = subst (λ x. length x.there ≤ 64) (sym e) few
follows_few keeping Serves Moves (first ∷ more) w after h few =
    follows_few keeping Serves Moves more h.0 after h.2 (happens_few keeping Serves Moves w first.0 first.1 h.0 h.1 few)
