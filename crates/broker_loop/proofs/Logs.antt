-- Logs that grow by one event.
use Rattle.std.proofs.Common.{◌≡◌, ◌≢◌, ℕ, ◌<◌, ◌≤◌, Bool, true, false, cond, nat_eq, List, [], ◌∷◌, ◌++◌, append-nil, refl, sym, ap, subst, ◌∙◌, arith}
use Rattle.std.specs.List.{All}
use Rattle.std.proofs.lemmas.Bool.{eq-eqb, eqb-true}
use Rattle.std.proofs.lemmas.List.{flat_map_more}
use Rattle.std.proofs.lemmas.List.Elements.{All-head, All-tail}
use Rattle.broker_answers.specs.Talk.{Event, Begins, Brings, GivesUp, Ends, Keeping, Serving, Moving, World, Happens, Follows}
use Rattle.broker_loop.specs.Carried.{Log, connection_of, octets_of, if_of, brought, answered, hearing_of, hearings}

pub own_part : (c : ℕ) (e : Event) (xs : List ℕ) → connection_of e ≡ c → if_of c e xs ≡ xs
own_part c e xs is = ap (λ (b : Bool). cond b xs []) (eq-eqb c (connection_of e) (sym is))

not_equal : (c d : ℕ) (b : Bool) → nat_eq c d ≡ b → (c ≡ d → ⊥) → nat_eq c d ≡ false
not_equal c d true is differs = absurd (differs (eqb-true c d is))
not_equal c d false is differs = is

pub other_part : (c : ℕ) (e : Event) (xs : List ℕ) → connection_of e ≢ c → if_of c e xs ≡ []
other_part c e xs differs =
    ap (λ (b : Bool). cond b xs [])
    (not_equal c (connection_of e) (nat_eq c (connection_of e)) refl (λ is. differs (sym is)))

brought_more : (c : ℕ) (said : Log) (e : Event) (a : List ℕ)
    → brought c (said ++ (e, a) ∷ []) ≡ brought c said ++ if_of c e (octets_of e)
brought_more c said e a = sym (flat_map_more (λ (one : Event × List ℕ). if_of c one.0 (octets_of one.0)) [] said (e, a))

answered_more : (c : ℕ) (said : Log) (e : Event) (a : List ℕ)
    → answered c (said ++ (e, a) ∷ []) ≡ answered c said ++ if_of c e a
answered_more c said e a = sym (flat_map_more (λ (one : Event × List ℕ). if_of c one.0 one.1) [] said (e, a))

pub brought_own : (c : ℕ) (said : Log) (e : Event) (a : List ℕ) → connection_of e ≡ c
    → brought c (said ++ (e, a) ∷ []) ≡ brought c said ++ octets_of e
brought_own c said e a is = brought_more c said e a
    ∙ ap (λ (xs : List ℕ). brought c said ++ xs) (own_part c e (octets_of e) is)

pub answered_own : (c : ℕ) (said : Log) (e : Event) (a : List ℕ) → connection_of e ≡ c
    → answered c (said ++ (e, a) ∷ []) ≡ answered c said ++ a
answered_own c said e a is = answered_more c said e a ∙ ap (λ (xs : List ℕ). answered c said ++ xs) (own_part c e a is)

pub brought_other : (c : ℕ) (said : Log) (e : Event) (a : List ℕ) → connection_of e ≢ c
    → brought c (said ++ (e, a) ∷ []) ≡ brought c said
brought_other c said e a differs =
    brought_more c said e a ∙ ap (λ (xs : List ℕ). brought c said ++ xs) (other_part c e (octets_of e) differs)
    ∙ append-nil (brought c said)

pub answered_other : (c : ℕ) (said : Log) (e : Event) (a : List ℕ) → connection_of e ≢ c
    → answered c (said ++ (e, a) ∷ []) ≡ answered c said
answered_other c said e a differs =
    answered_more c said e a ∙ ap (λ (xs : List ℕ). answered c said ++ xs) (other_part c e a differs)
    ∙ append-nil (answered c said)

-- ---- what came on a connection, piece by piece

pub other_hearing : (c : ℕ) (e : Event) (a : List ℕ) → connection_of e ≢ c → hearing_of c e a ≡ []
other_hearing c (Begins d) a differs = refl
other_hearing c (Brings d octets) a differs =
    ap (λ (b : Bool). cond b ((octets, a) ∷ []) []) (not_equal c d (nat_eq c d) refl (λ is. differs (sym is)))
other_hearing c (GivesUp d octets j) a differs = refl
other_hearing c (Ends d) a differs = refl

hearings_more : (c : ℕ) (said : Log) (e : Event) (a : List ℕ)
    → hearings c (said ++ (e, a) ∷ []) ≡ hearings c said ++ hearing_of c e a
hearings_more c said e a = sym (flat_map_more (λ (one : Event × List ℕ). hearing_of c one.0 one.1) [] said (e, a))

-- an event that brings the connection nothing
pub hearings_same : (c : ℕ) (said : Log) (e : Event) (a : List ℕ) → hearing_of c e a ≡ []
    → hearings c (said ++ (e, a) ∷ []) ≡ hearings c said
hearings_same c said e a none =
    hearings_more c said e a ∙ ap (λ (xs : List (List ℕ × List ℕ)). hearings c said ++ xs) none
    ∙ append-nil (hearings c said)

pub hearings_other : (c : ℕ) (said : Log) (e : Event) (a : List ℕ) → connection_of e ≢ c
    → hearings c (said ++ (e, a) ∷ []) ≡ hearings c said
hearings_other c said e a differs = hearings_same c said e a (other_hearing c e a differs)

pub hearings_own : (c : ℕ) (said : Log) (octets a : List ℕ)
    → hearings c (said ++ (Brings c octets, a) ∷ []) ≡ hearings c said ++ (octets, a) ∷ []
hearings_own c said octets a =
    hearings_more c said (Brings c octets) a
    ∙ ap (λ (b : Bool). hearings c said ++ cond b ((octets, a) ∷ []) []) (eq-eqb c c refl)

above : (n c d : ℕ) → n ≤ c → d < n → d ≢ c
above n c d le lt e = omega (arith, le, lt, e)

-- nothing came on a connection that is above all of the log
pub brought_none : (n c : ℕ) (said : Log) → n ≤ c → All (λ one. connection_of one.0 < n) said → brought c said ≡ []
brought_none n c [] le known = refl
brought_none n c (one ∷ more) le known =
    let differs = above n c (connection_of one.0) le
    (All-head (λ (x : Event × List ℕ). connection_of x.0 < n) one more known) in
    ap (λ (xs : List ℕ). xs ++ brought c more) (other_part c one.0 (octets_of one.0) differs)
    ∙ brought_none n c more le (All-tail (λ (x : Event × List ℕ). connection_of x.0 < n) one more known)

pub answered_none : (n c : ℕ) (said : Log) → n ≤ c → All (λ one. connection_of one.0 < n) said → answered c said ≡ []
answered_none n c [] le known = refl
answered_none n c (one ∷ more) le known =
    let differs = above n c (connection_of one.0) le
    (All-head (λ (x : Event × List ℕ). connection_of x.0 < n) one more known) in
    ap (λ (xs : List ℕ). xs ++ answered c more) (other_part c one.0 one.1 differs)
    ∙ answered_none n c more le (All-tail (λ (x : Event × List ℕ). connection_of x.0 < n) one more known)

pub hearings_none : (n c : ℕ) (said : Log) → n ≤ c → All (λ one. connection_of one.0 < n) said → hearings c said ≡ []
hearings_none n c [] le known = refl
hearings_none n c (one ∷ more) le known =
    let differs = above n c (connection_of one.0) le
    (All-head (λ (x : Event × List ℕ). connection_of x.0 < n) one more known) in
    ap (λ (xs : List (List ℕ × List ℕ)). xs ++ hearings c more) (other_hearing c one.0 one.1 differs)
    ∙ hearings_none n c more le (All-tail (λ (x : Event × List ℕ). connection_of x.0 < n) one more known)

pub follows_more : {S C : Type 0} (keeping : Keeping C) (Serves : Serving S) (Moves : Moving S) (w : World S C)
    (said : Log)
    (now : World S C) (e : Event) (a : List ℕ) (then : World S C) → Follows keeping Serves Moves w said now
    → Happens keeping Serves Moves now e a then → Follows keeping Serves Moves w (said ++ (e, a) ∷ []) then
follows_more {S} {C} keeping Serves Moves w [] now e a then f h =
    (then, subst (λ (v : World S C). Happens keeping Serves Moves v e a then) f h, refl)
follows_more keeping Serves Moves w (one ∷ more) now e a then f h =
    (f.0, f.1, follows_more keeping Serves Moves f.0 more now e a then f.2 h)
