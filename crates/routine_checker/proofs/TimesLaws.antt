-- A routine that is done many times: how its starts and ends recur.
use Rattle.std.proofs.Common.{◌≡◌, ℕ, zero, suc, ◌+◌, ◌-◌, ◌*◌, ◌/◌, ◌%◌, ◌<◌, ◌≤◌, Bool, true, false, ◌&&◌, List, refl, sym, ap, ◌∙◌, arith}
use Rattle.std.proofs.Math.Nat.{div-add-mod, mul-suc, mod-lt}
use Rattle.routine_checker.specs.Sets.{is_within, left}
use Rattle.routine_checker.specs.Steps.{enters_times, times_left}

-- one time more
pub left_next : (n : ℕ) (exits : List ℕ) (places : ℕ) → 0 < n
    → times_left n exits places ≡ times_left (n - 1) exits (left places exits)
unfolding times_left
left_next zero exits places h = absurd (omega (arith, h))
left_next (suc n) exits places h = let e : suc n - 1 ≡ n = omega arith in rw e refl

pub enters_next : (n entry : ℕ) (exits : List ℕ) (places : ℕ) → 0 < n
    → enters_times n entry exits places
    ≡ (is_within places entry && enters_times (n - 1) entry exits (left places exits))
unfolding enters_times
enters_next zero entry exits places h = absurd (omega (arith, h))
enters_next (suc n) entry exits places h = let e : suc n - 1 ≡ n = omega arith in rw e refl

pub left_none : (exits : List ℕ) (places : ℕ) → times_left 0 exits places ≡ places
unfolding times_left
left_none exits places = refl

pub enters_none : (entry : ℕ) (exits : List ℕ) (places : ℕ) → enters_times 0 entry exits places ≡ true
unfolding enters_times
enters_none entry exits places = refl

-- some times, and then some more
pub left_add : (m n : ℕ) (exits : List ℕ) (places : ℕ)
    → times_left (m + n) exits places ≡ times_left n exits (times_left m exits places)
unfolding times_left
left_add zero n exits places = let e : 0 + n ≡ n = omega arith in rw e refl
left_add (suc m) n exits places = let e : suc m + n ≡ suc (m + n) = omega arith in
    rw e (left_add m n exits (left places exits))

and_assoc : (a b c : Bool) → (a && (b && c)) ≡ (a && b && c)
and_assoc true b c = refl
and_assoc false b c = refl

pub enters_add : (m n entry : ℕ) (exits : List ℕ) (places : ℕ)
    → enters_times (m + n) entry exits places
    ≡ (enters_times m entry exits places && enters_times n entry exits (times_left m exits places))
unfolding enters_times times_left
enters_add zero n entry exits places = let e : 0 + n ≡ n = omega arith in rw e refl
enters_add (suc m) n entry exits places =
    let e : suc m + n ≡ suc (m + n) = omega arith in
    rw e (ap (λ more. is_within places entry && more) (enters_add m n entry exits (left places exits))
    ∙ and_assoc (is_within places entry) (enters_times m entry exits (left places exits))
    (enters_times n entry exits (times_left m exits (left places exits))))

-- whole periods change nothing
one_period : (r q n : ℕ) → r * suc q + n ≡ r + (r * q + n)
one_period r q n = let e = mul-suc r q in omega (arith, e)

pub left_periods : (r q n : ℕ) (exits : List ℕ) (places : ℕ) → times_left r exits places ≡ places
    → times_left (r * q + n) exits places ≡ times_left n exits places
left_periods r zero n exits places e = let none : r * 0 + n ≡ n = omega arith in
    ap (λ k. times_left k exits places) none
left_periods r (suc q) n exits places e =
    ap (λ k. times_left k exits places) (one_period r q n) ∙ left_add r (r * q + n) exits places
    ∙ ap (times_left (r * q + n) exits) e ∙ left_periods r q n exits places e

pub left_modulo : (n r : ℕ) (exits : List ℕ) (places : ℕ) → times_left r exits places ≡ places
    → times_left (n % r) exits places ≡ times_left n exits places
left_modulo n r exits places e = sym (left_periods r (n / r) (n % r) exits places e)
    ∙ ap (λ k. times_left k exits places) (div-add-mod n r)

-- ---- where it starts

first_of_both : (a b : Bool) → (a && b) ≡ true → a ≡ true
first_of_both true b h = refl
first_of_both false b h = h

-- fewer times start nowhere else
pub fewer_starts : (m n entry : ℕ) (exits : List ℕ) (places : ℕ) → enters_times (m + n) entry exits places ≡ true
    → enters_times m entry exits places ≡ true
fewer_starts m n entry exits places e =
    first_of_both (enters_times m entry exits places) (enters_times n entry exits (times_left m exits places))
    (sym (enters_add m n entry exits places) ∙ e)

both_true : (a b : Bool) → a ≡ true → b ≡ true → (a && b) ≡ true
both_true true b e h = h
both_true false b e h = e

-- where a whole period starts well, every time does
starts_of_periods : (r q b entry : ℕ) (exits : List ℕ) (places : ℕ) → b < r → times_left r exits places ≡ places
    → enters_times r entry exits places ≡ true → enters_times (r * q + b) entry exits places ≡ true
starts_of_periods r zero b entry exits places lt e starts =
    let rest : r * 0 + b ≡ b = omega arith in
    let whole : r ≡ b + (r - b) = omega (arith, lt) in
    ap (λ k. enters_times k entry exits places) rest
    ∙ fewer_starts b (r - b) entry exits places (sym (ap (λ k. enters_times k entry exits places) whole) ∙ starts)
starts_of_periods r (suc q) b entry exits places lt e starts =
    ap (λ k. enters_times k entry exits places) (one_period r q b) ∙ enters_add r (r * q + b) entry exits places
    ∙ both_true (enters_times r entry exits places) (enters_times (r * q + b) entry exits (times_left r exits places))
    starts
    (ap (enters_times (r * q + b) entry exits) e ∙ starts_of_periods r q b entry exits places lt e starts)

every_start : (r k entry : ℕ) (exits : List ℕ) (places : ℕ) → 0 < r → times_left r exits places ≡ places
    → enters_times r entry exits places ≡ true → enters_times k entry exits places ≡ true
every_start r k entry exits places some e starts =
    sym (ap (λ j. enters_times j entry exits places) (div-add-mod k r))
    ∙ starts_of_periods r (k / r) (k % r) entry exits places (mod-lt k some) e starts

cut_short : (a b : Bool) → (a ≡ true → b ≡ true) → (a && b) ≡ a
cut_short true b h = h refl
cut_short false b h = refl

-- as many times as a period has start where more of them do
pub starts_of_period : (r n entry : ℕ) (exits : List ℕ) (places : ℕ) → 0 < r → r ≤ n
    → times_left r exits places ≡ places → enters_times n entry exits places ≡ enters_times r entry exits places
starts_of_period r n entry exits places some le e =
    let cut : n ≡ r + (n - r) = omega (arith, le) in
    ap (λ k. enters_times k entry exits places) cut ∙ enters_add r (n - r) entry exits places
    ∙ cut_short (enters_times r entry exits places) (enters_times (n - r) entry exits (times_left r exits places))
    (λ starts. ap (enters_times (n - r) entry exits) e ∙ every_start r (n - r) entry exits places some e starts)

-- once more at the end
pub left_last : (n : ℕ) (exits : List ℕ) (places : ℕ)
    → times_left (n + 1) exits places ≡ left (times_left n exits places) exits
left_last n exits places =
    left_add n 1 exits places ∙ left_next 1 exits (times_left n exits places) (omega arith)
    ∙ left_none exits (left (times_left n exits places) exits)
