-- Facts about the runs that are open.
use Rattle.std.proofs.Common.{◌≡◌, refl, sym, ap, ◌∙◌, subst, ℕ, ◌+◌, ◌-◌, ◌≤◌, ◌<◌, Bool, true, false, cond, List, [], ◌∷◌, ◌++◌, length, Option, Some, None, All, unwrap_or, option_map, map, arith, Bor}
use Rattle.std.specs.Ordering.{nat_cmp}
use Rattle.std.specs.Cmp.{nat_cmp_total}
use Rattle.std.specs.BTreeMap.{is_at}
use Rattle.std.specs.List.Sorted.{IsStrictlySortedBy}
use Rattle.std.specs.Map.{keys_of, lookup, remove_entry}
use Rattle.std.proofs.lemmas.List.Elements.{All-map, All-nil, All-push, All-weaker}
use Rattle.std.proofs.lemmas.Bool.Decides.{nat_tests}
use Rattle.std.specs.Map.Iter.{deref_pair}
use Rattle.std.proofs.lemmas.Map.Entries.{sum_by-insert_entry, sum_by-remove_entry}
use Rattle.std.specs.Prelude.{if◌then◌else◌}
use Rattle.giop_messages.specs.Framing.{id_in}
use Rattle.giop_dumps.specs.OpenRuns.{AreHeld, Continues, Follows, IsBehind, IsOldest, Open, Runs, has_room, held, is_before, is_fragment, is_short, max_held, max_open, run_of, with_run, without}

-- ---- without a run there is one run less

hit : {X : Type 0} (test : ℕ → Bool) (b : Bool) (e : ℕ × X) (es : List (ℕ × X)) (v : X)
    → (lookup test es ≡ Some v → length (remove_entry test es) + 1 ≡ length es)
    → cond b (Some e.1) (lookup test es) ≡ Some v → length (cond b es (e ∷ remove_entry test es)) + 1 ≡ length (e ∷ es)
hit test true e es v rest there = omega arith
hit test false e es v rest there = let h = rest there in omega arith

length-remove_entry : {X : Type 0} (test : ℕ → Bool) (es : List (ℕ × X)) (v : X) → lookup test es ≡ Some v
    → length (remove_entry test es) + 1 ≡ length es
length-remove_entry test [] v there = absurd cc
length-remove_entry test (e ∷ es) v there = hit test (test e.0) e es v (length-remove_entry test es v) there

pub length-without : (id : ℕ) (runs : Runs) (run : Open) → run_of id runs ≡ Some run
    → length (without id runs) + 1 ≡ length runs
length-without id runs run there = length-remove_entry (is_at (nat_cmp id)) runs run there

room_is : (len : ℕ) (runs : Runs) → has_room len runs ≡ true → (length runs < 64) × (held runs + len ≤ 4194304)
room_is len runs room = grind (arith, nat_tests)

-- ---- how many octets they have

pub held-without : (id : ℕ) (runs : Runs) (run : Open) → run_of id runs ≡ Some run
    → held (without id runs) + length run.octets ≡ held runs
held-without id runs run there =
    subst (λ (o : Option Open). held (without id runs) + unwrap_or (option_map (λ r. length r.octets) o) 0 ≡ held runs)
    there
    (sum_by-remove_entry (λ (r : Open). length r.octets) (is_at (nat_cmp id)) runs)

-- how many octets a run had, if it was there
abbrev pub len_of : Option Open → ℕ
len_of o = unwrap_or (option_map (λ r. length r.octets) o) 0

pub still_held : (id : ℕ) (runs after : Runs) (run : Open) (lent : List ℕ) (count : ℕ) → AreHeld runs count
    → run_of id runs ≡ Some run → lent ≡ run.octets → after ≡ without id runs
    → (length lent ≤ count) × AreHeld after (count - length lent)
still_held id runs after run lent count all there own is =
    let sum : held (without id runs) + length run.octets ≡ held runs = held-without id runs run there in
    let one : length (without id runs) + 1 ≡ length runs = length-without id runs run there in
    let len : length lent ≡ length run.octets = ap length own in
    let counted : count ≡ held runs = all.counted in
    let few : length runs ≤ max_open = all.within.few in
    let small : held runs ≤ max_held = all.within.small in
    let left : held after ≡ held (without id runs) = ap held is in
    let lengths : length after ≡ length (without id runs) = ap length is in (
      omega arith,
      record {
        counted = omega arith;
        within = record { few = omega arith; small = omega arith };
      },
    )

pub more_by_one : (n m : ℕ) (b : Bool) → m ≡ n + (if b then 0 else 1) → m ≤ n + 1
more_by_one n m true is = omega arith
more_by_one n m false is = omega arith

-- one more, in the place of one with its number
pub more_held : (id : ℕ) (run : Open) (runs after : Runs) (lent : List ℕ) (count replaced : ℕ) (old : Option Open)
    → IsStrictlySortedBy nat_cmp (keys_of runs) → AreHeld runs count → has_room (length lent) runs ≡ true
    → lent ≡ run.octets
    → old ≡ run_of id runs → after ≡ with_run id run runs → length after ≤ length runs + 1 → replaced ≡ len_of old
    → AreHeld after (count + length lent - replaced)
more_held id run runs after lent count replaced old sorted all room own was is more less =
    let sum : held (with_run id run runs) + len_of (run_of id runs) ≡ held runs + length run.octets =
    sum_by-insert_entry (λ (r : Open). length r.octets) nat_cmp_total runs id run sorted in
    let len : length lent ≡ length run.octets = ap length own in
    let counted : count ≡ held runs = all.counted in
    let now : held after ≡ held (with_run id run runs) = ap held is in
    let gone : replaced ≡ len_of (run_of id runs) = less ∙ ap len_of was in
    let there : (length runs < 64) × (held runs + length lent ≤ 4194304) = room_is (length lent) runs room in
    let few : length runs < 64 = there.0 in
    let small : held runs + length lent ≤ 4194304 = there.1 in record {
      counted = omega arith;
      within = record { few = omega arith; small = omega arith };
    }

-- ---- the oldest of those that were looked at

abbrev pub IsBest : Option (ℕ × ℕ) → Runs → List (Bor ℕ × Bor Open) → Type 0
IsBest None all seen = seen ≡ []
IsBest (Some best) all seen =
    (run : Open) × (run_of best.0 all ≡ Some run) × (run.last ≡ best.1) × All (λ one. best.1 ≤ one.1.now.last) seen

-- the next one is no older
pub best_stays : (best : Option (ℕ × ℕ)) (all : Runs) (seen : List (Bor ℕ × Bor Open)) (next : Bor ℕ × Bor Open)
    → is_before next.1.now.last best ≡ false → IsBest best all seen → IsBest best all (seen ++ next ∷ [])
best_stays None all seen next later h = absurd cc
best_stays (Some best) all seen next later (run, there, place, least) =
    let le : best.1 ≤ next.1.now.last = grind (arith, nat_tests) in
    (run, there, place, All-push (λ (one : Bor ℕ × Bor Open). best.1 ≤ one.1.now.last) seen next least le)

-- the next one is older than all
pub best_is_next : (best : Option (ℕ × ℕ)) (all : Runs) (seen : List (Bor ℕ × Bor Open)) (next : Bor ℕ × Bor Open)
    → run_of next.0.now all ≡ Some next.1.now → is_before next.1.now.last best ≡ true → IsBest best all seen
    → IsBest (Some (next.0.now, next.1.now.last)) all (seen ++ next ∷ [])
best_is_next None all seen next there earlier none = (
  next.1.now,
  there,
  refl,
  All-push (λ (one : Bor ℕ × Bor Open). next.1.now.last ≤ one.1.now.last) seen next
      (subst (λ (xs : List (Bor ℕ × Bor Open)). All (λ one. next.1.now.last ≤ one.1.now.last) xs) (sym none)
      (All-nil (λ (one : Bor ℕ × Bor Open). next.1.now.last ≤ one.1.now.last))) (omega arith),
)
best_is_next (Some best) all seen next there earlier (run, was, place, least) =
    let lt : next.1.now.last < best.1 = grind (arith, nat_tests) in (
      next.1.now,
      there,
      refl,
      All-push (λ (one : Bor ℕ × Bor Open). next.1.now.last ≤ one.1.now.last) seen next
          (All-weaker (λ (one : Bor ℕ × Bor Open). best.1 ≤ one.1.now.last)
          (λ (one : Bor ℕ × Bor Open). next.1.now.last ≤ one.1.now.last)
          (λ one (h : best.1 ≤ one.1.now.last). omega arith) seen least) (omega arith),
    )

-- of all that there are
pub best_of_all : (best : Option (ℕ × ℕ)) (id : ℕ) (all : Runs) (seen : List (Bor ℕ × Bor Open)) (place : ℕ)
    → map deref_pair seen ≡ all → best ≡ Some (id, place) → IsBest best all seen → IsOldest id all
best_of_all None id all seen place is some none = absurd cc
best_of_all (Some best) id all seen place is some (run, there, at, least) =
    let same : best ≡ (id, place) = cc in
    let mine : best.0 ≡ id = ap (λ b. b.0) same in record {
      run = run;
      there = subst (λ (n : ℕ). run_of n all ≡ Some run) mine there;
      oldest = subst (λ (es : Runs). All (λ (one : ℕ × Open). run.last ≤ one.1.last) es) is
          (All-map (λ (one : ℕ × Open). run.last ≤ one.1.last) deref_pair seen
          (subst (λ (n : ℕ). All (λ (one : Bor ℕ × Bor Open). n ≤ one.1.now.last) seen) (sym at) least));
    }

-- where none was looked at there is none
pub best_of_none : (best : Option (ℕ × ℕ)) (all : Runs) (seen : List (Bor ℕ × Bor Open)) → map deref_pair seen ≡ all
    → best ≡ None → IsBest best all seen → all ≡ []
best_of_none None all seen is none h = sym is ∙ ap (λ xs. map deref_pair xs) h
best_of_none (Some best) all seen is none h = absurd cc

-- ---- what a fragment leaves

pub behind_next : (place : ℕ) (message : List ℕ) (runs after : Runs) (run : Open) → is_fragment message ≡ true
    → is_short message ≡ false → run_of (id_in message) runs ≡ Some run
    → Follows place message run (without (id_in message) runs) after → IsBehind place message runs after
behind_next place message runs after run is long there next = record {
  fragment = λ _ _. subst (λ (o : Option Open). Continues place message runs o after) (sym there) next;
  first = λ other. absurd cc;
  whole = λ other. absurd cc;
  short = λ _ short. absurd cc;
}
