-- Lists that are passed one part after the other.
use Rattle.std.proofs.Common.{◌≡◌, ℕ, zero, suc, ◌<◌, ◌+◌, ◌-◌, Bool, true, false, List, [], ◌∷◌, ◌++◌, length, length-append, Option, Some, None, refl, sym, ap, ap₂, ◌∙◌, append_assoc, arith}
use Rattle.std.specs.Prelude.{is_some}
use Rattle.std.specs.Fmt.{◌++?◌}
use Rattle.type_graph.specs.Words.{AllBelow}
use Rattle.table_file.specs.Octets.{spelled_word, spelled_each, spelled_run, spelled_list}
use Rattle.table_file.specs.inner.Passing.{HasOne, Passes, PassesCounted}
use Rattle.table_file.specs.inner.Joins.{joins_assoc, nothing_before, split, parted}
use Rattle.table_file.specs.inner.Codes.{IsCode, word_long}
use Rattle.table_file.specs.inner.ListCodes.{run_at, run_of}
use Rattle.table_file.proofs.ListReads.{each_push, no_run, no_list}
use Rattle.table_file.proofs.PassLaws.{some_stop}
use Rattle.table_file.proofs.OctetRuns.{word_of_octets}

-- so many were passed
pub record PassedSoFar {A : Type 0} (f : A → Option (List ℕ)) (k : ℕ) (old now : List ℕ) : Type 0 where
  pub done : List A
  pub long : length done ≡ k
  pub so_far : spelled_each f done ++? Some now ≡ Some old

pub none_passed : {A : Type 0} (f : A → Option (List ℕ)) (old : List ℕ) → PassedSoFar f 0 old old
none_passed f old = record { done = []; long = refl; so_far = refl }

pub more_passed : {A : Type 0} (f : A → Option (List ℕ)) (k : ℕ) (b : Bool) (old mid new : List ℕ) → b ≡ true
    → PassedSoFar f k old mid → Passes f b mid new → PassedSoFar f (k + 1) old new
more_passed f k true old mid new e s p = record {
  done = s.done ++ p.passes.0 ∷ [];
  long = let l = length-append s.done (p.passes.0 ∷ []) in let k = s.long in omega (arith, l, k);
  so_far =
      each_push f s.done p.passes.0 (Some new) ∙ ap (λ o. spelled_each f s.done ++? o) p.passes.1 ∙ s.so_far;
}
more_passed f k false old mid new e s p = absurd cc

pub run_passes : {A : Type 0} (n : ℕ) (f : A → Option (List ℕ)) (k : ℕ) (old new : List ℕ) → k ≡ n
    → PassedSoFar f k old new → Passes (spelled_run n f) true old new
run_passes n f k old new e s =
    record { passes = (s.done, ap (λ o. o ++? Some new) (run_of n f s.done (s.long ∙ e)) ∙ s.so_far) }

-- one list behind another
each_append : {A : Type 0} (f : A → Option (List ℕ)) (xs ys : List A)
    → spelled_each f (xs ++ ys) ≡ spelled_each f xs ++? spelled_each f ys
each_append f [] ys = sym (nothing_before (spelled_each f ys))
each_append f (x ∷ xs) ys =
    ap (λ o. f x ++? o) (each_append f xs ys) ∙ sym (joins_assoc (f x) (spelled_each f xs) (spelled_each f ys))

-- so many are spelled
some_each : {A : Type 0} (f : A → Option (List ℕ)) → HasOne f → (n : ℕ)
    → (xs : List A) × (octets : List ℕ) × (length xs ≡ n) × (spelled_each f xs ≡ Some octets)
some_each f one zero = ([], [], refl, refl)
some_each f one (suc n) =
    let more = some_each f one n in
    (one.0 ∷ more.0, one.1 ++ more.1, omega (arith, more.2), ap₂ (λ p q. p ++? q) one.2 more.3)

pub one_run : {A : Type 0} (f : A → Option (List ℕ)) → HasOne f → (n : ℕ) → HasOne (spelled_run n f)
one_run f one n = let some = some_each f one n in (some.0, some.1, run_of n f some.0 some.2 ∙ some.3)

pub run_stops : {A : Type 0} (n : ℕ) (f : A → Option (List ℕ)) → IsCode f → HasOne f → (k : ℕ) (b : Bool)
    (old mid new : List ℕ) → k < n → b ≡ false → PassedSoFar f k old mid → Passes f b mid new
    → Passes (spelled_run n f) false old new
run_stops n f code one k true old mid new l e so p = absurd cc
run_stops n f code one k false old mid new l e so p =
    let s = p.passes in
    let whole = split (spelled_each f so.done) (Some mid) old so.so_far in
    let mids : mid ≡ whole.1 = cc in
    let fill = some_each f one (n - k - 1) in
    let rest = s.begins.0 ∷ fill.0 in
    let xs = so.done ++ rest in
    let long : length xs ≡ n =
    let ends = length-append so.done rest in
    let done = so.long in
    omega (arith, ends, done, fill.2, l) in
    let behind : spelled_each f rest ≡ Some (s.front ++ (s.begins.1 ++ fill.1)) =
    ap₂ (λ a b. a ++? b) s.begins.2 fill.3 ∙ ap Some (append_assoc s.front s.begins.1 fill.1) in
    record {
      passes = record {
        front = whole.0 ++ s.front;
        is = sym whole.4 ∙ ap (λ t. whole.0 ++ t) (sym mids ∙ s.is) ∙ sym (append_assoc whole.0 s.front new);
        begins = (
          xs,
          s.begins.1 ++ fill.1,
          run_of n f xs long ∙ each_append f so.done rest ∙ ap₂ (λ a b. a ++? b) whole.2 behind
              ∙ ap Some (sym (append_assoc whole.0 s.front (s.begins.1 ++ fill.1))),
        );
        ends = λ any same.
            no_run n f code so.done (s.front ++ any) ((whole.0 ++ s.front) ++ any)
            (let done = so.long in omega (arith, done, l))
            (ap (λ o. o ++? Some (s.front ++ any)) whole.2 ∙ ap Some (sym (append_assoc whole.0 s.front any)))
            (s.ends any same);
      };
    }

-- ---- a count and so many

pub list_passes : {A : Type 0} (f : A → Option (List ℕ)) (n : ℕ) (b : Bool) (old mid new : List ℕ)
    → spelled_word n ++? Some mid ≡ Some old → Passes (spelled_run n f) b mid new → Passes (spelled_list f) b old new
list_passes f n true old mid new word p =
    let xs = p.passes.0 in
    let run = run_at n f xs new mid p.passes.1 in
    record {
      passes = (
        xs,
        joins_assoc (spelled_word (length xs)) (spelled_each f xs) (Some new)
            ∙ ap (λ o. spelled_word (length xs) ++? o) run.1 ∙ ap (λ i. spelled_word i ++? Some mid) run.0 ∙ word,
      );
    }
list_passes f n false old mid new word p =
    let s = p.passes in
    let xs = s.begins.0 in
    let whole = split (spelled_word n) (Some mid) old word in
    let mids : mid ≡ whole.1 = cc in
    let run = run_at n f xs [] ((s.front ++ s.begins.1) ++ []) (ap (λ o. o ++? Some []) s.begins.2) in
    let each : spelled_each f xs ≡ Some (s.front ++ s.begins.1) = sym (run_of n f xs run.0) ∙ s.begins.2 in
    record {
      passes = record {
        front = whole.0 ++ s.front;
        is = sym whole.4 ∙ ap (λ t. whole.0 ++ t) (sym mids ∙ s.is) ∙ sym (append_assoc whole.0 s.front new);
        begins = (
          xs,
          s.begins.1,
          ap₂ (λ a b. a ++? b) (ap spelled_word run.0 ∙ whole.2) each
              ∙ ap Some (sym (append_assoc whole.0 s.front s.begins.1)),
        );
        ends = λ any same.
            no_list f n (s.front ++ any) ((whole.0 ++ s.front) ++ any)
            (ap (λ o. o ++? Some (s.front ++ any)) whole.2 ∙ ap Some (sym (append_assoc whole.0 s.front any)))
            (s.ends any same);
      };
    }

-- the count isn't whole
pub list_short : {A : Type 0} (f : A → Option (List ℕ)) → HasOne f → (old new : List ℕ) → AllBelow 256 old
    → length old < 4 → new ≡ [] → Passes (spelled_list f) false old new
list_short f one old new octets short nil =
    let w = some_stop spelled_word 4 word_of_octets word_long old new octets short nil in
    let fill = some_each f one w.begins.0 in
    record {
      passes = record {
        front = w.front;
        is = w.is;
        begins = (
          fill.0,
          w.begins.1 ++ fill.1,
          ap₂ (λ a b. a ++? b) (ap spelled_word fill.2 ∙ w.begins.2) fill.3
              ∙ ap Some (append_assoc w.front w.begins.1 fill.1),
        );
        ends = λ any same xs rest e.
            let p = parted (spelled_word (length xs)) (spelled_each f xs) (Some rest) (w.front ++ any) e in
            w.ends any same (length xs) p.0 p.2;
      };
    }

-- how long it is
pub count_is : {A : Type 0} (f : A → Option (List ℕ)) (n : ℕ) (b : Bool) (old mid new : List ℕ) → b ≡ true
    → spelled_word n ++? Some mid ≡ Some old → Passes (spelled_run n f) b mid new → PassesCounted f (Some n) old new
unfolding list_passes
count_is f n true old mid new e word p =
    let q = list_passes f n true old mid new word p in
    record { passes = (q.passes.0, (run_at n f p.passes.0 new mid p.passes.1).0, q.passes.1) }
count_is f n false old mid new e word p = absurd cc

pub no_count : {A : Type 0} (f : A → Option (List ℕ)) (b : Bool) (old new : List ℕ) → b ≡ false
    → Passes (spelled_list f) b old new → PassesCounted f None old new
no_count f true old new e p = absurd cc
no_count f false old new e p = record { passes = p.passes }

counted_list : {A : Type 0} (f : A → Option (List ℕ)) (result : Option ℕ) (old new : List ℕ)
    → PassesCounted f result old new → Passes (spelled_list f) (is_some result) old new
counted_list f (Some n) old new p = record { passes = (p.passes.0, p.passes.2) }
counted_list f None old new p = record { passes = p.passes }

-- as a reader meets it that asks whether it is there
pub counted_some : {A : Type 0} (f : A → Option (List ℕ)) (result : Option ℕ) (b : Bool) (old new : List ℕ)
    → b ≡ is_some result → PassesCounted f result old new → Passes (spelled_list f) b old new
counted_some f result b old new e p = rw e (counted_list f result old new p)
