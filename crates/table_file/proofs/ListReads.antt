-- Lists that are read one part after the other, and written so.
use Rattle.std.proofs.Common.{◌≡◌, ℕ, ◌<◌, ◌+◌, List, [], ◌∷◌, ◌++◌, length, length-append, Option, Some, None, Result, Ok, Err, refl, sym, ap, ◌∙◌, arith}
use Rattle.std.specs.Prelude.{IfSome}
use Rattle.std.specs.Fmt.{◌++?◌}
use Rattle.marshal_program.specs.declared.fault.TableFault.{TableFault}
use Rattle.table_file.specs.Octets.{spelled_word, spelled_each, spelled_run, spelled_list}
use Rattle.table_file.specs.inner.Reading.{BeginsWithNone, Reads}
use Rattle.table_file.specs.inner.Joins.{joins_assoc, nothing_before, split, parted}
use Rattle.table_file.specs.inner.Codes.{IsCode, word_code}
use Rattle.table_file.specs.inner.ListCodes.{run_at, run_of, each_long}
use Rattle.type_graph.proofs.Refusals.{only_if_weaker, only_if_holds}
use Rattle.table_file.specs.Refusal.{wants_memory}

-- what was read of a run of so many
abbrev pub SoFarBy : {A : Type 0} → ℕ → (A → Option (List ℕ)) → List A → Option (List ℕ) → Option (List ℕ) → Type 0
SoFarBy n f done (Some octets) (Some rest) = spelled_each f done ++? Some rest ≡ Some octets
SoFarBy n f done (Some octets) None = BeginsWithNone (spelled_run n f) octets
SoFarBy n f done None (Some rest) = ⊥
SoFarBy n f done None None = Unit {0}

pub record SoFar {A : Type 0} (n : ℕ) (f : A → Option (List ℕ)) (done : List A) (old new : Option (List ℕ)) : Type 0
  where
    pub so_far : SoFarBy n f done old new

pub nothing_so_far : {A : Type 0} (n : ℕ) (f : A → Option (List ℕ)) (old : Option (List ℕ)) → SoFar n f [] old old
nothing_so_far n f (Some octets) = record { so_far = refl }
nothing_so_far n f None = record { so_far = tt }

-- one more at the end
pub each_push : {A : Type 0} (f : A → Option (List ℕ)) (xs : List A) (x : A) (q : Option (List ℕ))
    → spelled_each f (xs ++ x ∷ []) ++? q ≡ spelled_each f xs ++? (f x ++? q)
each_push f [] x q = ap (λ o. (f x ++? o) ++? q) refl ∙ joins_assoc (f x) (Some []) q
    ∙ ap (λ o. f x ++? o) (nothing_before q) ∙ sym (nothing_before (f x ++? q))
each_push f (y ∷ xs) x q =
    joins_assoc (f y) (spelled_each f (xs ++ x ∷ [])) q ∙ ap (λ o. f y ++? o) (each_push f xs x q)
    ∙ sym (joins_assoc (f y) (spelled_each f xs) (f x ++? q))

-- where the next isn't there, no more are
no_more : {A : Type 0} (f : A → Option (List ℕ)) → IsCode f → (done xs : List A) (mid rest octets : List ℕ)
    → length done < length xs
    → spelled_each f done ++? Some mid ≡ Some octets → spelled_each f xs ++? Some rest ≡ Some octets
    → BeginsWithNone f mid → ⊥
no_more f code done [] mid rest octets l e ex none = absurd (omega arith)
no_more f code [] (x ∷ xs) mid rest octets l e ex none =
    let p = parted (f x) (spelled_each f xs) (Some rest) octets ex in
    none x p.0 (p.2 ∙ sym e)
no_more f code (d ∷ done) (x ∷ xs) mid rest octets l e ex none =
    let p = parted (f d) (spelled_each f done) (Some mid) octets e in
    let q = parted (f x) (spelled_each f xs) (Some rest) octets ex in
    let same = code.one d x p.0 q.0 octets p.2 q.2 in
    no_more f code done xs mid rest p.0 (omega arith) p.1 (q.1 ∙ ap Some (sym same.1)) none

pub no_run : {A : Type 0} (n : ℕ) (f : A → Option (List ℕ)) → IsCode f → (done : List A) (mid octets : List ℕ)
    → length done < n
    → spelled_each f done ++? Some mid ≡ Some octets → BeginsWithNone f mid → BeginsWithNone (spelled_run n f) octets
no_run n f code done mid octets l e none = λ xs rest ex.
    let p = run_at n f xs rest octets ex in
    no_more f code done xs mid rest octets (omega (arith, l, p.0)) e p.1 none

-- one more was read
pub one_more : {A : Type 0} (n : ℕ) (f : A → Option (List ℕ)) → IsCode f
    → (done now : List A) (x : A) (old mid new : Option (List ℕ)) → length done < n
    → now ≡ done ++ x ∷ [] → SoFar n f done old mid → Reads f (Ok x) mid new → SoFar n f now old new
one_more n f code done now x (Some octets) (Some m) (Some rest) l push s r =
    record {
      so_far = ap (λ xs. spelled_each f xs ++? Some rest) push ∙ each_push f done x (Some rest)
          ∙ ap (λ o. spelled_each f done ++? o) r.reads ∙ s.so_far;
    }
one_more n f code done now x (Some octets) (Some m) None l push s r =
    record { so_far = no_run n f code done m octets l s.so_far r.reads }
one_more n f code done now x (Some octets) None (Some rest) l push s r = absurd r.reads
one_more n f code done now x (Some octets) None None l push s r = record { so_far = s.so_far }
one_more n f code done now x None (Some m) new l push s r = absurd s.so_far
one_more n f code done now x None None (Some rest) l push s r = absurd r.reads
one_more n f code done now x None None None l push s r = record { so_far = tt }

-- the next isn't there
pub next_fails : {A : Type 0} (n : ℕ) (f : A → Option (List ℕ)) → IsCode f
    → (done : List A) (fault : TableFault) (old mid new : Option (List ℕ)) → length done < n
    → SoFar n f done old mid → Reads f (Err fault) mid new → Reads (spelled_run n f) (Err fault) old new
next_fails n f code done fault (Some octets) (Some m) new l s r =
    record {
      reads = only_if_weaker (wants_memory fault) (BeginsWithNone f m) (BeginsWithNone (spelled_run n f) octets)
          (no_run n f code done m octets l s.so_far) r.reads;
    }
next_fails n f code done fault (Some octets) None new l s r =
    record { reads = only_if_holds (wants_memory fault) (BeginsWithNone (spelled_run n f) octets) s.so_far }
next_fails n f code done fault None mid new l s r = record { reads = tt }

-- all were read
pub all_read : {A : Type 0} (n : ℕ) (f : A → Option (List ℕ)) (done : List A) (old new : Option (List ℕ))
    → length done ≡ n
    → SoFar n f done old new → Reads (spelled_run n f) (Ok done) old new
all_read n f done (Some octets) (Some rest) l s =
    record { reads = ap (λ o. o ++? Some rest) (run_of n f done l) ∙ s.so_far }
all_read n f done (Some octets) None l s = record { reads = s.so_far }
all_read n f done None (Some rest) l s = absurd s.so_far
all_read n f done None None l s = record { reads = tt }

-- ---- a count and so many

-- where so many aren't behind their count, no list is
pub no_list : {A : Type 0} (f : A → Option (List ℕ)) (n : ℕ) (mid octets : List ℕ)
    → spelled_word n ++? Some mid ≡ Some octets
    → BeginsWithNone (spelled_run n f) mid → BeginsWithNone (spelled_list f) octets
no_list f n mid octets e none = λ xs rest ex.
    let p = parted (spelled_word (length xs)) (spelled_each f xs) (Some rest) octets ex in
    let same = word_code.one (length xs) n p.0 mid octets p.2 e in
    none xs rest (ap (λ o. o ++? Some rest) (run_of n f xs same.0) ∙ p.1 ∙ ap Some same.1)

pub count_fails : {A : Type 0} (f : A → Option (List ℕ)) (fault : TableFault) (old new : Option (List ℕ))
    → Reads spelled_word (Err fault) old new → Reads (spelled_list f) (Err fault) old new
count_fails f fault (Some octets) new r = record {
  reads = only_if_weaker (wants_memory fault) (BeginsWithNone spelled_word octets)
      (BeginsWithNone (spelled_list f) octets) (λ none xs rest e.
      let p = parted (spelled_word (length xs)) (spelled_each f xs) (Some rest) octets e in
      none (length xs) p.0 p.2) r.reads;
}
count_fails f fault None new r = record { reads = tt }

pub list_reads : {A : Type 0} (f : A → Option (List ℕ)) (n : ℕ) (r : Result (List A) TableFault)
    (old mid new : Option (List ℕ))
    → Reads spelled_word (Ok n) old mid → Reads (spelled_run n f) r mid new → Reads (spelled_list f) r old new
list_reads f n (Ok xs) (Some octets) (Some m) (Some rest) c r =
    let p = run_at n f xs rest m r.reads in
    record {
      reads = joins_assoc (spelled_word (length xs)) (spelled_each f xs) (Some rest)
          ∙ ap (λ o. spelled_word (length xs) ++? o) p.1
          ∙ ap (λ i. spelled_word i ++? Some m) p.0 ∙ c.reads;
    }
list_reads f n (Ok xs) (Some octets) (Some m) None c r = record { reads = no_list f n m octets c.reads r.reads }
list_reads f n (Ok xs) (Some octets) None (Some rest) c r = absurd r.reads
list_reads f n (Ok xs) (Some octets) None None c r = record {
  reads = λ ys rest e.
      let p = parted (spelled_word (length ys)) (spelled_each f ys) (Some rest) octets e in
      c.reads (length ys) p.0 p.2;
}
list_reads f n (Ok xs) None (Some m) new c r = absurd c.reads
list_reads f n (Ok xs) None None (Some rest) c r = absurd r.reads
list_reads f n (Ok xs) None None None c r = record { reads = tt }
list_reads f n (Err fault) (Some octets) (Some m) new c r =
    record {
      reads = only_if_weaker (wants_memory fault) (BeginsWithNone (spelled_run n f) m)
          (BeginsWithNone (spelled_list f) octets) (no_list f n m octets c.reads) r.reads;
    }
list_reads f n (Err fault) (Some octets) None new c r = record {
  reads = only_if_holds (wants_memory fault) (BeginsWithNone (spelled_list f) octets) (λ ys rest e.
      let p = parted (spelled_word (length ys)) (spelled_each f ys) (Some rest) octets e in
      c.reads (length ys) p.0 p.2);
}
list_reads f n (Err fault) None mid new c r = record { reads = tt }

-- more than there are octets
pub too_many : {A : Type 0} (f : A → Option (List ℕ)) → IsCode f
    → (n : ℕ) (fault : TableFault) (old new : Option (List ℕ))
    → IfSome old (λ octets. length octets < n) → Reads (spelled_run n f) (Err fault) old new
too_many f code n fault (Some octets) new short = record {
  reads = only_if_holds (wants_memory fault) (BeginsWithNone (spelled_run n f) octets) (λ xs rest e.
      let p = run_at n f xs rest octets e in
      let q = split (spelled_each f xs) (Some rest) octets p.1 in
      let l = each_long f code xs q.0 q.2 in
      let all : length (q.0 ++ q.1) ≡ length octets = ap length q.4 in
      let parts : length (q.0 ++ q.1) ≡ length q.0 + length q.1 = length-append q.0 q.1 in
      absurd (omega (arith, l, all, parts, short, p.0)));
}
too_many f code n fault None new short = record { reads = tt }

-- a number past what is left
pub beyond : (left : Option (List ℕ)) (count n : ℕ) → IfSome left (λ octets. count ≡ length octets) → count < n
    → IfSome left (λ octets. length octets < n)
beyond (Some octets) count n same less = omega (arith, same, less)
beyond None count n same less = tt
