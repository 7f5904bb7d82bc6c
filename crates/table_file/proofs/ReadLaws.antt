-- Parts that are read one behind the other.
use Rattle.std.proofs.Common.{◌≡◌, ℕ, ◌<◌, ◌≤◌, ◌+◌, List, ◌++◌, length, length-append, Option, Some, None, Result, Ok, Err, sym, ap, ◌∙◌, arith}
use Rattle.std.specs.Prelude.{IfSome}
use Rattle.std.specs.Fmt.{◌++?◌}
use Rattle.marshal_program.specs.declared.fault.TableFault.{TableFault}
use Rattle.table_file.specs.Octets.{spelled_pair}
use Rattle.table_file.specs.inner.Reading.{BeginsWithNone, Reads, Takes, beside}
use Rattle.table_file.specs.Refusal.{wants_memory}
use Rattle.table_file.specs.inner.Joins.{joins_assoc, split, parted}
use Rattle.table_file.specs.inner.Codes.{IsCode}
use Rattle.type_graph.proofs.Refusals.{only_if_weaker, only_if_holds}

-- where nothing of one kind stands, nothing of another does
pub fails_as : {A B : Type 0} (f : A → Option (List ℕ)) (g : B → Option (List ℕ)) (fault : TableFault)
    (old new : Option (List ℕ))
    → ((octets : List ℕ) → BeginsWithNone f octets → BeginsWithNone g octets) → Reads f (Err fault) old new
    → Reads g (Err fault) old new
fails_as f g fault (Some octets) new step r =
    record {
      reads = only_if_weaker (wants_memory fault) (BeginsWithNone f octets) (BeginsWithNone g octets)
          (step octets) r.reads;
    }
fails_as f g fault None new step r = record { reads = tt }

-- the first of two isn't there
pub no_first : {A B : Type 0} (f : A → Option (List ℕ)) (g : B → Option (List ℕ)) (octets : List ℕ)
    → BeginsWithNone f octets → BeginsWithNone (spelled_pair f g) octets
no_first f g octets none = λ x rest e.
    let p = parted (f x.0) (g x.1) (Some rest) octets e in
    none x.0 p.0 p.2

-- the second of two isn't there
pub no_second : {A B : Type 0} (f : A → Option (List ℕ)) (g : B → Option (List ℕ)) → IsCode f
    → (a : A) (mid octets : List ℕ)
    → f a ++? Some mid ≡ Some octets → BeginsWithNone g mid → BeginsWithNone (spelled_pair f g) octets
no_second f g code a mid octets e none = λ x rest ex.
    let p = parted (f x.0) (g x.1) (Some rest) octets ex in
    let same = code.one x.0 a p.0 mid octets p.2 e in
    none x.1 rest (p.1 ∙ ap Some same.1)

pub first_fails : {A B : Type 0} (f : A → Option (List ℕ)) (g : B → Option (List ℕ)) (fault : TableFault)
    (old new : Option (List ℕ))
    → Reads f (Err fault) old new → Reads (spelled_pair f g) (Err fault) old new
first_fails f g fault old new r = fails_as f (spelled_pair f g) fault old new (λ octets. no_first f g octets) r

pub then_reads : {A B : Type 0} (f : A → Option (List ℕ)) (g : B → Option (List ℕ)) → IsCode f
    → (a : A) (r : Result B TableFault) (old mid new : Option (List ℕ))
    → Reads f (Ok a) old mid → Reads g r mid new → Reads (spelled_pair f g) (beside a r) old new
then_reads f g code a (Ok b) (Some octets) (Some m) (Some rest) one two =
    record { reads = joins_assoc (f a) (g b) (Some rest) ∙ ap (λ o. f a ++? o) two.reads ∙ one.reads }
then_reads f g code a (Ok b) (Some octets) (Some m) None one two =
    record { reads = no_second f g code a m octets one.reads two.reads }
then_reads f g code a (Ok b) (Some octets) None (Some rest) one two = absurd two.reads
then_reads f g code a (Ok b) (Some octets) None None one two = record { reads = no_first f g octets one.reads }
then_reads f g code a (Ok b) None (Some m) new one two = absurd one.reads
then_reads f g code a (Ok b) None None (Some rest) one two = absurd two.reads
then_reads f g code a (Ok b) None None None one two = record { reads = tt }
then_reads f g code a (Err fault) (Some octets) (Some m) new one two =
    record {
      reads = only_if_weaker (wants_memory fault) (BeginsWithNone g m) (BeginsWithNone (spelled_pair f g) octets)
          (no_second f g code a m octets one.reads) two.reads;
    }
then_reads f g code a (Err fault) (Some octets) None new one two =
    record {
      reads = only_if_holds (wants_memory fault) (BeginsWithNone (spelled_pair f g) octets)
          (no_first f g octets one.reads);
    }
then_reads f g code a (Err fault) None mid new one two = record { reads = tt }

-- ---- what is taken

-- too few octets are left
pub short_fails : {A : Type 0} (f : A → Option (List ℕ)) (k : ℕ) → ((a : A) (s : List ℕ) → f a ≡ Some s → k ≤ length s)
    → (fault : TableFault) (old new : Option (List ℕ)) → IfSome old (λ octets. length octets < k)
    → Reads f (Err fault) old new
short_fails f k long fault (Some octets) new short = record {
  reads = only_if_holds (wants_memory fault) (BeginsWithNone f octets) (λ x rest e.
      let p = split (f x) (Some rest) octets e in
      let l = long x p.0 p.2 in
      let all : length (p.0 ++ p.1) ≡ length octets = ap length p.4 in
      let parts : length (p.0 ++ p.1) ≡ length p.0 + length p.1 = length-append p.0 p.1 in
      absurd (omega (arith, l, all, parts, short)));
}
short_fails f k long fault None new short = record { reads = tt }

-- a code has an octet at least
pub end_fails : {A : Type 0} (f : A → Option (List ℕ)) → IsCode f → (fault : TableFault) (old new : Option (List ℕ))
    → IfSome old (λ octets. length octets < 1) → Reads f (Err fault) old new
end_fails f code fault old new short =
    short_fails f 1 (λ a s e. let h = code.some a s e in omega (arith, h)) fault old new short

-- the octets of what is spelled so
pub taken_reads : {A : Type 0} (f : A → Option (List ℕ)) (x : A) (k : ℕ) (front : List ℕ) (old new : Option (List ℕ))
    → f x ≡ Some front → Takes k front old new → Reads f (Ok x) old new
taken_reads f x k front (Some octets) (Some rest) e t =
    record { reads = ap (λ o. o ++? Some rest) e ∙ ap Some (sym t.takes) }
taken_reads f x k front (Some octets) None e t = absurd t.takes
taken_reads f x k front None (Some rest) e t = absurd t.takes
taken_reads f x k front None None e t = record { reads = tt }

-- ---- what is read off something else

pub via_fails : {A B : Type 0} (g : B → Option (List ℕ)) (f : A → B) (fault : TableFault) (old new : Option (List ℕ))
    → Reads g (Err fault) old new → Reads (λ a. g (f a)) (Err fault) old new
via_fails g f fault old new r = fails_as g (λ a. g (f a)) fault old new (λ octets none x rest e. none (f x) rest e) r

pub via_reads : {A B : Type 0} (g : B → Option (List ℕ)) (f : A → B) (x : A) (old new : Option (List ℕ))
    → Reads g (Ok (f x)) old new → Reads (λ a. g (f a)) (Ok x) old new
via_reads g f x (Some octets) (Some rest) r = record { reads = r.reads }
via_reads g f x (Some octets) None r = record { reads = λ y rest e. r.reads (f y) rest e }
via_reads g f x None (Some rest) r = absurd r.reads
via_reads g f x None None r = record { reads = tt }
