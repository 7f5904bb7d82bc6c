-- Parts that are read past and not kept.
use Rattle.std.proofs.Common.{◌≡◌, ◌≢◌, ℕ, ◌<◌, ◌≤◌, ◌+◌, ◌-◌, ◌^◌, List, [], ◌∷◌, ◌++◌, length, length-append, Option, Some, None, Result, Ok, Err, refl, sym, ◌∙◌, subst, inl, inr, arith}
use Rattle.std.specs.Bool.{OnFalse}
use Rattle.std.specs.Prelude.{◌⊎◌, min, sum_by}
use Rattle.std.specs.Fmt.{◌++?◌}
use Rattle.std.proofs.lemmas.List.Sums.{sum_by_push}
use Rattle.marshal_program.specs.declared.fault.TableFault.{TableFault}
use Rattle.type_graph.specs.declared.node.Node.{Node}
use Rattle.type_graph.specs.GraphRules.{IsGraph}
use Rattle.table_file.specs.declared.lists.Size.{Size}
use Rattle.table_file.specs.Octets.{spelled_each, spelled_list, spelled_pair, spelled_run, spelled_word}
use Rattle.table_file.specs.Refusal.{wants_memory}
use Rattle.table_file.specs.Spelling.{spelled_node, spelled_program}
use Rattle.table_file.specs.inner.Joins.{parted}
use Rattle.table_file.specs.inner.ListCodes.{list_code}
use Rattle.table_file.specs.inner.NodeCode.{node_code}
use Rattle.table_file.specs.inner.PartCodes.{model_fields}
use Rattle.table_file.specs.inner.Codes.{IsCode}
use Rattle.table_file.specs.inner.Reading.{BeginsWithNone, Reads, beside}
use Rattle.table_file.specs.inner.Skimming.{AreBoth, BeginsWithNoGraph, IsAtMost, IsMostSize, IsRunSize, IsSize, IsTableSize, IsTold, Skims, no_weight, spelled_named, weight_both}
use Rattle.table_file.proofs.ReadLaws.{fails_as, no_first, then_reads, via_fails, via_reads}
use Rattle.table_file.proofs.ListReads.{SoFar, all_read, list_reads, next_fails, nothing_so_far, one_more}
use Rattle.table_file.proofs.Decoded.{IsOne, NoBody, NoOldBody, left_over, no_most, nothing_left, uses_read}
use Rattle.table_file.specs.declared.table.Which.{Which}
use Rattle.table_file.specs.TableSpelling.{spelled_which}
use Rattle.table_file.specs.inner.TableCodes.{MostFields, spelled_fields, spelled_most, whole}
use Rattle.type_graph.proofs.Refusals.{only_if_weaker, only_if_holds}

-- what is told of what was read
pub skims_by : {A R : Type 0} (f : A → Option (List ℕ)) (Fits : R → A → Type 0) (r : Result A TableFault)
    (told : Result R TableFault) (old new : Option (List ℕ))
    → Reads f r old new → IsTold Fits told r → Skims f Fits told old new
skims_by f Fits r told old new reads fits = record { read = r; reads = reads; fits = fits }

pub skim_fails : {A R : Type 0} (f : A → Option (List ℕ)) (Fits : R → A → Type 0) (fault : TableFault)
    (old new : Option (List ℕ))
    → Reads f (Err fault) old new → Skims f Fits (Err fault) old new
skim_fails f Fits fault old new reads = record { read = Err fault; reads = reads; fits = refl }

-- where nothing of one kind stands, nothing of another does
as_by : {A B R S : Type 0} (f : A → Option (List ℕ)) (g : B → Option (List ℕ)) (P : R → A → Type 0) (Q : S → B → Type 0)
    (fault : TableFault) (old new : Option (List ℕ))
    → ((octets : List ℕ) → BeginsWithNone f octets → BeginsWithNone g octets) → (r : Result A TableFault)
    → Reads f r old new → IsTold P (Err fault) r → Skims g Q (Err fault) old new
as_by f g P Q fault old new step (Ok x) reads fits = absurd fits
as_by f g P Q fault old new step (Err other) reads same =
    record { read = Err other; reads = fails_as f g other old new step reads; fits = same }

-- a fault that is handed on
pub fails_so : {A R S : Type 0} (f : A → Option (List ℕ)) (P : R → A → Type 0) (Q : S → A → Type 0) (fault : TableFault)
    (old new : Option (List ℕ))
    → Skims f P (Err fault) old new → Skims f Q (Err fault) old new
fails_so f P Q fault old new s = as_by f f P Q fault old new (λ octets none. none) s.read s.reads s.fits

-- the same, told otherwise
so_by : {A R S : Type 0} (f : A → Option (List ℕ)) (P : R → A → Type 0) (Q : S → A → Type 0) (told : R) (other : S)
    (old new : Option (List ℕ))
    → ((x : A) → P told x → Q other x) → (r : Result A TableFault) → Reads f r old new → IsTold P (Ok told) r
    → Skims f Q (Ok other) old new
so_by f P Q told other old new step (Ok x) reads fits = record { read = Ok x; reads = reads; fits = step x fits }
so_by f P Q told other old new step (Err fault) reads fits = absurd fits

pub skims_so : {A R S : Type 0} (f : A → Option (List ℕ)) (P : R → A → Type 0) (Q : S → A → Type 0) (told : R)
    (other : S) (old new : Option (List ℕ))
    → ((x : A) → P told x → Q other x) → Skims f P (Ok told) old new → Skims f Q (Ok other) old new
skims_so f P Q told other old new step s = so_by f P Q told other old new step s.read s.reads s.fits

-- ---- two, one behind the other

pub first_skim_fails : {A B R S : Type 0} (f : A → Option (List ℕ)) (g : B → Option (List ℕ)) (P : R → A → Type 0)
    (Q : S → A × B → Type 0) (fault : TableFault) (old new : Option (List ℕ))
    → Skims f P (Err fault) old new → Skims (spelled_pair f g) Q (Err fault) old new
first_skim_fails f g P Q fault old new s =
    as_by f (spelled_pair f g) P Q fault old new (λ octets. no_first f g octets) s.read s.reads s.fits

both_by : {A B R S : Type 0} (f : A → Option (List ℕ)) (g : B → Option (List ℕ)) → IsCode f
    → (P : R → A → Type 0) (Q : S → B → Type 0) (told : R) (other : Result S TableFault) (old mid new : Option (List ℕ))
    → (r : Result A TableFault) → Reads f r old mid → IsTold P (Ok told) r → (s : Result B TableFault)
    → Reads g s mid new → IsTold Q other s
    → Skims (spelled_pair f g) (AreBoth P Q) (beside told other) old new
both_by f g code P Q told other old mid new (Err fault) one fits s two also = absurd fits
both_by f g code P Q told (Ok m) old mid new (Ok a) one fits (Ok b) two also =
    record { read = Ok (a, b); reads = then_reads f g code a (Ok b) old mid new one two; fits = (fits, also) }
both_by f g code P Q told (Ok m) old mid new (Ok a) one fits (Err fault) two also = absurd also
both_by f g code P Q told (Err fault) old mid new (Ok a) one fits (Ok b) two also = absurd also
both_by f g code P Q told (Err fault) old mid new (Ok a) one fits (Err other) two same =
    record { read = Err other; reads = then_reads f g code a (Err other) old mid new one two; fits = same }

pub both_skim : {A B R S : Type 0} (f : A → Option (List ℕ)) (g : B → Option (List ℕ)) → IsCode f
    → (P : R → A → Type 0) (Q : S → B → Type 0) (told : R) (other : Result S TableFault) (old mid new : Option (List ℕ))
    → Skims f P (Ok told) old mid → Skims g Q other mid new
    → Skims (spelled_pair f g) (AreBoth P Q) (beside told other) old new
both_skim f g code P Q told other old mid new one two =
    both_by f g code P Q told other old mid new one.read one.reads one.fits two.read two.reads two.fits

-- as a function meets it that hands both on
pub both_told : {A B R S : Type 0} (f : A → Option (List ℕ)) (g : B → Option (List ℕ)) → IsCode f
    → (P : R → A → Type 0) (Q : S → B → Type 0) (told : R) (other : Result S TableFault) (q : Result (R × S) TableFault)
    (old mid new : Option (List ℕ)) → q ≡ beside told other → Skims f P (Ok told) old mid → Skims g Q other mid new
    → Skims (spelled_pair f g) (AreBoth P Q) q old new
both_told f g code P Q told other q old mid new is one two =
    subst (λ s. Skims (spelled_pair f g) (AreBoth P Q) s old new) (sym is)
    (both_skim f g code P Q told other old mid new one two)

-- and what both weigh
pub both_weigh : {A B : Type 0} (f : A → Option (List ℕ)) (g : B → Option (List ℕ)) → IsCode f
    → (weight : A → ℕ) (other : B → ℕ) (n m sum : ℕ) (old mid new : Option (List ℕ))
    → sum ≡ min (n + m) (2 ^ 64 - 1) → Skims f (IsAtMost weight) (Ok n) old mid
    → Skims g (IsAtMost other) (Ok m) mid new
    → Skims (spelled_pair f g) (IsAtMost (weight_both weight other)) (Ok sum) old new
both_weigh f g code weight other n m sum old mid new is one two =
    skims_so (spelled_pair f g) (AreBoth (IsAtMost weight) (IsAtMost other)) (IsAtMost (weight_both weight other))
    (n, m) sum old new
    (λ x fits. let low : n ≤ weight x.0 = fits.0 in let high : m ≤ other x.1 = fits.1 in omega (arith, is, low, high))
    (both_skim f g code (IsAtMost weight) (IsAtMost other) n (Ok m) old mid new one two)

pub second_skim_fails : {A B : Type 0} (f : A → Option (List ℕ)) (g : B → Option (List ℕ)) → IsCode f
    → (weight : A → ℕ) (other : B → ℕ) (n : ℕ) (fault : TableFault) (old mid new : Option (List ℕ))
    → Skims f (IsAtMost weight) (Ok n) old mid → Skims g (IsAtMost other) (Err fault) mid new
    → Skims (spelled_pair f g) (IsAtMost (weight_both weight other)) (Err fault) old new
second_skim_fails f g code weight other n fault old mid new one two =
    fails_so (spelled_pair f g) (AreBoth (IsAtMost weight) (IsAtMost other)) (IsAtMost (weight_both weight other)) fault
    old new
    (both_skim f g code (IsAtMost weight) (IsAtMost other) n (Err fault) old mid new one two)

-- ---- what is read off something else

via_by : {A B R : Type 0} (g : B → Option (List ℕ)) (to : A → B) (back : B → A) → ((b : B) → to (back b) ≡ b)
    → (P : R → B → Type 0) (Q : R → A → Type 0)
    → ((told : R) (b : B) → P told b → Q told (back b)) → (told : Result R TableFault) (old new : Option (List ℕ))
    → (r : Result B TableFault) → Reads g r old new → IsTold P told r
    → Skims (λ a. g (to a)) Q told old new
via_by g to back same P Q step (Ok told) old new (Ok b) reads fits = record {
  read = Ok (back b);
  reads = via_reads g to (back b) old new (subst (λ y. Reads g (Ok y) old new) (sym (same b)) reads);
  fits = step told b fits;
}
via_by g to back same P Q step (Ok told) old new (Err fault) reads fits = absurd fits
via_by g to back same P Q step (Err fault) old new (Ok b) reads fits = absurd fits
via_by g to back same P Q step (Err fault) old new (Err other) reads e =
    record { read = Err other; reads = via_fails g to other old new reads; fits = e }

pub via_skims : {A B R : Type 0} (g : B → Option (List ℕ)) (to : A → B) (back : B → A) → ((b : B) → to (back b) ≡ b)
    → (P : R → B → Type 0) (Q : R → A → Type 0)
    → ((told : R) (b : B) → P told b → Q told (back b)) → (told : Result R TableFault) (old new : Option (List ℕ))
    → Skims g P told old new → Skims (λ a. g (to a)) Q told old new
via_skims g to back same P Q step told old new s = via_by g to back same P Q step told old new s.read s.reads s.fits

-- ---- lists

-- past the first of a run of so many
pub record SkimmedSoFar {A : Type 0} (n : ℕ) (f : A → Option (List ℕ)) (weight : A → ℕ) (sum place : ℕ)
    (old new : Option (List ℕ)) : Type 0 where
  pub done : List A
  pub long : length done ≡ place
  pub light : sum ≤ sum_by weight done
  pub so_far : SoFar n f done old new

pub none_skimmed : {A : Type 0} (n : ℕ) (f : A → Option (List ℕ)) (weight : A → ℕ) (old : Option (List ℕ))
    → SkimmedSoFar n f weight 0 0 old old
none_skimmed n f weight old = record { done = []; long = refl; light = omega arith; so_far = nothing_so_far n f old }

module _ {A : Type 0} (n : ℕ) (f : A → Option (List ℕ)) (code : IsCode f) (weight : A → ℕ) (sum place : ℕ)
    (old mid new : Option (List ℕ)) (room : place < n) (s : SkimmedSoFar n f weight sum place old mid) where
  more_by : (k next : ℕ) → next ≡ min (sum + k) (2 ^ 64 - 1) → (r : Result A TableFault) → Reads f r mid new
      → IsTold (IsAtMost weight) (Ok k) r → SkimmedSoFar n f weight next (place + 1) old new
  more_by k next is (Ok x) reads fits =
      let long = s.long in
      let light = s.light in
      let low : k ≤ weight x = fits in
      let now = s.done ++ x ∷ [] in
      record {
        done = now;
        long = omega (arith, long, length-append s.done (x ∷ []));
        light = omega (arith, light, low, is, sum_by_push weight s.done x);
        so_far = one_more n f code s.done now x old mid new (omega (arith, long, room)) refl s.so_far reads;
      }
  more_by k next is (Err fault) reads fits = absurd fits

  -- one more
  pub more_skimmed : (k next : ℕ) → next ≡ min (sum + k) (2 ^ 64 - 1) → Skims f (IsAtMost weight) (Ok k) mid new
      → SkimmedSoFar n f weight next (place + 1) old new
  more_skimmed k next is t = more_by k next is t.read t.reads t.fits

  fails_by : (fault : TableFault) → (r : Result A TableFault) → Reads f r mid new
      → IsTold (IsAtMost weight) (Err fault) r → Skims (spelled_run n f) (IsRunSize n weight) (Err fault) old new
  fails_by fault (Ok x) reads fits = absurd fits
  fails_by fault (Err other) reads same =
      let long = s.long in
      record {
        read = Err other;
        reads =
            next_fails n f code s.done other old mid new (omega (arith, long, room)) s.so_far reads;
        fits = same;
      }

  -- the next isn't there
  pub run_skim_fails : (fault : TableFault) → Skims f (IsAtMost weight) (Err fault) mid new
      → Skims (spelled_run n f) (IsRunSize n weight) (Err fault) old new
  run_skim_fails fault t = fails_by fault t.read t.reads t.fits

-- past all of them
pub run_skims : {A : Type 0} (n : ℕ) (f : A → Option (List ℕ)) (weight : A → ℕ) (sum place : ℕ)
    (old new : Option (List ℕ)) → place ≤ n → n ≤ place → SkimmedSoFar n f weight sum place old new
    → Skims (spelled_run n f) (IsRunSize n weight) (Ok sum) old new
run_skims n f weight sum place old new low high s =
    let long = s.long in
    let all : length s.done ≡ n = omega (arith, long, low, high) in
    record { read = Ok s.done; reads = all_read n f s.done old new all s.so_far; fits = (all, s.light) }

-- a count and so many
pub list_skims : {A R : Type 0} (f : A → Option (List ℕ)) (n : ℕ) (Fits : R → List A → Type 0)
    (told : Result R TableFault) (old mid new : Option (List ℕ))
    → Reads spelled_word (Ok n) old mid → Skims (spelled_run n f) Fits told mid new
    → Skims (spelled_list f) Fits told old new
list_skims f n Fits told old mid new c s =
    record { read = s.read; reads = list_reads f n s.read old mid new c s.reads; fits = s.fits }

-- how many there are is their number
pub size_skims : {A : Type 0} (f : A → Option (List ℕ)) (n sum : ℕ) (weight : A → ℕ) (old mid new : Option (List ℕ))
    → Reads spelled_word (Ok n) old mid → Skims (spelled_run n f) (IsRunSize n weight) (Ok sum) mid new
    → Skims (spelled_list f) (IsSize weight) (Ok (record { count = n; weight = sum })) old new
size_skims f n sum weight old mid new c s =
    skims_so (spelled_list f) (IsRunSize n weight) (IsSize weight) sum (record { count = n; weight = sum }) old new
    (λ items fits. fits)
    (list_skims f n (IsRunSize n weight) (Ok sum) old mid new c s)

pub size_fails : {A : Type 0} (f : A → Option (List ℕ)) (n : ℕ) (fault : TableFault) (weight : A → ℕ)
    (old mid new : Option (List ℕ))
    → Reads spelled_word (Ok n) old mid → Skims (spelled_run n f) (IsRunSize n weight) (Err fault) mid new
    → Skims (spelled_list f) (IsSize weight) (Err fault) old new
size_fails f n fault weight old mid new c s =
    fails_so (spelled_list f) (IsRunSize n weight) (IsSize weight) fault old new
    (list_skims f n (IsRunSize n weight) (Err fault) old mid new c s)

-- ---- all but the uses, and then those

abbrev pub MostTold : Type 0
MostTold = (Size × (Size × ℕ)) × (Size × Size)

pub most_skim_fails : (fault : TableFault) (old new : Option (List ℕ))
    → Skims spelled_most IsMostSize (Err fault) old new → Skims spelled_fields IsTableSize (Err fault) old new
most_skim_fails fault old new s =
    as_by spelled_most spelled_fields IsMostSize IsTableSize fault old new no_most s.read s.reads s.fits

uses_by : (told : MostTold) (count : ℕ) (other : Result ℕ TableFault) (old mid new : Option (List ℕ))
    → count ≡ told.0.1.0.count
    → (r : Result MostFields TableFault) → Reads spelled_most r old mid → IsTold IsMostSize (Ok told) r
    → (s : Result (List Which) TableFault) → Reads (spelled_run count spelled_which) s mid new
    → IsTold (IsRunSize count (no_weight {A = Which})) other s
    → Skims spelled_fields IsTableSize (beside told other) old new
uses_by told count other old mid new c (Err fault) one fits s two also = absurd fits
uses_by told count (Ok m) old mid new c (Ok most) one fits (Ok uses) two also = record {
  read = Ok (most, uses);
  reads = uses_read most count (Ok uses) (Ok (most, uses)) old mid new (c ∙ sym fits.0.1.0.0) refl one two;
  fits = fits;
}
uses_by told count (Ok m) old mid new c (Ok most) one fits (Err fault) two also = absurd also
uses_by told count (Err fault) old mid new c (Ok most) one fits (Ok uses) two also = absurd also
uses_by told count (Err fault) old mid new c (Ok most) one fits (Err other) two same = record {
  read = Err other;
  reads = uses_read most count (Err other) (Err other) old mid new (c ∙ sym fits.0.1.0.0) refl one two;
  fits = same;
}

pub uses_skim : (told : MostTold) (count : ℕ) (other : Result ℕ TableFault) (q : Result (MostTold × ℕ) TableFault)
    (old mid new : Option (List ℕ)) → count ≡ told.0.1.0.count → q ≡ beside told other
    → Skims spelled_most IsMostSize (Ok told) old mid
    → Skims (spelled_run count spelled_which) (IsRunSize count (no_weight {A = Which})) other mid new
    → Skims spelled_fields IsTableSize q old new
uses_skim told count other q old mid new c is one two =
    subst (λ s. Skims spelled_fields IsTableSize s old new) (sym is)
    (uses_by told count other old mid new c one.read one.reads one.fits two.read two.reads two.fits)

-- ---- the nodes at the front

pub front_fails : (octets : List ℕ) (new : Option (List ℕ)) (fault : TableFault)
    → Reads (spelled_list spelled_node) (Err fault) (Some octets) new
    → OnFalse (wants_memory fault) (BeginsWithNoGraph octets)
front_fails octets new fault read =
    only_if_weaker (wants_memory fault) (BeginsWithNone (spelled_list spelled_node) octets) (BeginsWithNoGraph octets)
    (λ none nodes rest e graph. none nodes rest e) read.reads

pub front_breaks : (octets : List ℕ) (nodes : List Node) (new : Option (List ℕ))
    → Reads (spelled_list spelled_node) (Ok nodes) (Some octets) new → (IsGraph nodes → ⊥) → BeginsWithNoGraph octets
front_breaks octets nodes (Some left) read breaks = λ others rest e graph.
    let same = (list_code spelled_node node_code).one others nodes rest left octets e read.reads in
    breaks (subst IsGraph same.0 graph)
front_breaks octets nodes None read breaks = λ others rest e graph. read.reads others rest e

pub front_no_body : (octets : List ℕ) → BeginsWithNoGraph octets → NoBody octets
front_no_body octets none = λ table rules body.
    let named = spelled_named ((model_fields table.model).1) in
    let behind = spelled_program table.first ++? spelled_program table.second ++? spelled_each spelled_which table.uses
    in
    let p = parted (spelled_list spelled_node table.model.graph) named behind octets body in
    none table.model.graph p.0 p.2 rules.model.graph

pub front_no_old_body : (octets : List ℕ) → BeginsWithNoGraph octets → NoOldBody octets
front_no_old_body octets none = λ table rules body.
    let named = spelled_named ((model_fields table.model).1) in
    let p = parted (spelled_list spelled_node table.model.graph) named (spelled_program table.first) octets body.spelled
    in
    none table.model.graph p.0 p.2 rules.model.graph

-- ---- a whole file

module _ {A R : Type 0} (f : A → Option (List ℕ)) (one : IsOne f) (octets : List ℕ) (P : R → A → Type 0)
    (told : Result R TableFault) (new : Option (List ℕ)) (s : Skims f P told (Some octets) new) where
  fault_by : (fault : TableFault) → (r : Result A TableFault) → Reads f r (Some octets) new → IsTold P (Err fault) r
      → OnFalse (wants_memory fault) ((x : A) → f x ≡ Some octets → ⊥)
  fault_by fault (Ok y) reads fits = absurd fits
  fault_by fault (Err other) reads same =
      subst (λ told. OnFalse (wants_memory told) ((x : A) → f x ≡ Some octets → ⊥)) (sym same)
      (only_if_weaker (wants_memory other) (BeginsWithNone f octets) ((x : A) → f x ≡ Some octets → ⊥)
      (λ none x e. none x [] (whole (f x) octets e)) reads.reads)

  more_left_by : (t : R) → new ≢ Some [] → (r : Result A TableFault) → Reads f r (Some octets) new → IsTold P (Ok t) r
      → (x : A) → f x ≡ Some octets → ⊥
  more_left_by t more (Ok y) reads fits = left_over f one y new octets reads more
  more_left_by t more (Err fault) reads fits = absurd fits

  -- what is refused is nothing's spelling
  pub skim_refuses : (fault : TableFault) → (told ≡ Err fault) ⊎ ((t : R) × (told ≡ Ok t) × (new ≢ Some []))
      → OnFalse (wants_memory fault) ((x : A) → f x ≡ Some octets → ⊥)
  skim_refuses fault cause = elim cause [
    | inl is ↦ fault_by fault s.read s.reads (subst (λ q. IsTold P q s.read) is s.fits)
    | inr is ↦ only_if_holds (wants_memory fault) ((x : A) → f x ≡ Some octets → ⊥)
        (more_left_by is.0 is.2 s.read s.reads (subst (λ q. IsTold P q s.read) is.1 s.fits))
  ]

  passes_by : (t : R) → new ≡ Some [] → (r : Result A TableFault) → Reads f r (Some octets) new → IsTold P (Ok t) r
      → (x : A) × (f x ≡ Some octets) × P t x
  passes_by t end (Ok y) reads fits =
      let read = subst (λ n. Reads f (Ok y) (Some octets) n) end reads in
      (y, nothing_left (f y) octets read.reads, fits)
  passes_by t end (Err fault) reads fits = absurd fits

  -- what isn't refused is something's, and what is told fits it
  pub skim_passes : (t : R) → told ≡ Ok t → new ≡ Some [] → (x : A) × (f x ≡ Some octets) × P t x
  skim_passes t is end = passes_by t end s.read s.reads (subst (λ q. IsTold P q s.read) is s.fits)
