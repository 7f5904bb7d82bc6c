-- What is decoded of a whole list of octets.
use Rattle.std.proofs.Common.{◌≡◌, ◌≢◌, ℕ, zero, suc, List, [], ◌∷◌, length, replicate, Option, Some, None, Result, Ok, Err, refl, sym, ap, ◌∙◌, subst, inl, inr}
use Rattle.std.specs.Bool.{OnFalse}
use Rattle.std.proofs.lemmas.List.{append-nil}
use Rattle.std.specs.Prelude.{◌⊎◌, IfOk, IfErr}
use Rattle.std.specs.Fmt.{◌++?◌}
use Rattle.std.specs.List.{AllByRecursion}
use Rattle.marshal_program.specs.declared.fault.TableFault.{TableFault}
use Rattle.table_file.specs.declared.table.Which.{Which}
use Rattle.table_file.specs.declared.table.Which.TheVariants.{First}
use Rattle.table_file.specs.Table.{TableParts, IsTable}
use Rattle.table_file.specs.TableSpelling.{Spells, SpellsOld, spelled_which}
use Rattle.table_file.specs.Octets.{spelled_run}
use Rattle.table_file.specs.inner.Reading.{BeginsWithNone, Reads, Whole, beside}
use Rattle.table_file.specs.Refusal.{wants_memory}
use Rattle.table_file.specs.inner.Joins.{joins_assoc, parted}
use Rattle.table_file.specs.inner.ListCodes.{run_at}
use Rattle.table_file.specs.inner.TableCodes.{MostFields, OldFields, TableFields, all_first, behind_start, body_fields, model_from, most_code, of_parts, old_code, one_fields, spelled_body, spelled_fields, spelled_most, spelled_old_body, spelled_old_fields, table_fields, table_from, whole}
use Rattle.table_file.specs.inner.PartCodes.{model_fields}
use Rattle.table_file.specs.inner.Decoding.{IsOldBody, fields_of}
use Rattle.type_graph.proofs.Refusals.{only_if_weaker, only_if_holds}

-- what follows of every fault
pub if_err_only : {T : Type 0} (r : Result T TableFault) (P Q : Type 0) → (P → Q)
    → IfErr r (λ fault. OnFalse (wants_memory fault) P) → IfErr r (λ fault. OnFalse (wants_memory fault) Q)
if_err_only (Ok x) P Q f h = tt
if_err_only (Err fault) P Q f h = only_if_weaker (wants_memory fault) P Q f h

abbrev pub IsOne : {A : Type 0} → (A → Option (List ℕ)) → Type 0
IsOne {A} f = (a b : A) (x y octets : List ℕ) → f a ++? Some x ≡ Some octets → f b ++? Some y ≡ Some octets
    → (a ≡ b) × (x ≡ y)

-- a whole is read where nothing is left
pub nothing_left : (p : Option (List ℕ)) (octets : List ℕ) → p ++? Some [] ≡ Some octets → p ≡ Some octets
nothing_left None octets e = absurd (cc)
nothing_left (Some s) octets e = ap Some (sym (append-nil s)) ∙ e

pub left_over : {A : Type 0} (f : A → Option (List ℕ)) → IsOne f → (y : A) (new : Option (List ℕ)) (octets : List ℕ)
    → Reads f (Ok y) (Some octets) new → new ≢ Some []
    → (x : A) → f x ≡ Some octets → ⊥
left_over f one y (Some rest) octets r more x e =
    let same = one y x rest [] octets r.reads (whole (f x) octets e) in
    more (ap Some same.1)
left_over f one y None octets r more x e = r.reads x [] (whole (f x) octets e)

pub whole_read : {A : Type 0} (f : A → Option (List ℕ)) → IsOne f
    → (octets : List ℕ) (r q : Result A TableFault) (old new : Option (List ℕ)) → old ≡ Some octets → Reads f r old new
    → IfOk q (λ x. (r ≡ Ok x) × (new ≡ Some []))
    → IfErr q (λ fault. (r ≡ Err fault) ⊎ ((x : A) × (r ≡ Ok x) × (new ≢ Some []))) → Whole f q octets
whole_read f one octets r (Ok x) old new start reads kept refused =
    let read = subst (λ o. Reads f (Ok x) o (Some [])) start
    (subst (λ n. Reads f (Ok x) old n) kept.1 (subst (λ s. Reads f s old new) kept.0 reads)) in
    nothing_left (f x) octets read.reads
whole_read {A} f one octets r (Err fault) old new start reads kept refused =
    let from = subst (λ o. Reads f r o new) start reads in
    elim refused [
      | inl is ↦
          let read = subst (λ s. Reads f s (Some octets) new) is from in
          only_if_weaker (wants_memory fault) (BeginsWithNone f octets) ((x : A) → f x ≡ Some octets → ⊥)
          (λ none x e. none x [] (whole (f x) octets e)) read.reads
      | inr is ↦
          let read = subst (λ s. Reads f s (Some octets) new) is.1 from in
          only_if_holds (wants_memory fault) ((x : A) → f x ≡ Some octets → ⊥)
          (left_over f one is.0 new octets read is.2)
    ]

-- ---- all but the uses, and then those

pub no_most : (octets : List ℕ) → BeginsWithNone spelled_most octets → BeginsWithNone spelled_fields octets
no_most octets none = λ x rest e.
    let p = parted (spelled_most x.0) (spelled_run (length x.0.0.1.0) spelled_which x.1) (Some rest) octets e in
    none x.0 p.0 p.2

pub most_fails : (fault : TableFault) (old new : Option (List ℕ)) → Reads spelled_most (Err fault) old new
    → Reads spelled_fields (Err fault) old new
most_fails fault (Some octets) new r =
    record {
      reads = only_if_weaker (wants_memory fault) (BeginsWithNone spelled_most octets)
          (BeginsWithNone spelled_fields octets) (no_most octets) r.reads;
    }
most_fails fault None new r = record { reads = tt }

no_uses : (most : MostFields) (mid octets : List ℕ) → spelled_most most ++? Some mid ≡ Some octets
    → BeginsWithNone (spelled_run (length most.0.1.0) spelled_which) mid
    → BeginsWithNone spelled_fields octets
no_uses most mid octets e none = λ x rest ex.
    let p = parted (spelled_most x.0) (spelled_run (length x.0.0.1.0) spelled_which x.1) (Some rest) octets ex in
    let same = most_code.one x.0 most p.0 mid octets p.2 e in
    let counts : length x.0.0.1.0 ≡ length most.0.1.0 = ap (λ (m : MostFields). length m.0.1.0) same.0 in
    none x.1 rest (ap (λ n. spelled_run n spelled_which x.1 ++? Some rest) (sym counts) ∙ p.1 ∙ ap Some same.1)

behind : (most : MostFields) (r : Result (List Which) TableFault) (old mid new : Option (List ℕ))
    → Reads spelled_most (Ok most) old mid → Reads (spelled_run (length most.0.1.0) spelled_which) r mid new
    → Reads spelled_fields (beside most r) old new
behind most (Ok uses) (Some octets) (Some m) (Some rest) one two =
    record {
      reads = joins_assoc (spelled_most most) (spelled_run (length most.0.1.0) spelled_which uses) (Some rest)
          ∙ ap (λ o. spelled_most most ++? o) two.reads ∙ one.reads;
    }
behind most (Ok uses) (Some octets) (Some m) None one two = record { reads = no_uses most m octets one.reads two.reads }
behind most (Ok uses) (Some octets) None (Some rest) one two = absurd two.reads
behind most (Ok uses) (Some octets) None None one two = record { reads = no_most octets one.reads }
behind most (Ok uses) None (Some m) new one two = absurd one.reads
behind most (Ok uses) None None (Some rest) one two = absurd two.reads
behind most (Ok uses) None None None one two = record { reads = tt }
behind most (Err fault) (Some octets) (Some m) new one two =
    record {
      reads = only_if_weaker (wants_memory fault)
          (BeginsWithNone (spelled_run (length most.0.1.0) spelled_which) m) (BeginsWithNone spelled_fields octets)
          (no_uses most m octets one.reads) two.reads;
    }
behind most (Err fault) (Some octets) None new one two =
    record {
      reads = only_if_holds (wants_memory fault) (BeginsWithNone spelled_fields octets)
          (no_most octets one.reads);
    }
behind most (Err fault) None mid new one two = record { reads = tt }

pub uses_read : (most : MostFields) (count : ℕ) (r : Result (List Which) TableFault) (q : Result TableFields TableFault)
    (old mid new : Option (List ℕ)) → count ≡ length most.0.1.0 → q ≡ beside most r
    → Reads spelled_most (Ok most) old mid → Reads (spelled_run count spelled_which) r mid new
    → Reads spelled_fields q old new
uses_read most count r q old mid new c is m u =
    subst (λ s. Reads spelled_fields s old new) (sym is)
    (behind most r old mid new m (subst (λ n. Reads (spelled_run n spelled_which) r mid new) c u))

-- ---- tables of what was read

pub fields_body : (d : TableFields) (octets : List ℕ) → spelled_fields d ≡ Some octets
    → spelled_body (table_from d) ≡ Some octets
fields_body d octets e =
    let p = parted (spelled_most d.0) (spelled_run (length d.0.0.1.0) spelled_which d.1) (Some []) octets
    (whole (spelled_fields d) octets e) in
    let long = run_at (length d.0.0.1.0) spelled_which d.1 [] p.0 p.1 in
    body_fields (table_from d) long.0 ∙ e

abbrev pub NoBody : List ℕ → Type 0
NoBody octets = (table : TableParts) → IsTable table → spelled_body table ≡ Some octets → ⊥

pub no_body : (octets : List ℕ) → ((x : TableFields) → spelled_fields x ≡ Some octets → ⊥) → NoBody octets
no_body octets none = λ table rules e. none (table_fields table) (sym (body_fields table rules.uses.each) ∙ e)

pub no_table : (d : TableFields) (octets : List ℕ) → spelled_fields d ≡ Some octets → (IsTable (table_from d) → ⊥)
    → NoBody octets
no_table d octets e none = λ table rules body.
    let fields = sym (body_fields table rules.uses.each) ∙ body in
    let same = one_fields (table_fields table) d [] [] octets
    (whole (spelled_fields (table_fields table)) octets fields) (whole (spelled_fields d) octets e) in
    none (subst IsTable (ap table_from same.0) rules)

-- ---- of version 1

all_of_one : (n : ℕ) → AllByRecursion (λ use_. use_ ≡ First) (replicate n First)
all_of_one zero = tt
all_of_one (suc n) = (refl, all_of_one n)

length_of : (n : ℕ) → length (replicate n First) ≡ n
length_of zero = refl
length_of (suc n) = ap suc (length_of n)

pub old_body : (old : OldFields) (octets : List ℕ) → spelled_old_fields old ≡ Some octets
    → IsOldBody (table_from (fields_of old)) octets
old_body old octets e = record { spelled = e; empty = refl; unused = all_of_one (length old.0.1.0) }

abbrev pub NoOldBody : List ℕ → Type 0
NoOldBody octets = (table : TableParts) → IsTable table → IsOldBody table octets → ⊥

pub no_old_body : (octets : List ℕ) → ((x : OldFields) → spelled_old_fields x ≡ Some octets → ⊥) → NoOldBody octets
no_old_body octets none = λ table rules body. none (model_fields table.model, table.first) body.spelled

pub no_old_table : (old : OldFields) (octets : List ℕ) → spelled_old_fields old ≡ Some octets
    → (IsTable (table_from (fields_of old)) → ⊥) → NoOldBody octets
no_old_table old octets e none = λ table rules body.
    let same = old_code.one (model_fields table.model, table.first) old [] [] octets
    (whole (spelled_old_body table) octets body.spelled) (whole (spelled_old_fields old) octets e) in
    let made = table_from (fields_of old) in
    let models : table.model ≡ made.model = ap (λ (x : OldFields). model_from x.0) same.0 in
    let firsts : table.first ≡ made.first = ap (λ (x : OldFields). x.1) same.0 in
    let counts : length table.model.names ≡ length old.0.1.0 = ap (λ (x : OldFields). length x.0.1.0) same.0 in
    let uses = all_first table.uses (replicate (length old.0.1.0) First) body.unused (all_of_one (length old.0.1.0))
    (rules.uses.each ∙ counts ∙ sym (length_of (length old.0.1.0))) in
    none (subst IsTable (of_parts table made models firsts body.empty uses) rules)

-- ---- behind the start

abbrev pub NoSpelling : List ℕ → Type 0
NoSpelling octets = (table : TableParts) → IsTable table → Spells table octets ⊎ SpellsOld table octets → ⊥

pub no_start : (octets : List ℕ) → ((version : ℕ) (rest : List ℕ) → octets ≡ 73 ∷ 68 ∷ 76 ∷ 84 ∷ version ∷ rest → ⊥)
    → NoSpelling octets
no_start octets none = λ table rules spells. elim spells [
  | inl new ↦ let a = behind_start 2 (spelled_body table) octets new in none 2 a.0 a.1
  | inr old ↦ let a = behind_start 1 (spelled_old_body table) octets old.spelled in none 1 a.0 a.1
]

pub no_version_2 : (octets rest : List ℕ) (version : ℕ) → octets ≡ 73 ∷ 68 ∷ 76 ∷ 84 ∷ version ∷ rest → version ≡ 2
    → NoBody rest → NoSpelling octets
no_version_2 octets rest version start is none = λ table rules spells. elim spells [
  | inl new ↦
      let a = behind_start 2 (spelled_body table) octets new in
      let rests : a.0 ≡ rest = cc in
      none table rules (a.2 ∙ ap Some rests)
  | inr old ↦
      let a = behind_start 1 (spelled_old_body table) octets old.spelled in
      let clash : 73 ∷ 68 ∷ 76 ∷ 84 ∷ 2 ∷ rest ≡ 73 ∷ 68 ∷ 76 ∷ 84 ∷ 1 ∷ a.0 =
      ap (λ v. 73 ∷ 68 ∷ 76 ∷ 84 ∷ v ∷ rest) (sym is) ∙ sym start ∙ a.1 in
      cc
]

pub no_version_1 : (octets rest : List ℕ) (version : ℕ) → octets ≡ 73 ∷ 68 ∷ 76 ∷ 84 ∷ version ∷ rest → version ≡ 1
    → NoOldBody rest → NoSpelling octets
no_version_1 octets rest version start is none = λ table rules spells. elim spells [
  | inl new ↦
      let a = behind_start 2 (spelled_body table) octets new in
      let clash : 73 ∷ 68 ∷ 76 ∷ 84 ∷ 1 ∷ rest ≡ 73 ∷ 68 ∷ 76 ∷ 84 ∷ 2 ∷ a.0 =
      ap (λ v. 73 ∷ 68 ∷ 76 ∷ 84 ∷ v ∷ rest) (sym is) ∙ sym start ∙ a.1 in
      cc
  | inr old ↦
      let a = behind_start 1 (spelled_old_body table) octets old.spelled in
      let rests : a.0 ≡ rest = cc in
      none table rules (record { spelled = a.2 ∙ ap Some rests; empty = old.empty; unused = old.unused })
]

-- ---- of the functions' results

pub if_ok_body : (d : TableFields) (octets : List ℕ) (r : Result TableParts TableFault) → spelled_fields d ≡ Some octets
    → IfOk r (λ table. table ≡ table_from d)
    → IfOk r (λ table. spelled_body table ≡ Some octets)
if_ok_body d octets (Ok table) e kept = ap spelled_body kept ∙ fields_body d octets e
if_ok_body d octets (Err fault) e kept = tt

pub if_ok_old_body : (old : OldFields) (d : TableFields) (octets : List ℕ) (r : Result TableParts TableFault)
    → spelled_old_fields old ≡ Some octets → d ≡ fields_of old
    → IfOk r (λ table. table ≡ table_from d) → IfOk r (λ table. IsOldBody table octets)
if_ok_old_body old d octets (Ok table) e is kept =
    subst (λ t. IsOldBody t octets) (sym (kept ∙ ap table_from is)) (old_body old octets e)
if_ok_old_body old d octets (Err fault) e is kept = tt

pub rules_of : (old : OldFields) (d : TableFields) → d ≡ fields_of old → IsTable (table_from (fields_of old))
    → IsTable (table_from d)
rules_of old d is rules = subst (λ x. IsTable (table_from x)) (sym is) rules
