-- Kinds that are read by their tags.
use Rattle.std.proofs.Common.{◌≡◌, ℕ, ◌<◌, ◌≤◌, List, [], ◌∷◌, Option, Some, None, Result, Ok, Err, sym, ap, ◌∙◌, subst}
use Rattle.std.specs.Prelude.{IsErrAnd}
use Rattle.std.proofs.lemmas.Result.{err_from_is_err_and}
use Rattle.std.specs.Fmt.{◌++?◌}
use Rattle.marshal_program.specs.declared.fault.TableFault.{TableFault}
use Rattle.table_file.specs.Octets.{Tagged, spelled_tagged}
use Rattle.table_file.specs.inner.Reading.{BeginsWithNone, Reads, Takes}
use Rattle.table_file.specs.inner.Joins.{joins_assoc}
use Rattle.table_file.specs.inner.Variants.{IsKind, kind_at, of_kind, no_kind}
use Rattle.type_graph.proofs.Refusals.{only_if_weaker, only_if_holds}
use Rattle.table_file.specs.Refusal.{wants_memory}

-- what is made of the fields
abbrev pub made : {A F : Type 0} → (F → A) → Result F TableFault → Result A TableFault
made make (Ok x) = Ok (make x)
made make (Err fault) = Err fault

module _ {A F : Type 0} {tagged : A → Tagged} {tag : ℕ} {fields : F → Option (List ℕ)} {make : F → A}
    (kind : IsKind tagged tag fields make) where
  -- where the fields of a kind aren't behind its tag, nothing is
  pub no_fields : (mid octets : List ℕ) → octets ≡ tag ∷ mid → BeginsWithNone fields mid
      → BeginsWithNone (λ a. spelled_tagged (tagged a)) octets
  no_fields mid octets front none = λ a rest e.
      let x = of_kind kind a rest mid (e ∙ ap Some front) in
      let p = kind_at kind x.0 rest octets (ap (λ y. spelled_tagged (tagged y) ++? Some rest) (sym x.1) ∙ e) in
      let same : p.0 ≡ mid = cc in
      none x.0 rest (p.2 ∙ ap Some same)

  by_tag : (r : Result F TableFault) (old mid new : Option (List ℕ)) → Takes 1 (tag ∷ []) old mid
      → Reads fields r mid new
      → Reads (λ a. spelled_tagged (tagged a)) (made make r) old new
  by_tag (Ok x) (Some octets) (Some m) (Some rest) t r = record {
    reads =
        ap (λ o. o ++? Some rest) (kind.says x) ∙ joins_assoc (Some (tag ∷ [])) (fields x) (Some rest)
        ∙ ap (λ o. Some (tag ∷ []) ++? o) r.reads ∙ ap Some (sym t.takes);
  }
  by_tag (Ok x) (Some octets) (Some m) None t r = record { reads = no_fields m octets t.takes r.reads }
  by_tag (Err fault) (Some octets) (Some m) new t r = record {
    reads =
        only_if_weaker (wants_memory fault) (BeginsWithNone fields m)
        (BeginsWithNone (λ a. spelled_tagged (tagged a)) octets)
        (no_fields m octets t.takes) r.reads;
  }
  by_tag r (Some octets) None new t q = absurd t.takes
  by_tag r None (Some m) new t q = absurd t.takes
  by_tag (Ok x) None None (Some rest) t r = absurd r.reads
  by_tag (Ok x) None None None t r = record { reads = tt }
  by_tag (Err fault) None None new t r = record { reads = tt }

  -- Behind its tag a kind is read by its fields, as a reader meets it, which has compared the tag.
  pub kind_reads : {r : Result F TableFault} {old mid new : Option (List ℕ)} {n : ℕ} → n ≡ tag
      → Takes 1 (n ∷ []) old mid → Reads fields r mid new → Reads (λ a. spelled_tagged (tagged a)) (made make r) old new
  kind_reads {r = r} {old = old} {mid = mid} {new = new} e t q =
      by_tag r old mid new (subst (λ (i : ℕ). Takes 1 (i ∷ []) old mid) e t) q

  -- the same at a `?` that hands a fault on
  pub kind_fails : (result : Result A TableFault) {fault : TableFault} {old mid new : Option (List ℕ)} {n : ℕ} → n ≡ tag
      → Takes 1 (n ∷ []) old mid → Reads fields (Err fault) mid new → IsErrAnd result (λ told. told ≡ fault)
      → Reads (λ a. spelled_tagged (tagged a)) result old new
  kind_fails result e t q told = let p = err_from_is_err_and result told in rw (p.1, p.2) (kind_reads e t q)

-- a tag of no kind
pub no_kind_reads : {A : Type 0} (tagged : A → Tagged) (many : ℕ) → ((a : A) → (tagged a).0 < many)
    → (tag : ℕ) → many ≤ tag → (fault : TableFault) (old mid new : Option (List ℕ)) → Takes 1 (tag ∷ []) old mid
    → Reads (λ a. spelled_tagged (tagged a)) (Err fault) old new
no_kind_reads tagged many few tag le fault (Some octets) (Some m) new t = record {
  reads =
      only_if_holds (wants_memory fault) (BeginsWithNone (λ a. spelled_tagged (tagged a)) octets)
      (λ a rest e. no_kind tagged many few tag le a rest m (e ∙ ap Some t.takes));
}
no_kind_reads tagged many few tag le fault (Some octets) None new t = absurd t.takes
no_kind_reads tagged many few tag le fault None mid new t = record { reads = tt }
