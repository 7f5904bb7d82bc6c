-- Octets that are passed as those of a file, and whole files.
use Rattle.std.proofs.Common.{◌≡◌, ℕ, zero, suc, ◌<◌, ◌≤◌, ◌-◌, Bool, true, false, List, [], ◌∷◌, ◌++◌, length, length-append, take, drop, replicate, Option, Some, refl, sym, ap, ◌∙◌, append_assoc, subst, inl, inr, arith}
use Rattle.std.proofs.Math.Seq.{take-length}
use Rattle.std.proofs.lemmas.List.{append-nil, length-replicate, take-append-drop, take-append-le}
use Rattle.std.proofs.lemmas.Bool.{cases_lt}
use Rattle.std.specs.Prelude.{◌⊎◌}
use Rattle.std.specs.Fmt.{◌++?◌}
use Rattle.std.specs.List.{AllByRecursion}
use Rattle.table_file.specs.declared.table.Which.TheVariants.{First}
use Rattle.table_file.specs.Octets.{spelled_each, spelled_list}
use Rattle.table_file.specs.Spelling.{spelled_model, spelled_name, spelled_node, spelled_program}
use Rattle.table_file.specs.Stops.{IsForm, IsFront, StopsAt}
use Rattle.table_file.specs.Table.{TableParts, table_of}
use Rattle.table_file.specs.TableSpelling.{Spells, SpellsOld, spelled_start, spelled_which}
use Rattle.table_file.specs.inner.Passing.{Begins, Passes, Stops}
use Rattle.table_file.specs.inner.Joins.{joins_assoc, split}
use Rattle.table_file.specs.inner.ListCodes.{run_at, run_of}
use Rattle.table_file.specs.inner.PartCodes.{model_fields}
use Rattle.table_file.specs.inner.TableCodes.{model_from, spelled_old_fields, whole}
use Rattle.table_file.specs.inner.Skimming.{spelled_declared}
use Rattle.table_file.specs.inner.Forms.{Form, Letters, New, NewFields, Old, spelled_file, spelled_new_fields, tagged_form}
use Rattle.table_file.proofs.PassLaws.{fronts}
use Rattle.table_file.proofs.FormLaws.{file_code}

-- ---- a whole file as pairs

abbrev pub letters : Letters
letters = (tt, (tt, (tt, tt)))

-- the version stands behind the letters
file_start : (x : Form) → spelled_file (letters, x) ≡ spelled_start (tagged_form x).0 ++? (tagged_form x).1
file_start (Old x) = sym (joins_assoc (Some (73 ∷ 68 ∷ 76 ∷ 84 ∷ [])) (Some (1 ∷ [])) (spelled_old_fields x))
file_start (New x) = sym (joins_assoc (Some (73 ∷ 68 ∷ 76 ∷ 84 ∷ [])) (Some (2 ∷ [])) (spelled_new_fields x))

-- the parts of version 2, one behind the other
abbrev pub new_fields : TableParts → NewFields
new_fields t = (
  t.model.graph,
  (
    t.model.names,
    ((t.model.interfaces, (t.model.operations, t.model.exceptions)), ((t.first, t.second), t.uses)),
  ),
)

-- six, grouped otherwise
grouped : (nodes names declared first second uses : Option (List ℕ))
    → (nodes ++? (names ++? declared)) ++? (first ++? (second ++? uses))
    ≡ nodes ++? (names ++? (declared ++? ((first ++? second) ++? uses)))
grouped nodes names declared first second uses =
    joins_assoc nodes (names ++? declared) (first ++? (second ++? uses))
    ∙ ap (λ o. nodes ++? o)
    (joins_assoc names declared (first ++? (second ++? uses))
    ∙ ap (λ o. names ++? (declared ++? o)) (sym (joins_assoc first second uses)))

new_body : (t : TableParts) → length t.uses ≡ length t.model.names
    → spelled_model t.model ++?
    (spelled_program t.first ++? (spelled_program t.second ++? spelled_each spelled_which t.uses))
    ≡ spelled_new_fields (new_fields t)
new_body t each =
    grouped (spelled_list spelled_node t.model.graph) (spelled_list spelled_name t.model.names)
    (spelled_declared (t.model.interfaces, (t.model.operations, t.model.exceptions))) (spelled_program t.first)
    (spelled_program t.second) (spelled_each spelled_which t.uses)
    ∙ ap (λ o. spelled_list spelled_node t.model.graph ++? (spelled_list spelled_name t.model.names
    ++? (spelled_declared (t.model.interfaces, (t.model.operations, t.model.exceptions))
    ++? ((spelled_program t.first ++? spelled_program t.second) ++? o))))
    (sym (run_of (length t.model.names) spelled_which t.uses each))

abbrev pub table_from_new : NewFields → TableParts
table_from_new x =
    table_of
    (record {
      graph = x.0;
      names = x.1.0;
      interfaces = x.1.1.0.0;
      operations = x.1.1.0.1.0;
      exceptions = x.1.1.0.1.1;
    }) x.1.1.1.0.0 x.1.1.1.0.1 x.1.1.1.1

-- what is behind the first of some
second_there : (p q : Option (List ℕ)) (octets : List ℕ) → p ++? q ≡ Some octets → (t : List ℕ) × (q ≡ Some t)
second_there p q octets e = let s = split p q octets e in (s.1, s.3)

-- there is a use for each name
uses_each : (x : NewFields) (octets : List ℕ) → spelled_new_fields x ≡ Some octets
    → length (table_from_new x).uses ≡ length (table_from_new x).model.names
uses_each x octets e =
    let named = second_there _ _ octets e in
    let behind = second_there _ _ named.0 named.1 in
    let programs = second_there _ _ behind.0 behind.1 in
    let uses = second_there _ _ programs.0 programs.1 in
    (run_at (length x.1.0) spelled_which x.1.1.1.1 [] (uses.0 ++ []) (ap (λ o. o ++? Some []) uses.1)).0

all_first : (n : ℕ) → AllByRecursion (λ use_. use_ ≡ First) (replicate n First)
all_first zero = tt
all_first (suc n) = (refl, all_first n)

pub form_of : (x : Letters × Form) (octets : List ℕ) → spelled_file x ≡ Some octets → IsForm octets
form_of (l, Old x) octets e = record {
  table = table_of (model_from x.0) x.1 [] (replicate (length x.0.1.0) First);
  each = length-replicate _ _;
  spelled = inr (record { spelled = sym (file_start (Old x)) ∙ e; empty = refl; unused = all_first _ });
}
form_of (l, New x) octets e =
    let body = second_there (spelled_start 2) (spelled_new_fields x) octets (sym (file_start (New x)) ∙ e) in
    let each = uses_each x body.0 body.1 in
    record {
      table = table_from_new x;
      each = each;
      spelled = inl (ap (λ o. spelled_start 2 ++? o) (new_body (table_from_new x) each) ∙ sym (file_start (New x)) ∙ e);
    }

-- the form of octets, as pairs
of_spelled : (table : TableParts) (octets : List ℕ) → length table.uses ≡ length table.model.names
    → Spells table octets ⊎ SpellsOld table octets → (x : Letters × Form) × (spelled_file x ≡ Some octets)
of_spelled t octets each (inl s) = (
  (letters, New (new_fields t)),
  file_start (New (new_fields t))
      ∙ ap (λ o. spelled_start 2 ++? o) (sym (new_body t each)) ∙ s,
)
of_spelled t octets each (inr s) =
    ((letters, Old (model_fields t.model, t.first)), file_start (Old (model_fields t.model, t.first)) ∙ s.spelled)

of_form : (octets : List ℕ) → IsForm octets → (x : Letters × Form) × (spelled_file x ≡ Some octets)
of_form octets form = of_spelled form.table octets form.each form.spelled

-- ---- where one stops

-- the front begins a file, which none that goes on as the rest does is
record Halts (front rest : List ℕ) : Type 0 where
  begins : Begins spelled_file front
  ends : (any : List ℕ) → take 1 any ≡ take 1 rest → (x : Letters × Form) → spelled_file x ≡ Some (front ++ any) → ⊥

-- one octet more
take_next : (front rest : List ℕ) (n : ℕ) → take (suc (length front)) (front ++ n ∷ rest) ≡ front ++ n ∷ []
take_next [] rest n = refl
take_next (m ∷ front) rest n = ap (λ t. m ∷ t) (take_next front rest n)

take_front : (front rest : List ℕ) → take (length front) (front ++ rest) ≡ front
take_front front rest = take-append-le (length front) front rest (omega arith) ∙ take-length front

no_next : (front rest : List ℕ) → Halts front rest → length front < length (front ++ rest)
    → IsFront (take (suc (length front)) (front ++ rest)) → ⊥
no_next front [] h less f = let l = length-append front [] in absurd (omega (arith, l, less))
no_next front (n ∷ rest) h less f =
    let x = of_form (take (suc (length front)) (front ++ n ∷ rest) ++ f.more) f.form in
    h.ends (n ∷ f.more) refl x.0
    (x.1 ∙ ap (λ t. Some (t ++ f.more)) (take_next front rest n) ∙ ap Some (append_assoc front (n ∷ []) f.more))

stops_behind : (front rest : List ℕ) → Halts front rest → StopsAt (front ++ rest) (length front)
stops_behind front rest h = record {
  within = let l = length-append front rest in omega (arith, l);
  front = record {
    more = h.begins.1;
    form = rw (take_front front rest) (form_of h.begins.0 (front ++ h.begins.1) h.begins.2);
  };
  next = no_next front rest h;
  whole = λ form. let x = of_form (front ++ rest) form in h.ends rest refl x.0 x.1;
}

stops_at : (octets front rest : List ℕ) → octets ≡ front ++ rest → Halts front rest
    → StopsAt octets (length octets - length rest)
stops_at octets front rest is h =
    let sum = length-append front rest in
    let all : length octets ≡ length (front ++ rest) = ap length is in
    let at : length octets - length rest ≡ length front = omega (arith, sum, all) in
    rw at (rw is (stops_behind front rest h))

of_stop : (octets rest : List ℕ) (s : Stops spelled_file octets rest) → Halts s.front rest
of_stop octets rest s = record {
  begins = s.begins;
  ends = λ any same x e. s.ends any same x [] (whole (spelled_file x) (s.front ++ any) e);
}

-- behind a whole file
of_file : (x : Letters × Form) (front : List ℕ) (n : ℕ) (rest : List ℕ) → spelled_file x ≡ Some front
    → Halts front (n ∷ rest)
of_file x front n rest is = record {
  begins = (x, [], is ∙ ap Some (sym (append-nil front)));
  ends = λ any same y e.
      let p = fronts n any rest same in
      let first : spelled_file x ++? Some any ≡ Some (front ++ any) = ap (λ o. o ++? Some any) is in
      let q = file_code.one x y any [] (front ++ any) first (whole (spelled_file y) (front ++ any) e) in
      let clash : n ∷ p.0 ≡ [] = sym p.1 ∙ q.1 in
      absurd cc;
}

pub passed_stops : (b : Bool) (octets rest : List ℕ) → Passes spelled_file b octets rest
    → (b ≡ true → length rest ≡ 0 → ⊥) → StopsAt octets (length octets - length rest)
passed_stops true octets [] p more = absurd (more refl refl)
passed_stops true octets (n ∷ rest) p more =
    let parts = split (spelled_file p.passes.0) (Some (n ∷ rest)) octets p.passes.1 in
    let behind : n ∷ rest ≡ parts.1 = cc in
    stops_at octets parts.0 (n ∷ rest) (sym parts.4 ∙ ap (λ t. parts.0 ++ t) (sym behind))
    (of_file p.passes.0 parts.0 n rest parts.2)
passed_stops false octets rest p more = stops_at octets p.passes.front rest p.passes.is (of_stop octets rest p.passes)

pub passed_whole : (b : Bool) (octets rest : List ℕ) → b ≡ true → Passes spelled_file b octets rest → length rest ≡ 0
    → IsForm octets
passed_whole true octets [] e p l =
    let parts = split (spelled_file p.passes.0) (Some []) octets p.passes.1 in
    let nil : [] ≡ parts.1 = cc in
    form_of p.passes.0 octets
    (parts.2 ∙ ap Some (sym (append-nil parts.0) ∙ ap (λ t. parts.0 ++ t) nil ∙ parts.4))
passed_whole true octets (n ∷ rest) e p l = absurd (omega (arith, l))
passed_whole false octets rest e p l = absurd cc

-- ---- there is one such place

taken : (m n : ℕ) (xs : List ℕ) → m ≤ n → take m (take n xs) ≡ take m xs
taken zero n xs le = refl
taken (suc m) zero xs le = absurd (omega (arith, le))
taken (suc m) (suc n) [] le = refl
taken (suc m) (suc n) (x ∷ xs) le = ap (λ t. x ∷ t) (taken m n xs (omega (arith, le)))

-- a front of a front
front_front : (octets : List ℕ) (m n : ℕ) → m ≤ n → IsFront (take n octets) → IsFront (take m octets)
front_front octets m n le f =
    let front : take m (take n octets) ≡ take m octets = taken m n octets le in
    let cut : take m octets ++ drop m (take n octets) ≡ take n octets =
    ap (λ t. t ++ drop m (take n octets)) (sym front) ∙ take-append-drop m (take n octets) in
    record {
      more = drop m (take n octets) ++ f.more;
      form =
          subst IsForm
          (ap (λ t. t ++ f.more) (sym cut) ∙ append_assoc (take m octets) (drop m (take n octets)) f.more) f.form;
    }

earlier : (octets : List ℕ) (m n : ℕ) → StopsAt octets m → StopsAt octets n → m < n → ⊥
earlier octets m n a b less =
    let within = b.within in
    a.next (omega (arith, less, within)) (front_front octets (suc m) n less b.front)

pub one_stop : (octets : List ℕ) (m n : ℕ) → StopsAt octets m → StopsAt octets n → m ≡ n
one_stop octets m n a b =
    elim (cases_lt m n) [
      | inl less ↦ absurd (earlier octets m n a b less)
      | inr le ↦
          elim (cases_lt n m) [
            | inl less ↦ absurd (earlier octets n m b a less)
            | inr other ↦ omega (arith, le, other)
          ]
    ]
