-- Parts that are passed one behind the other.
use Rattle.std.proofs.Common.{◌≡◌, ℕ, ◌<◌, ◌≤◌, ◌+◌, ◌-◌, Bool, true, false, List, [], ◌∷◌, ◌++◌, length, length-append, take, drop, replicate, Option, Some, None, refl, sym, ap, ap₂, ◌∙◌, append_assoc, inl, inr, subst, arith}
use Rattle.std.proofs.lemmas.Bool.{cases_lt}
use Rattle.std.specs.Prelude.{◌↔◌, IsTrue, is_some}
use Rattle.std.proofs.lemmas.List.{append-nil, drop_all, take-append-drop, length-take-le, length-replicate}
use Rattle.std.specs.Fmt.{◌++?◌}
use Rattle.type_graph.specs.Words.{AllBelow}
use Rattle.type_graph.proofs.WordLaws.{all_append, all_front, all_weaken, zeros_below}
use Rattle.table_file.specs.Octets.{Tagged, spelled_tagged, spelled_pair}
use Rattle.table_file.specs.inner.Reading.{BeginsWithNone}
use Rattle.table_file.specs.inner.Passing.{HasOne, Passes, PassesOne, Stops}
use Rattle.table_file.specs.inner.Joins.{joins_assoc, split}
use Rattle.table_file.specs.inner.Codes.{IsCode}
use Rattle.table_file.specs.inner.Variants.{IsKind, nothing, no_kind}
use Rattle.table_file.proofs.ReadLaws.{no_first, no_second}
use Rattle.table_file.proofs.VariantReads.{no_fields}

-- ---- two parts

-- where the first stops, both do
pub first_stops : {A B : Type 0} (f : A → Option (List ℕ)) (g : B → Option (List ℕ)) → HasOne g → (old new : List ℕ)
    → Passes f false old new → Passes (spelled_pair f g) false old new
first_stops f g one old new p =
    let s = p.passes in
    record {
      passes = record {
        front = s.front;
        is = s.is;
        begins = (
          (s.begins.0, one.0),
          s.begins.1 ++ one.1,
          ap₂ (λ a b. a ++? b) s.begins.2 one.2 ∙ ap Some (append_assoc s.front s.begins.1 one.1),
        );
        ends = λ any same. no_first f g (s.front ++ any) (s.ends any same);
      };
    }

-- the second behind the first
pub second_passes : {A B : Type 0} (f : A → Option (List ℕ)) (g : B → Option (List ℕ)) → IsCode f → (b : Bool)
    (old mid new : List ℕ) → Passes f true old mid → Passes g b mid new → Passes (spelled_pair f g) b old new
second_passes f g code true old mid new p q = record {
  passes = (
    (p.passes.0, q.passes.0),
    joins_assoc (f p.passes.0) (g q.passes.0) (Some new) ∙ ap (λ o. f p.passes.0 ++? o) q.passes.1 ∙ p.passes.1,
  );
}
second_passes f g code false old mid new p q =
    let s = q.passes in
    let x = p.passes.0 in
    let whole = split (f x) (Some mid) old p.passes.1 in
    let mids : mid ≡ whole.1 = cc in
    record {
      passes = record {
        front = whole.0 ++ s.front;
        is = sym whole.4 ∙ ap (λ t. whole.0 ++ t) (sym mids ∙ s.is) ∙ sym (append_assoc whole.0 s.front new);
        begins = (
          (x, s.begins.0),
          s.begins.1,
          ap₂ (λ a b. a ++? b) whole.2 s.begins.2 ∙ ap Some (sym (append_assoc whole.0 s.front s.begins.1)),
        );
        ends = λ any same.
            no_second f g code x (s.front ++ any) ((whole.0 ++ s.front) ++ any)
            (ap (λ o. o ++? Some (s.front ++ any)) whole.2 ∙ ap Some (sym (append_assoc whole.0 s.front any)))
            (s.ends any same);
      };
    }

-- as a reader meets them, which has asked whether the first was passed
pub then_passes : {A B : Type 0} (f : A → Option (List ℕ)) (g : B → Option (List ℕ)) → IsCode f → (a b : Bool)
    (old mid new : List ℕ) → a ≡ true → Passes f a old mid → Passes g b mid new → Passes (spelled_pair f g) b old new
then_passes f g code true b old mid new e p q = second_passes f g code b old mid new p q
then_passes f g code false b old mid new e p q = absurd cc

pub else_stops : {A B : Type 0} (f : A → Option (List ℕ)) (g : B → Option (List ℕ)) → HasOne g → (a : Bool)
    (old new : List ℕ) → a ≡ false → Passes f a old new → Passes (spelled_pair f g) false old new
else_stops f g one true old new e p = absurd cc
else_stops f g one false old new e p = first_stops f g one old new p

-- ---- what is read off something else

pub via_passes : {A B : Type 0} (g : B → Option (List ℕ)) (f : A → B) (back : B → A) → ((x : B) → f (back x) ≡ x)
    → (b : Bool) (old new : List ℕ) → Passes g b old new → Passes (λ a. g (f a)) b old new
via_passes g f back same true old new p = record {
  passes = (back p.passes.0, ap (λ x. g x ++? Some new) (same p.passes.0) ∙ p.passes.1);
}
via_passes g f back same false old new p =
    let s = p.passes in
    record {
      passes = record {
        front = s.front;
        is = s.is;
        begins = (back s.begins.0, s.begins.1, ap g (same s.begins.0) ∙ s.begins.2);
        ends = λ any same-here a rest e. s.ends any same-here (f a) rest e;
      };
    }

-- ---- nothing passed

-- what is left has the first octet that it had
pub fronts : (n : ℕ) (any rest : List ℕ) → take 1 any ≡ take 1 (n ∷ rest) → (more : List ℕ) × (any ≡ n ∷ more)
fronts n [] rest e = absurd cc
fronts n (m ∷ any) rest e = (any, cc)

-- nothing is left
none_left : (any : List ℕ) → take 1 any ≡ [] → any ≡ []
none_left [] e = refl
none_left (m ∷ any) e = absurd cc

none_before : {A : Type 0} (f : A → Option (List ℕ)) → IsCode f → BeginsWithNone f []
none_before f code x rest e =
    let p = split (f x) (Some rest) [] e in
    let some = code.some x p.0 p.2 in
    let l : length (p.0 ++ p.1) ≡ 0 = ap length p.4 in
    let long : length (p.0 ++ p.1) ≡ length p.0 + length p.1 = length-append p.0 p.1 in
    omega (arith, some, l, long)

none_there : {A : Type 0} (f : A → Option (List ℕ)) → IsCode f → (octets any : List ℕ)
    → ((n : ℕ) (rest more : List ℕ) → octets ≡ n ∷ rest → BeginsWithNone f (n ∷ more))
    → take 1 any ≡ take 1 octets → BeginsWithNone f any
none_there f code [] any none e = rw (none_left any e) (none_before f code)
none_there f code (n ∷ rest) any none e = let p = fronts n any rest e in rw p.1 (none n rest p.0 refl)

-- no spelling begins with the octet that is there
pub stops_here : {A : Type 0} (f : A → Option (List ℕ)) → IsCode f → HasOne f → (octets : List ℕ)
    → ((n : ℕ) (rest more : List ℕ) → octets ≡ n ∷ rest → BeginsWithNone f (n ∷ more)) → Stops f octets octets
stops_here f code one octets none = record {
  front = [];
  is = refl;
  begins = (one.0, one.1, one.2);
  ends = λ any e. none_there f code octets any none e;
}

-- ---- one octet

pub one_passes : {A : Type 0} (f : A → Option (List ℕ)) (Is : ℕ → Type 0) → IsCode f → HasOne f
    → ((n : ℕ) → Is n → (x : A) × (f x ≡ Some (n ∷ [])))
    → ((x : A) (s : List ℕ) → f x ≡ Some s → (n : ℕ) × (s ≡ n ∷ []) × Is n)
    → (result : Option ℕ) (old new : List ℕ) → PassesOne Is result old new → Passes f (is_some result) old new
one_passes f Is code one each only (Some n) old new p =
    let x = each n p.passes.0 in
    record { passes = (x.0, ap (λ o. o ++? Some new) x.1 ∙ ap Some (sym p.passes.1)) }
one_passes f Is code one each only None old new p = record {
  passes =
      rw p.passes.0
      (stops_here f code one old (λ n rest more e x tail ex.
      let s = split (f x) (Some tail) (n ∷ more) ex in
      let m = only x s.0 s.2 in
      let whole : m.0 ∷ s.1 ≡ n ∷ more = ap (λ t. t ++ s.1) (sym m.1) ∙ s.4 in
      let same : m.0 ≡ n = cc in
      p.passes.1 n rest e (rw (sym same) m.2)));
}

-- the same, as a reader meets it that asks whether there is one
pub one_some : {A : Type 0} (f : A → Option (List ℕ)) (Is : ℕ → Type 0) → IsCode f → HasOne f
    → ((n : ℕ) → Is n → (x : A) × (f x ≡ Some (n ∷ [])))
    → ((x : A) (s : List ℕ) → f x ≡ Some s → (n : ℕ) × (s ≡ n ∷ []) × Is n)
    → (result : Option ℕ) (old new : List ℕ) (b : Bool) → b ≡ is_some result → PassesOne Is result old new
    → Passes f b old new
one_some f Is code one each only result old new b e p = rw e (one_passes f Is code one each only result old new p)

-- ---- so many octets

zeros_octets : (n : ℕ) → AllBelow 256 (replicate n 0)
zeros_octets n = all_weaken (λ m. m < 1) (λ m. m < 256) (replicate n 0) (λ m h. omega arith) (zeros_below n)

module _ {A : Type 0} (f : A → Option (List ℕ)) (k : ℕ)
    (each : (s : List ℕ) → length s ≡ k → AllBelow 256 s → (x : A) × (f x ≡ Some s))
    (long : (x : A) (s : List ℕ) → f x ≡ Some s → length s ≡ k) where
  -- too few of them begin such
  few_stop : (old : List ℕ) → AllBelow 256 old → length old < k → Stops f old []
  few_stop old octets short =
      let more : List ℕ = replicate (k - length old) 0 in
      let parts : length (old ++ more) ≡ length old + length more = length-append old more in
      let filled : length more ≡ k - length old = length-replicate _ _ in
      let x =
      each (old ++ more) (omega (arith, parts, filled, short))
      (all_append (λ n. n < 256) old more octets (zeros_octets (k - length old))) in
      record {
        front = old;
        is = sym (append-nil old);
        begins = (x.0, more, x.1);
        ends = λ any same y rest e.
            let nil = none_left any same in
            let p = split (f y) (Some rest) (old ++ any) e in
            let l = long y p.0 p.2 in
            let all : length (p.0 ++ p.1) ≡ length (old ++ any) = ap length p.4 in
            let sums : length (p.0 ++ p.1) ≡ length p.0 + length p.1 = length-append p.0 p.1 in
            let ends : length (old ++ any) ≡ length old + length any = length-append old any in
            let zero : length any ≡ 0 = ap length nil in
            absurd (omega (arith, l, all, sums, ends, zero, short));
      }

  pub some_stop : (old new : List ℕ) → AllBelow 256 old → length old < k → new ≡ [] → Stops f old new
  some_stop old new octets short nil = rw nil (few_stop old octets short)

  pub octets_pass : (b : Bool) (old new : List ℕ) → AllBelow 256 old → IsTrue b ↔ k ≤ length old → new ≡ drop k old
      → Passes f b old new
  octets_pass true old new octets there behind =
      let l = there.0 refl in
      let cut : take k old ++ drop k old ≡ old = take-append-drop k old in
      let x =
      each (take k old) (length-take-le k old l)
      (all_front (λ n. n < 256) (take k old) (drop k old) (subst (AllBelow 256) (sym cut) octets)) in
      record { passes = (x.0, ap (λ o. o ++? Some new) x.1 ∙ ap (λ t. Some (take k old ++ t)) behind ∙ ap Some cut) }
  octets_pass false old new octets there behind =
      let short : length old < k =
      elim (cases_lt (length old) k) [
        | inl lt ↦ lt
        | inr le ↦ absurd (let e = there.1 le in cc)
      ] in
      record { passes = some_stop old new octets short (behind ∙ drop_all k old (omega (arith, short))) }

-- ---- kinds

module _ {A F : Type 0} {tagged : A → Tagged} {tag : ℕ} {fields : F → Option (List ℕ)} {make : F → A}
    (kind : IsKind tagged tag fields make) where
  -- behind its tag a kind is passed by its fields
  pub kind_passes : (Is : ℕ → Type 0) (n : ℕ) (b : Bool) (old mid new : List ℕ) → n ≡ tag
      → PassesOne Is (Some n) old mid
      → Passes fields b mid new → Passes (λ a. spelled_tagged (tagged a)) b old new
  kind_passes Is n true old mid new e p q = record {
    passes = (
      make q.passes.0,
      ap (λ o. o ++? Some new) (kind.says q.passes.0)
          ∙ joins_assoc (Some (tag ∷ [])) (fields q.passes.0) (Some new)
          ∙ ap (λ o. Some (tag ∷ []) ++? o) q.passes.1 ∙ ap (λ i. Some (i ∷ mid)) (sym e)
          ∙ ap Some (sym p.passes.1),
    );
  }
  kind_passes Is n false old mid new e p q =
      let s = q.passes in
      record {
        passes = record {
          front = tag ∷ s.front;
          is = p.passes.1 ∙ ap₂ (λ i is. i ∷ is) e s.is;
          begins = (
            make s.begins.0,
            s.begins.1,
            kind.says s.begins.0 ∙ ap (λ o. Some (tag ∷ []) ++? o) s.begins.2,
          );
          ends = λ any same. no_fields kind (s.front ++ any) (tag ∷ (s.front ++ any)) refl (s.ends any same);
        };
      }

  -- the same, of a tag that is told apart from what is behind it
  pub kind_behind : (n : ℕ) (b : Bool) (mid new : List ℕ) → n ≡ tag → Passes fields b mid new
      → Passes (λ a. spelled_tagged (tagged a)) b (n ∷ mid) new
  kind_behind n b mid new e q = kind_passes (λ m. Unit {0}) n b (n ∷ mid) mid new e (record { passes = (tt, refl) }) q

-- one that is a tag alone
pub kind_alone : {A : Type 0} {tagged : A → Tagged} {tag : ℕ} {make : Unit {0} → A}
    (kind : IsKind tagged tag nothing make)
    (Is : ℕ → Type 0) (n : ℕ) (old new : List ℕ) → n ≡ tag → PassesOne Is (Some n) old new
    → Passes (λ a. spelled_tagged (tagged a)) true old new
kind_alone kind Is n old new e p = kind_passes kind Is n true old new new e p (record { passes = (tt, refl) })

-- no kind has the tag that is there
pub kinds_stop : {A : Type 0} (tagged : A → Tagged) (many : ℕ) → ((a : A) → (tagged a).0 < many)
    → IsCode (λ a. spelled_tagged (tagged a)) → HasOne (λ a. spelled_tagged (tagged a)) → (old new : List ℕ)
    → PassesOne (λ n. n < many) None old new → Passes (λ a. spelled_tagged (tagged a)) false old new
kinds_stop tagged many few code one old new p = record {
  passes =
      rw p.passes.0
      (stops_here (λ a. spelled_tagged (tagged a)) code one old (λ n rest more e a tail ex.
      elim (cases_lt n many) [
        | inl lt ↦ absurd (p.passes.1 n rest e lt)
        | inr le ↦ no_kind tagged many few n le a tail more ex
      ]));
}
