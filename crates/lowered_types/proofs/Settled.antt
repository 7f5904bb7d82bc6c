-- What a step asks of its names is answered, it finds what is introduced before it, and what it introduces is new.
use Rattle.std.proofs.Common.{◌≡◌, ◌∙◌, ◌<◌, ◌⊎◌, inl, inr, ℕ, zero, suc, ◌+◌, Bool, true, false, nat_eq, List, [], ◌∷◌, ◌++◌, length, get_or, None, Some, refl, sym, ap, subst, arith}
use Rattle.std.specs.Prelude.{◌&&◌, not}
use Rattle.std.specs.List.{AllByRecursion, Any, IsDistinct}
use Rattle.std.specs.Str.{bytes_eq, str_eq_ignore_ascii_case}
use Rattle.std.proofs.lemmas.Bool.{and_parts, eq-eqb, eqb-true}
use Rattle.std.proofs.lemmas.List.Quantifiers.{position-Some}
use Rattle.std.proofs.lemmas.Slice.Eq.{bytes_eq-Decides}
use Rattle.idl_tree.specs.declared.names.Leaf.{Leaf}
use Rattle.idl_tree.specs.declared.spec.Spec.{Spec}
use Rattle.idl_tree.specs.declared.kinds.EntryKind.{EntryKind}
use Rattle.idl_tree.specs.declared.kinds.EntryKind.TheVariants as Kinds
use Rattle.name_table.specs.Entry.{Entry, is_named, named}
use Rattle.name_table.specs.Entries.{scope_number, scope_of}
use Rattle.name_table.specs.Search.{word}
use Rattle.name_table.proofs.MergedBases.{lower}
use Rattle.scoped_names.specs.Faults.{may_reappear}
use Rattle.scoped_names.specs.Following.{AllFollow, FindsKnown}
use Rattle.scoped_names.specs.Holding.{AllHold, Holds}
use Rattle.scoped_names.specs.Introductions.{Introduction, Stands, Has, Body, StandsFor, clashes, introduced, introduced_by, is_one_name, scope_behind}
use Rattle.name_steps.specs.Steps.{Step, Declares, Defines, Enters, Leaves, steps_of}
use Rattle.scoped_names.specs.FileNames.{AreNames, FileNames}
use Rattle.scoped_names.proofs.FollowParts.{finds_more}
use Rattle.scoped_names.proofs.Held.{names_follow, names_hold}
use Rattle.scoped_names.proofs.Introduced.{nothing_clashes}
use Rattle.scoped_names.proofs.Parts.{Closed, both_closed, one_closed, scope_past}

-- ---- what is introduced so far, the last first

-- an identifier stands for the entry
abbrev pub Known : List Entry → List Introduction → ℕ → Type 0
Known es [] e = ⊥
Known es (x ∷ g) e = StandsFor es e x ⊎ Known es g e

abbrev pub IsBody : ℕ → Introduction → Type 0
IsBody s (Stands scope l kind) = ⊥
IsBody s (Has scope l) = ⊥
IsBody s (Body t) = s ≡ t

-- what has the scope is defined
abbrev pub IsDone : List Introduction → ℕ → Type 0
IsDone [] s = ⊥
IsDone (x ∷ g) s = IsBody s x ⊎ IsDone g s

-- more, one behind another
abbrev pub onto : List Introduction → List Introduction → List Introduction
onto [] g = g
onto (x ∷ xs) g = onto xs (x ∷ g)

-- what is introduced is new, or may appear again
abbrev pub IsNew : List Entry → List Introduction → Introduction → Type 0
IsNew es g (Stands scope l kind) = (e : ℕ) → named es scope (word l) ≡ Some e → Known es g e
    → may_reappear kind kind ≡ true
IsNew es g (Has scope l) = Unit {0}
IsNew es g (Body s) = IsDone g s → ⊥

abbrev pub AllNew : List Entry → List Introduction → List Introduction → Type 0
AllNew es g [] = Unit {0}
AllNew es g (x ∷ xs) = IsNew es g x × AllNew es (x ∷ g) xs

pub record Settled (es : List Entry) (g : List Introduction) (scope : ℕ) (s : Step) : Type 0 where
  pub holds : Holds es scope s
  pub finds : FindsKnown (Known es g) es scope s
  pub new : AllNew es g (introduced_by scope s)

-- so of steps, of which the first is done in the scope
abbrev pub AllSettled : List Entry → List Introduction → ℕ → List Step → Type 0
AllSettled es g scope [] = Unit {0}
AllSettled es g scope (s ∷ steps) =
    Settled es g scope s × AllSettled es (onto (introduced_by scope s) g) (scope_behind es scope s) steps

-- what is introduced behind them
abbrev pub behind : List Entry → List Introduction → ℕ → List Step → List Introduction
behind es g scope [] = g
behind es g scope (s ∷ steps) = behind es (onto (introduced_by scope s) g) (scope_behind es scope s) steps

-- ---- parts one behind another

pub hold : (es : List Entry) (g : List Introduction) (scope : ℕ) (xs : List Step) → AllSettled es g scope xs
    → AllHold es scope xs
hold es g scope [] h = tt
hold es g scope (s ∷ xs) (h, hs) = (h.holds, hold es (onto (introduced_by scope s) g) (scope_behind es scope s) xs hs)

pub split : (es : List Entry) (g : List Introduction) (scope : ℕ) (xs ys : List Step) → AllSettled es g scope (xs ++ ys)
    → AllSettled es g scope xs × AllSettled es (behind es g scope xs) (scope_past es scope xs) ys
split es g scope [] ys h = (tt, h)
split es g scope (s ∷ xs) ys (h, hs) =
    let rest = split es (onto (introduced_by scope s) g) (scope_behind es scope s) xs ys hs in ((h, rest.0), rest.1)

pub behind_split : (es : List Entry) (g : List Introduction) (scope : ℕ) (xs ys : List Step)
    → behind es g scope (xs ++ ys) ≡ behind es (behind es g scope xs) (scope_past es scope xs) ys
behind_split es g scope [] ys = refl
behind_split es g scope (s ∷ xs) ys = behind_split es (onto (introduced_by scope s) g) (scope_behind es scope s) xs ys

pub both : (es : List Entry) (g : List Introduction) (scope : ℕ) (xs ys : List Step) → Closed xs
    → AllSettled es g scope (xs ++ ys)
    → AllSettled es g scope xs × AllSettled es (behind es g scope xs) scope ys
both es g scope xs ys c h =
    let parts = split es g scope xs ys h in (
      parts.0,
      subst (λ k. AllSettled es (behind es g scope xs) k ys) (c.go es scope (hold es g scope xs parts.0))
          parts.1,
    )

pub both_behind : (es : List Entry) (g : List Introduction) (scope : ℕ) (xs ys : List Step) → Closed xs
    → AllSettled es g scope xs
    → behind es g scope (xs ++ ys) ≡ behind es (behind es g scope xs) scope ys
both_behind es g scope xs ys c h =
    behind_split es g scope xs ys
    ∙ ap (λ k. behind es (behind es g scope xs) k ys) (c.go es scope (hold es g scope xs h))

still_known : (es : List Entry) (g xs : List Introduction) (e : ℕ) → Known es g e → Known es (onto xs g) e
still_known es g [] e h = h
still_known es g (x ∷ xs) e h = still_known es (x ∷ g) xs e (inr h)

-- what is known stays so
pub known_stays : (es : List Entry) (g : List Introduction) (scope : ℕ) (xs : List Step) (e : ℕ) → Known es g e
    → Known es (behind es g scope xs) e
known_stays es g scope [] e h = h
known_stays es g scope (s ∷ xs) e h =
    known_stays es (onto (introduced_by scope s) g) (scope_behind es scope s) xs e
    (still_known es g (introduced_by scope s) e h)

still_done : (g xs : List Introduction) (s : ℕ) → IsDone g s → IsDone (onto xs g) s
still_done g [] s h = h
still_done g (x ∷ xs) s h = still_done (x ∷ g) xs s (inr h)

pub done_stays : (es : List Entry) (g : List Introduction) (scope : ℕ) (xs : List Step) (k : ℕ) → IsDone g k
    → IsDone (behind es g scope xs) k
done_stays es g scope [] k h = h
done_stays es g scope (s ∷ xs) k h =
    done_stays es (onto (introduced_by scope s) g) (scope_behind es scope s) xs k
    (still_done g (introduced_by scope s) k h)

-- ---- what stands inside a scope

pub record Within (es : List Entry) (g : List Introduction) (scope : ℕ) (l : Leaf) (xs : List Step) : Type 0 where
  pub entry : ℕ
  pub is : named es scope (word l) ≡ Some entry
  pub inner : AllSettled es g (entry + 1) xs
  pub whole : behind es g scope (Enters l ∷ (xs ++ Leaves ∷ [])) ≡ behind es g (entry + 1) xs

pub within : (es : List Entry) (g : List Introduction) (scope : ℕ) (l : Leaf) (xs : List Step) → Closed xs
    → AllSettled es g scope (Enters l ∷ (xs ++ Leaves ∷ []))
    → Within es g scope l xs
within es g scope l xs c (enters, body) =
    let (e, is) = enters.holds.there in
    let next : suc e ≡ e + 1 = omega arith in
    let scopes : scope_of es scope l ≡ e + 1 = ap scope_number is ∙ next in
    let parts = both es g (e + 1) xs (Leaves ∷ []) c (subst (λ k. AllSettled es g k (xs ++ Leaves ∷ [])) scopes body) in
    record {
      entry = e;
      is = is;
      inner = parts.0;
      whole = ap (λ k. behind es g k (xs ++ Leaves ∷ [])) scopes ∙ both_behind es g (e + 1) xs (Leaves ∷ []) c parts.0;
    }

-- the entry of what is defined, and what stands inside
pub record Inside (es : List Entry) (g : List Introduction) (scope : ℕ) (l : Leaf) (kind : EntryKind) (xs : List Step) :
    Type 0 where
  pub entry : ℕ
  pub is : named es scope (word l) ≡ Some entry
  pub new : IsDone (Stands scope l kind ∷ g) (suc entry) → ⊥
  pub inner : AllSettled es (Body (suc entry) ∷ Stands scope l kind ∷ g) (entry + 1) xs
  pub whole : behind es g scope (Declares kind l ∷ Enters l ∷ Defines l ∷ (xs ++ Leaves ∷ []))
      ≡ behind es (Body (suc entry) ∷ Stands scope l kind ∷ g) (entry + 1) xs

pub inside : (es : List Entry) (g : List Introduction) (scope : ℕ) (l : Leaf) (kind : EntryKind) (xs : List Step)
    → Closed xs
    → AllSettled es g scope (Declares kind l ∷ Enters l ∷ Defines l ∷ (xs ++ Leaves ∷ [])) → Inside es g scope l kind xs
inside es g scope l kind xs c (declares, rest) =
    let there = Stands scope l kind ∷ g in
    let w = within es there scope l (Defines l ∷ xs) (both_closed (one_closed (Defines l) tt) c) rest in
    let e = w.entry in
    let (defines, body) = w.inner in
    let next : e + 1 ≡ suc e = omega arith in
    record {
      entry = e;
      is = w.is;
      new = subst (λ k. IsDone there k → ⊥) next defines.new.0;
      inner = subst (λ k. AllSettled es (Body k ∷ there) (e + 1) xs) next body;
      whole = w.whole ∙ ap (λ k. behind es (Body k ∷ there) (e + 1) xs) next;
    }

-- ---- what clashes with nothing before it is new

abbrev NoClash : List Introduction → Introduction → Type 0
NoClash g y = AllByRecursion (λ x. clashes x y ≡ false) g

abbrev blank : Entry
blank = record {
  scope = 0;
  name = [];
  token = 0;
  kind = Kinds.Module;
  bases = [];
  worth = None;
  stands_for =
      None;
  line = 0;
  identifier = 0;
  prefix = [];
}

-- two names of one entry
one_entry : (es : List Entry) (t : ℕ) (m : Leaf) (scope : ℕ) (l : Leaf) (e : ℕ) → named es t (word m) ≡ Some e
    → named es scope (word l) ≡ Some e
    → is_one_name t m scope l ≡ true
one_entry es t m scope l e first second =
    let here = get_or es e blank in
    let one = and_parts (nat_eq t here.scope) (str_eq_ignore_ascii_case (word m) here.name)
    (position-Some (is_named t (word m)) es e blank first).1 in
    let other = and_parts (nat_eq scope here.scope) (str_eq_ignore_ascii_case (word l) here.name)
    (position-Some (is_named scope (word l)) es e blank second).1 in
    let scopes : t ≡ scope = eqb-true t here.scope one.0 ∙ sym (eqb-true scope here.scope other.0) in
    let names : lower (word m) ≡ lower (word l) =
    (bytes_eq-Decides (lower (word m)) (lower here.name)).0 one.1
    ∙ sym ((bytes_eq-Decides (lower (word l)) (lower here.name)).0 other.1) in
    ap (λ b. b && str_eq_ignore_ascii_case (word m) (word l)) (eq-eqb t scope scopes)
    ∙ (bytes_eq-Decides (lower (word m)) (lower (word l))).1 names

reappears_itself : (kind other : EntryKind) → may_reappear kind other ≡ true → may_reappear kind kind ≡ true
reappears_itself Kinds.Module other h = refl
reappears_itself Kinds.Interface other h = refl
reappears_itself Kinds.Struct other h = refl
reappears_itself Kinds.Union other h = refl
reappears_itself kind other h = absurd cc

once_more : (name may spelled : Bool) → (name && not (may && spelled)) ≡ false → name ≡ true → may ≡ true
once_more true true spelled h is = refl
once_more true false spelled h is = absurd cc
once_more false may spelled h is = absurd cc

may_again : (es : List Entry) (g : List Introduction) (scope : ℕ) (l : Leaf) (kind : EntryKind)
    → NoClash g (Stands scope l kind) → (e : ℕ)
    → named es scope (word l) ≡ Some e → Known es g e → may_reappear kind kind ≡ true
may_again es [] scope l kind row e is knows = absurd knows
may_again es (Stands t m other ∷ g) scope l kind (first, row) e is (inl stands) =
    reappears_itself kind other
    (once_more (is_one_name t m scope l) (may_reappear kind other) (bytes_eq (word l) (word m)) first
    (one_entry es t m scope l e stands is))
may_again es (Has t m ∷ g) scope l kind row e is (inl stands) = absurd stands
may_again es (Body t ∷ g) scope l kind row e is (inl stands) = absurd stands
may_again es (x ∷ g) scope l kind (first, row) e is (inr knows) = may_again es g scope l kind row e is knows

no_body : (g : List Introduction) (s : ℕ) → NoClash g (Body s) → IsDone g s → ⊥
no_body [] s row done = done
no_body (Stands t m other ∷ g) s row (inl is) = is
no_body (Has t m ∷ g) s row (inl is) = is
no_body (Body t ∷ g) s (first, row) (inl is) = let same = eq-eqb t s (sym is) in cc
no_body (x ∷ g) s (first, row) (inr done) = no_body g s row done

is_new : (es : List Entry) (g : List Introduction) (y : Introduction) → NoClash g y → IsNew es g y
is_new es g (Stands scope l kind) row = may_again es g scope l kind row
is_new es g (Has scope l) row = tt
is_new es g (Body s) row = no_body g s row

rows_more : (y : Introduction) (g ys : List Introduction) → AllByRecursion (λ z. clashes y z ≡ false) ys
    → AllByRecursion (NoClash g) ys → AllByRecursion (NoClash (y ∷ g)) ys
rows_more y g [] hs ks = tt
rows_more y g (z ∷ zs) (h, hs) (k, ks) = ((h, k), rows_more y g zs hs ks)

all_new : (es : List Entry) (g xs : List Introduction) → AllByRecursion (NoClash g) xs → IsDistinct clashes xs
    → AllNew es g xs
unfolding IsDistinct
all_new es g [] rows d = tt
all_new es g (y ∷ ys) (row, rows) (d, ds) = (is_new es g y row, all_new es (y ∷ g) ys (rows_more y g ys d rows) ds)

no_rows : (xs : List Introduction) → AllByRecursion (NoClash []) xs
no_rows [] = tt
no_rows (x ∷ xs) = (tt, no_rows xs)

-- ---- the laws of names in one

new_split : (es : List Entry) (g xs ys : List Introduction) → AllNew es g (xs ++ ys)
    → AllNew es g xs × AllNew es (onto xs g) ys
new_split es g [] ys h = (tt, h)
new_split es g (x ∷ xs) ys (h, hs) = let rest = new_split es (x ∷ g) xs ys hs in ((h, rest.0), rest.1)

now_known : (es : List Entry) (g xs : List Introduction) (e k : ℕ) (x : Introduction) → k < length xs
    → get_or xs k x ≡ x → StandsFor es e x → Known es (onto xs g) e
now_known es g [] e k x lt is stands = absurd (omega (arith, lt))
now_known es g (y ∷ ys) e zero x lt is stands =
    still_known es (y ∷ g) ys e (inl (subst (StandsFor es e) (sym is) stands))
now_known es g (y ∷ ys) e (suc k) x lt is stands = now_known es (y ∷ g) ys e k x (omega (arith, lt)) is stands

known_more : (es : List Entry) (known : ℕ → Type 0) (g xs : List Introduction) → ((e : ℕ) → known e → Known es g e)
    → (e : ℕ)
    → known e ⊎ Any (StandsFor es e) xs → Known es (onto xs g) e
known_more es known g xs knows e (inl is) = still_known es g xs e (knows e is)
known_more es known g xs knows e (inr (k, x, lt, is, stands)) = now_known es g xs e k x lt is stands

settle : (es : List Entry) (known : ℕ → Type 0) (g : List Introduction) (scope : ℕ) (steps : List Step)
    → ((e : ℕ) → known e → Known es g e)
    → AllHold es scope steps → AllFollow known es scope steps → AllNew es g (introduced es scope steps)
    → AllSettled es g scope steps
settle es known g scope [] knows holds follows new = tt
settle es known g scope (s ∷ steps) knows (h, hs) (f, fs) new =
    let parts = new_split es g (introduced_by scope s) (introduced es (scope_behind es scope s) steps) new in
    let one : Settled es g scope s =
    record { holds = h; finds = finds_more known (Known es g) es scope s knows f; new = parts.0 } in (
      one,
      settle es (λ e. known e ⊎ Any (StandsFor es e) (introduced_by scope s)) (onto (introduced_by scope s) g)
          (scope_behind es scope s) steps
          (known_more es known g (introduced_by scope s) knows) hs fs parts.1,
    )

pub all_settled : (spec : Spec) (names : FileNames) → AreNames spec.definitions.items names
    → AllSettled names.entries [] 0 (steps_of spec.definitions.items)
all_settled spec names h =
    let steps = steps_of spec.definitions.items in
    let all = introduced names.entries 0 steps in
    settle names.entries (λ e. ⊥) [] 0 steps (λ e none. absurd none) (names_hold spec names h)
    (names_follow spec names h)
    (all_new names.entries [] all (no_rows all) (nothing_clashes spec.definitions.items names h))
