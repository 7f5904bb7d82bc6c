-- Whether a base gives another entry of some name than the bases before, by the words that are looked at.
use Rattle.std.proofs.Common.{◌≡◌, ◌∙◌, ℕ, zero, suc, ◌⊎◌, inl, inr, Bool, true, false, not, cond, nat_eq, List, [], ◌∷◌, get_or, slice_get, Option, Some, None, refl, sym, ap, subst}
use Rattle.std.specs.Prelude.{◌||◌, nat_lt}
use Rattle.std.specs.List.{list_any}
use Rattle.std.specs.Str.{str_eq_ignore_ascii_case}
use Rattle.std.proofs.lemmas.Bool.{and_parts}
use Rattle.std.proofs.lemmas.List.Quantifiers.{position-Some}
use Rattle.std.proofs.lemmas.Option.{slice_get-get_or}
use Rattle.std.proofs.lemmas.Slice.Eq.{bytes_eq-Decides}
use Rattle.name_table.specs.declared.entry.Base.{Base}
use Rattle.idl_tree.specs.declared.kinds.EntryKind.TheVariants.{Module}
use Rattle.name_table.specs.declared.key.Word.{Word}
use Rattle.name_table.specs.declared.search.Found.{Found}
use Rattle.name_table.specs.declared.search.Found.TheVariants.{Nothing, One, Several}
use Rattle.name_table.specs.Entry.{Entry, bases_of, is_named, named}
use Rattle.name_table.specs.Features.{differ, differ_in, is_one_other}
use Rattle.name_table.specs.inner.Records.{HasWord}
use Rattle.name_table.specs.Search.{base_at, before, both, declared_before, from_base, inherited, or_else, own, within}
use Rattle.name_table.specs.inner.SeveralBases.{SaysNothingNew}
use Rattle.name_table.proofs.MergedBases.{inherited_case, like_of, lower, within_case}

-- ---- tests of elements

any_true : {X : Type 0} (p : X → Bool) (xs : List X) (k : ℕ) (x : X) → slice_get xs k ≡ Some x → p x ≡ true
    → list_any p xs ≡ true
any_true p [] k x here holds = cc
any_true p (y ∷ ys) zero x here holds =
    let same : y ≡ x = cc in
    ap (λ b. b || list_any p ys) (ap p same ∙ holds)
any_true p (y ∷ ys) (suc k) x here holds = by (p y) (any_true p ys k x here holds)
  where
    by : (b : Bool) → list_any p ys ≡ true → (b || list_any p ys) ≡ true
    by true h = refl
    by false h = h

abbrev Passing : {X : Type 0} → (X → Bool) → List X → Type 0
Passing {X} p xs = (k : ℕ) × (x : X) × (slice_get xs k ≡ Some x) × (p x ≡ true)

any_found : {X : Type 0} (p : X → Bool) (xs : List X) → list_any p xs ≡ true → Passing p xs
any_found p [] h = absurd cc
any_found p (y ∷ ys) h = by (p y) refl (any_found p ys) h
  where
    by : (b : Bool) → p y ≡ b → (list_any p ys ≡ true → Passing p ys) → (b || list_any p ys) ≡ true → Passing p (y ∷ ys)
    by true is rest h = (0, y, refl, is)
    by false is rest h = let (k, x, here, holds) = rest h in (suc k, x, here, holds)

any_none : {X : Type 0} (p : X → Bool) → ((x : X) → p x ≡ false) → (xs : List X) → list_any p xs ≡ false
any_none p fails [] = refl
any_none p fails (x ∷ xs) = ap (λ b. b || list_any p xs) (fails x) ∙ any_none p fails xs

both_ways : (a b : Bool) → (a ≡ true → b ≡ true) → (b ≡ true → a ≡ true) → a ≡ b
both_ways true b f g = sym (f refl)
both_ways false true f g = g refl
both_ways false false f g = refl

-- ---- what searches give has the name

abbrev pub HasName : List Entry → ℕ → List ℕ → Type 0
HasName es k w = (e : Entry) × (slice_get es k ≡ Some e) × (str_eq_ignore_ascii_case w e.name ≡ true)

blank : Entry
blank = record {
  scope = 0;
  name = [];
  token = 0;
  kind = Module;
  bases = [];
  worth = None;
  stands_for = None;
  line =
      0;
  identifier = 0;
  prefix = [];
}

pub named_at : (es : List Entry) (s : ℕ) (w : List ℕ) (k : ℕ) → named es s w ≡ Some k → HasName es k w
named_at es s w k at =
    let p = position-Some (is_named s w) es k blank at in
    let e = get_or es k blank in
    (e, slice_get-get_or es k blank p.0, (and_parts (nat_eq s e.scope) (str_eq_ignore_ascii_case w e.name) p.1).1)

both_one : (x y : Found) (b : ℕ) → both x y ≡ One b → (x ≡ One b) ⊎ (y ≡ One b)
both_one Nothing y b h = inr h
both_one (One e) Nothing b h = inl h
both_one (One e) (One f) b h = by (nat_eq e f) h
  where
    by : (t : Bool) → cond t (One e) (Several e f) ≡ One b → (One e ≡ One b) ⊎ (One f ≡ One b)
    by true h = inl h
    by false h = absurd cc
both_one (One e) (Several a c) b h = absurd cc
both_one (Several a c) y b h = absurd cc

else_one : (x y : Found) (b : ℕ) → or_else x y ≡ One b → (x ≡ One b) ⊎ (y ≡ One b)
else_one Nothing y b h = inr h
else_one (One e) y b h = inl h
else_one (Several a c) y b h = absurd cc

own_named : (es : List Entry) (n s : ℕ) (w : List ℕ) (b : ℕ) → own es n s w ≡ One b → HasName es b w
own_named es n s w b h = by (named es s w) refl h
  where
    by : (o : Option ℕ) → named es s w ≡ o → declared_before es n o ≡ One b → HasName es b w
    by None is h = absurd cc
    by (Some k) is h = there (slice_get es k) h
      where
        at : k ≡ b → HasName es b w
        at same = subst (λ j. HasName es j w) same (named_at es s w k is)

        there : (e : Option Entry) → before n k e ≡ One b → HasName es b w
        there None h = absurd cc
        there (Some e) h = soon (nat_lt e.token n) h
          where
            soon : (t : Bool) → cond t (One k) Nothing ≡ One b → HasName es b w
            soon true h = at cc
            soon false h = absurd cc

inherited_named : (es : List Entry) (n s : ℕ) (w : List ℕ) (b : ℕ) → inherited es n s w ≡ One b → HasName es b w
inherited_named es zero s w b h = absurd cc
inherited_named es (suc m) s w b h =
    pick (λ t x e. inherited_named es m x w b e)
    (both_one (inherited es m s w)
    (from_base (λ x. or_else (own es m x w) (inherited es m x w)) (base_at (bases_of es s) m)) b h)
  where
    way : (k : ℕ) → (inherited es m (suc k) w ≡ One b → HasName es b w) → (own es m (suc k) w ≡ One b)
        ⊎ (inherited es m (suc k) w ≡ One b) → HasName es b w
    way k up (inl h) = own_named es m (suc k) w b h
    way k up (inr h) = up h

    base : ((t x : ℕ) → inherited es m x w ≡ One b → HasName es b w) → (o : Option ℕ)
        → from_base (λ x. or_else (own es m x w) (inherited es m x w)) o ≡ One b → HasName es b w
    base up None h = absurd cc
    base up (Some k) h = way k (up 0 (suc k)) (else_one (own es m (suc k) w) (inherited es m (suc k) w) b h)

    pick : ((t x : ℕ) → inherited es m x w ≡ One b → HasName es b w)
        → (inherited es m s w ≡ One b)
        ⊎ (from_base (λ x. or_else (own es m x w) (inherited es m x w)) (base_at (bases_of es s) m) ≡ One b)
        → HasName es b w
    pick up (inl h) = up 0 s h
    pick up (inr h) = base up (base_at (bases_of es s) m) h

within_named : (es : List Entry) (n s : ℕ) (w : List ℕ) (b : ℕ) → within es n s w ≡ One b → HasName es b w
within_named es n s w b h = pick (else_one (own es n s w) (inherited es n s w) b h)
  where
    pick : (own es n s w ≡ One b) ⊎ (inherited es n s w ≡ One b) → HasName es b w
    pick (inl h) = own_named es n s w b h
    pick (inr h) = inherited_named es n s w b h

-- ---- bases that differ

other_is_new : (x y : Found) → is_one_other x y ≡ true → both x y ≡ x → ⊥
other_is_new Nothing y h same = cc
other_is_new (One a) Nothing h same = cc
other_is_new (One a) (One b) h same = by (nat_eq a b) h same
  where
    by : (t : Bool) → not t ≡ true → cond t (One a) (Several a b) ≡ One a → ⊥
    by true h same = cc
    by false h same = cc
other_is_new (One a) (Several b c) h same = cc
other_is_new (Several a b) y h same = cc

other_gives : (x y : Found) → is_one_other x y ≡ true → (b : ℕ) × (y ≡ One b)
other_gives Nothing y h = absurd cc
other_gives (One a) Nothing h = absurd cc
other_gives (One a) (One b) h = (b, refl)
other_gives (One a) (Several b c) h = absurd cc
other_gives (Several a b) y h = absurd cc

module _ (es : List Entry) (inner : ℕ) (base : Base) where
  differ_case : (w v : List ℕ) → lower w ≡ lower v → differ_in es inner base w ≡ differ_in es inner base v
  differ_case w v like =
      ap (λ x. is_one_other x (within es base.token (suc base.entry) w)) (inherited_case es w v like base.token inner)
      ∙ ap (is_one_other (inherited es base.token inner v)) (within_case es w v like base.token (suc base.entry))

  pub differ_words : (words : List Word) → ((name : List ℕ) → SaysNothingNew es inner base name ⊎ HasWord words name)
      → list_any (λ k. differ_in es inner base k.text.now) words ≡ differ es inner base
  differ_words words covers =
      both_ways (list_any (λ k. differ_in es inner base k.text.now) words) (differ es inner base) on off
    where
      on : list_any (λ k. differ_in es inner base k.text.now) words ≡ true → differ es inner base ≡ true
      on h =
          let (i, k, here, holds) = any_found (λ k. differ_in es inner base k.text.now) words h in
          let w = k.text.now in
          let (b, gives) = other_gives (inherited es base.token inner w) (within es base.token (suc base.entry) w) holds
          in
          let (e, at, same) = within_named es base.token (suc base.entry) w b gives in
          let like = (bytes_eq-Decides (lower w) (lower e.name)).0 same in
          any_true (λ e. differ_in es inner base e.name) es b e at (sym (differ_case w e.name like) ∙ holds)

      off : differ es inner base ≡ true → list_any (λ k. differ_in es inner base k.text.now) words ≡ true
      off h =
          let (i, e, here, holds) = any_found (λ e. differ_in es inner base e.name) es h in
          by e.name holds (covers e.name)
        where
          by : (w : List ℕ) → differ_in es inner base w ≡ true → SaysNothingNew es inner base w ⊎ HasWord words w
              → list_any (λ k. differ_in es inner base k.text.now) words ≡ true
          by w holds (inl nothing) =
              absurd (other_is_new (inherited es base.token inner w) (within es base.token (suc base.entry) w) holds
              nothing)
          by w holds (inr (j, k, at, is)) =
              any_true (λ k. differ_in es inner base k.text.now) words j k at
              (sym (differ_case w k.text.now (like_of w k is)) ∙ holds)

  pub differ_none : ((name : List ℕ) → Nothing ≡ inherited es base.token inner name) → false ≡ differ es inner base
  differ_none none = sym (any_none (λ e. differ_in es inner base e.name)
      (λ e. ap (λ x. is_one_other x (within es base.token (suc base.entry) e.name)) (sym (none e.name))) es)
