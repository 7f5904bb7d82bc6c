-- One more base of an interface.
use Rattle.std.proofs.Common.{◌≡◌, ◌∙◌, ℕ, zero, suc, ◌<◌, ◌≤◌, ◌⊎◌, inl, inr, Bool, true, false, cond, nat_eq, List, [], ◌∷◌, ◌++◌, map, length, slice_get, position, Option, Some, None, Vec, Global, refl, sym, ap, subst, arith}
use Rattle.std.specs.Prelude.{nat_lt, slice_set, Box}
use Rattle.std.specs.Option.{option_map}
use Rattle.std.proofs.Math.Dec.{leb}
use Rattle.std.proofs.lemmas.Bool.{eq-eqb, eqb-true, le-ltb, leb-false, leb-true, lt-ltb}
use Rattle.std.proofs.lemmas.List.{length-set}
use Rattle.std.proofs.lemmas.Option.{slice_get-map}
use Rattle.std.specs.Map.{lookup}
use Rattle.name_table.specs.declared.entry.Base.{Base}
use Rattle.name_table.specs.declared.key.Key.{Key}
use Rattle.name_table.specs.declared.key.Word.{Word}
use Rattle.name_table.specs.declared.record.Given.{Given}
use Rattle.name_table.specs.declared.record.Heir.{Heir}
use Rattle.name_table.specs.declared.record.Record.{Record}
use Rattle.name_table.specs.declared.search.Found.TheVariants.{Nothing}
use Rattle.name_table.specs.Entry.{Entry, bases_of, is_named, named}
use Rattle.name_table.specs.Search.{base_at, before, both, declared_before, from_base, inherited, or_else, own, within}
use Rattle.name_table.specs.Entries.{entry_with_base, latest, with_base}
use Rattle.name_table.specs.inner.Records.{AreNestedRecords, ArePlaced, AreSearched, AreTied, by_given, by_heir, entries_in, entry_of, heir_bases, heir_in, heir_of, is_word, key_of, unboxed}
use Rattle.name_table.specs.inner.SeveralBases.{HasNoneFrom, IsKept, Merges, with_more}
use Rattle.name_table.proofs.Inheriting.{bases_kept, first_base, heir_list}
use Rattle.name_table.proofs.Latest.{bases_low, latest_based}
use Rattle.name_table.proofs.Lookups.{named_keys}
use Rattle.name_table.specs.declared.shortcuts.Shortcut.{Shortcut}
use Rattle.name_table.specs.inner.Shortcuts.{AreShort, way_at}
use Rattle.name_table.proofs.WaysKept.{ways_like}
use Rattle.name_table.proofs.Stability.{agree, constant}

-- ---- one element that is changed

get_here : {X : Type 0} (xs : List X) (e : ℕ) (x y : X) → slice_get xs e ≡ Some x
    → slice_get (slice_set xs e y) e ≡ Some y
get_here [] e x y h = cc
get_here (z ∷ zs) zero x y h = refl
get_here (z ∷ zs) (suc e) x y h = get_here zs e x y h

get_other : {X : Type 0} (xs : List X) (e k : ℕ) (y : X) → (k ≡ e → ⊥) → slice_get (slice_set xs e y) k ≡ slice_get xs k
get_other [] e k y h = refl
get_other (z ∷ zs) zero zero y h = absurd (h refl)
get_other (z ∷ zs) zero (suc k) y h = refl
get_other (z ∷ zs) (suc e) zero y h = refl
get_other (z ∷ zs) (suc e) (suc k) y h = get_other zs e k y (λ is. h (ap suc is))

pub get_like : {X A : Type 0} (f : Option X → A) (xs : List X) (e : ℕ) (x y : X) (k : ℕ) → slice_get xs e ≡ Some x
    → f (Some y) ≡ f (Some x) → f (slice_get (slice_set xs e y) k) ≡ f (slice_get xs k)
get_like f [] e x y k h same = cc
get_like f (z ∷ zs) zero x y zero h same = same ∙ sym (ap f h)
get_like f (z ∷ zs) zero x y (suc k) h same = refl
get_like f (z ∷ zs) (suc e) x y zero h same = refl
get_like f (z ∷ zs) (suc e) x y (suc k) h same = get_like f zs e x y k h same

pub map_like : {X Y : Type 0} (f : X → Y) (xs : List X) (e : ℕ) (x y : X) → slice_get xs e ≡ Some x → f y ≡ f x
    → map f (slice_set xs e y) ≡ map f xs
map_like f [] e x y h same = cc
map_like f (z ∷ zs) zero x y h same = let is : z ≡ x = cc in ap (λ r. r ∷ map f zs) (same ∙ sym (ap f is))
map_like f (z ∷ zs) (suc e) x y h same = ap (λ r. f z ∷ r) (map_like f zs e x y h same)

pub map_changed : {X Y : Type 0} (f : X → Y) (xs : List X) (e : ℕ) (y : X)
    → map f (slice_set xs e y) ≡ slice_set (map f xs) e (f y)
map_changed f [] e y = refl
map_changed f (z ∷ zs) zero y = refl
map_changed f (z ∷ zs) (suc e) y = ap (λ r. f z ∷ r) (map_changed f zs e y)

same_or : (s t : ℕ) → (s ≡ t) ⊎ (s ≡ t → ⊥)
same_or s t = by (nat_eq s t) refl
  where
    by : (b : Bool) → nat_eq s t ≡ b → (s ≡ t) ⊎ (s ≡ t → ⊥)
    by true h = inl (eqb-true s t h)
    by false h = inr (λ is. let yes = eq-eqb s t is in cc)

-- ---- bases that are named

base_at_push : (bs : List Base) (b : Base) (j : ℕ) → base_at bs j ≡ None
    → base_at (bs ++ b ∷ []) j ≡ cond (nat_eq b.token j) (Some b.entry) None
base_at_push [] b j h = refl
base_at_push (c ∷ cs) b j h = by (nat_eq c.token j) (base_at_push cs b j) h
  where
    by : (t : Bool) → (base_at cs j ≡ None → base_at (cs ++ b ∷ []) j ≡ cond (nat_eq b.token j) (Some b.entry) None)
        → cond t (Some c.entry) (base_at cs j) ≡ None
        → cond t (Some c.entry) (base_at (cs ++ b ∷ []) j) ≡ cond (nat_eq b.token j) (Some b.entry) None
    by true rest h = cc
    by false rest h = rest h

base_at_other : (bs : List Base) (b : Base) (j : ℕ) → (b.token ≡ j → ⊥) → base_at (bs ++ b ∷ []) j ≡ base_at bs j
base_at_other [] b j h = by (nat_eq b.token j) refl
  where
    by : (t : Bool) → nat_eq b.token j ≡ t → cond t (Some b.entry) None ≡ None
    by true is = absurd (h (eqb-true b.token j is))
    by false is = refl
base_at_other (c ∷ cs) b j h = ap (cond (nat_eq c.token j) (Some c.entry)) (base_at_other cs b j h)

-- ---- a record that gets one more base

boxed_list : (h : Option (Box Heir Global)) → heir_bases h ≡ heir_list (unboxed h)
boxed_list None = refl
boxed_list (Some h) = refl

module _ (keys : List Key) (records : List Record) (words : List (Vec Word Global)) (tied : AreTied keys records words)
    (e : ℕ) (r : Record) (there : slice_get records e ≡ Some r) (box : Box Heir Global) (base : Base)
    (with_it : heir_list (Some box.value) ≡ heir_list (heir_of records (suc e)) ++ base ∷ [])
    (first_low : box.value.first.token ≤ base.token)
    (late : latest (entries_in records) < base.token) (placed : base.entry < length records)
    (merges : Merges (entries_in records) (suc e) base box.value) where
  abbrev heir : Heir
  heir = box.value

  abbrev changed : Record
  changed = record r { heir = Some box }

  abbrev after : List Record
  after = slice_set records e changed

  abbrev es : List Entry
  es = entries_in records

  abbrev fs : List Entry
  fs = entries_in after

  abbrev m : ℕ
  m = base.token

  keys_like : map key_of after ≡ map key_of records
  keys_like = map_like key_of records e r changed there refl

  count : length after ≡ length records
  count = length-set records e changed

  named_like : (s : ℕ) (w : List ℕ) → named fs s w ≡ named es s w
  named_like s w =
      sym (named_keys (λ k. is_named s w (entry_of (record changed { key = k }))) after s w (λ x. refl))
      ∙ ap (position (λ k. is_named s w (entry_of (record changed { key = k })))) keys_like
      ∙ named_keys (λ k. is_named s w (entry_of (record changed { key = k }))) records s w (λ x. refl)

  own_like : (n s : ℕ) (w : List ℕ) → own fs n s w ≡ own es n s w
  own_like n s w = ap (declared_before fs n) (named_like s w) ∙ by (named es s w)
    where
      by : (o : Option ℕ) → declared_before fs n o ≡ declared_before es n o
      by None = refl
      by (Some k) =
          ap (before n k) (slice_get-map entry_of after k)
          ∙ get_like (λ o. before n k (option_map entry_of o)) records e r changed k there refl
          ∙ sym (ap (before n k) (slice_get-map entry_of records k))

  heir_here : heir_of after (suc e) ≡ Some heir
  heir_here = ap heir_in (get_here records e r changed there)

  heir_other : (s : ℕ) → (s ≡ suc e → ⊥) → heir_of after s ≡ heir_of records s
  heir_other zero h = refl
  heir_other (suc k) h = ap heir_in (get_other records e k changed (λ is. h (ap suc is)))

  bases_other : (s : ℕ) → (s ≡ suc e → ⊥) → bases_of fs s ≡ bases_of es s
  bases_other s h = bases_kept after s ∙ ap heir_list (heir_other s h) ∙ sym (bases_kept records s)

  bases_here : bases_of fs (suc e) ≡ bases_of es (suc e) ++ base ∷ []
  bases_here = bases_kept after (suc e) ∙ ap heir_list heir_here ∙ with_it
      ∙ ap (λ bs. bs ++ base ∷ []) (sym (bases_kept records (suc e)))

  none_behind : (s j : ℕ) → m ≤ j → base_at (bases_of es s) j ≡ None
  none_behind s j h = by (base_at (bases_of es s) j) refl
    where
      by : (o : Option ℕ) → base_at (bases_of es s) j ≡ o → o ≡ None
      by None is = refl
      by (Some b) is = let le = bases_low es s j b is in absurd (omega arith)

  at_other : (j : ℕ) → (m ≡ j → ⊥) → base_at (bases_of fs (suc e)) j ≡ base_at (bases_of es (suc e)) j
  at_other j h = ap (λ bs. base_at bs j) bases_here ∙ base_at_other (bases_of es (suc e)) base j h

  at_here : base_at (bases_of fs (suc e)) m ≡ Some base.entry
  at_here =
      ap (λ bs. base_at bs m) bases_here
      ∙ base_at_push (bases_of es (suc e)) base m (none_behind (suc e) m (omega arith))
      ∙ ap (λ t. cond t (Some base.entry) None) (eq-eqb m m refl)

  same_base : (s j : ℕ) → j < m → base_at (bases_of fs s) j ≡ base_at (bases_of es s) j
  same_base s j h = by (same_or s (suc e))
    where
      by : (s ≡ suc e) ⊎ (s ≡ suc e → ⊥) → base_at (bases_of fs s) j ≡ base_at (bases_of es s) j
      by (inr ne) = ap (λ bs. base_at bs j) (bases_other s ne)
      by (inl is) =
          ap (λ x. base_at (bases_of fs x) j) is ∙ at_other j (λ same. absurd (omega arith))
          ∙ sym (ap (λ x. base_at (bases_of es x) j) is)

  early : (t s : ℕ) (w : List ℕ) → t ≤ m → inherited fs t s w ≡ inherited es t s w
  early = agree es fs m same_base (λ n s w h. own_like n s w)

  early_within : (t s : ℕ) (w : List ℕ) → t ≤ m → within fs t s w ≡ within es t s w
  early_within t s w h = ap (λ x. or_else x (inherited fs t s w)) (own_like t s w)
      ∙ ap (or_else (own es t s w)) (early t s w h)

  -- what is kept of another base says what it did
  by_like : (t : ℕ) (w : List ℕ) (h : Heir) → h.first.token ≤ m → by_heir es t w (Some h) ≡ by_heir fs t w (Some h)
  by_like t w h low = by (lookup (is_word w) h.others.entries)
    where
      by : (g : Option Given) → by_given es t w h.first g ≡ by_given fs t w h.first g
      by (Some g) = refl
      by None = ap (λ f. cond (nat_lt h.first.token t) f Nothing)
          (sym (early_within h.first.token (suc h.first.entry) w low))

  -- another scope inherits what it did
  other : (t s : ℕ) (w : List ℕ) → (s ≡ suc e → ⊥) → inherited fs t s w ≡ inherited es t s w
  other t s w ne = by (leb t m) refl
    where
      by : (b : Bool) → leb t m ≡ b → inherited fs t s w ≡ inherited es t s w
      by true is = early t s w (leb-true t m is)
      by false is =
          let lt = leb-false t m is in
          let le : m ≤ t = omega arith in
          constant fs s w m (λ j h. ap (λ bs. base_at bs j) (bases_other s ne) ∙ none_behind s j h) t le
          ∙ early m s w (omega arith)
          ∙ sym (constant es s w m (none_behind s) t le)

  by_other : (t s : ℕ) (w : List ℕ) (h : Option Heir) → heir_of records s ≡ h → by_heir es t w h ≡ by_heir fs t w h
  by_other t s w None is = refl
  by_other t s w (Some h) is =
      let le = bases_low es s h.first.token h.first.entry (first_base records s h is) in
      by_like t w h (omega arith)

  here : (t : ℕ) (w : List ℕ) → inherited fs t (suc e) w ≡ by_heir fs t w (heir_of after (suc e))
  here t w =
      by (leb t m) refl ∙ sym (merges t w) ∙ by_like t w heir first_low ∙ sym (ap (by_heir fs t w) heir_here)
    where
      by : (b : Bool) → leb t m ≡ b → inherited fs t (suc e) w ≡ with_more es (suc e) base t w
      by true is =
          let le = leb-true t m is in
          early t (suc e) w le
          ∙ sym (ap (λ c. cond c (both (inherited es m (suc e) w) (within es m (suc base.entry) w))
          (inherited es t (suc e) w)) (le-ltb m t le))
      by false is =
          let lt = leb-false t m is in
          let le : suc m ≤ t = omega arith in
          constant fs (suc e) w (suc m) (λ j h. at_other j (λ same. absurd (omega arith))
          ∙ none_behind (suc e) j (omega arith)) t le
          ∙ ap (λ x. both x (from_base (λ s. or_else (own fs m s w) (inherited fs m s w))
          (base_at (bases_of fs (suc e)) m))) (early m (suc e) w (omega arith))
          ∙ ap (λ o. both (inherited es m (suc e) w) (from_base (λ s. or_else (own fs m s w) (inherited fs m s w)) o))
          at_here
          ∙ ap (both (inherited es m (suc e) w)) (early_within m (suc base.entry) w (omega arith))
          ∙ sym (ap (λ c. cond c (both (inherited es m (suc e) w) (within es m (suc base.entry) w))
          (inherited es t (suc e) w)) (lt-ltb m t lt))

  searched_after : AreSearched after
  searched_after t s w = by (same_or s (suc e))
    where
      by : (s ≡ suc e) ⊎ (s ≡ suc e → ⊥) → inherited fs t s w ≡ by_heir fs t w (heir_of after s)
      by (inl is) = subst (λ x. inherited fs t x w ≡ by_heir fs t w (heir_of after x)) (sym is) (here t w)
      by (inr ne) =
          other t s w ne ∙ tied.searched t s w ∙ by_other t s w (heir_of records s) refl
          ∙ sym (ap (by_heir fs t w) (heir_other s ne))

  placed_after : ArePlaced after
  placed_after s t b h = by (same_or s (suc e)) (same_or m t)
    where
      by : (s ≡ suc e) ⊎ (s ≡ suc e → ⊥) → (m ≡ t) ⊎ (m ≡ t → ⊥) → b < length after
      by (inr ne) d =
          let old = tied.placed s t b (sym (ap (λ bs. base_at bs t) (bases_other s ne)) ∙ h) in
          let same = count in
          omega arith
      by (inl is) (inl at) =
          let found : Some base.entry ≡ Some b = sym at_here ∙ ap (base_at (bases_of fs (suc e))) at
          ∙ ap (λ x. base_at (bases_of fs x) t) (sym is) ∙ h in
          let entry : base.entry ≡ b = cc in
          let same = count in
          omega arith
      by (inl is) (inr ne) =
          let old = tied.placed (suc e) t b (sym (at_other t ne) ∙ ap (λ x. base_at (bases_of fs x) t) (sym is) ∙ h) in
          let same = count in
          omega arith

  nested_after : AreNestedRecords after
  nested_after k x h = by (same_or k e)
    where
      by : (k ≡ e) ⊎ (k ≡ e → ⊥) → x.key.scope.0 ≤ k
      by (inr ne) = tied.nested k x (sym (get_other records e k changed ne) ∙ h)
      by (inl is) =
          let found : Some changed ≡ Some x = sym (get_here records e r changed there) ∙ ap (slice_get after) (sym is)
          ∙ h in
          let same : changed ≡ x = cc in
          let low = tied.nested e r there in
          subst (λ y. y.key.scope.0 ≤ k) same (omega arith)

  pub tied_more : AreTied keys after words
  tied_more = record {
    keyed = tied.keyed ∙ sym keys_like;
    nested = nested_after;
    placed = placed_after;
    listed = λ s k name h. tied.listed s k name (sym (named_like s name) ∙ h);
    searched = searched_after;
  }

  pub told_more : fs ≡ with_base es (suc e) base
  told_more =
      let was : slice_get es e ≡ Some (entry_of r) = slice_get-map entry_of records e
      ∙ ap (option_map entry_of) there in
      let old : heir_bases r.heir ≡ heir_list (heir_of records (suc e)) =
      boxed_list r.heir ∙ sym (ap (λ x. heir_list (heir_in x)) there) in
      map_changed entry_of records e changed
      ∙ ap (λ bs. slice_set es e (record (entry_of r) { bases = bs })) (with_it ∙ ap (λ bs. bs ++ base ∷ []) (sym old))
      ∙ sym (ap (entry_with_base es e base) was)

  later : latest fs ≡ base.token
  later =
      let was : slice_get es e ≡ Some (entry_of r) = slice_get-map entry_of records e
      ∙ ap (option_map entry_of) there in
      ap latest told_more ∙ latest_based es e (entry_of r) base was (omega arith)

  -- the interface's own way is dropped
  pub ways_more : (ways more : List (Option Shortcut)) → AreShort es ways
      → ((q : ℕ) → way_at more q ≡ cond (nat_eq (suc e) q) None (way_at ways q)) → AreShort fs more
  ways_more ways more kept dropped =
      ways_like es fs more (omega (arith, later)) (λ q way at. kept q way (still q way (nat_eq (suc e) q) refl at))
      (λ q way at t w. other t q w (λ is. let wrong : None ≡ Some way = sym gone ∙ ap (way_at more) (sym is) ∙ at in
      cc))
      (λ t q w h. early t q w (omega arith))
    where
      gone : way_at more (suc e) ≡ None
      gone = dropped (suc e) ∙ ap (λ b. cond b None (way_at ways (suc e))) (eq-eqb (suc e) (suc e) refl)

      still : (q : ℕ) (way : Shortcut) (b : Bool) → nat_eq (suc e) q ≡ b → way_at more q ≡ Some way
          → way_at ways q ≡ Some way
      still q way true is at = let wrong : None ≡ Some way = sym (dropped q ∙ ap (λ b. cond b None (way_at ways q)) is)
          ∙ at in cc
      still q way false is at = sym (dropped q ∙ ap (λ b. cond b None (way_at ways q)) is) ∙ at

-- ---- what is kept before

pub kept_of : (records : List Record) → AreSearched records → (s : ℕ) (h : Heir) → heir_of records s ≡ Some h
    → IsKept (entries_in records) s h
kept_of records searched s h there t w = searched t s w ∙ ap (by_heir (entries_in records) t w) there

pub none_from : (records : List Record) (token : ℕ) → latest (entries_in records) < token → (s : ℕ)
    → HasNoneFrom (entries_in records) s token
none_from records token late s j low = by (base_at (bases_of (entries_in records) s) j) refl
  where
    by : (o : Option ℕ) → base_at (bases_of (entries_in records) s) j ≡ o → o ≡ None
    by None is = refl
    by (Some b) is = let le = bases_low (entries_in records) s j b is in absurd (omega arith)

-- the first base is named before the next
pub first_before : (records : List Record) (s token : ℕ) (h : Heir) → heir_of records s ≡ Some h
    → HasNoneFrom (entries_in records) s token → h.first.token < token
first_before records s token h there last = by (leb token h.first.token) refl
  where
    by : (b : Bool) → leb token h.first.token ≡ b → h.first.token < token
    by true is =
        let none : Some h.first.entry ≡ None = sym (first_base records s h there)
        ∙ last h.first.token (leb-true token h.first.token is) in
        cc
    by false is = let lt = leb-false token h.first.token is in omega arith
