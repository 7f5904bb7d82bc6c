-- Ways over several bases at once stay what they are.
use Rattle.std.proofs.Common.{◌≡◌, ◌∙◌, ℕ, zero, suc, ◌<◌, ◌≤◌, ◌⊎◌, inl, inr, Bool, true, false, ◌||◌, cond, nat_eq, List, [], ◌∷◌, ◌++◌, slice_get, Option, Some, None, Result, Ok, Err, IfOk, OnOk, refl, sym, ap, subst, arith}
use Rattle.std.specs.BTreeMap.{is_at}
use Rattle.std.specs.BTreeSet.{BTreeSet, IsFromIterResult}
use Rattle.std.specs.Cmp.{tied_itself}
use Rattle.std.specs.List.{list_any}
use Rattle.std.specs.Map.{lookup}
use Rattle.std.specs.declared.cmp.Ordering.{Ordering}
use Rattle.std.specs.declared.cmp.Ordering.TheVariants.{Less, Equal, Greater}
use Rattle.std.specs.Ordering.{eq_by_cmp, is_eq}
use Rattle.std.proofs.lemmas.Map.Keys.{any_passes_from_place}
use Rattle.std.proofs.lemmas.Bool.{eqb-true, eq-eqb, lt-ltb}
use Rattle.name_table.specs.declared.entry.Base.{Base}
use Rattle.name_table.specs.declared.key.Word.{Word}
use Rattle.name_table.specs.declared.record.Heir.{Heir}
use Rattle.name_table.specs.declared.search.Found.{Found}
use Rattle.name_table.specs.declared.search.Found.TheVariants.{Nothing, One, Several}
use Rattle.name_table.specs.declared.shortcuts.Place.{Place}
use Rattle.name_table.specs.declared.shortcuts.Shortcut.{Shortcut}
use Rattle.name_table.specs.Entry.{Entry}
use Rattle.name_table.specs.Entries.{latest}
use Rattle.name_table.specs.inner.Keys.{word_cmp, word_cmp_total}
use Rattle.name_table.specs.inner.Records.{HasWord, by_given, is_word}
use Rattle.name_table.specs.Search.{both, inherited, or_else, own, within}
use Rattle.name_table.specs.inner.SeveralBases.{IsKept, SaysNothingNew}
use Rattle.name_table.specs.inner.Shortcuts.{AreShort, IsShort, LeadsTo, Passes, given_at, way_at}
use Rattle.name_table.proofs.Tied.{HasWord_last, HasWord_push}
use Rattle.name_table.proofs.MergedBases.{first_or, none_left, same_word}

-- where no word of a list is the name, the list has no such word
pub has_none : (words : List Word) (name : List ℕ) → list_any (is_word name) words ≡ false → HasWord words name → ⊥
has_none [] name none (k, x, at, is) = cc
has_none (w ∷ ws) name none (k, x, at, is) =
    by (is_word name w) refl none (λ n j there. has_none ws name n (j, x, there, is)) k at
  where
    by : (b : Bool) → is_word name w ≡ b → (b || list_any (is_word name) ws) ≡ false
        → (list_any (is_word name) ws ≡ false → (j : ℕ) → slice_get ws j ≡ Some x → ⊥)
        → (k : ℕ) → slice_get (w ∷ ws) k ≡ Some x → ⊥
    by true e wrong rest k at = cc
    by false e none rest zero at = let same : w ≡ x = cc in let here : is_word name x ≡ false =
        subst (λ y. is_word name y ≡ false) same e in cc
    by false e none rest (suc k) at = rest none k at

-- ---- steps behind one another

pub or_more : {P : Type 0} (ws vs : List Word) (name : List ℕ) → P ⊎ HasWord ws name
    → ((n : List ℕ) → HasWord ws n → HasWord vs n) → P ⊎ HasWord vs name
or_more ws vs name (inl p) kept = inl p
or_more ws vs name (inr has) kept = inr (kept name has)

pub or_then : {X : Type 0} {x y z : X} (ws vs : List Word) (name : List ℕ) → (x ≡ y) ⊎ HasWord ws name
    → ((n : List ℕ) → HasWord ws n → HasWord vs n) → (y ≡ z) ⊎ HasWord vs name → (x ≡ z) ⊎ HasWord vs name
or_then ws vs name (inr has) kept s = inr (kept name has)
or_then ws vs name (inl is) kept (inr has) = inr has
or_then ws vs name (inl is) kept (inl same) = inl (is ∙ same)

pub or_met : {X : Type 0} {x y a b : X} (ws : List Word) (name : List ℕ) → (x ≡ a) ⊎ HasWord ws name → (y ≡ b)
    ⊎ HasWord ws name → a ≡ b → (x ≡ y) ⊎ HasWord ws name
or_met ws name (inr has) s same = inr has
or_met ws name (inl is) (inr has) same = inr has
or_met ws name (inl is) (inl there) same = inl (is ∙ same ∙ sym there)

-- ---- what is kept

pub ways_insert : (es : List Entry) (old new : List (Option Shortcut)) (s : ℕ) (k : Shortcut) → AreShort es old
    → ((q : ℕ) → way_at new q ≡ cond (nat_eq s q) (Some k) (way_at old q)) → k.after ≤ latest es → IsShort es s k
    → AreShort es new
ways_insert es old new s k kept inserted low is q way there = by (nat_eq s q) refl
  where
    by : (b : Bool) → nat_eq s q ≡ b → (way.after ≤ latest es) × IsShort es q way
    by true e =
        let found : Some k ≡ Some way = sym (inserted q ∙ ap (λ b. cond b (Some k) (way_at old q)) e) ∙ there in
        let same : k ≡ way = cc in
        subst (λ x. (x.after ≤ latest es) × IsShort es q x) same
        (subst (λ x. (k.after ≤ latest es) × IsShort es x k) (eqb-true s q e) (low, is))
    by false e = kept q way (sym (inserted q ∙ ap (λ b. cond b (Some k) (way_at old q)) e) ∙ there)

-- ---- one more base

both_same : (x : Found) → both x x ≡ x
both_same Nothing = refl
both_same (One e) = ap (λ b. cond b (One e) (Several e e)) (eq-eqb e e refl)
both_same (Several a b) = refl

-- a name that two bases give alike, and of which nothing else is kept, is inherited as it was
pub nothing_new : (es : List Entry) (inner : ℕ) (heir : Heir) (base : Base) (words more : List Word)
    → IsKept es inner heir → heir.first.token < base.token
    → ((name : List ℕ) → (within es heir.first.token (suc heir.first.entry) name
    ≡ within es base.token (suc base.entry) name) ⊎ HasWord words name)
    → ((name : List ℕ) → HasWord words name → HasWord more name)
    → ((name : List ℕ) → (lookup (is_word name) heir.others.entries ≡ None) ⊎ HasWord more name)
    → (name : List ℕ) → SaysNothingNew es inner base name ⊎ HasWord more name
nothing_new es inner heir base words more is_kept lt apart kept listed name = by (apart name) (listed name)
  where
    by : (within es heir.first.token (suc heir.first.entry) name ≡ within es base.token (suc base.entry) name)
        ⊎ HasWord words name
        → (lookup (is_word name) heir.others.entries ≡ None) ⊎ HasWord more name → SaysNothingNew es inner base name
        ⊎ HasWord more name
    by (inr has) l = inr (kept name has)
    by (inl same) (inr has) = inr has
    by (inl same) (inl none) =
        let was : inherited es base.token inner name ≡ within es base.token (suc base.entry) name =
        is_kept base.token name ∙ ap (by_given es base.token name heir.first) none
        ∙ ap (λ b. cond b (within es heir.first.token (suc heir.first.entry) name) Nothing)
        (lt-ltb heir.first.token base.token lt) ∙ same in
        inl (ap (λ x. both x (within es base.token (suc base.entry) name)) was
        ∙ both_same (within es base.token (suc base.entry) name) ∙ sym was)

-- ---- sets of words

behind : (x : Word) (xs : List Word) (name : List ℕ) → HasWord xs name → HasWord (x ∷ xs) name
behind x xs name (j, y, at, is) = (suc j, y, at, is)

has_equal : (ks : List Word) (w : Word) (name : List ℕ) → is_word name w ≡ true
    → list_any (is_at (word_cmp w)) ks ≡ true → HasWord ks name
has_equal [] w name here any = cc
has_equal (x ∷ xs) w name here any = by (word_cmp w x) refl any (has_equal xs w name here)
  where
    by : (o : Ordering) → word_cmp w x ≡ o → (is_eq o || list_any (is_at (word_cmp w)) xs) ≡ true
        → (list_any (is_at (word_cmp w)) xs ≡ true → HasWord xs name)
        → HasWord (x ∷ xs) name
    by Less is any rest = behind x xs name (rest any)
    by Equal is any rest = (0, x, refl, sym (same_word w x is name) ∙ here)
    by Greater is any rest = behind x xs name (rest any)

-- the set of some words has each of them
pub has_collected : (words : List Word) (set : BTreeSet Word) → IsFromIterResult word_cmp words set → (name : List ℕ)
    → HasWord words name → HasWord set.keys name
has_collected words set made name (k, w, at, is) =
    has_equal set.keys w name is
    (made.0 w ∙ any_passes_from_place (eq_by_cmp word_cmp w) words k w at (ap is_eq (tied_itself word_cmp_total w)))

-- one word more of a list is listed
pub word_listed : (left rest ws vs : List Word) (k : Word) (name : List ℕ) → left ≡ k ∷ rest → vs ≡ ws ++ k ∷ []
    → HasWord ws name ⊎ HasWord left name → HasWord vs name ⊎ HasWord rest name
word_listed left rest ws vs k name split push (inl has) =
    inl (subst (λ xs. HasWord xs name) (sym push) (HasWord_push ws k name has))
word_listed left rest ws vs k name split push (inr has) =
    by (first_or k rest name (subst (λ xs. HasWord xs name) split has))
  where
    by : (is_word name k ≡ true) ⊎ HasWord rest name → HasWord vs name ⊎ HasWord rest name
    by (inl here) = inl (subst (λ xs. HasWord xs name) (sym push) (HasWord_last ws k name here))
    by (inr there) = inr there

pub has_all : (left ks : List Word) (name : List ℕ) → left ≡ [] → HasWord ks name ⊎ HasWord left name → HasWord ks name
has_all left ks name none (inl has) = has
has_all left ks name none (inr has) = absurd (none_left left name none has)

pub not_any : (b : Bool) (words : List Word) (name : List ℕ) → b ≡ list_any (is_word name) words → b ≡ false
    → HasWord words name → ⊥
not_any true words name is h has = cc
not_any false words name is h has = has_none words name (sym is) has

-- a way that holds for a name
pub way_is : {P : Type 0} (ws : List Word) (name : List ℕ) → P ⊎ HasWord ws name → (HasWord ws name → ⊥) → P
way_is ws name (inl p) none = p
way_is ws name (inr has) none = absurd (none has)

-- inside a scope, but for the words that it declares
pub entered : (es : List Entry) (t s next : ℕ) (ws : List Word) (name : List ℕ) → next ≡ s → (own es t s name ≡ Nothing)
    ⊎ HasWord ws name → (within es t next name ≡ inherited es t s name) ⊎ HasWord ws name
entered es t s next ws name is (inr has) = inr has
entered es t s next ws name is (inl none) =
    inl (ap (λ x. within es t x name) is ∙ ap (λ x. or_else x (inherited es t s name)) none)

-- down to the first base, but for the words of which later bases say something else
pub passed : (es : List Entry) (place next : Place) (heir : Heir) (ws vs : List Word) → IsKept es place.scope.0 heir
    → heir.first.token < place.token
    → ((name : List ℕ) → (lookup (is_word name) heir.others.entries ≡ None) ⊎ HasWord ws name)
    → ((name : List ℕ) → HasWord ws name → HasWord vs name)
    → LeadsTo es heir.first vs next → Passes es vs place next
passed es place next heir ws vs kept lt listed more leads name = by (listed name) (leads name)
  where
    by : (lookup (is_word name) heir.others.entries ≡ None) ⊎ HasWord ws name
        → (within es heir.first.token (suc heir.first.entry) name ≡ given_at es name next) ⊎ HasWord vs name
        → (given_at es name place ≡ given_at es name next) ⊎ HasWord vs name
    by (inr has) l = inr (more name has)
    by (inl none) (inr has) = inr has
    by (inl none) (inl is) =
        inl (kept place.token name ∙ ap (by_given es place.token name heir.first) none
        ∙ ap (λ b. cond b (within es heir.first.token (suc heir.first.entry) name) Nothing)
        (lt-ltb heir.first.token place.token lt) ∙ is)

pub ok_both : {T E A : Type 0} {P Q : T → Type 0} (r : Result T E) → (A → (x : T) → P x → Q x) → OnOk r A → IfOk r P
    → IfOk r Q
ok_both (Ok x) f a p = f a x p
ok_both (Err e) f a p = tt

-- a way over two steps
pub way_over : (es : List Entry) (scope : ℕ) (heir : Heir) (inside half place : Place) (gs ws us vs : List Word)
    (way : Shortcut) → way.place ≡ place → way.after ≡ heir.first.token → IsKept es scope heir
    → ((name : List ℕ) → (lookup (is_word name) heir.others.entries ≡ None) ⊎ HasWord gs name)
    → ((name : List ℕ) → HasWord gs name → HasWord ws name) → LeadsTo es heir.first ws inside
    → ((name : List ℕ) → HasWord ws name → HasWord us name) → Passes es us inside half
    → ((name : List ℕ) → HasWord us name → HasWord vs name) → Passes es vs half place
    → ((name : List ℕ) → HasWord vs name → HasWord way.words.keys name) → inside.token ≡ heir.first.token
    → half.token ≤ inside.token → place.token ≤ half.token
    → IsShort es scope way
way_over es scope heir inside half place gs ws us vs way there after_is kept given more_ws leads more_us first more_vs
    second all same_token low lower = record {
      earlier = subst (λ p. p.token ≤ way.after) (sym there) (omega arith);
      same = λ token after name.
          subst (λ p. (inherited es token scope name ≡ given_at es name p) ⊎ HasWord way.words.keys name) (sym there)
          (or_more vs way.words.keys name
          (or_then us vs name
          (or_then ws us name (passed es (record { token = token; scope = record { 0 = scope } }) inside heir gs ws kept
          (omega arith) given more_ws leads name) more_us (first name))
          more_vs (second name))
          all);
    }
