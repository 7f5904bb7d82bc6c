-- What is kept of entries stays in step with them.
use Rattle.std.proofs.Common.{◌≡◌, ◌∙◌, ℕ, zero, suc, ◌+◌, ◌<◌, ◌≤◌, Bool, true, false, cond, nat_eq, List, [], ◌∷◌, ◌++◌, map, length, length-append, get_or, slice_get, Option, Some, None, Vec, Global, refl, sym, ap, subst, arith}
use Rattle.std.specs.Prelude.{nat_lt, slice_set}
use Rattle.std.proofs.lemmas.Bool.{and_parts, eqb-true}
use Rattle.name_table.specs.Entries.{latest}
use Rattle.std.proofs.lemmas.Option.{slice_get-map, slice_get_read, slice_get_within}
use Rattle.std.specs.Option.{option_map}
use Rattle.std.specs.Map.{lookup}
use Rattle.std.specs.Str.{str_eq_ignore_ascii_case}
use Rattle.name_table.specs.declared.key.Key.{Key}
use Rattle.name_table.specs.declared.key.Word.{Word}
use Rattle.name_table.specs.declared.record.Given.{Given}
use Rattle.name_table.specs.declared.record.Heir.{Heir}
use Rattle.name_table.specs.declared.record.Record.{Record}
use Rattle.name_table.specs.Entry.{AreNested, Entry, bases_of, is_named, named}
use Rattle.name_table.specs.Search.{base_at, inherited}
use Rattle.name_table.specs.declared.search.Found.TheVariants.{Nothing}
use Rattle.name_table.specs.inner.Records.{AreListed, ArePlaced, AreSearched, AreNestedRecords, AreTied, HasWord, by_given, by_heir, entries_in, entry_of, heir_bases, heir_in, heir_of, is_word, key_of, unboxed, words_at, words_in}
use Rattle.name_table.specs.declared.shortcuts.Shortcut.{Shortcut}
use Rattle.name_table.specs.inner.Shortcuts.{AreShort}
use Rattle.name_table.proofs.WaysKept.{ways_like}
use Rattle.name_table.proofs.Inheriting.{first_base}
use Rattle.name_table.proofs.Latest.{bases_low, latest_push}
use Rattle.name_table.proofs.Stability.{bases_push, both_nothing, get_push, get_push_last, get_push_low, inherited_push, named_push, or_place, within_push}

-- ---- words that are listed

pub HasWord_push : (ws : List Word) (w : Word) (name : List ℕ) → HasWord ws name → HasWord (ws ++ w ∷ []) name
HasWord_push ws w name (k, x, at, is) = (k, x, get_push_low ws w k (slice_get_within ws k x at) ∙ at, is)

pub HasWord_last : (ws : List Word) (w : Word) (name : List ℕ) → is_word name w ≡ true → HasWord (ws ++ w ∷ []) name
HasWord_last ws w name is = (length ws, w, get_push_last ws w, is)

pub listed_set : (words : List (Vec Word Global)) (scope : ℕ) (v : Vec Word Global) → scope < length words
    → words_at (slice_set words scope v) scope ≡ v.items
listed_set [] scope v h = absurd (omega arith)
listed_set (w ∷ ws) zero v h = refl
listed_set (w ∷ ws) (suc n) v h = listed_set ws n v (omega arith)

pub kept_set : (words : List (Vec Word Global)) (scope : ℕ) (v : Vec Word Global)
    → ((name : List ℕ) → HasWord (words_at words scope) name → HasWord v.items name)
    → (s : ℕ) (name : List ℕ) → HasWord (words_at words s) name → HasWord (words_at (slice_set words scope v) s) name
kept_set [] scope v grows s name h = h
kept_set (w ∷ ws) zero v grows zero name h = grows name h
kept_set (w ∷ ws) zero v grows (suc s) name h = h
kept_set (w ∷ ws) (suc n) v grows zero name h = h
kept_set (w ∷ ws) (suc n) v grows (suc s) name h = kept_set ws n v grows s name h

pub kept_room : (words : List (Vec Word Global)) (v : Vec Word Global) → v.items ≡ [] → (s : ℕ)
    → words_at (words ++ v ∷ []) s ≡ words_at words s
kept_room words v empty s = get_push words_in words v s empty

-- the scopes' words with others behind them
pub relisted : (keys : List Key) (records : List Record) (words more : List (Vec Word Global))
    → AreTied keys records words
    → ((s : ℕ) (name : List ℕ) → HasWord (words_at words s) name → HasWord (words_at more s) name)
    → AreTied keys records more
relisted keys records words more tied kept = record {
  keyed = tied.keyed;
  nested = tied.nested;
  placed = tied.placed;
  listed = λ s k name h. kept s name (tied.listed s k name h);
  searched = tied.searched;
}

-- ---- one more entry

map_push : {X Y : Type 0} (f : X → Y) (xs : List X) (y : X) → map f (xs ++ y ∷ []) ≡ map f xs ++ f y ∷ []
map_push f [] y = refl
map_push f (x ∷ xs) y = ap (λ r. f x ∷ r) (map_push f xs y)

pub entries_push : (records : List Record) (r : Record)
    → entries_in (records ++ r ∷ []) ≡ entries_in records ++ entry_of r ∷ []
entries_push records r = map_push entry_of records r

heir_push : (records : List Record) (r : Record) → r.heir ≡ None → (s : ℕ)
    → heir_of (records ++ r ∷ []) s ≡ heir_of records s
heir_push records r plain zero = refl
heir_push records r plain (suc k) = get_push heir_in records r k (ap unboxed plain)

nested_push : (records : List Record) (r : Record) (n : ℕ) → r.key.scope.0 ≤ length records + n
    → ((k : ℕ) (x : Record) → slice_get records k ≡ Some x → x.key.scope.0 ≤ k + n)
    → (k : ℕ) (x : Record) → slice_get (records ++ r ∷ []) k ≡ Some x → x.key.scope.0 ≤ k + n
nested_push [] r n low nested zero x h = let same : r ≡ x = cc in subst (λ y. y.key.scope.0 ≤ 0 + n) same low
nested_push [] r n low nested (suc k) x h = cc
nested_push (y ∷ ys) r n low nested zero x h = nested 0 x h
nested_push (y ∷ ys) r n low nested (suc k) x h =
    let there = nested_push ys r (suc n) (omega arith) (λ j z e. let le = nested (suc j) z e in omega arith) k x h in
    omega arith

module _ (keys : List Key) (records : List Record) (words : List (Vec Word Global)) (tied : AreTied keys records words)
    (r : Record) (low : r.key.scope.0 ≤ length records) (plain : r.heir ≡ None)
    (late : latest (entries_in records) ≤ r.token) where
  es : List Entry
  es = entries_in records

  no_bases : (entry_of r).bases ≡ []
  no_bases = ap heir_bases plain

  abbrev last : ℕ
  last = latest (entries_in records)

  bounded : (s j b : ℕ) → base_at (bases_of (entries_in records) s) j ≡ Some b → j ≤ last
  bounded = bases_low (entries_in records)

  placed_push : ArePlaced (records ++ r ∷ [])
  placed_push s t b h =
      let there = tied.placed s t b
      (sym (ap (λ bs. base_at bs t) (ap (λ xs. bases_of xs s) (entries_push records r)
      ∙ bases_push (entries_in records) (entry_of r) no_bases s)) ∙ h) in
      let longer = length-append records (r ∷ []) in
      omega arith

  listed_push : (more : List (Vec Word Global))
      → ((s : ℕ) (name : List ℕ) → HasWord (words_at words s) name → HasWord (words_at more s) name)
      → ((name : List ℕ) → is_word name r.key.word ≡ true → HasWord (words_at more r.key.scope.0) name)
      → AreListed (records ++ r ∷ []) more
  listed_push more kept new s k name h =
      by (named (entries_in records) s name) (is_named s name (entry_of r)) refl refl
      (sym (ap (λ xs. named xs s name) (entries_push records r) ∙ named_push (entries_in records) (entry_of r) s name)
      ∙ h)
    where
      by : (o : Option ℕ) (b : Bool) → named (entries_in records) s name ≡ o → is_named s name (entry_of r) ≡ b
          → or_place o (cond b (Some (length (entries_in records))) None) ≡ Some k → HasWord (words_at more s) name
      by (Some j) b is t e = kept s name (tied.listed s j name is)
      by None true is t e =
          let two = and_parts (nat_eq s r.key.scope.0) (str_eq_ignore_ascii_case name r.key.word.text.now) t in
          subst (λ x. HasWord (words_at more x) name) (sym (eqb-true s r.key.scope.0 two.0)) (new name two.1)
      by None false is t e = cc

  by_heir_push : (t s : ℕ) (name : List ℕ) (h : Option Heir) → heir_of records s ≡ h
      → by_heir (entries_in records) t name h ≡ by_heir (entries_in records ++ entry_of r ∷ []) t name h
  by_heir_push t s name None is = refl
  by_heir_push t s name (Some h) is = by (lookup (is_word name) h.others.entries)
    where
      by : (g : Option Given) → by_given (entries_in records) t name h.first g
          ≡ by_given (entries_in records ++ entry_of r ∷ []) t name h.first g
      by (Some g) = refl
      by None =
          let le = bounded s h.first.token h.first.entry (first_base records s h is) in
          ap (λ f. cond (nat_lt h.first.token t) f Nothing)
          (sym (within_push (entries_in records) (entry_of r) no_bases last bounded late h.first.token
          (suc h.first.entry) name (omega arith)))

  searched_push : AreSearched (records ++ r ∷ [])
  searched_push t s name =
      let searched = tied.searched t s name in
      ap (λ xs. inherited xs t s name) (entries_push records r)
      ∙ inherited_push (entries_in records) (entry_of r) no_bases last bounded late t s name
      ∙ searched
      ∙ by_heir_push t s name (heir_of records s) refl
      ∙ sym (ap (λ xs. by_heir xs t name (heir_of (records ++ r ∷ []) s)) (entries_push records r)
      ∙ ap (by_heir (entries_in records ++ entry_of r ∷ []) t name) (heir_push records r plain s))

  pub tied_push : (more_keys : List Key) → more_keys ≡ keys ++ r.key ∷ [] → (more : List (Vec Word Global))
      → ((s : ℕ) (name : List ℕ) → HasWord (words_at words s) name → HasWord (words_at more s) name)
      → ((name : List ℕ) → is_word name r.key.word ≡ true → HasWord (words_at more r.key.scope.0) name)
      → AreTied more_keys (records ++ r ∷ []) more
  tied_push more_keys keyed more kept new = record {
    keyed = keyed ∙ ap (λ ks. ks ++ r.key ∷ []) tied.keyed ∙ sym (map_push key_of records r);
    nested = λ k x h.
        let there = nested_push records r 0 (omega arith) (λ j z e. let le = tied.nested j z e in omega arith) k x h in
        omega arith;
    placed = placed_push;
    listed = listed_push more kept new;
    searched = searched_push;
  }

  pub ways_push : (ways : List (Option Shortcut)) → AreShort (entries_in records) ways
      → AreShort (entries_in (records ++ r ∷ [])) ways
  ways_push ways kept =
      let same = latest_push (entries_in records) (entry_of r) no_bases in
      subst (λ xs. AreShort xs ways) (sym (entries_push records r))
      (ways_like (entries_in records) (entries_in records ++ entry_of r ∷ []) ways (omega arith) kept
      (λ q way at t w. inherited_push (entries_in records) (entry_of r) no_bases last bounded late t q w)
      (λ t q w h. inherited_push (entries_in records) (entry_of r) no_bases last bounded late t q w))

pub nested_entries : (records : List Record) → AreNestedRecords records → AreNested (entries_in records)
nested_entries records nested k x at = by (slice_get records k) refl
  where
    by : (r : Option Record) → slice_get records k ≡ r → x.scope ≤ k
    by None is = let wrong : None ≡ Some x = sym (slice_get-map entry_of records k ∙ ap (option_map entry_of) is)
        ∙ at in cc
    by (Some r) is =
        let found : Some (entry_of r) ≡ Some x = sym (slice_get-map entry_of records k ∙ ap (option_map entry_of) is)
        ∙ at in
        let same : entry_of r ≡ x = cc in
        subst (λ y. y.scope ≤ k) same (nested k r is)

-- ---- none yet

pub tied_none : (words : List (Vec Word Global)) → AreTied [] [] words
tied_none words = record {
  keyed = refl;
  nested = λ k r e. cc;
  placed = λ s t b e. none s t b e;
  listed = λ s k name e. cc;
  searched = λ t s name. nothing t s name;
}
  where
    none : (s t b : ℕ) → base_at (bases_of (entries_in []) s) t ≡ Some b → b < 0
    none zero t b e = cc
    none (suc k) t b e = cc

    nothing : (t s : ℕ) (name : List ℕ) → inherited (entries_in []) t s name
        ≡ by_heir (entries_in []) t name (heir_of [] s)
    nothing zero zero name = refl
    nothing zero (suc k) name = refl
    nothing (suc t) zero name = both_nothing (inherited (entries_in []) t 0 name) ∙ nothing t 0 name
    nothing (suc t) (suc k) name = both_nothing (inherited (entries_in []) t (suc k) name) ∙ nothing t (suc k) name

-- the words of a scope, where the list of them is read
pub words_of_item : (words : List (Vec Word Global)) (scope : ℕ) (v : Vec Word Global) → scope < length words
    → v ≡ get_or words scope v → words_at words scope ≡ v.items
words_of_item words scope v lt read = ap words_in (slice_get_read words (length words) scope v refl lt read)
