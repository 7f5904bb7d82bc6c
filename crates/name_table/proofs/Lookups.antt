-- Entries looked up by their keys.
use Rattle.std.proofs.Common.{◌≡◌, ◌∙◌, ℕ, ◌+◌, ◌<◌, ◌≤◌, Bool, false, cond, not, List, [], ◌∷◌, map, length, get_or, slice_get, position, Option, Some, None, refl, sym, ap}
use Rattle.std.specs.List.{AllByRecursion, IsDistinct, prefix_len}
use Rattle.std.specs.Prelude.{nat_lt}
use Rattle.std.proofs.lemmas.Bool.{lt-ltb, le-ltb}
use Rattle.std.proofs.lemmas.List.{length-map}
use Rattle.std.proofs.lemmas.Option.{slice_get-map, slice_get_read}
use Rattle.std.specs.Option.{option_map}
use Rattle.name_table.specs.declared.key.Key.{Key}
use Rattle.name_table.specs.declared.record.Record.{Record}
use Rattle.name_table.specs.declared.search.Found.TheVariants.{Nothing, One}
use Rattle.name_table.specs.Entry.{AreDistinct, Entry, is_named, named}
use Rattle.name_table.specs.Search.{before, declared_before, own}
use Rattle.name_table.specs.inner.Records.{entries_in, entry_of, key_of}

-- ---- places in lists

prefix_map : {X Y : Type 0} (p : Y → Bool) (f : X → Y) (xs : List X)
    → prefix_len p (map f xs) ≡ prefix_len (λ x. p (f x)) xs
prefix_map p f [] = refl
prefix_map p f (x ∷ xs) = ap (λ n. cond (p (f x)) (1 + n) 0) (prefix_map p f xs)

prefix_same : {X : Type 0} (p q : X → Bool) → ((x : X) → p x ≡ q x) → (xs : List X) → prefix_len p xs ≡ prefix_len q xs
prefix_same p q same [] = refl
prefix_same p q same (x ∷ xs) =
    ap (λ b. cond b (1 + prefix_len p xs) 0) (same x) ∙ ap (λ n. cond (q x) (1 + n) 0) (prefix_same p q same xs)

abbrev place : ℕ → ℕ → Option ℕ
place n m = cond (nat_lt n m) (Some n) None

pub position_map : {X Y : Type 0} (p : Y → Bool) (f : X → Y) (xs : List X)
    → position p (map f xs) ≡ position (λ x. p (f x)) xs
position_map p f xs =
    ap (λ m. place (prefix_len (λ y. not (p y)) (map f xs)) m) (length-map xs f)
    ∙ ap (λ n. place n (length xs)) (prefix_map (λ y. not (p y)) f xs)

pub position_same : {X : Type 0} (p q : X → Bool) → ((x : X) → p x ≡ q x) → (xs : List X)
    → position p xs ≡ position q xs
position_same p q same xs =
    ap (λ n. place n (length xs)) (prefix_same (λ x. not (p x)) (λ x. not (q x)) (λ x. ap not (same x)) xs)

-- ---- entries by keys

pub named_keys : (test : Key → Bool) (records : List Record) (scope : ℕ) (name : List ℕ)
    → ((r : Record) → test r.key ≡ is_named scope name (entry_of r))
    → position test (map key_of records) ≡ named (entries_in records) scope name
named_keys test records scope name same =
    position_map test key_of records
    ∙ position_same (λ r. test r.key) (λ r. is_named scope name (entry_of r)) same records
    ∙ sym (position_map (is_named scope name) entry_of records)

-- keys that differ are those of entries that differ
module _ (eq : Key → Key → Bool) (same : (a b : Record)
    → eq a.key b.key ≡ is_named a.key.scope.0 a.key.word.text.now (entry_of b)) where
  apart : (r : Record) (rs : List Record) → AllByRecursion (λ k. eq r.key k ≡ false) (map key_of rs)
      → AllByRecursion (λ e. is_named r.key.scope.0 r.key.word.text.now e ≡ false) (map entry_of rs)
  apart r [] h = tt
  apart r (x ∷ xs) (first, rest) = (sym (same r x) ∙ first, apart r xs rest)

  pub distinct : (records : List Record) → IsDistinct eq (map key_of records) → AreDistinct (entries_in records)
  unfolding IsDistinct
  distinct [] h = tt
  distinct (r ∷ rs) (first, rest) = (apart r rs first, distinct rs rest)

-- what is kept, and what a contract sees of it
module _ (keys : List Key) (records : List Record) (es : List Entry) (is : entries_in records ≡ es)
    (keyed : keys ≡ map key_of records) where
  pub position_is : (test : Key → Bool) (scope : ℕ) (name : List ℕ)
      → ((r : Record) → test r.key ≡ is_named scope name (entry_of r)) → position test keys ≡ named es scope name
  position_is test scope name same =
      ap (position test) keyed ∙ named_keys test records scope name same ∙ ap (λ xs. named xs scope name) is

  pub named_is : (test : Key → Bool) (k : Option ℕ) → position test keys ≡ k → (scope : ℕ) (name : List ℕ)
      → ((r : Record) → test r.key ≡ is_named scope name (entry_of r))
      → named es scope name ≡ k
  named_is test k at scope name same = sym (position_is test scope name same) ∙ at

  pub own_none : (test : Key → Bool) → position test keys ≡ None → (scope : ℕ) (name : List ℕ)
      → ((r : Record) → test r.key ≡ is_named scope name (entry_of r)) → (n : ℕ)
      → Nothing ≡ own es n scope name
  own_none test at scope name same n = ap (declared_before es n) (sym (named_is test None at scope name same))

  pub entry_read : (k : ℕ) (r : Record) → k < length records → r ≡ get_or records k r
      → slice_get es k ≡ Some (entry_of r)
  entry_read k r lt read =
      let there : slice_get records k ≡ Some r = slice_get_read records (length records) k r refl lt read in
      sym (ap (λ xs. slice_get xs k) is) ∙ slice_get-map entry_of records k ∙ ap (option_map entry_of) there

  own_some : (test : Key → Bool) (k : ℕ) → position test keys ≡ Some k → (scope : ℕ) (name : List ℕ)
      → ((r : Record) → test r.key ≡ is_named scope name (entry_of r)) → (n : ℕ)
      → (r : Record) → k < length records → r ≡ get_or records k r
      → own es n scope name ≡ before n k (Some (entry_of r))
  own_some test k at scope name same n r lt read =
      ap (declared_before es n) (named_is test (Some k) at scope name same) ∙ ap (before n k) (entry_read k r lt read)

  pub own_found : (test : Key → Bool) (k : ℕ) → position test keys ≡ Some k → (scope : ℕ) (name : List ℕ)
      → ((r : Record) → test r.key ≡ is_named scope name (entry_of r)) → (n : ℕ)
      → (r : Record) → k < length records → r ≡ get_or records k r → r.token < n → One k ≡ own es n scope name
  own_found test k at scope name same n r lt read earlier =
      sym (own_some test k at scope name same n r lt read ∙ ap (λ b. cond b (One k) Nothing) (lt-ltb r.token n earlier))

  pub own_behind : (test : Key → Bool) (k : ℕ) → position test keys ≡ Some k → (scope : ℕ) (name : List ℕ)
      → ((r : Record) → test r.key ≡ is_named scope name (entry_of r)) → (n : ℕ)
      → (r : Record) → k < length records → r ≡ get_or records k r → n ≤ r.token → Nothing ≡ own es n scope name
  own_behind test k at scope name same n r lt read later =
      sym (own_some test k at scope name same n r lt read ∙ ap (λ b. cond b (One k) Nothing) (le-ltb r.token n later))
