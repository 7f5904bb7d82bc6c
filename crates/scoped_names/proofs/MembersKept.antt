-- Members by what is kept of their scopes.
use Rattle.std.proofs.Common.{◌≡◌, ◌∙◌, ℕ, zero, suc, ◌+◌, ◌<◌, ◌≤◌, ◌↔◌, Bool, true, false, cond, nat_eq, ◌&&◌, List, [], ◌∷◌, ◌++◌, Option, Some, None, Vec, Global, drop, length, map, get_or, refl, sym, ap, arith}
use Rattle.std.specs.Prelude.{IsTrue, if◌then◌else◌, slice_get, slice_set}
use Rattle.std.specs.BTreeMap.{BTreeMap, is_at}
use Rattle.std.specs.Map.{lookup}
use Rattle.std.specs.Option.{option_or}
use Rattle.std.specs.Ordering.{is_eq}
use Rattle.std.specs.Cmp.Lexicographic.{same_text}
use Rattle.std.specs.Str.{bytes_eq, str_eq_ignore_ascii_case}
use Rattle.std.specs.Char.{to_ascii_lowercase}
use Rattle.std.proofs.Math.Seq.{drop-cons}
use Rattle.std.proofs.lemmas.Bool.{and_parts}
use Rattle.std.proofs.lemmas.Bool.Decides.{Decides-eqb}
use Rattle.std.proofs.lemmas.Cmp.{eq_by_cmp_equiv}
use Rattle.std.proofs.lemmas.Option.{slice_get_past, slice_get_read}
use Rattle.std.proofs.lemmas.Slice.Eq.{bytes_eq-Decides}
use Rattle.idl_tree.specs.Starts.{leaf_at}
use Rattle.idl_tree.specs.declared.names.At.{At}
use Rattle.idl_tree.specs.declared.names.Leaf.{Leaf}
use Rattle.name_table.specs.declared.key.Key.{Key}
use Rattle.name_table.specs.declared.key.Word.{Word}
use Rattle.name_table.specs.Search.{word}
use Rattle.name_table.specs.inner.Keys.{folded, word_cmp, word_cmp_total, word_ties}
use Rattle.name_table.proofs.Orders.{word_found}
use Rattle.name_table.proofs.Stability.{get_push}
use Rattle.scoped_names.specs.Faults.{member_named}
use Rattle.scoped_names.specs.Reading.{Member}
use Rattle.scoped_names.specs.inner.StateKept.{AreFound, found_at, leaves_at, leaves_in, leaves_with, member_of, places_at, places_in, places_with, sought}

-- ---- what is read of a list of which one part was changed

set_here : {X : Type 0} (xs : List X) (n : ℕ) (new : X) → n < length xs → slice_get (slice_set xs n new) n ≡ Some new
set_here [] n new lt = absurd (omega arith)
set_here (x ∷ xs) zero new lt = refl
set_here (x ∷ xs) (suc n) new lt = set_here xs n new (omega arith)

set_other : {X : Type 0} (xs : List X) (n : ℕ) (new : X) (s : ℕ) → (s ≡ n → ⊥)
    → slice_get (slice_set xs n new) s ≡ slice_get xs s
set_other [] n new s h = refl
set_other (x ∷ xs) zero new zero h = absurd (h refl)
set_other (x ∷ xs) zero new (suc s) h = refl
set_other (x ∷ xs) (suc n) new zero h = refl
set_other (x ∷ xs) (suc n) new (suc s) h = set_other xs n new s (λ e. h (ap suc e))

set_read : {X A : Type 0} (f : Option X → A) (xs : List X) (n : ℕ) (new : X) (s : ℕ) → n < length xs
    → f (slice_get (slice_set xs n new) s) ≡ (if nat_eq s n then f (Some new) else f (slice_get xs s))
set_read {X} {A} f xs n new s lt = by (nat_eq s n) refl
  where
    by : (b : Bool) → nat_eq s n ≡ b → f (slice_get (slice_set xs n new) s)
        ≡ (let r : A = if b then f (Some new) else f (slice_get xs s) in r)
    by true is =
        let at : s ≡ n = (Decides-eqb s n).0 is in
        ap (λ k. f (slice_get (slice_set xs n new) k)) at ∙ ap f (set_here xs n new lt)
    by false is = ap f (set_other xs n new s (λ e. let wrong : true ≡ false = sym ((Decides-eqb s n).1 e) ∙ is in cc))

-- where the part says what the one in its place did
set_alike : {X A : Type 0} (f : Option X → A) (xs : List X) (n : ℕ) (old new : X) (s : ℕ) → n < length xs
    → old ≡ get_or xs n old
    → f (Some new) ≡ f (Some old) → f (slice_get (slice_set xs n new) s) ≡ f (slice_get xs s)
set_alike {X} {A} f xs n old new s lt read same = set_read f xs n new s lt ∙ by (nat_eq s n) refl
  where
    by : (b : Bool) → nat_eq s n ≡ b → (let r : A = if b then f (Some new) else f (slice_get xs s) in r)
        ≡ f (slice_get xs s)
    by true is =
        let at : s ≡ n = (Decides-eqb s n).0 is in
        same ∙ sym (ap f (slice_get_read xs (length xs) n old refl lt read)) ∙ ap (λ k. f (slice_get xs k)) (sym at)
    by false is = refl

-- ---- the first members of a scope

pub first_room : (few : List (Vec Leaf Global)) (v : Vec Leaf Global) → v.items ≡ [] → (s : ℕ)
    → leaves_at (few ++ v ∷ []) s ≡ leaves_at few s
first_room few v empty s = get_push leaves_in few v s empty

pub leaves_read : (few : List (Vec Leaf Global)) (scope : ℕ) (v : Vec Leaf Global) → scope < length few
    → v ≡ get_or few scope v → leaves_at few scope ≡ v.items
leaves_read few scope v lt read = ap leaves_in (slice_get_read few (length few) scope v refl lt read)

pub none_first : (few : List (Vec Leaf Global)) (scope : ℕ) → length few ≤ scope → leaves_at few scope ≡ []
none_first few scope h = ap leaves_in (slice_get_past few scope h)

pub first_alike : (few : List (Vec Leaf Global)) (scope : ℕ) (old new : Vec Leaf Global) → scope < length few
    → old ≡ get_or few scope old → new.items ≡ old.items
    → (s : ℕ) → leaves_at (slice_set few scope new) s ≡ leaves_at few s
first_alike few scope old new lt read same s = set_alike leaves_in few scope old new s lt read same

pub first_kept : (few : List (Vec Leaf Global)) (scope : ℕ) (old new : Vec Leaf Global) (l : Leaf) → scope < length few
    → old ≡ get_or few scope old
    → new.items ≡ old.items ++ l ∷ [] → (s : ℕ) → leaves_at (slice_set few scope new) s
    ≡ leaves_with scope l (leaves_at few s) s
first_kept few scope old new l lt read more s = set_read leaves_in few scope new s lt ∙ by (nat_eq s scope) refl
  where
    by : (b : Bool) → nat_eq s scope ≡ b
        → (let r : List Leaf = if b then new.items else leaves_at few s in r)
        ≡ (let r : List Leaf = if b then leaves_at few s ++ l ∷ [] else leaves_at few s in r)
    by true is =
        let at : s ≡ scope = (Decides-eqb s scope).0 is in
        more ∙ ap (λ ls. ls ++ l ∷ []) (sym (leaves_read few scope old lt read) ∙ ap (leaves_at few) (sym at))
    by false is = refl

-- ---- the members behind them

pub kept_room : (many : List (BTreeMap Word At)) (m : BTreeMap Word At) → m.entries ≡ [] → (s : ℕ)
    → places_at (many ++ m ∷ []) s ≡ places_at many s
kept_room many m empty s = get_push places_in many m s empty

pub places_read : (many : List (BTreeMap Word At)) (scope : ℕ) (m : BTreeMap Word At) → scope < length many
    → m ≡ get_or many scope m → places_at many scope ≡ m.entries
places_read many scope m lt read = ap places_in (slice_get_read many (length many) scope m refl lt read)

-- a scope behind all that have room has none
pub none_past : (many : List (BTreeMap Word At)) (scope : ℕ) → length many ≤ scope → places_at many scope ≡ []
none_past many scope h = ap places_in (slice_get_past many scope h)

-- a map that is put back as it was
pub behind_alike : (many : List (BTreeMap Word At)) (scope : ℕ) (old new : BTreeMap Word At) → scope < length many
    → old ≡ get_or many scope old → new.entries ≡ old.entries
    → (s : ℕ) → places_at (slice_set many scope new) s ≡ places_at many s
behind_alike many scope old new lt read same s = set_alike places_in many scope old new s lt read same

pub behind_kept : (many : List (BTreeMap Word At)) (k : Key) (a : At) (old new : BTreeMap Word At)
    → k.scope.0 < length many → old ≡ get_or many k.scope.0 old
    → ((q : Word) → lookup (is_at (word_cmp q)) new.entries
    ≡ cond (is_at (word_cmp k.word) q) (Some a) (lookup (is_at (word_cmp q)) old.entries))
    → (s : ℕ) (q : Word) → lookup (is_at (word_cmp q)) (places_at (slice_set many k.scope.0 new) s)
    ≡ places_with k a q (lookup (is_at (word_cmp q)) (places_at many s)) s
behind_kept many k a old new lt read updated s q =
    ap (lookup (is_at (word_cmp q))) (set_read places_in many k.scope.0 new s lt) ∙ by (nat_eq s k.scope.0) refl
  where
    by : (b : Bool) → nat_eq s k.scope.0 ≡ b
        → lookup (is_at (word_cmp q)) (let r : List (Word × At) = if b then new.entries else places_at many s in r)
        ≡ cond (b && is_at (word_cmp k.word) q) (Some a) (lookup (is_at (word_cmp q)) (places_at many s))
    by true is =
        let at : s ≡ k.scope.0 = (Decides-eqb s k.scope.0).0 is in
        updated q
        ∙ ap (λ es. cond (is_at (word_cmp k.word) q) (Some a) (lookup (is_at (word_cmp q)) es))
        (sym (places_read many k.scope.0 old lt read) ∙ ap (places_at many) (sym at))
    by false is = refl

-- ---- a search among the first

pub case_told : (b : Bool) (one other : List ℕ)
    → (IsTrue b ↔ (map to_ascii_lowercase one ≡ map to_ascii_lowercase other)) → b ≡ str_eq_ignore_ascii_case one other
case_told b one other told = by b (str_eq_ignore_ascii_case one other) refl told
  where
    by : (b c : Bool) → str_eq_ignore_ascii_case one other ≡ c
        → (IsTrue b ↔ (map to_ascii_lowercase one ≡ map to_ascii_lowercase other)) → b ≡ c
    by true true is told = refl
    by true false is told = let wrong : str_eq_ignore_ascii_case one other ≡ true =
        (bytes_eq-Decides (map to_ascii_lowercase one) (map to_ascii_lowercase other)).1 (told.0 refl) in cc
    by false true is told = let wrong : false ≡ true =
        told.1 ((bytes_eq-Decides (map to_ascii_lowercase one) (map to_ascii_lowercase other)).0 is) in cc
    by false false is told = refl

pub sought_here : (ls : List Leaf) (k : ℕ) (name : List ℕ) (l : Leaf) → k < length ls → l ≡ get_or ls k l
    → str_eq_ignore_ascii_case name (word l) ≡ true
    → sought (drop k ls) name ≡ Some (leaf_at l)
sought_here ls k name l lt read same =
    ap (λ xs. sought xs name) (drop-cons ls k l lt ∙ ap (λ x. x ∷ drop (suc k) ls) (sym read))
    ∙ ap (λ b. let o : Option At = if b then Some (leaf_at l) else sought (drop (suc k) ls) name in o) same

pub sought_on : (ls : List Leaf) (k : ℕ) (name : List ℕ) (l : Leaf) → k < length ls → l ≡ get_or ls k l
    → str_eq_ignore_ascii_case name (word l) ≡ false
    → sought (drop k ls) name ≡ sought (drop (suc k) ls) name
sought_on ls k name l lt read other =
    ap (λ xs. sought xs name) (drop-cons ls k l lt ∙ ap (λ x. x ∷ drop (suc k) ls) (sym read))
    ∙ ap (λ b. let o : Option At = if b then Some (leaf_at l) else sought (drop (suc k) ls) name in o) other

-- ---- members

named_push : (ms : List Member) (m : Member) (scope : ℕ) (name : List ℕ)
    → member_named (ms ++ m ∷ []) scope name ≡ option_or (member_named ms scope name) (member_named (m ∷ []) scope name)
named_push [] m scope name = refl
named_push (x ∷ ms) m scope name =
    by (nat_eq scope x.scope && str_eq_ignore_ascii_case name x.name) (named_push ms m scope name)
  where
    by : (b : Bool) → member_named (ms ++ m ∷ []) scope name
        ≡ option_or (member_named ms scope name) (member_named (m ∷ []) scope name)
        → (let o : Option At = if b then Some x.at else member_named (ms ++ m ∷ []) scope name in o)
        ≡ option_or (let o : Option At = if b then Some x.at else member_named ms scope name in o)
        (member_named (m ∷ []) scope name)
    by true is = refl
    by false is = is

abbrev lower : List ℕ → List ℕ
lower name = map to_ascii_lowercase name

named_alike : (ms : List Member) (scope : ℕ) (a b : List ℕ) → lower a ≡ lower b
    → member_named ms scope a ≡ member_named ms scope b
named_alike [] scope a b same = refl
named_alike (m ∷ ms) scope a b same =
    ap (λ w. let o : Option At = if nat_eq scope m.scope && bytes_eq w (lower m.name) then Some m.at
    else member_named ms scope a in o) same
    ∙ ap (λ r. let o : Option At = if nat_eq scope m.scope && str_eq_ignore_ascii_case b m.name then Some m.at else r in
    o) (named_alike ms scope a b same)

abbrev alone : At → Bool → Option At
alone a b = if b then Some a else None

-- one more among the first
sought_push : (ls : List Leaf) (l : Leaf) (name : List ℕ)
    → sought (ls ++ l ∷ []) name ≡ option_or (sought ls name)
    (alone (leaf_at l) (str_eq_ignore_ascii_case name (word l)))
sought_push [] l name = refl
sought_push (x ∷ ls) l name = by (str_eq_ignore_ascii_case name (word x)) (sought_push ls l name)
  where
    by : (b : Bool) → sought (ls ++ l ∷ []) name
        ≡ option_or (sought ls name) (alone (leaf_at l) (str_eq_ignore_ascii_case name (word l)))
        → (let o : Option At = if b then Some (leaf_at x) else sought (ls ++ l ∷ []) name in o)
        ≡ option_or (let o : Option At = if b then Some (leaf_at x) else sought ls name in o)
        (alone (leaf_at l) (str_eq_ignore_ascii_case name (word l)))
    by true is = refl
    by false is = is

or_none : (o : Option At) → option_or o None ≡ o
or_none None = refl
or_none (Some a) = refl

sought_with : (scope : ℕ) (l : Leaf) (ls : List Leaf) (s : ℕ) (name : List ℕ)
    → sought (leaves_with scope l ls s) name
    ≡ option_or (sought ls name) (alone (leaf_at l) (nat_eq s scope && str_eq_ignore_ascii_case name (word l)))
sought_with scope l ls s name = by (nat_eq s scope)
  where
    by : (b : Bool) → sought (let r : List Leaf = if b then ls ++ l ∷ [] else ls in r) name
        ≡ option_or (sought ls name) (alone (leaf_at l) (b && str_eq_ignore_ascii_case name (word l)))
    by true = sought_push ls l name
    by false = sym (or_none (sought ls name))

-- what is found then, where it is or isn't the new one
mixed_first : (x y m : Option At) (a : At) (t : Bool) → option_or x y ≡ m → (t ≡ true → m ≡ None)
    → option_or (option_or x (alone a t)) y ≡ option_or m (alone a t)
mixed_first None y m a true is fresh = sym (ap (λ o. option_or o (Some a)) (fresh refl))
mixed_first None y m a false is fresh = is ∙ sym (or_none m)
mixed_first (Some x) y m a t is fresh = ap (λ o. option_or o (alone a t)) is

mixed_behind : (x y m : Option At) (a : At) (t : Bool) → option_or x y ≡ m → (t ≡ true → m ≡ None)
    → option_or x (cond t (Some a) y) ≡ option_or m (alone a t)
mixed_behind None y m a true is fresh = sym (ap (λ o. option_or o (Some a)) (fresh refl))
mixed_behind (Some x) y m a true is fresh = ap (λ o. option_or o (Some a)) is
mixed_behind x y m a false is fresh = is ∙ sym (or_none m)

-- one more, of a name that its scope hasn't yet
module _ (ms : List Member) (few : List (Vec Leaf Global)) (many : List (BTreeMap Word At))
    (found : AreFound ms few many) (scope : ℕ) (l : Leaf)
    (fresh : member_named ms scope (word l) ≡ None) where
  abbrev is_it : ℕ → Word → Bool
  is_it s q = nat_eq s scope && str_eq_ignore_ascii_case q.text.now (word l)

  none_yet : (s : ℕ) (q : Word) → is_it s q ≡ true → member_named ms s q.text.now ≡ None
  none_yet s q is =
      let two = and_parts (nat_eq s scope) (str_eq_ignore_ascii_case q.text.now (word l)) is in
      let here : s ≡ scope = (Decides-eqb s scope).0 two.0 in
      let like : lower q.text.now ≡ lower (word l) = (bytes_eq-Decides (lower q.text.now) (lower (word l))).0 two.1 in
      ap (λ k. member_named ms k q.text.now) here ∙ named_alike ms scope q.text.now (word l) like ∙ fresh

  pub found_first : (more : List (Vec Leaf Global))
      → ((s : ℕ) → leaves_at more s ≡ leaves_with scope l (leaves_at few s) s)
      → AreFound (ms ++ member_of scope l ∷ []) more many
  found_first more kept s q =
      let y = lookup (is_at (word_cmp q)) (places_at many s) in
      ap (λ ls. option_or (sought ls q.text.now) y) (kept s)
      ∙ ap (λ x. option_or x y) (sought_with scope l (leaves_at few s) s q.text.now)
      ∙ mixed_first (sought (leaves_at few s) q.text.now) y (member_named ms s q.text.now) (leaf_at l) (is_it s q)
      (found s q) (none_yet s q)
      ∙ sym (named_push ms (member_of scope l) s q.text.now)

  pub found_behind : (more : List (BTreeMap Word At)) (k : Key) → k.scope.0 ≡ scope → k.word.text.now ≡ word l
      → ((s : ℕ) (q : Word) → lookup (is_at (word_cmp q)) (places_at more s)
      ≡ places_with k (leaf_at l) q (lookup (is_at (word_cmp q)) (places_at many s)) s)
      → AreFound (ms ++ member_of scope l ∷ []) few more
  found_behind more k here named kept s q =
      let x = sought (leaves_at few s) q.text.now in
      let y = lookup (is_at (word_cmp q)) (places_at many s) in
      let same : (nat_eq s k.scope.0 && is_eq (word_cmp k.word q)) ≡ is_it s q =
      ap (λ n. nat_eq s n && is_eq (word_cmp k.word q)) here
      ∙ ap (λ b. nat_eq s scope && b) (word_is k q ∙ ap (str_eq_ignore_ascii_case q.text.now) named) in
      ap (option_or x) (kept s q ∙ ap (λ t. cond t (Some (leaf_at l)) y) same)
      ∙ mixed_behind x y (member_named ms s q.text.now) (leaf_at l) (is_it s q) (found s q) (none_yet s q)
      ∙ sym (named_push ms (member_of scope l) s q.text.now)
    where
      word_is : (k : Key) (q : Word) → is_eq (word_cmp k.word q) ≡ str_eq_ignore_ascii_case q.text.now k.word.text.now
      word_is k q = sym ((eq_by_cmp_equiv word_cmp_total).symm q k.word) ∙ word_found q k.word

-- the same members, kept otherwise
pub found_like : (ms : List Member) (few few' : List (Vec Leaf Global)) (many many' : List (BTreeMap Word At))
    → AreFound ms few many
    → ((s : ℕ) → leaves_at few' s ≡ leaves_at few s) → ((s : ℕ) → places_at many' s ≡ places_at many s)
    → AreFound ms few' many'
found_like ms few few' many many' found first behind s q =
    ap (λ ls. option_or (sought ls q.text.now) (lookup (is_at (word_cmp q)) (places_at many' s))) (first s)
    ∙ ap (λ es. option_or (sought (leaves_at few s) q.text.now) (lookup (is_at (word_cmp q)) es)) (behind s)
    ∙ found s q

pub found_none : AreFound [] [] []
found_none s w = refl
