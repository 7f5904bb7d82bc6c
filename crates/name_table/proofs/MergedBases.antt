-- What is kept of names where an interface gets one more base, name by name.
use Rattle.std.proofs.Common.{◌≡◌, ◌∙◌, ℕ, zero, suc, ◌<◌, ◌≤◌, ◌+◌, ◌⊎◌, inl, inr, Bool, true, false, cond, nat_eq, ◌&&◌, List, [], ◌∷◌, ◌++◌, drop, get_or, map, length, slice_get, Option, Some, None, Vec, Global, Result, Ok, Err, IfOk, IfSome, refl, sym, ap, subst, arith}
use Rattle.std.specs.Prelude.{nat_lt}
use Rattle.std.specs.List.{AllZip}
use Rattle.std.specs.Map.{lookup}
use Rattle.std.specs.Str.{bytes_eq}
use Rattle.std.specs.Char.{to_ascii_lowercase}
use Rattle.std.proofs.Math.Dec.{leb}
use Rattle.std.proofs.Math.Seq.{drop-cons}
use Rattle.std.proofs.lemmas.Bool.{le-ltb, leb-false, leb-true, lt-ltb}
use Rattle.std.proofs.lemmas.Slice.Eq.{bytes_eq-Decides}
use Rattle.std.specs.BTreeMap.{insert_entry}
use Rattle.std.specs.declared.cmp.Ordering.{Ordering}
use Rattle.std.specs.declared.cmp.Ordering.TheVariants.{Less, Equal, Greater}
use Rattle.std.specs.Ordering.{match_ordering}
use Rattle.name_table.specs.declared.entry.Base.{Base}
use Rattle.name_table.specs.declared.key.Word.{Word}
use Rattle.name_table.specs.declared.record.Clash.{Clash}
use Rattle.name_table.specs.declared.record.Given.{Given}
use Rattle.name_table.specs.declared.record.Heir.{Heir}
use Rattle.name_table.specs.declared.record.Record.{Record}
use Rattle.name_table.specs.declared.search.Found.{Found}
use Rattle.name_table.specs.declared.search.Found.TheVariants.{Nothing, One, Several}
use Rattle.name_table.specs.inner.Keys.{folded, word_cmp}
use Rattle.name_table.specs.Entry.{Entry, bases_of, is_named, named}
use Rattle.name_table.specs.Search.{base_at, both, declared_before, from_base, inherited, or_else, own, within}
use Rattle.name_table.specs.inner.Records.{AreListed, HasWord, entries_in, words_at, by_given, by_heir, alone_or_not, given_before, is_word}
use Rattle.name_table.specs.inner.SeveralBases.{HasNoneFrom, IsDone, IsKept, IsRight, Merges, SaysNothingNew, given_then, with_more}
use Rattle.name_table.proofs.Lookups.{position_same}
use Rattle.name_table.proofs.Orders.{equal_words, same_folded}
use Rattle.name_table.proofs.Tied.{HasWord_last, HasWord_push}
use Rattle.name_table.proofs.Stability.{constant, nothing_earlier}

-- ---- searches don't look at the case of letters

abbrev pub lower : List ℕ → List ℕ
lower w = map to_ascii_lowercase w

module _ (es : List Entry) (w v : List ℕ) (like : lower w ≡ lower v) where
  pub named_case : (s : ℕ) → named es s w ≡ named es s v
  named_case s = position_same (is_named s w) (is_named s v)
      (λ e. ap (λ x. nat_eq s e.scope && bytes_eq x (lower e.name)) like) es

  own_case : (n s : ℕ) → own es n s w ≡ own es n s v
  own_case n s = ap (declared_before es n) (named_case s)

  pub inherited_case : (t s : ℕ) → inherited es t s w ≡ inherited es t s v
  inherited_case zero s = refl
  inherited_case (suc m) s =
      ap (λ x. both x (from_base (λ b. or_else (own es m b w) (inherited es m b w)) (base_at (bases_of es s) m)))
      (inherited_case m s)
      ∙ ap (both (inherited es m s v)) (by m (λ x. inherited_case m x) (base_at (bases_of es s) m))
    where
      by : (m : ℕ) → ((x : ℕ) → inherited es m x w ≡ inherited es m x v) → (b : Option ℕ)
          → from_base (λ x. or_else (own es m x w) (inherited es m x w)) b
          ≡ from_base (λ x. or_else (own es m x v) (inherited es m x v)) b
      by m same None = refl
      by m same (Some b) = ap (λ x. or_else x (inherited es m (suc b) w)) (own_case m (suc b))
          ∙ ap (or_else (own es m (suc b) v)) (same (suc b))

  pub within_case : (t s : ℕ) → within es t s w ≡ within es t s v
  within_case t s = ap (λ x. or_else x (inherited es t s w)) (own_case t s)
      ∙ ap (or_else (own es t s v)) (inherited_case t s)

  both_case : (scope : ℕ) (base : Base)
      → both (inherited es base.token scope w) (within es base.token (suc base.entry) w)
      ≡ both (inherited es base.token scope v) (within es base.token (suc base.entry) v)
  both_case scope base =
      ap (λ x. both x (within es base.token (suc base.entry) w)) (inherited_case base.token scope)
      ∙ ap (both (inherited es base.token scope v)) (within_case base.token (suc base.entry))

  with_more_case : (scope : ℕ) (base : Base) (t : ℕ) → with_more es scope base t w ≡ with_more es scope base t v
  with_more_case scope base t =
      ap (λ x. cond (nat_lt base.token t) x (inherited es t scope w)) (both_case scope base)
      ∙ ap (cond (nat_lt base.token t)
      (both (inherited es base.token scope v) (within es base.token (suc base.entry) v))) (inherited_case t scope)

  nothing_new_case : (scope : ℕ) (base : Base) → SaysNothingNew es scope base v → SaysNothingNew es scope base w
  nothing_new_case scope base h = both_case scope base ∙ h ∙ sym (inherited_case base.token scope)

pub like_of : (w : List ℕ) (k : Word) → is_word w k ≡ true → lower w ≡ folded k
like_of w k h = (bytes_eq-Decides (lower w) (folded k)).0 h

-- ---- a name that the bases before give, from a token on

abbrev pub first_of : Heir → Option Given → ℕ
first_of h None = h.first.token
first_of h (Some g) = g.token

-- what they give alone they give from there on
pub begins : (es : List Entry) (scope : ℕ) (h : Heir) (w : List ℕ) (m : ℕ) (x : Found) (o : Option Given)
    → IsKept es scope h → lookup (is_word w) h.others.entries ≡ o → x ≡ inherited es m scope w
    → ((a b : ℕ) → x ≡ Several a b → ⊥)
    → (t : ℕ) → t ≤ m → cond (nat_lt (first_of h o) t) x Nothing ≡ inherited es t scope w
begins es scope h w m (Several a b) o kept is there one t le = absurd (one a b refl)
begins es scope h w m Nothing o kept is there one t le = by (nat_lt (first_of h o) t)
    ∙ sym (nothing_earlier es scope w t m le (sym there))
  where
    by : (b : Bool) → cond b Nothing Nothing ≡ Nothing
    by true = refl
    by false = refl
begins es scope h w m (One e) None kept is there one t le =
    by (nat_lt h.first.token m) refl
  where
    f : Found
    f = within es h.first.token (suc h.first.entry) w

    at : (u : ℕ) → inherited es u scope w ≡ cond (nat_lt h.first.token u) f Nothing
    at u = kept u w ∙ ap (by_given es u w h.first) is

    by : (b : Bool) → nat_lt h.first.token m ≡ b → cond (nat_lt h.first.token t) (One e) Nothing
        ≡ inherited es t scope w
    by true low = ap (λ y. cond (nat_lt h.first.token t) y Nothing) (there ∙ at m ∙ ap (λ b. cond b f Nothing) low)
        ∙ sym (at t)
    by false low = let wrong : One e ≡ Nothing = there ∙ at m ∙ ap (λ b. cond b f Nothing) low in cc
begins es scope h w m (One e) (Some g) kept is there one t le =
    by (nat_lt g.token m) refl
  where
    at : (u : ℕ) → inherited es u scope w ≡ given_before u g
    at u = kept u w ∙ ap (by_given es u w h.first) is

    -- what is alone is alone earlier
    earlier : (c : Option Clash) → One e ≡ alone_or_not m g.entry c → One e ≡ alone_or_not t g.entry c
    earlier None same = same
    earlier (Some c) same = by_clash (nat_lt c.token m) refl same
      where
        ltb_false : (a b : ℕ) → nat_lt a b ≡ false → b ≤ a
        ltb_false a b h = by_leb (leb b a) refl
          where
            by_leb : (q : Bool) → leb b a ≡ q → b ≤ a
            by_leb true e = leb-true b a e
            by_leb false e = let lt = leb-false b a e in let yes = lt-ltb a b lt in cc

        by_clash : (q : Bool) → nat_lt c.token m ≡ q → One e ≡ cond q (Several g.entry c.entry) (One g.entry)
            → One e ≡ alone_or_not t g.entry (Some c)
        by_clash true low same = cc
        by_clash false low same =
            let high = ltb_false c.token m low in
            same ∙ sym (ap (λ q. cond q (Several g.entry c.entry) (One g.entry)) (le-ltb c.token t (omega arith)))

    by : (b : Bool) → nat_lt g.token m ≡ b → cond (nat_lt g.token t) (One e) Nothing ≡ inherited es t scope w
    by false low = let wrong : One e ≡ Nothing = there ∙ at m
        ∙ ap (λ b. cond b (alone_or_not m g.entry g.clash) Nothing) low in cc
    by true low =
        let same : One e ≡ alone_or_not m g.entry g.clash = there ∙ at m
        ∙ ap (λ b. cond b (alone_or_not m g.entry g.clash) Nothing) low in
        ap (λ y. cond (nat_lt g.token t) y Nothing) (earlier g.clash same) ∙ sym (at t)

-- so does what is kept of them with the new base
pub given_is : (es : List Entry) (scope : ℕ) (h : Heir) (base : Base) (w : List ℕ) (x y : Found) (o : Option Given)
    (g : Given) → IsKept es scope h → lookup (is_word w) h.others.entries ≡ o
    → x ≡ inherited es base.token scope w → y ≡ within es base.token (suc base.entry) w
    → ((a b : ℕ) → x ≡ Several a b → ⊥)
    → ((t : ℕ) → given_before t g ≡ given_then (first_of h o) base.token x y t) → (t : ℕ)
    → given_before t g ≡ with_more es scope base t w
given_is es scope h base w x y o g kept is old new one given t = given t ∙ by (leb t base.token) refl
  where
    m : ℕ
    m = base.token

    by : (b : Bool) → leb t m ≡ b → given_then (first_of h o) m x y t ≡ with_more es scope base t w
    by true e =
        let le = leb-true t m e in
        ap (λ c. cond c (both x y) (cond (nat_lt (first_of h o) t) x Nothing)) (le-ltb m t le)
        ∙ begins es scope h w m x o kept is old one t le
        ∙ sym (ap (λ c. cond c (both (inherited es m scope w) (within es m (suc base.entry) w))
        (inherited es t scope w)) (le-ltb m t le))
    by false e =
        let lt = leb-false t m e in
        ap (λ c. cond c (both x y) (cond (nat_lt (first_of h o) t) x Nothing)) (lt-ltb m t lt)
        ∙ ap (λ z. both z y) old ∙ ap (both (inherited es m scope w)) new
        ∙ sym (ap (λ c. cond c (both (inherited es m scope w) (within es m (suc base.entry) w))
        (inherited es t scope w)) (lt-ltb m t lt))

-- ---- the words that are left

pub done_start : (es : List Entry) (scope : ℕ) (base : Base) (old others : List (Word × Given)) (words : List Word)
    → others ≡ old
    → ((w : List ℕ) → SaysNothingNew es scope base w ⊎ HasWord words w) → IsDone es scope base old others words
done_start es scope base old others words same covers w = inr (ap (lookup (is_word w)) same, covers w)

-- a word of a list is its first or one of the others
pub first_or : (k : Word) (ks : List Word) (w : List ℕ) → HasWord (k ∷ ks) w → (is_word w k ≡ true) ⊎ HasWord ks w
first_or k ks w (zero, x, at, is) = let same : k ≡ x = cc in inl (ap (is_word w) same ∙ is)
first_or k ks w (suc n, x, at, is) = inr (n, x, at, is)

pub done_nothing : (es : List Entry) (scope : ℕ) (base : Base) (old others : List (Word × Given)) (k : Word)
    (ks left : List Word) → left ≡ k ∷ ks → SaysNothingNew es scope base k.text.now
    → IsDone es scope base old others left → IsDone es scope base old others ks
done_nothing es scope base old others k ks left is none done w = by (done w)
  where
    next : SaysNothingNew es scope base w ⊎ HasWord left w → SaysNothingNew es scope base w ⊎ HasWord ks w
    next (inl none) = inl none
    next (inr has) = at (first_or k ks w (subst (λ xs. HasWord xs w) is has))
      where
        at : (is_word w k ≡ true) ⊎ HasWord ks w → SaysNothingNew es scope base w ⊎ HasWord ks w
        at (inl here) = inl (nothing_new_case es w k.text.now (like_of w k here) scope base none)
        at (inr rest) = inr rest

    by : IsRight es scope base others w
        ⊎ ((lookup (is_word w) others ≡ lookup (is_word w) old) × (SaysNothingNew es scope base w ⊎ HasWord left w))
        → IsRight es scope base others w
        ⊎ ((lookup (is_word w) others ≡ lookup (is_word w) old) × (SaysNothingNew es scope base w ⊎ HasWord ks w))
    by (inl right) = inl right
    by (inr kept) = inr (kept.0, next kept.1)

pub same_word : (a b : Word) → word_cmp a b ≡ Equal → (w : List ℕ) → is_word w a ≡ is_word w b
same_word a b h w = ap (bytes_eq (lower w)) (same_folded a b h)

both_word : (w : List ℕ) (a b : Word) → is_word w a ≡ true → is_word w b ≡ true → word_cmp a b ≡ Equal
both_word w a b h i = equal_words a b (sym (like_of w a h) ∙ like_of w b i)

-- a look-up behind an insertion
pub lookup_inserted : (others : List (Word × Given)) (k : Word) (g : Given) (w : List ℕ)
    → lookup (is_word w) (insert_entry word_cmp others k g) ≡ cond (is_word w k) (Some g) (lookup (is_word w) others)
lookup_inserted [] k g w = refl
lookup_inserted (x ∷ xs) k g w = by (lookup_inserted xs k g w) (word_cmp k x.0) refl
  where
    fold_in : (a b : Bool) → (a ≡ true → b ≡ true → ⊥) → cond a (Some x.1) (cond b (Some g) (lookup (is_word w) xs))
        ≡ cond b (Some g) (cond a (Some x.1) (lookup (is_word w) xs))
    fold_in true true h = absurd (h refl refl)
    fold_in true false h = refl
    fold_in false b h = refl

    twice : (b : Bool) → cond b (Some g) (lookup (is_word w) xs)
        ≡ cond b (Some g) (cond b (Some x.1) (lookup (is_word w) xs))
    twice true = refl
    twice false = refl

    by : lookup (is_word w) (insert_entry word_cmp xs k g) ≡ cond (is_word w k) (Some g) (lookup (is_word w) xs)
        → (o : Ordering) → word_cmp k x.0 ≡ o
        → lookup (is_word w) (match_ordering o ((k, g) ∷ x ∷ xs) ((x.0, g) ∷ xs) (x ∷ insert_entry word_cmp xs k g))
        ≡ cond (is_word w k) (Some g) (lookup (is_word w) (x ∷ xs))
    by rest Less is = refl
    by rest Equal is =
        let same = same_word k x.0 is w in
        ap (λ b. cond b (Some g) (lookup (is_word w) xs)) (sym same) ∙ twice (is_word w k)
        ∙ ap (λ b. cond (is_word w k) (Some g) (cond b (Some x.1) (lookup (is_word w) xs))) same
    by rest Greater is =
        ap (cond (is_word w x.0) (Some x.1)) rest
        ∙ fold_in (is_word w x.0) (is_word w k) (λ h i. let wrong : Greater ≡ Equal = sym is ∙ both_word w k x.0 i h in
        cc)

pub done_given : (es : List Entry) (scope : ℕ) (base : Base) (old others more : List (Word × Given)) (k : Word)
    (ks left : List Word) (g : Given) → left ≡ k ∷ ks
    → ((t : ℕ) → given_before t g ≡ with_more es scope base t k.text.now) → more ≡ insert_entry word_cmp others k g
    → IsDone es scope base old others left → IsDone es scope base old more ks
done_given es scope base old others more k ks left g is right inserted done w = by (is_word w k) refl
  where
    at : lookup (is_word w) more ≡ cond (is_word w k) (Some g) (lookup (is_word w) others)
    at = ap (lookup (is_word w)) inserted ∙ lookup_inserted others k g w

    next : is_word w k ≡ false → SaysNothingNew es scope base w ⊎ HasWord left w → SaysNothingNew es scope base w
        ⊎ HasWord ks w
    next un (inl none) = inl none
    next un (inr has) = split (first_or k ks w (subst (λ xs. HasWord xs w) is has))
      where
        split : (is_word w k ≡ true) ⊎ HasWord ks w → SaysNothingNew es scope base w ⊎ HasWord ks w
        split (inl here) = absurd (let wrong : true ≡ false = sym here ∙ un in cc)
        split (inr rest) = inr rest

    by : (b : Bool) → is_word w k ≡ b → IsRight es scope base more w
        ⊎ ((lookup (is_word w) more ≡ lookup (is_word w) old) × (SaysNothingNew es scope base w ⊎ HasWord ks w))
    by true here =
        inl (
          g,
          at ∙ ap (λ b. cond b (Some g) (lookup (is_word w) others)) here,
          λ t. right t
              ∙ sym (with_more_case es w k.text.now (like_of w k here) scope base t),
        )
    by false un = from (done w)
      where
        same : lookup (is_word w) more ≡ lookup (is_word w) others
        same = at ∙ ap (λ b. cond b (Some g) (lookup (is_word w) others)) un

        from : IsRight es scope base others w
            ⊎ ((lookup (is_word w) others ≡ lookup (is_word w) old) × (SaysNothingNew es scope base w ⊎ HasWord left w))
            → IsRight es scope base more w
            ⊎ ((lookup (is_word w) more ≡ lookup (is_word w) old) × (SaysNothingNew es scope base w ⊎ HasWord ks w))
        from (inl (f, there, fits)) = inl (f, same ∙ there, fits)
        from (inr kept) = inr (same ∙ kept.0, next un kept.1)

pub none_left : (left : List Word) (w : List ℕ) → left ≡ [] → HasWord left w → ⊥
none_left left w none (k, x, at, is) = let wrong : slice_get [] k ≡ Some x = sym (ap (λ xs. slice_get xs k) none)
    ∙ at in cc

-- where no word is left, what is kept says what the interface inherits with the base
pub done_all : (es : List Entry) (scope : ℕ) (base : Base) (h more : Heir) (left : List Word) → left ≡ []
    → IsKept es scope h → HasNoneFrom es scope base.token → more.first ≡ h.first
    → IsDone es scope base h.others.entries more.others.entries left → Merges es scope base more
done_all es scope base h more left none kept last first done t w = by (done w)
  where
    m : ℕ
    m = base.token

    x : Found
    x = inherited es m scope w

    still : SaysNothingNew es scope base w → inherited es t scope w ≡ with_more es scope base t w
    still same = at (leb t m) refl
      where
        at : (b : Bool) → leb t m ≡ b → inherited es t scope w ≡ with_more es scope base t w
        at true e = sym (ap (λ c. cond c (both x (within es m (suc base.entry) w)) (inherited es t scope w))
            (le-ltb m t (leb-true t m e)))
        at false e =
            let lt = leb-false t m e in
            constant es scope w m last t (omega arith) ∙ sym same
            ∙ sym (ap (λ c. cond c (both x (within es m (suc base.entry) w)) (inherited es t scope w)) (lt-ltb m t lt))

    by : IsRight es scope base more.others.entries w
        ⊎ ((lookup (is_word w) more.others.entries ≡ lookup (is_word w) h.others.entries)
        × (SaysNothingNew es scope base w ⊎ HasWord left w))
        → by_heir es t w (Some more) ≡ with_more es scope base t w
    by (inl (g, there, fits)) = ap (by_given es t w more.first) there ∙ fits t
    by (inr (same, inl new)) =
        ap (by_given es t w more.first) same ∙ ap (λ b. by_given es t w b (lookup (is_word w) h.others.entries)) first
        ∙ sym (kept t w) ∙ still new
    by (inr (same, inr has)) = absurd (none_left left w none has)

-- ---- the words of a base

pub HasWord_behind : (ws vs : List Word) (w : List ℕ) → HasWord vs w → HasWord (ws ++ vs) w
HasWord_behind [] vs w h = h
HasWord_behind (x ∷ ws) vs w h = let (k, y, at, is) = HasWord_behind ws vs w h in (suc k, y, at, is)

pub HasWord_front : (ws vs : List Word) (w : List ℕ) → HasWord ws w → HasWord (ws ++ vs) w
HasWord_front [] vs w h = absurd (none_left [] w refl h)
HasWord_front (x ∷ ws) vs w (zero, y, at, is) = (0, y, at, is)
HasWord_front (x ∷ ws) vs w (suc k, y, at, is) = let (j, z, there, same) = HasWord_front ws vs w (k, y, at, is) in
    (suc j, z, there, same)

-- a scope's own entry has a word that is listed
pub own_or_listed : (records : List Record) (words : List (Vec Word Global)) → AreListed records words
    → (s n : ℕ) (w : List ℕ) → (own (entries_in records) n s w ≡ Nothing) ⊎ HasWord (words_at words s) w
own_or_listed records words listed s n w = by (named (entries_in records) s w) refl
  where
    by : (o : Option ℕ) → named (entries_in records) s w ≡ o → (own (entries_in records) n s w ≡ Nothing)
        ⊎ HasWord (words_at words s) w
    by None is = inl (ap (declared_before (entries_in records) n) is)
    by (Some k) is = inr (listed s k w is)

-- a scope that lists no word has no entry
pub bare : (records : List Record) (words : List (Vec Word Global)) → AreListed records words → (s : ℕ) (w : List ℕ)
    → words_at words s ≡ [] → named (entries_in records) s w ≡ None
bare records words listed s w none = by (named (entries_in records) s w) refl
  where
    by : (o : Option ℕ) → named (entries_in records) s w ≡ o → o ≡ None
    by None is = refl
    by (Some k) is = absurd (none_left (words_at words s) w none (listed s k w is))

pub none_long : {X : Type 0} (xs : List X) → length xs ≡ 0 → xs ≡ []
none_long [] h = refl
none_long (x ∷ xs) h = absurd (omega arith)

pub behind_or : {P : Type 0} (ws vs new : List Word) (w : List ℕ) → new ≡ ws ++ vs → P ⊎ HasWord vs w → P
    ⊎ HasWord new w
behind_or ws vs new w is (inl p) = inl p
behind_or ws vs new w is (inr has) = inr (subst (λ xs. HasWord xs w) (sym is) (HasWord_behind ws vs w has))

pub nothing_or : {P : Type 0} (w : List ℕ) (vs new : List Word) → vs ≡ [] → P ⊎ HasWord vs w → P ⊎ HasWord new w
nothing_or w vs new none (inl p) = inl p
nothing_or w vs new none (inr has) = absurd (none_left vs w none has)

-- behind the words that a scope declares what a name finds is inherited
pub own_listed : (es : List Entry) (n s : ℕ) (y : Found) (ws vs : List Word) (w : List ℕ) → (y ≡ within es n s w)
    ⊎ HasWord ws w → (HasWord ws w → HasWord vs w)
    → (own es n s w ≡ Nothing) ⊎ HasWord vs w → (y ≡ inherited es n s w) ⊎ HasWord vs w
own_listed es n s y ws vs w (inr has) kept own_too = inr (kept has)
own_listed es n s y ws vs w (inl is) kept (inr has) = inr has
own_listed es n s y ws vs w (inl is) kept (inl none) = inl (is ∙ ap (λ x. or_else x (inherited es n s w)) none)

-- and behind the words of which something is kept, by the first base
pub given_listed : (es : List Entry) (n s : ℕ) (h : Heir) (y : Found) (ws vs : List Word) (w : List ℕ) → IsKept es s h
    → (y ≡ inherited es n s w) ⊎ HasWord ws w → (HasWord ws w → HasWord vs w)
    → (lookup (is_word w) h.others.entries ≡ None) ⊎ HasWord vs w
    → (y ≡ cond (nat_lt h.first.token n) (within es h.first.token (suc h.first.entry) w) Nothing) ⊎ HasWord vs w
given_listed es n s h y ws vs w kept (inr has) more given = inr (more has)
given_listed es n s h y ws vs w kept (inl is) more (inr has) = inr has
given_listed es n s h y ws vs w kept (inl is) more (inl none) = inl (is ∙ kept n w ∙ ap (by_given es n w h.first) none)

-- ---- entries of a map one by one

abbrev pub is_listed : List (Word × Given) → List (Word × Given) → List Word → List ℕ → Type 0
is_listed all left ws w = (lookup (is_word w) all ≡ lookup (is_word w) left) ⊎ HasWord ws w

pub entry_listed : (all left rest : List (Word × Given)) (k : Word) (g : Given) (ws vs : List Word) (w : List ℕ)
    → left ≡ (k, g) ∷ rest → vs ≡ ws ++ k ∷ [] → is_listed all left ws w → is_listed all rest vs w
entry_listed all left rest k g ws vs w is push (inr has) =
    inr (subst (λ xs. HasWord xs w) (sym push) (HasWord_push ws k w has))
entry_listed all left rest k g ws vs w is push (inl same) = by (is_word w k) refl
  where
    by : (b : Bool) → is_word w k ≡ b → is_listed all rest vs w
    by true here = inr (subst (λ xs. HasWord xs w) (sym push) (HasWord_last ws k w here))
    by false un = inl (same ∙ ap (lookup (is_word w)) is ∙ ap (λ b. cond b (Some g) (lookup (is_word w) rest)) un)

-- ---- what answers say

pub some_both : {T : Type 0} {A B C : T → Type 0} (r : Option T) → ((x : T) → A x → B x → C x) → IfSome r A → IfSome r B
    → IfSome r C
some_both None f a b = tt
some_both (Some x) f a b = f x a b

pub split_at : {T : Type 0} (xs : List T) (k : ℕ) (x : T) → k < length xs → x ≡ get_or xs k x
    → drop k xs ≡ x ∷ drop (k + 1) xs
split_at xs k x lt here =
    let next : suc k ≡ k + 1 = omega arith in
    drop-cons xs k x lt ∙ ap (λ y. y ∷ drop (suc k) xs) (sym here) ∙ ap (λ j. x ∷ drop j xs) next

pub drop_at : {T : Type 0} (xs : List T) (k : ℕ) (x : T) → slice_get xs k ≡ Some x → drop k xs ≡ x ∷ drop (suc k) xs
drop_at [] k x h = cc
drop_at (y ∷ ys) zero x h = let same : y ≡ x = cc in ap (λ z. z ∷ ys) same
drop_at (y ∷ ys) (suc k) x h = drop_at ys k x h

-- a copy of a map's entries
pub cloned : {K V : Type 0} (C : K → K → Type 0) (D : V → V → Type 0) → ((x y : K) → C x y → y ≡ x)
    → ((x y : V) → D x y → y ≡ x) → (xs ys : List (K × V))
    → AllZip (λ p q. C p.0 q.0 × D p.1 q.1) xs ys → ys ≡ xs
cloned C D c d [] [] h = refl
cloned C D c d [] (y ∷ ys) h = absurd h
cloned C D c d (x ∷ xs) [] h = absurd h
cloned C D c d (x ∷ xs) (y ∷ ys) h =
    ap (λ k. (k, y.1) ∷ ys) (c x.0 y.0 h.0.0) ∙ ap (λ v. (x.0, v) ∷ ys) (d x.1 y.1 h.0.1)
    ∙ ap (λ zs. x ∷ zs) (cloned C D c d xs ys h.1)

-- no scope of that number has words
pub words_past : (words : List (Vec Word Global)) (scope : ℕ) → length words ≤ scope → words_at words scope ≡ []
words_past [] scope h = refl
words_past (v ∷ vs) zero h = absurd (omega arith)
words_past (v ∷ vs) (suc n) h = words_past vs n (omega arith)

pub ok_then : {T E : Type 0} {A B : T → Type 0} (r : Result T E) → ((x : T) → A x → B x) → IfOk r A → IfOk r B
ok_then (Ok x) f a = f x a
ok_then (Err e) f a = tt
