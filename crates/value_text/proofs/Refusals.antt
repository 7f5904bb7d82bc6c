-- What a text that is refused doesn't say: what was read of it is what any value that it says begins with.
use Rattle.std.proofs.Common.{◌≡◌, ◌≢◌, inl, inr, ℕ, zero, suc, ◌+◌, ◌<◌, ◌≤◌, List, [], ◌∷◌, ◌++◌, length, drop, take, get_or, replicate, refl, sym, ap, ◌∙◌, subst, append_assoc, arith}
use Rattle.std.proofs.lemmas.List.{append-nil}
use Rattle.json.specs.Token.{Token, end_array}
use Rattle.type_model.specs.PartNamesNames.{names_at}
use Rattle.type_graph.specs.declared.node.Node.{Node}
use Rattle.type_graph.specs.Value.{Tree, Trees, NoTree, AndTree, count, node_at, Fits, FitAll}
use Rattle.idl_value.specs.declared.value.Value.{Value}
use Rattle.idl_value.specs.View.{trees_of}
use Rattle.value_text.specs.declared.cursor.Stop.{Stop}
use Rattle.value_text.specs.declared.cursor.Stop.TheVariants.{Refused, NoMemory}
use Rattle.value_text.specs.Pieces.{joined}
use Rattle.value_text.specs.Says.{Says, SayAll, StandsFor}
use Rattle.value_text.specs.inner.Reading.{Next, Reads, ReadsParts, ReadsList, ReadsCopies}
use Rattle.value_text.specs.inner.Refusing.{RefusesAs, IsLow, IsNamed, AreSound, ReadsNone}
use Rattle.value_text.proofs.Firsts.{IsFirst, says_begun}
use Rattle.value_text.proofs.OneObject.{first_of_tokens}
use Rattle.value_text.proofs.OneValue.{IsOne, all_low, all_named, one_value, not_end}
use Rattle.value_text.proofs.ReadLaws.{count_trees}

pub refuses : {F : Type 0} (stop : Stop) → F → RefusesAs stop F
refuses NoMemory fact = tt
refuses (Refused wanted at) fact = fact

pub refuses_weaker : {F G : Type 0} (stop : Stop) → (F → G) → RefusesAs stop F → RefusesAs stop G
refuses_weaker NoMemory weaker h = tt
refuses_weaker (Refused wanted at) weaker h = weaker h

-- nothing is left
pub no_tokens : (token : Token) (tokens : List Token) → [] ≡ token ∷ tokens → ⊥
no_tokens token tokens e = let long = ap length e in omega (arith, long)

module _ (names : List (List (List ℕ))) (graph : List Node) (sound : AreSound names graph) where
  low : (number : ℕ) → IsLow (node_at graph number)
  low = all_low graph sound.rules

  named : (number : ℕ) → IsNamed (node_at graph number) (names_at names number)
  named = all_named names graph sound.apart

  one : (v : Tree) → IsOne names graph v
  one = one_value names graph low named

  -- one value is read, and ends at one place
  pub one_read : (number depth : ℕ) (token : Token) (old : List Token) (v w : Tree) (new other : List Token)
      → Reads names graph number depth token old v new
      → Reads names graph number depth token old w other → (v ≡ w) × (new ≡ other)
  one_read number depth token old v w new other a b =
      one v (names_at names number) (node_at graph number) depth depth w (token ∷ a.more) (token ∷ b.more) new other
      (low number) (named number) a.fits b.fits a.says b.says
      (ap (λ l. token ∷ l) (sym a.cut ∙ b.cut))

  -- a text that says a value begins with the next token
  pub read_from : (number depth : ℕ) (old : List Token) (token : Token) (behind : List Token) (w : Tree)
      (text rest : List Token) → Next old token behind
      → Fits graph (node_at graph number) w depth
      → Says names graph (names_at names number) (node_at graph number) w text → old ≡ text ++ rest
      → Reads names graph number depth token behind w rest
  read_from number depth old token behind w text rest (inl next) fits says e =
      let begun = says_begun names graph (names_at names number) (node_at graph number) w text says in
      let whole = sym next ∙ e ∙ ap (λ l. l ++ rest) begun.is in
      let same : begun.token ≡ token = sym (ap first_of_tokens whole) in record {
        good = λ is_bad. subst IsFirst (same ∙ is_bad) begun.first;
        more = begun.more;
        cut = ap (drop 1) whole;
        fits = fits;
        says = subst (Says names graph (names_at names number) (node_at graph number) w)
            (begun.is ∙ ap (λ t. t ∷ begun.more) same) says;
      }
  read_from number depth old token behind w text rest (inr next) fits says e =
      let begun = says_begun names graph (names_at names number) (node_at graph number) w text says in
      absurd (no_tokens begun.token (begun.more ++ rest) (sym next.0 ∙ e ∙ ap (λ l. l ++ rest) begun.is))

  -- no text begins with the end of a list
  at_end : (number : ℕ) (w : Tree) (text new mid rest : List Token)
      → Says names graph (names_at names number) (node_at graph number) w text → mid ≡ end_array ∷ new
      → mid ≡ text ++ rest → ⊥
  at_end number w text new mid rest says ends e =
      not_end names graph (names_at names number) (node_at graph number) w text new rest says (sym ends ∙ e)

  -- ---- parts of known nodes

  split : (numbers more : List ℕ) (depth : ℕ) (vs ws : Trees) (ts us : List (List Token)) (r s : List Token)
      → FitAll graph numbers vs depth → SayAll names graph numbers vs ts → FitAll graph (numbers ++ more) ws depth
      → SayAll names graph (numbers ++ more) ws us
      → joined ts ++ r ≡ joined us ++ s → (others : Trees) × ReadsParts names graph more depth r others s
  split [] more depth NoTree ws [] us r s f h g k e = (ws, record { texts = us; cut = e; fit = g; say = k })
  split [] more depth NoTree ws (t ∷ ts) us r s f h g k e = absurd h
  split [] more depth (AndTree v vs) ws ts us r s f h g k e = absurd f
  split (number ∷ numbers) more depth NoTree ws ts us r s f h g k e = absurd f
  split (number ∷ numbers) more depth (AndTree v vs) ws [] us r s f h g k e = absurd h
  split (number ∷ numbers) more depth (AndTree v vs) NoTree (t ∷ ts) us r s f h g k e = absurd g
  split (number ∷ numbers) more depth (AndTree v vs) (AndTree w ws) (t ∷ ts) [] r s f h g k e = absurd k
  split (number ∷ numbers) more depth (AndTree v vs) (AndTree w ws) (t ∷ ts) (u ∷ us) r s f h g k e =
      let first = one v (names_at names number) (node_at graph number) depth depth w t u (joined ts ++ r)
      (joined us ++ s) (low number) (named number) f.0 g.0 h.0 k.0
      (sym (append_assoc t (joined ts) r) ∙ e ∙ append_assoc u (joined us) s) in
      split numbers more depth vs ws ts us r s f.1 h.1 g.1 k.1 first.1

  -- what is read of some parts is what all begin with
  pub split_parts : (numbers more all : List ℕ) (depth : ℕ) (old : List Token) (vs ws : Trees) (mid new : List Token)
      → numbers ++ more ≡ all
      → ReadsParts names graph numbers depth old vs mid → ReadsParts names graph all depth old ws new
      → (others : Trees) × ReadsParts names graph more depth mid others new
  split_parts numbers more all depth old vs ws mid new parted a b =
      split numbers more depth vs ws a.texts b.texts mid new a.fit a.say
      (subst (λ l. FitAll graph l ws depth) (sym parted) b.fit)
      (subst (λ l. SayAll names graph l ws b.texts) (sym parted) b.say) (sym a.cut ∙ b.cut)

  -- a part is missing
  pub part_missing : (number : ℕ) (more : List ℕ) (depth : ℕ) (mid : List Token) (others : Trees)
      (new behind : List Token) → mid ≡ end_array ∷ behind
      → ReadsParts names graph (number ∷ more) depth mid others new → ⊥
  part_missing number more depth mid NoTree new behind ends a = absurd a.fit
  part_missing number more depth mid (AndTree w ws) new behind ends a = missing a.texts a.say a.cut
    where
      missing : (texts : List (List Token)) → SayAll names graph (number ∷ more) (AndTree w ws) texts
          → mid ≡ joined texts ++ new → ⊥
      missing [] say cut = absurd say
      missing (u ∷ us) say cut =
          at_end number w u behind mid (joined us ++ new) say.0 ends (cut ∙ append_assoc u (joined us) new)

  -- a part is refused
  pub part_refused : (number : ℕ) (more : List ℕ) (depth : ℕ) (mid : List Token) (token : Token) (behind : List Token)
      (others : Trees) (new : List Token) → Next mid token behind
      → ((w : Tree) (rest : List Token) → Reads names graph number depth token behind w rest → ⊥)
      → ReadsParts names graph (number ∷ more) depth mid others new → ⊥
  part_refused number more depth mid token behind NoTree new next none a = absurd a.fit
  part_refused number more depth mid token behind (AndTree w ws) new next none a = refused a.texts a.say a.cut
    where
      refused : (texts : List (List Token)) → SayAll names graph (number ∷ more) (AndTree w ws) texts
          → mid ≡ joined texts ++ new → ⊥
      refused [] say cut = absurd say
      refused (u ∷ us) say cut =
          none w (joined us ++ new)
          (read_from number depth mid token behind w u (joined us ++ new) next a.fit.0 say.0
          (cut ∙ append_assoc u (joined us) new))

  -- there is one part too many, or no end
  pub no_part_left : (depth : ℕ) (mid : List Token) (others : Trees) (new : List Token)
      → ReadsParts names graph [] depth mid others new → mid ≡ new
  no_part_left depth mid NoTree new a = left a.texts a.say a.cut
    where
      left : (texts : List (List Token)) → SayAll names graph [] NoTree texts → mid ≡ joined texts ++ new → mid ≡ new
      left [] say cut = cut
      left (u ∷ us) say cut = absurd say
  no_part_left depth mid (AndTree w ws) new a = absurd a.fit

  -- ---- elements, as many as stand before the end of their list

  split_copies : (elem depth : ℕ) (vs ws : Trees) (ts us : List (List Token)) (r s : List Token)
      → FitAll graph (replicate (count vs) elem) vs depth → SayAll names graph (replicate (count vs) elem) vs ts
      → FitAll graph (replicate (count ws) elem) ws depth → SayAll names graph (replicate (count ws) elem) ws us
      → joined ts ++ r ≡ joined us ++ end_array ∷ s
      → (others : Trees) × ReadsList names graph (replicate (count others) elem) depth r others s
      × (count ws ≡ count vs + count others)
  split_copies elem depth NoTree ws [] us r s f h g k e =
      (ws, record { texts = us; cut = e; fit = g; say = k }, omega arith)
  split_copies elem depth NoTree ws (t ∷ ts) us r s f h g k e = absurd h
  split_copies elem depth (AndTree v vs) ws [] us r s f h g k e = absurd h
  split_copies elem depth (AndTree v vs) NoTree (t ∷ ts) [] r s f h g k e =
      absurd (not_end names graph (names_at names elem) (node_at graph elem) v t s (joined ts ++ r) h.0
      (sym e ∙ append_assoc t (joined ts) r))
  split_copies elem depth (AndTree v vs) NoTree (t ∷ ts) (u ∷ us) r s f h g k e = absurd k
  split_copies elem depth (AndTree v vs) (AndTree w ws) (t ∷ ts) [] r s f h g k e = absurd k
  split_copies elem depth (AndTree v vs) (AndTree w ws) (t ∷ ts) (u ∷ us) r s f h g k e =
      let first = one v (names_at names elem) (node_at graph elem) depth depth w t u (joined ts ++ r)
      (joined us ++ end_array ∷ s) (low elem) (named elem) f.0 g.0 h.0 k.0
      (sym (append_assoc t (joined ts) r) ∙ e ∙ append_assoc u (joined us) (end_array ∷ s)) in
      let rest = split_copies elem depth vs ws ts us r s f.1 h.1 g.1 k.1 first.1 in
      (rest.0, rest.1, omega (arith, rest.2))

  pub split_list : (elem n depth : ℕ) (old : List Token) (vs ws : Trees) (mid new : List Token) → count vs ≡ n
      → ReadsParts names graph (replicate n elem) depth old vs mid
      → ReadsList names graph (replicate (count ws) elem) depth old ws new
      → (others : Trees) × ReadsList names graph (replicate (count others) elem) depth mid others new
      × (count ws ≡ n + count others)
  split_list elem n depth old vs ws mid new counted a b =
      let found = split_copies elem depth vs ws a.texts b.texts mid new
      (subst (λ m. FitAll graph (replicate m elem) vs depth) (sym counted) a.fit)
      (subst (λ m. SayAll names graph (replicate m elem) vs a.texts) (sym counted) a.say) b.fit b.say
      (sym a.cut ∙ b.cut) in
      (found.0, found.1, subst (λ m. count ws ≡ m + count found.0) counted found.2)

  -- the next token is that of an element
  pub next_is_one : (elem depth : ℕ) (mid : List Token) (token : Token) (behind : List Token) (others : Trees)
      (new : List Token) → Next mid token behind → token ≢ end_array
      → ReadsList names graph (replicate (count others) elem) depth mid others new
      → (w : Tree) × (rest : List Token) × Reads names graph elem depth token behind w rest × (1 ≤ count others)
  next_is_one elem depth mid token behind NoTree new next goes a = none a.texts a.say a.cut next
    where
      none : (texts : List (List Token)) → SayAll names graph [] NoTree texts → mid ≡ joined texts ++ end_array ∷ new
          → Next mid token behind
          → (w : Tree) × (rest : List Token) × Reads names graph elem depth token behind w rest × (1 ≤ 0)
      none [] say cut (inl e) = absurd (goes (ap first_of_tokens (sym e ∙ cut)))
      none [] say cut (inr e) = absurd (no_tokens end_array new (sym e.0 ∙ cut))
      none (u ∷ us) say cut e = absurd say
  next_is_one elem depth mid token behind (AndTree w ws) new next goes a = found a.texts a.say a.cut
    where
      found : (texts : List (List Token)) → SayAll names graph (elem ∷ replicate (count ws) elem) (AndTree w ws) texts
          → mid ≡ joined texts ++ end_array ∷ new
          → (v : Tree) × (rest : List Token) × Reads names graph elem depth token behind v rest × (1 ≤ suc (count ws))
      found [] say cut = absurd say
      found (u ∷ us) say cut = (
        w,
        joined us ++ end_array ∷ new,
        read_from elem depth mid token behind w u (joined us ++ end_array ∷ new)
            next a.fit.0 say.0 (cut ∙ append_assoc u (joined us) (end_array ∷ new)),
        omega arith,
      )

  -- what ends a list that was read to its last part
  pub same_end : (numbers : List ℕ) (depth : ℕ) (old : List Token) (vs ws : Trees) (mid new : List Token)
      → ReadsParts names graph numbers depth old vs mid
      → ReadsList names graph numbers depth old ws new → mid ≡ end_array ∷ new
  same_end numbers depth old vs ws mid new a b =
      let left = split_parts numbers [] numbers depth old vs ws mid (end_array ∷ new) (append-nil numbers) a b in
      no_part_left depth mid left.0 (end_array ∷ new) left.1

-- the parts before one of them, it, and those behind it
parted : (numbers : List ℕ) (i : ℕ) → i < length numbers
    → take i numbers ++ get_or numbers i 0 ∷ drop (suc i) numbers ≡ numbers
parted [] i lt = absurd (omega (arith, lt))
parted (number ∷ numbers) zero lt = refl
parted (number ∷ numbers) (suc i) lt = ap (λ l. number ∷ l) (parted numbers i (omega (arith, lt)))

all_taken : (numbers : List ℕ) (i : ℕ) → length numbers ≤ i → take i numbers ≡ numbers
all_taken [] zero lt = refl
all_taken [] (suc i) lt = refl
all_taken (number ∷ numbers) zero lt = absurd (omega (arith, lt))
all_taken (number ∷ numbers) (suc i) lt = ap (λ l. number ∷ l) (all_taken numbers i (omega (arith, lt)))

-- ---- what the loops refuse

module _ (names : List (List (List ℕ))) (graph : List Node) (depth : ℕ) (old : List Token) where
  -- a row of members
  module _ (members : List ℕ) (i : ℕ) (vs : Trees) (mid : List Token)
      (a : ReadsParts names graph (take i members) depth old vs mid) where
    pub row_missing : (behind : List Token) → i < length members → mid ≡ end_array ∷ behind
        → ReadsNone names graph (ReadsList names graph members depth old)
    row_missing behind lt ends = λ sound ws new b.
        let left = split_parts names graph sound (take i members) (get_or members i 0 ∷ drop (suc i) members) members
        depth old vs ws mid (end_array ∷ new) (parted members i lt) a b in
        part_missing names graph sound (get_or members i 0) (drop (suc i) members) depth mid left.0 (end_array ∷ new)
        behind ends left.1

    pub row_refused : (token : Token) (behind : List Token) → i < length members → Next mid token behind
        → ReadsNone names graph (Reads names graph (get_or members i 0) depth token behind)
        → ReadsNone names graph (ReadsList names graph members depth old)
    row_refused token behind lt next none = λ sound ws new b.
        let left = split_parts names graph sound (take i members) (get_or members i 0 ∷ drop (suc i) members) members
        depth old vs ws mid (end_array ∷ new) (parted members i lt) a b in
        part_refused names graph sound (get_or members i 0) (drop (suc i) members) depth mid token behind left.0
        (end_array ∷ new) next (none sound) left.1

    pub row_endless : length members ≤ i → ((more : List Token) → mid ≡ end_array ∷ more → ⊥)
        → ReadsNone names graph (ReadsList names graph members depth old)
    row_endless le endless = λ sound ws new b.
        endless new (same_end names graph sound members depth old vs ws mid new
        (subst (λ l. ReadsParts names graph l depth old vs mid) (all_taken members i le) a) b)

  -- a list of elements
  module _ (elem most : ℕ) (vs : List Value) (mid : List Token) (token : Token) (behind : List Token)
      (a : ReadsParts names graph (replicate (length vs) elem) depth old (trees_of vs) mid)
      (next : Next mid token behind) (goes : token ≢ end_array) where
    pub list_too_long : most ≤ length vs → ReadsNone names graph (ReadsCopies names graph elem most depth old)
    list_too_long full = λ sound ws new b.
        let left = split_list names graph sound elem (length vs) depth old (trees_of vs) ws mid new
        (count_trees names graph vs) a b.1 in
        let more = (next_is_one names graph sound elem depth mid token behind left.0 new next goes left.1).3 in
        let few = b.0 in
        omega (arith, full, few, left.2, more)

    pub list_refused : ReadsNone names graph (Reads names graph elem depth token behind)
        → ReadsNone names graph (ReadsCopies names graph elem most depth old)
    list_refused none = λ sound ws new b.
        let left = split_list names graph sound elem (length vs) depth old (trees_of vs) ws mid new
        (count_trees names graph vs) a b.1 in
        let one = next_is_one names graph sound elem depth mid token behind left.0 new next goes left.1 in
        none sound one.0 one.1 one.2

  -- a single part, if there is one
  pub only_missing : (numbers : List ℕ) (number : ℕ) (behind : List Token) → numbers ≡ number ∷ []
      → old ≡ end_array ∷ behind → ReadsNone names graph (ReadsParts names graph numbers depth old)
  only_missing numbers number behind is ends = λ sound ws new b.
      part_missing names graph sound number [] depth old ws new behind ends
      (subst (λ l. ReadsParts names graph l depth old ws new) is b)

  pub only_refused : (numbers : List ℕ) (number : ℕ) (token : Token) (behind : List Token) → numbers ≡ number ∷ []
      → Next old token behind
      → ReadsNone names graph (Reads names graph number depth token behind)
      → ReadsNone names graph (ReadsParts names graph numbers depth old)
  only_refused numbers number token behind is next none = λ sound ws new b.
      part_refused names graph sound number [] depth old token behind ws new next (none sound)
      (subst (λ l. ReadsParts names graph l depth old ws new) is b)

-- ---- a whole text

module _ (names : List (List (List ℕ))) (graph : List Node) (number : ℕ) (old : List Token) (token : Token)
    (behind : List Token) (next : Next old token behind) where
  whole_read : (sound : AreSound names graph) (value : Tree) → StandsFor names graph number value old
      → Reads names graph number 64 token behind value []
  whole_read sound value h = read_from names graph sound number 64 old token behind value old [] next h.fits h.says
      (sym (append-nil old))

  pub whole_refused : ReadsNone names graph (Reads names graph number 64 token behind) → AreSound names graph
      → (value : Tree) → StandsFor names graph number value old → ⊥
  whole_refused none = λ sound value h. none sound value [] (whole_read sound value h)

  pub more_behind : (v : Tree) (rest : List Token) → Reads names graph number 64 token behind v rest → rest ≢ []
      → AreSound names graph → (value : Tree) → StandsFor names graph number value old → ⊥
  more_behind v rest a more =
      λ sound value h. more (one_read names graph sound number 64 token behind v value rest [] a
      (whole_read sound value h)).1
