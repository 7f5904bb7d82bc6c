-- What an object that is refused doesn't say.
use Rattle.std.proofs.Common.{◌≡◌, ◌⊎◌, inl, inr, ℕ, zero, suc, ◌≤◌, Bool, true, false, List, [], ◌∷◌, ◌++◌, length, drop, map, zip, Option, Some, None, slice_get, refl, sym, ap, ap₂, ◌∙◌, subst, append_assoc, arith}
use Rattle.std.specs.Prelude.{IsPermutation, sum_by, bytes_eq, if◌then◌else◌}
use Rattle.std.specs.List.{AllByRecursion}
use Rattle.std.specs.Str.{str_eq_ignore_ascii_case}
use Rattle.std.proofs.lemmas.Bool.{false≢true}
use Rattle.std.proofs.lemmas.List.{append_cancel_right, append-nil}
use Rattle.std.proofs.lemmas.List.Sorted.{length_permutation, sum_by-IsPermutation}
use Rattle.std.proofs.lemmas.List.Sums.{sum_by-cons, sum_by-append}
use Rattle.std.proofs.lemmas.Map.Keys.{IsDistinct-head, IsDistinct-tail}
use Rattle.std.proofs.lemmas.Option.{same_Some}
use Rattle.std.proofs.lemmas.Slice.Eq.{bytes_eq-Decides}
use Rattle.json.specs.Token.{Token, key, end_object}
use Rattle.type_model.specs.PartNamesNames.{names_at, AreApart}
use Rattle.type_graph.specs.declared.node.Node.{Node}
use Rattle.type_graph.specs.Value.{Tree, Trees, NoTree, AndTree, node_at, Fits, FitAll}
use Rattle.type_graph.proofs.WordLaws.{all_weaken}
use Rattle.idl_value.specs.declared.value.Value.{Value}
use Rattle.idl_value.specs.View.{tree_of}
use Rattle.value_text.specs.Pieces.{paired}
use Rattle.value_text.specs.Says.{Says, SayAll}
use Rattle.value_text.specs.inner.Slots.{AreSlots, given}
use Rattle.value_text.specs.inner.Reading.{Next, Reads, ReadsSlots, ReadsObject, SaysMember}
use Rattle.value_text.specs.inner.Refusing.{AreSound, ReadsNone}
use Rattle.value_text.proofs.OneNumber.{text_in, same_itself, two_places}
use Rattle.value_text.proofs.OneObject.{first_of_tokens, Is_key, shuffled}
use Rattle.value_text.proofs.OneValue.{IsOne, all_low, all_named, one_value}
use Rattle.value_text.proofs.ReadLaws.{not_none, as_many}
use Rattle.value_text.proofs.Refusals.{read_from}

-- ---- how often a name is there

abbrev pub is_called : List ℕ → List ℕ × List Token → ℕ
is_called label pair = if bytes_eq pair.0 label then 1 else 0

called : (label : List ℕ) (pair : List ℕ × List Token) → pair.0 ≡ label → is_called label pair ≡ 1
called label pair e = ap (λ b. if b then 1 else 0) ((bytes_eq-Decides pair.0 label).1 e)

is_false : (b : Bool) → (b ≡ true → ⊥) → b ≡ false
is_false true h = absurd (h refl)
is_false false h = refl

uncalled : (label : List ℕ) (pair : List ℕ × List Token) → (pair.0 ≡ label → ⊥) → is_called label pair ≡ 0
uncalled label pair differs =
    ap (λ b. if b then 1 else 0) (is_false (bytes_eq pair.0 label) (λ e. differs ((bytes_eq-Decides pair.0 label).0 e)))

-- not among names that differ from it
not_again : (label : List ℕ) (labels : List (List ℕ)) (texts : List (List Token))
    → AllByRecursion (λ name. str_eq_ignore_ascii_case label name ≡ false) labels
    → sum_by (is_called label) (zip labels texts) ≡ 0
not_again label [] texts apart = refl
not_again label (name ∷ labels) [] apart = refl
not_again label (name ∷ labels) (text ∷ texts) apart =
    let f = is_called label in
    let pair : List ℕ × List Token = (name, text) in
    let split = sum_by-cons f pair (zip labels texts) in
    let other = uncalled label pair
    (λ e. false≢true (sym apart.0 ∙ ap (str_eq_ignore_ascii_case label) e ∙ same_itself label)) in
    let rest = not_again label labels texts apart.1 in
    omega (arith, split, other, rest)

at_most_once : (label : List ℕ) (labels : List (List ℕ)) (texts : List (List Token)) → AreApart labels
    → sum_by (is_called label) (zip labels texts) ≤ 1
at_most_once label [] texts apart = omega arith
at_most_once label (name ∷ labels) [] apart = omega arith
at_most_once label (name ∷ labels) (text ∷ texts) apart =
    by_name (bytes_eq name label) refl
    (at_most_once label labels texts (IsDistinct-tail str_eq_ignore_ascii_case name labels apart))
  where
    by_name : (b : Bool) → bytes_eq name label ≡ b → sum_by (is_called label) (zip labels texts) ≤ 1
        → sum_by (is_called label) (zip (name ∷ labels) (text ∷ texts)) ≤ 1
    by_name true e more =
        let pair : List ℕ × List Token = (name, text) in
        let split = sum_by-cons (is_called label) pair (zip labels texts) in
        let same = (bytes_eq-Decides name label).0 e in
        let one = called label pair same in
        let rest = not_again label labels texts
        (subst (λ l. AllByRecursion (λ other. str_eq_ignore_ascii_case l other ≡ false) labels) same
        (IsDistinct-head str_eq_ignore_ascii_case name labels apart)) in
        omega (arith, split, one, rest)
    by_name false e more =
        let pair : List ℕ × List Token = (name, text) in
        let split = sum_by-cons (is_called label) pair (zip labels texts) in
        let none = uncalled label pair (λ same. false≢true (sym e ∙ (bytes_eq-Decides name label).1 same)) in
        omega (arith, split, none, more)

-- ---- what is left of an object

no_more : (rest : List (List ℕ × List Token)) (new behind : List Token)
    → paired rest ++ end_object ∷ new ≡ end_object ∷ behind → rest ≡ []
no_more [] new behind e = refl
no_more (pair ∷ rest) new behind e = absurd (subst Is_key (ap first_of_tokens e) tt)

-- the first of the pairs
pub record First (label : List ℕ) (rest : List (List ℕ × List Token)) (first new : List Token) : Type 0 where
  pub text : List Token
  pub more : List (List ℕ × List Token)
  pub is : rest ≡ (label, text) ∷ more
  pub cut : first ≡ text ++ (paired more ++ end_object ∷ new)

first_pair : (label : List ℕ) (rest : List (List ℕ × List Token)) (first new : List Token)
    → paired rest ++ end_object ∷ new ≡ key label ∷ first → First label rest first new
first_pair label [] first new e = absurd (subst Is_key (sym (ap first_of_tokens e)) tt)
first_pair label (pair ∷ rest) first new e = record {
  text = pair.1;
  more = rest;
  is = ap (λ (name : List ℕ). let p : List ℕ × List Token = (name, pair.1) in p ∷ rest)
      (ap text_in (ap first_of_tokens e));
  cut = sym (ap (drop 1) e) ∙ append_assoc pair.1 (paired rest) (end_object ∷ new);
}

neither : (rest : List (List ℕ × List Token)) (mid new : List Token) → mid ≡ paired rest ++ end_object ∷ new
    → ((more : List Token) → mid ≡ end_object ∷ more → ⊥)
    → ((name : List ℕ) (more : List Token) → mid ≡ key name ∷ more → ⊥) → ⊥
neither [] mid new e ends goes = ends new e
neither (pair ∷ rest) mid new e ends goes = goes pair.0 _ e

-- ---- the slots

module _ {X T : Type 0} (Says : ℕ → X → T → Type 0) where
  given_short : (labels : List (List ℕ)) (texts : List (Option T)) → length (given labels texts) ≤ length labels
  given_short [] texts = omega arith
  given_short (label ∷ labels) [] = omega arith
  given_short (label ∷ labels) (None ∷ texts) = let rest = given_short labels texts in omega (arith, rest)
  given_short (label ∷ labels) (Some text ∷ texts) = let rest = given_short labels texts in omega (arith, rest)

  -- where as many texts are there as there are names, each value is
  pub all_full : (labels : List (List ℕ)) (numbers : List ℕ) (slots : List (Option X)) (texts : List (Option T))
      → AreSlots Says numbers slots texts
      → length labels ≡ length numbers → length (given labels texts) ≡ length labels
      → (values : List X) × (slots ≡ map Some values)
  all_full [] [] [] [] h long full = ([], refl)
  all_full (label ∷ labels) (number ∷ numbers) (Some value ∷ slots) (Some text ∷ texts) h long full =
      let rest = all_full labels numbers slots texts h.1 (omega (arith, long)) (omega (arith, full)) in
      (value ∷ rest.0, ap (λ l. Some value ∷ l) rest.1)
  all_full (label ∷ labels) (number ∷ numbers) (None ∷ slots) (None ∷ texts) h long full =
      let short = given_short labels texts in absurd (omega (arith, full, short))
  all_full (label ∷ labels) (number ∷ numbers) (None ∷ slots) (Some text ∷ texts) h long full = absurd h.0
  all_full (label ∷ labels) (number ∷ numbers) (Some value ∷ slots) (None ∷ texts) h long full = absurd h.0
  all_full [] (number ∷ numbers) slots texts h long full = absurd (omega (arith, long))
  all_full (label ∷ labels) [] slots texts h long full = absurd (omega (arith, long))
  all_full labels numbers slots texts h long full = absurd h

-- a place with a name is free, or the name is among those that are there
free_or_called : {X : Type 0} (Says : ℕ → X → List Token → Type 0) (labels : List (List ℕ)) (numbers : List ℕ)
    (slots : List (Option X)) (texts : List (Option (List Token)))
    (place : ℕ) (label : List ℕ) (number : ℕ) → AreSlots Says numbers slots texts → slice_get labels place ≡ Some label
    → slice_get numbers place ≡ Some number
    → (slice_get slots place ≡ Some None) ⊎ (1 ≤ sum_by (is_called label) (given labels texts))
free_or_called Says [] numbers slots texts place label number h e at = absurd (not_none None label refl e)
free_or_called Says (first ∷ labels) [] slots texts place label number h e at = absurd (not_none None number refl at)
free_or_called Says (first ∷ labels) (n ∷ numbers) (None ∷ slots) (None ∷ texts) zero label number h e at = inl refl
free_or_called Says (first ∷ labels) (n ∷ numbers) (Some value ∷ slots) (Some text ∷ texts) zero label number h e at =
    let pair : List ℕ × List Token = (first, text) in
    let split = sum_by-cons (is_called label) pair (given labels texts) in
    let one = called label pair (same_Some first label e) in
    inr (omega (arith, split, one))
free_or_called Says (first ∷ labels) (n ∷ numbers) (None ∷ slots) (None ∷ texts) (suc place) label number h e at =
    free_or_called Says labels numbers slots texts place label number h.1 e at
free_or_called Says (first ∷ labels) (n ∷ numbers) (Some value ∷ slots) (Some text ∷ texts) (suc place) label number h e
    at =
    elim (free_or_called Says labels numbers slots texts place label number h.1 e at) [
      | inl free ↦ inl free
      | inr there ↦ inr (
          let pair : List ℕ × List Token = (first, text) in
          let split = sum_by-cons (is_called label) pair (given labels texts) in
          omega (arith, split, there))
    ]
free_or_called Says (first ∷ labels) (n ∷ numbers) (None ∷ slots) (Some text ∷ texts) place label number h e at =
    absurd h.0
free_or_called Says (first ∷ labels) (n ∷ numbers) (Some value ∷ slots) (None ∷ texts) place label number h e at =
    absurd h.0
free_or_called Says (first ∷ labels) (n ∷ numbers) slots texts place label number h e at = absurd h

-- a name that comes isn't there yet
not_called_yet : (labels : List (List ℕ)) (own : List (List Token)) (texts : List (Option (List Token)))
    (pairs more : List (List ℕ × List Token)) (label : List ℕ) (text : List Token)
    → AreApart labels → IsPermutation (given labels texts) pairs
    → IsPermutation (zip labels own) (pairs ++ (label, text) ∷ more)
    → 1 ≤ sum_by (is_called label) (given labels texts) → ⊥
not_called_yet labels own texts pairs more label text apart order all there =
    let f = is_called label in
    let pair : List ℕ × List Token = (label, text) in
    let same = sum_by-IsPermutation f (given labels texts) pairs order in
    let whole = sum_by-IsPermutation f (zip labels own) (pairs ++ pair ∷ more) all in
    let split = sum_by-append f pairs (pair ∷ more) in
    let next = sum_by-cons f pair more in
    let one = called label pair refl in
    let once = at_most_once label labels own apart in
    omega (arith, there, same, whole, split, next, one, once)

module _ (names : List (List (List ℕ))) (graph : List Node) (depth : ℕ) where
  -- a text says a value of the node of a number
  abbrev pub Saying : ℕ → List Token → Type 0
  Saying number text = (value : Tree) × Fits graph (node_at graph number) value depth
      × Says names graph (names_at names number) (node_at graph number) value text

  -- a name and a text that says a value of the part of this name
  abbrev pub IsMember : List (List ℕ) → List ℕ → List ℕ × List Token → Type 0
  IsMember (label ∷ labels) (number ∷ numbers) pair = ((label ≡ pair.0) × Saying number pair.1)
      ⊎ IsMember labels numbers pair
  IsMember labels numbers pair = ⊥

  given_members : (labels : List (List ℕ)) (numbers : List ℕ) (slots : List (Option Value))
      (texts : List (Option (List Token)))
      → AreSlots (SaysMember names graph depth) numbers slots texts
      → AllByRecursion (IsMember labels numbers) (given labels texts)
  given_members [] numbers slots texts h = tt
  given_members (label ∷ labels) [] [] [] h = tt
  given_members (label ∷ labels) (number ∷ numbers) (None ∷ slots) (None ∷ texts) h =
      all_weaken (IsMember labels numbers) (IsMember (label ∷ labels) (number ∷ numbers)) (given labels texts)
      (λ pair m. inr m) (given_members labels numbers slots texts h.1)
  given_members (label ∷ labels) (number ∷ numbers) (Some value ∷ slots) (Some text ∷ texts) h = (
    inl (refl, (tree_of value, h.0.0, h.0.1)),
    all_weaken (IsMember labels numbers) (IsMember (label ∷ labels) (number ∷ numbers)) (given labels texts)
        (λ pair m. inr m) (given_members labels numbers slots texts h.1),
  )
  given_members (label ∷ labels) (number ∷ numbers) (None ∷ slots) (Some text ∷ texts) h = absurd h.0
  given_members (label ∷ labels) (number ∷ numbers) (Some value ∷ slots) (None ∷ texts) h = absurd h.0
  given_members (label ∷ labels) numbers slots texts h = absurd h

  zip_members : (labels : List (List ℕ)) (numbers : List ℕ) (ws : Trees) (texts : List (List Token))
      → FitAll graph numbers ws depth → SayAll names graph numbers ws texts
      → AllByRecursion (IsMember labels numbers) (zip labels texts)
  zip_members [] numbers ws texts f h = tt
  zip_members (label ∷ labels) [] NoTree [] f h = tt
  zip_members (label ∷ labels) (number ∷ numbers) (AndTree w ws) (text ∷ texts) f h = (
    inl (refl, (w, f.0, h.0)),
    all_weaken (IsMember labels numbers) (IsMember (label ∷ labels) (number ∷ numbers)) (zip labels texts)
        (λ pair m. inr m) (zip_members labels numbers ws texts f.1 h.1),
  )
  zip_members (label ∷ labels) numbers ws texts f h = absurd h

  -- a name that differs from all is no member's
  other_name : (first : List ℕ) (labels : List (List ℕ)) (numbers : List ℕ) (pair : List ℕ × List Token)
      → AllByRecursion (λ name. str_eq_ignore_ascii_case first name ≡ false) labels
      → IsMember labels numbers pair → first ≡ pair.0 → ⊥
  other_name first [] numbers pair apart m e = absurd m
  other_name first (label ∷ labels) [] pair apart m e = absurd m
  other_name first (label ∷ labels) (number ∷ numbers) pair apart (inl m) e =
      false≢true (sym apart.0 ∙ ap (str_eq_ignore_ascii_case first) (m.0 ∙ sym e) ∙ same_itself first)
  other_name first (label ∷ labels) (number ∷ numbers) pair apart (inr m) e =
      other_name first labels numbers pair apart.1 m e

  -- two texts of one name say values of one part
  same_member : (labels : List (List ℕ)) (numbers : List ℕ) (p q : List ℕ × List Token) → AreApart labels
      → IsMember labels numbers p → IsMember labels numbers q → p.0 ≡ q.0
      → (number : ℕ) × Saying number p.1 × Saying number q.1
  same_member [] numbers p q apart m k e = absurd m
  same_member (label ∷ labels) [] p q apart m k e = absurd m
  same_member (label ∷ labels) (number ∷ numbers) p q apart (inl m) (inl k) e = (number, m.1, k.1)
  same_member (label ∷ labels) (number ∷ numbers) p q apart (inl m) (inr k) e =
      absurd (other_name label labels numbers q (IsDistinct-head str_eq_ignore_ascii_case label labels apart) k
      (m.0 ∙ e))
  same_member (label ∷ labels) (number ∷ numbers) p q apart (inr m) (inl k) e =
      absurd (other_name label labels numbers p (IsDistinct-head str_eq_ignore_ascii_case label labels apart) m
      (k.0 ∙ sym e))
  same_member (label ∷ labels) (number ∷ numbers) p q apart (inr m) (inr k) e =
      same_member labels numbers p q (IsDistinct-tail str_eq_ignore_ascii_case label labels apart) m k e

  -- the part at the place of a name
  member_at : (labels : List (List ℕ)) (numbers : List ℕ) (pair : List ℕ × List Token) (place : ℕ) → AreApart labels
      → IsMember labels numbers pair
      → slice_get labels place ≡ Some pair.0 → (number : ℕ) × (slice_get numbers place ≡ Some number)
      × Saying number pair.1
  member_at [] numbers pair place apart m e = absurd m
  member_at (label ∷ labels) [] pair place apart m e = absurd m
  member_at (label ∷ labels) (number ∷ numbers) pair zero apart (inl m) e = (number, refl, m.1)
  member_at (label ∷ labels) (number ∷ numbers) pair zero apart (inr m) e =
      absurd (other_name label labels numbers pair (IsDistinct-head str_eq_ignore_ascii_case label labels apart) m
      (same_Some label pair.0 e))
  member_at (label ∷ labels) (number ∷ numbers) pair (suc place) apart (inl m) e =
      absurd (two_places label labels place pair.0 (IsDistinct-head str_eq_ignore_ascii_case label labels apart)
      (ap Some m.0) e)
  member_at (label ∷ labels) (number ∷ numbers) pair (suc place) apart (inr m) e =
      member_at labels numbers pair place (IsDistinct-tail str_eq_ignore_ascii_case label labels apart) m e

  -- a member's name is one of the names
  name_there : (labels : List (List ℕ)) (numbers : List ℕ) (pair : List ℕ × List Token) → IsMember labels numbers pair
      → (place : ℕ) × (slice_get labels place ≡ Some pair.0)
  name_there [] numbers pair m = absurd m
  name_there (label ∷ labels) [] pair m = absurd m
  name_there (label ∷ labels) (number ∷ numbers) pair (inl m) = (0, ap Some m.0)
  name_there (label ∷ labels) (number ∷ numbers) pair (inr m) = let more = name_there labels numbers pair m in
      (suc more.0, more.1)

  module _ (sound : AreSound names graph) (labels : List (List ℕ)) (numbers : List ℕ) (apart : AreApart labels) where
    one : (v : Tree) → IsOne names graph v
    one = one_value names graph (all_low graph sound.rules) (all_named names graph sound.apart)

    -- the pairs that were read are those with which an object of these tokens begins
    walk : (ps qs : List (List ℕ × List Token)) (r s : List Token) → AllByRecursion (IsMember labels numbers) ps
        → AllByRecursion (IsMember labels numbers) qs
        → paired ps ++ r ≡ paired qs ++ end_object ∷ s → (rest : List (List ℕ × List Token)) × (qs ≡ ps ++ rest)
        × (r ≡ paired rest ++ end_object ∷ s)
    walk [] qs r s h k e = (qs, refl, e)
    walk (p ∷ ps) [] r s h k e = absurd (subst Is_key (ap first_of_tokens e) tt)
    walk (p ∷ ps) (q ∷ qs) r s h k e =
        let more = paired ps ++ r in
        let others = paired qs ++ end_object ∷ s in
        let same_name : p.0 ≡ q.0 = ap text_in (ap first_of_tokens e) in
        let behind : p.1 ++ more ≡ q.1 ++ others = sym (append_assoc p.1 (paired ps) r) ∙ ap (drop 1) e
        ∙ append_assoc q.1 (paired qs) (end_object ∷ s) in
        let both = same_member labels numbers p q apart h.0 k.0 same_name in
        let number = both.0 in
        let mine = both.1 in
        let its = both.2 in
        let left = (one mine.0 (names_at names number) (node_at graph number) depth depth its.0 p.1 q.1 more others
        (all_low graph sound.rules number) (all_named names graph sound.apart number)
        mine.1 its.1 mine.2 its.2 behind).1 in
        let text : p.1 ≡ q.1 = append_cancel_right p.1 q.1 more (behind ∙ ap (λ l. q.1 ++ l) (sym left)) in
        let rest = walk ps qs r s h.1 k.1 left in
        let pair : q ≡ p = sym (ap₂ (λ (name : List ℕ) (text : List Token). let pair : List ℕ × List Token =
        (name, text) in pair) same_name text) in
        (rest.0, ap₂ (λ x l. x ∷ l) pair rest.1, rest.2)

    -- what is left of an object that begins with what was read
    record Left (own : List (List Token)) (pairs : List (List ℕ × List Token)) (mid new : List Token) : Type 0 where
      rest : List (List ℕ × List Token)
      order : IsPermutation (zip labels own) (pairs ++ rest)
      members : AllByRecursion (IsMember labels numbers) rest
      is : mid ≡ paired rest ++ end_object ∷ new

    behind_all : (ps rest : List (List ℕ × List Token)) → AllByRecursion (IsMember labels numbers) (ps ++ rest)
        → AllByRecursion (IsMember labels numbers) rest
    behind_all [] rest h = h
    behind_all (p ∷ ps) rest h = behind_all ps rest h.1

    module _ (old : List Token) (slots : List (Option Value)) (mid : List Token) (ws : Trees) (new : List Token)
        (a : ReadsSlots names graph labels numbers depth old slots mid)
        (b : ReadsObject names graph labels numbers depth old ws new) where
      left : Left b.texts a.pairs mid new
      left =
          let mine = shuffled (IsMember labels numbers) (given labels a.texts) a.pairs a.in_some_order
          (given_members labels numbers slots a.texts a.are_slots) in
          let its = shuffled (IsMember labels numbers) (zip labels b.texts) b.pairs b.in_some_order
          (zip_members labels numbers ws b.texts b.fit b.say) in
          let found = walk a.pairs b.pairs mid new mine its (sym a.cut ∙ b.cut) in
          record {
            rest = found.0;
            order = subst (IsPermutation (zip labels b.texts)) found.1 b.in_some_order;
            members = behind_all a.pairs found.0 (subst (AllByRecursion (IsMember labels numbers)) found.1 its);
            is = found.2;
          }

      -- neither a name nor the end comes
      pub key_refused : ((more : List Token) → mid ≡ end_object ∷ more → ⊥)
          → ((name : List ℕ) (more : List Token) → mid ≡ key name ∷ more → ⊥) → ⊥
      key_refused ends goes = neither left.rest mid new left.is ends goes

      -- a member comes
      module _ (label : List ℕ) (first : List Token) (goes : mid ≡ key label ∷ first) where
        next : First label left.rest first new
        next = first_pair label left.rest first new (sym left.is ∙ goes)

        member : IsMember labels numbers (label, next.text)
        member = (subst (AllByRecursion (IsMember labels numbers)) next.is left.members).0

        -- no part has its name
        pub name_refused : ((place : ℕ) → slice_get labels place ≡ Some label → ⊥) → ⊥
        name_refused none = let there = name_there labels numbers (label, next.text) member in none there.0 there.1

        module _ (place : ℕ) (at : slice_get labels place ≡ Some label) where
          part : (number : ℕ) × (slice_get numbers place ≡ Some number) × Saying number next.text
          part = member_at labels numbers (label, next.text) place apart member at

          free : slice_get slots place ≡ Some None
          free = elim (free_or_called (SaysMember names graph depth) labels numbers slots a.texts place label part.0
              a.are_slots at part.1) [
                | inl h ↦ h
                | inr there ↦ absurd (not_called_yet labels b.texts a.texts a.pairs next.more label next.text apart
                    a.in_some_order
                    (subst (λ l. IsPermutation (zip labels b.texts) (a.pairs ++ l)) next.is left.order) there)
              ]

          -- its place isn't free
          pub member_refused : ((number : ℕ) → slice_get numbers place ≡ Some number → slice_get slots place ≡ Some None
              → ⊥) → ⊥
          member_refused none = none part.0 part.1 free

          -- its value is refused
          pub value_refused : (number : ℕ) (token : Token) (behind : List Token) → slice_get numbers place ≡ Some number
              → Next first token behind
              → ((w : Tree) (rest : List Token) → Reads names graph number depth token behind w rest → ⊥) → ⊥
          value_refused number token behind here comes none =
              let said = subst (λ n. Saying n next.text) (same_Some part.0 number (sym part.1 ∙ here)) part.2 in
              none said.0 (paired next.more ++ end_object ∷ new)
              (read_from names graph sound number depth first token behind said.0 next.text
              (paired next.more ++ end_object ∷ new) comes said.1 said.2 next.cut)

      -- the end comes, and a member is missing
      pub slots_refused : (behind : List Token) → length labels ≡ length numbers → mid ≡ end_object ∷ behind
          → ((values : List Value) → slots ≡ map Some values → ⊥) → ⊥
      slots_refused behind named ends none =
          let all = subst (λ l. IsPermutation (zip labels b.texts) (a.pairs ++ l))
          (no_more left.rest new behind (sym left.is ∙ ends)) left.order in
          let whole = length_permutation (zip labels b.texts) (a.pairs ++ []) all
          ∙ zipped labels b.texts (named ∙ sym (as_many names graph numbers ws b.texts b.say)) in
          let mine = length_permutation (given labels a.texts) a.pairs a.in_some_order in
          let full = sym mine ∙ sym (ap length (append-nil a.pairs)) ∙ whole in
          let values = all_full (SaysMember names graph depth) labels numbers slots a.texts a.are_slots named full in
          none values.0 values.1
        where
          zipped : (labels : List (List ℕ)) (texts : List (List Token)) → length labels ≡ length texts
              → length (zip labels texts) ≡ length labels
          zipped [] texts e = refl
          zipped (label ∷ labels) [] e = absurd (omega (arith, e))
          zipped (label ∷ labels) (text ∷ texts) e = ap suc (zipped labels texts (omega (arith, e)))

-- ---- what the loop over members refuses

module _ (names : List (List (List ℕ))) (graph : List Node) (depth : ℕ) (old : List Token) (labels : List (List ℕ))
    (numbers : List ℕ) (slots : List (Option Value)) (mid : List Token)
    (a : ReadsSlots names graph labels numbers depth old slots mid) where
  abbrev NoObject : Type 0
  NoObject = AreApart labels → length labels ≡ length numbers
      → ReadsNone names graph (ReadsObject names graph labels numbers depth old)

  pub no_key : ((more : List Token) → mid ≡ end_object ∷ more → ⊥)
      → ((name : List ℕ) (more : List Token) → mid ≡ key name ∷ more → ⊥) → NoObject
  no_key ends goes = λ apart named sound ws new b. key_refused names graph depth sound labels numbers apart old slots
      mid ws new a b ends goes

  pub no_name : (label : List ℕ) (first : List Token) → mid ≡ key label ∷ first
      → ((place : ℕ) → slice_get labels place ≡ Some label → ⊥) → NoObject
  no_name label first goes none =
      λ apart named sound ws new b. name_refused names graph depth sound labels numbers apart old slots mid ws new a b
      label first goes none

  pub no_free_member : (label : List ℕ) (first : List Token) (place : ℕ) → mid ≡ key label ∷ first
      → slice_get labels place ≡ Some label
      → ((number : ℕ) → slice_get numbers place ≡ Some number → slice_get slots place ≡ Some None → ⊥) → NoObject
  no_free_member label first place goes at none = λ apart named sound ws new b.
      member_refused names graph depth sound labels numbers apart old slots mid ws new a b label first goes place at
      none

  pub no_value : (label : List ℕ) (first : List Token) (place number : ℕ) (token : Token) (behind : List Token)
      → mid ≡ key label ∷ first → slice_get labels place ≡ Some label
      → slice_get numbers place ≡ Some number → Next first token behind
      → ReadsNone names graph (Reads names graph number depth token behind) → NoObject
  no_value label first place number token behind goes at here comes none = λ apart named sound ws new b.
      value_refused names graph depth sound labels numbers apart old slots mid ws new a b label first goes place at
      number token behind here comes (none sound)

  pub not_all : (behind : List Token) → mid ≡ end_object ∷ behind
      → ((values : List Value) → slots ≡ map Some values → ⊥) → NoObject
  not_all behind ends none = λ apart named sound ws new b. slots_refused names graph depth sound labels numbers apart
      old slots mid ws new a b behind named ends none
