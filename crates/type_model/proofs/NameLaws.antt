-- Names that differ, the order in which they are sought, and the table of the numbers that they have.
use Rattle.std.proofs.Common.{◌≡◌, ◌≢◌, ◌<◌, ◌+◌, ℕ, Bool, true, false, List, [], length, map, take, take_all, get_or, set, Option, None, Some, IfNone, All, Contains, refl, sym, ap, subst, ◌∙◌, ◌≤◌, inl, inr, arith}
use Rattle.std.proofs.lemmas.Bool.{cases_order, cases_eq}
use Rattle.std.proofs.lemmas.List.{get_or-set_same, get_or-set_other, get_or_default, get_or-map, length-set, length-map}
use Rattle.std.proofs.lemmas.List.Elements.{All-more, All-same, All-weaker, All-contains, All-map, Contains-get_or}
use Rattle.type_model.specs.Names.{AreDistinct, AreMarks, name_at}

-- where names differ, a name has one node
pub one_node : (names : List (List ℕ × ℕ)) (name : List ℕ) (one other : ℕ) → AreDistinct names
    → Contains names (name, one) → Contains names (name, other) → one ≡ other
one_node names name one other distinct at_one at_other =
    let there : get_or names at_other.0 (name, one) ≡ (name, other) =
    get_or_default names at_other.0 (name, one) (name, other) at_other.1 ∙ at_other.2 in
    let apart : (i j : ℕ) → i < j → j < length names → (get_or names i (name, one)).0 ≡ name
    → (get_or names j (name, one)).0 ≡ name → ⊥ =
    λ i j lt within a b. distinct i j (name, one) lt within (a ∙ sym b) in
    elim (cases_order at_one.0 at_other.0) [
      | inl same ↦ ap (λ (p : List ℕ × ℕ). p.1) (sym at_one.2 ∙ ap (λ k. get_or names k (name, one)) same ∙ there)
      | inr order ↦ elim order [
        | inl lt ↦ absurd (apart at_one.0 at_other.0 lt at_other.1 (ap (λ (p : List ℕ × ℕ). p.0) at_one.2)
            (ap (λ (p : List ℕ × ℕ). p.0) there))
        | inr gt ↦ absurd (apart at_other.0 at_one.0 gt at_one.1 (ap (λ (p : List ℕ × ℕ). p.0) there)
            (ap (λ (p : List ℕ × ℕ). p.0) at_one.2))
      ]
    ]

-- where no place has a name
pub nowhere_is : (names : List (List ℕ × ℕ)) (name : List ℕ)
    → ((place : ℕ) → place < length names → name_at names place ≢ name) → All (λ pair. pair.0 ≢ name) names
nowhere_is names name none =
    λ k d within same. none k within (ap (λ (pair : List ℕ × ℕ). pair.0) (get_or_default names k ([], 0) d within)
    ∙ same)

pub none_any : {X : Type 0} (r : Option X) (P : Type 0) → P → IfNone r P
none_any None P h = h
none_any (Some x) P h = tt

-- the pair at the place of a name
module _ (names : List (List ℕ × ℕ)) (name : List ℕ) (place : ℕ) (pair : List ℕ × ℕ) (distinct : AreDistinct names)
    (within : place < length names)
    (named : name_at names place ≡ name) (here : get_or names place pair ≡ pair) where
  pub stands : (node : ℕ) → Some pair.1 ≡ Some node → Contains names (name, node)
  stands node e =
      let is_node : pair.1 ≡ node = cc in
      let is_name : pair.0 ≡ name =
      sym (ap (λ (it : List ℕ × ℕ). it.0) (get_or_default names place ([], 0) pair within ∙ here)) ∙ named in
      (place, within, get_or_default names place (name, node) pair within ∙ here ∙ (λ i. (is_name i, is_node i)))

  pub stands_alone : (node : ℕ) → Contains names (name, node) → Some pair.1 ≡ Some node
  stands_alone node there = ap Some (one_node names name pair.1 node distinct (stands pair.1 refl) there)

-- ---- the table of numbers

-- the marks of the numbers before a place
pub record MarksUpTo (numbers : List ℕ) (count place : ℕ) (marks : List Bool) : Type 0 where
  pub long : length marks ≡ count
  pub sound : (number : ℕ) → get_or marks number false ≡ true → Contains numbers number
  pub complete : All (λ number. get_or marks number false ≡ true) (take place numbers)
  pub within : All (λ number. number < count) (take place numbers)

mark_stays : (marks : List Bool) (node number : ℕ) → node < length marks → get_or marks number false ≡ true
    → get_or (set marks node true) number false ≡ true
mark_stays marks node number within marked =
    elim (cases_eq number node) [
      | inl same ↦ ap (λ k. get_or (set marks node true) k false) same ∙ get_or-set_same marks node true false within
      | inr other ↦ get_or-set_other marks node number true false other ∙ marked
    ]

mark_sound : (numbers : List ℕ) (marks : List Bool) (node number : ℕ) → Contains numbers node
    → ((number : ℕ) → get_or marks number false ≡ true → Contains numbers number)
    → get_or (set marks node true) number false ≡ true → Contains numbers number
mark_sound numbers marks node number there sound marked =
    elim (cases_eq number node) [
      | inl same ↦ subst (Contains numbers) (sym same) there
      | inr other ↦ sound number (sym (get_or-set_other marks node number true false other) ∙ marked)
    ]

pub marks_more : (numbers : List ℕ) (count place node : ℕ) (marks : List Bool) → place < length numbers
    → node ≡ get_or numbers place node → node < count → MarksUpTo numbers count place marks
    → MarksUpTo numbers count (place + 1) (set marks node true)
marks_more numbers count place node marks here is within m =
    let P : ℕ → Type 0 = λ number. get_or (set marks node true) number false ≡ true in
    let in_marks : node < length marks = omega (arith, m.long) in
    record {
      long = length-set marks node true ∙ m.long;
      sound = λ number. mark_sound numbers marks node number
          (subst (Contains numbers) (sym is) (Contains-get_or numbers place node here)) m.sound;
      complete =
          let before : All P (take place numbers) =
          All-weaker (λ number. get_or marks number false ≡ true) P
          (λ number. mark_stays marks node number in_marks) (take place numbers) m.complete in
          let now : P (get_or numbers place node) = subst P is (get_or-set_same marks node true false in_marks) in
          All-more P numbers place node here before now;
      within = All-more (λ number. number < count) numbers place node here m.within
          (subst (λ number. number < count) is within);
    }

module _ (numbers : List ℕ) (count place : ℕ) (marks : List Bool) (e : length numbers ≤ place)
    (m : MarksUpTo numbers count place marks) where
  pub marks_done : AreMarks numbers marks
  marks_done = λ number. (
    m.sound number,
    λ there.
        let P : ℕ → Type 0 = λ number. get_or marks number false ≡ true in
        All-contains P numbers number (All-same P _ _ (sym (take_all place numbers e)) m.complete) there,
  )

  pub within_done : All (λ number. number < count) numbers
  within_done = All-same (λ number. number < count) _ _ (sym (take_all place numbers e)) m.within

-- the numbers of names, as the code reads them
pub mark_name : (names : List (List ℕ × ℕ)) (count place : ℕ) (pair : List ℕ × ℕ) (marks : List Bool)
    → place < length names → (get_or names place pair).1 < count
    → MarksUpTo (map (λ name. name.1) names) count place marks
    → MarksUpTo (map (λ name. name.1) names) count (place + 1) (set marks (get_or names place pair).1 true)
mark_name names count place pair marks within below m =
    let node = (get_or names place pair).1 in
    marks_more (map (λ (name : List ℕ × ℕ). name.1) names) count place node marks
    (omega (arith, within, length-map names (λ (name : List ℕ × ℕ). name.1)))
    (sym (get_or-map (λ (name : List ℕ × ℕ). name.1) names place pair node within)) below m

pub mark_past : (names : List (List ℕ × ℕ)) (count place : ℕ) (pair : List ℕ × ℕ) → place < length names
    → count ≤ (get_or names place pair).1
    → All (λ number. number < count) (map (λ name. name.1) names) → ⊥
mark_past names count place pair within past all =
    let node = (get_or names place pair).1 in
    let is = get_or-map (λ (name : List ℕ × ℕ). name.1) names place pair node within in
    let low = all place node (omega (arith, within, length-map names (λ (name : List ℕ × ℕ). name.1))) in
    absurd (omega (arith, is, low, past))

-- ---- both together

all_of_numbers : (P : ℕ → Type 0) (names : List (List ℕ × ℕ)) → All P (map (λ name. name.1) names)
    → All (λ name. P name.1) names
all_of_numbers P names h = λ k d within. subst P (get_or-map (λ (name : List ℕ × ℕ). name.1) names k d d.1 within)
    (h k d.1 (omega (arith, length-map names (λ (name : List ℕ × ℕ). name.1))))

module _ (count : ℕ) (names : List (List ℕ × ℕ)) where
  pub names_within : All (λ number. number < count) (map (λ name. name.1) names) → All (λ name. name.1 < count) names
  names_within h = all_of_numbers (λ number. number < count) names h

  pub numbers_within : All (λ name. name.1 < count) names → All (λ number. number < count) (map (λ name. name.1) names)
  numbers_within h = All-map (λ number. number < count) (λ (name : List ℕ × ℕ). name.1) names h
