-- Rising labels between two bounds: there are as many as numbers there, or one of those numbers is no label.
use Rattle.std.proofs.Common.{◌≡◌, ◌≢◌, ℕ, zero, suc, ◌<◌, ◌≤◌, ◌↔◌, ◌⊎◌, All, ℤ, pos, ◌<ℤ◌, ◌≤ℤ◌, ◌+ℤ◌, List, [], ◌∷◌, length, IsTrue, nat_lt, inl, inr, arith}
use Rattle.std.proofs.lemmas.Bool.{ltb-true, lt-ltb}
use Rattle.std.proofs.lemmas.Int.{ints, by_lt_z}
use Rattle.std.proofs.lemmas.List.Elements.{All-cons, All-nil, All-head, All-tail}
use Rattle.type_graph.specs.Labels.{AreWithin, AreRising, HasOtherWithin}

-- labels from a number on, each greater than the one before
abbrev RiseFrom : ℤ → ℤ → List (ℤ × ℕ) → Type 0
RiseFrom least end [] = Unit {0}
RiseFrom least end (arm ∷ more) = (least ≤ℤ arm.0) × (arm.0 <ℤ end) × RiseFrom (arm.0 +ℤ pos 1) end more

-- from a lower number on too
rise_lower : (low least end : ℤ) (arms : List (ℤ × ℕ)) → low ≤ℤ least → RiseFrom least end arms → RiseFrom low end arms
rise_lower low least end [] le rise = tt
rise_lower low least end (arm ∷ more) le rise = (let at = rise.0 in omega (arith, ints, le, at), rise.1, rise.2)

-- a number at most another is that one, or less
same_or_less : (a b : ℤ) → a ≤ℤ b → (b ≡ a) ⊎ ((a +ℤ pos 1) ≤ℤ b)
same_or_less a b le = by_lt_z a b (λ less. inr (omega (arith, ints, less)))
    (λ back. inl (omega (arith, ints, le, back)))

-- no more labels than numbers
few : (least end : ℤ) (count : ℕ) (arms : List (ℤ × ℕ)) → end ≡ least +ℤ pos count → RiseFrom least end arms
    → length arms ≤ count
few least end count [] wide rise = omega arith
few least end zero (arm ∷ more) wide rise =
    let low = rise.0 in
    let high = rise.1 in
    absurd (omega (arith, ints, wide, low, high))
few least end (suc count) (arm ∷ more) wide rise =
    let low = rise.0 in
    let less = few (least +ℤ pos 1) end count more (omega (arith, ints, wide))
    (rise_lower _ _ end more (omega (arith, ints, low)) rise.2) in
    omega (arith, less)

-- labels from a number on differ from each that is less
beyond : (least end other : ℤ) (arms : List (ℤ × ℕ)) → other <ℤ least → RiseFrom least end arms
    → All (λ arm. arm.0 ≢ other) arms
beyond least end other [] less rise = All-nil _
beyond least end other (arm ∷ more) less rise =
    let low = rise.0 in
    All-cons (λ arm. arm.0 ≢ other) arm more (omega (arith, ints, less, low))
    (beyond (arm.0 +ℤ pos 1) end other more (omega (arith, ints, less, low)) rise.2)

-- fewer labels than numbers leave one out
left_out : (least end : ℤ) (count : ℕ) (arms : List (ℤ × ℕ)) → end ≡ least +ℤ pos count → RiseFrom least end arms
    → length arms < count → HasOtherWithin least end arms
left_out least end count [] wide rise fewer =
    record { other = least; from = omega (arith, ints); below = omega (arith, ints, wide, fewer); no_label = All-nil _ }
left_out least end zero (arm ∷ more) wide rise fewer = absurd (omega (arith, fewer))
left_out least end (suc count) (arm ∷ more) wide rise fewer =
    let high = rise.1 in
    elim (same_or_less least arm.0 rise.0) [
      | inl same ↦
          let next = left_out (least +ℤ pos 1) end count more (omega (arith, ints, wide))
          (rise_lower _ _ end more (omega (arith, ints, same)) rise.2) (omega (arith, fewer)) in
          let above = next.from in
          record {
            other = next.other;
            from = omega (arith, ints, above);
            below = next.below;
            no_label =
                All-cons (λ arm. arm.0 ≢ next.other) arm more (omega (arith, ints, same, above)) next.no_label;
          }
      | inr above ↦ record {
        other = least;
        from = omega (arith, ints);
        below = omega (arith, ints, above, high);
        no_label = All-cons (λ arm. arm.0 ≢ least) arm more (omega (arith, ints, above))
            (beyond (arm.0 +ℤ pos 1) end least more (omega (arith, ints, above)) rise.2);
      }
    ]

-- a number between the bounds that is no label takes the place of one
place_free : (least end other : ℤ) (count : ℕ) (arms : List (ℤ × ℕ)) → end ≡ least +ℤ pos count
    → RiseFrom least end arms → least ≤ℤ other → other <ℤ end → All (λ arm. arm.0 ≢ other) arms → length arms < count
place_free least end other count [] wide rise from below free = omega (arith, ints, wide, from, below)
place_free least end other zero (arm ∷ more) wide rise from below free = absurd (omega (arith, ints, wide, from, below))
place_free least end other (suc count) (arm ∷ more) wide rise from below free =
    let low = rise.0 in
    elim (same_or_less least other from) [
      | inl same ↦
          let differs = All-head (λ arm. arm.0 ≢ other) arm more free in
          let fits = few (least +ℤ pos 1) end count (arm ∷ more) (omega (arith, ints, wide))
          (omega (arith, ints, low, differs, same), rise.1, rise.2) in
          omega (arith, fits)
      | inr above ↦
          let fits = place_free (least +ℤ pos 1) end other count more (omega (arith, ints, wide))
          (rise_lower _ _ end more (omega (arith, ints, low)) rise.2) above below
          (All-tail (λ arm. arm.0 ≢ other) arm more free) in
          omega (arith, fits)
    ]

-- labels that lie within bounds, each less than the next, rise
rise_from : (least end : ℤ) (arm : ℤ × ℕ) (more : List (ℤ × ℕ)) → least ≤ℤ arm.0 → AreWithin least end (arm ∷ more)
    → AreRising (arm ∷ more) → RiseFrom least end (arm ∷ more)
rise_from least end arm [] low within rising =
    (low, (All-head (λ (arm : ℤ × ℕ). (least ≤ℤ arm.0) × (arm.0 <ℤ end)) arm [] within).1, tt)
rise_from least end arm (next ∷ more) low within rising =
    let less = rising 0 (omega arith) in
    let here = All-head (λ (arm : ℤ × ℕ). (least ≤ℤ arm.0) × (arm.0 <ℤ end)) arm (next ∷ more) within in
    let rest = All-tail (λ (arm : ℤ × ℕ). (least ≤ℤ arm.0) × (arm.0 <ℤ end)) arm (next ∷ more) within in
    let tail = rise_from least end next more
    (All-head (λ (arm : ℤ × ℕ). (least ≤ℤ arm.0) × (arm.0 <ℤ end)) next more rest).0 rest
    (λ place lt. rising (suc place) (omega (arith, lt))) in
    (low, here.1, (omega (arith, ints, less), tail.1, tail.2))

rises : (least end : ℤ) (arms : List (ℤ × ℕ)) → AreWithin least end arms → AreRising arms → RiseFrom least end arms
rises least end [] within rising = tt
rises least end (arm ∷ more) within rising =
    rise_from least end arm more (All-head (λ (arm : ℤ × ℕ). (least ≤ℤ arm.0) × (arm.0 <ℤ end)) arm more within).0
    within rising

-- some number between the bounds is no label just where there are fewer labels than numbers
pub other_where_fewer : (least end : ℤ) (count : ℕ) (arms : List (ℤ × ℕ)) → end ≡ least +ℤ pos count
    → AreWithin least end arms → AreRising arms → IsTrue (nat_lt (length arms) count) ↔ HasOtherWithin least end arms
other_where_fewer least end count arms wide within rising =
    let rise = rises least end arms within rising in (
      λ fewer. left_out least end count arms wide rise (ltb-true (length arms) count fewer),
      λ h. lt-ltb (length arms) count (place_free least end h.other count arms wide rise h.from h.below h.no_label),
    )
