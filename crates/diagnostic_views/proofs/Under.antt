-- The caret is under its place.
use Rattle.std.proofs.Common.{◌≡◌, ◌∙◌, ◌+◌, ◌-◌, ◌/◌, ◌%◌, ◌<◌, ◌≤◌, ◌==◌, ◌&&◌, nat_lt, ℕ, codes, lit≤, suc, Bool, true, false, cond, min, List, [], ◌∷◌, ◌++◌, take, drop, length, slice_index, slice_range, refl, sym, ap, arith}
use Rattle.std.proofs.lemmas.Bool.Decides.{nat_tests}
use Rattle.std.proofs.lemmas.List.{drop-drop, drop-take, drop_at, length-take, length-drop, length-append}
use Rattle.std.proofs.Math.Seq.{take-append-add, drop-cons}
use Rattle.diagnostic_views.specs.Shown.{all_shown, shown, is_plain, digit}
use Rattle.diagnostic_views.specs.Windows.{IsUnder, IsWindow, cut, shown_before, shown_behind, without_return}

bound : (b a k : ℕ) → k ≤ 4 → k ≤ a → (b - cut b a) + k ≤ 120
bound b a k few fits = grind (arith, nat_tests)

-- there is room behind the caret
room : (b a k caret off : ℕ) → off ≡ cut b a → caret + off ≡ b → k ≤ 4 → k ≤ a → caret + k ≤ 120
room b a k caret off off_is caret_is few fits =
    let most : (b - off) + k ≤ 120 = rw off_is (bound b a k few fits) in omega arith

few : (a b : Bool) (x y : List ℕ) (n : List ℕ) → length x ≤ 4 → length y ≤ 4 → length n ≤ 4
    → length (cond a x (cond b y n)) ≤ 4
few true b x y n hx hy hn = hx
few false true x y n hx hy hn = hy
few false false x y n hx hy hn = hn

shown_length : (c : ℕ) → length (shown c) ≤ 4
shown_length c =
    few (is_plain c) (c == 9) (c ∷ []) (codes "    ") (92 ∷ 120 ∷ digit (c / 16) ∷ digit (c % 16) ∷ []) (lit≤ tt)
    (lit≤ tt) (lit≤ tt)

-- behind the caret stands what is shown from the octet on
behind_caret : (before behind : List ℕ) (caret off : ℕ) → caret + off ≡ length before → caret ≤ 120
    → drop caret (take 120 (drop off (before ++ behind))) ≡ take (120 - caret) behind
behind_caret before behind caret off is fits =
    let wide : 120 ≡ caret + (120 - caret) = omega arith in
    ap (λ (n : ℕ). drop caret (take n (drop off (before ++ behind)))) wide
    ∙ drop-take caret (120 - caret) (drop off (before ++ behind))
    ∙ ap (take (120 - caret)) (drop-drop caret off (before ++ behind)
    ∙ drop_at before behind (off + caret) (omega arith))

-- what is shown of octets begins with what is shown of the first
first_shown : (source : List ℕ) (octet stop : ℕ) → octet < stop → stop ≤ length source
    → (rest : List ℕ) × (all_shown (slice_range source octet stop) ≡ shown (slice_index source octet) ++ rest)
first_shown source octet stop below within =
    let n = stop - octet - 1 in
    let more : stop - octet ≡ suc n = omega arith in (
      all_shown (take n (drop (suc octet) source)),
      ap (λ (m : ℕ). all_shown (take m (drop octet source))) more
          ∙ ap (λ (l : List ℕ). all_shown (take (suc n) l)) (drop-cons source octet 0 (omega arith)),
    )

-- the first characters stay where there is room for them
kept : (own rest : List ℕ) (n : ℕ) → length own ≤ n → (left : List ℕ) × (take n (own ++ rest) ≡ own ++ left)
kept own rest n fits =
    let wide : n ≡ length own + (n - length own) = omega arith in
    (take (n - length own) rest, ap (λ (k : ℕ). take k (own ++ rest)) wide ∙ take-append-add own rest (n - length own))

-- the first characters of the octet stand at the caret
at_caret : (before behind own rest : List ℕ) (caret off : ℕ) → off ≡ cut (length before) (length behind)
    → caret + off ≡ length before
    → length own ≤ 4 → behind ≡ own ++ rest
    → (left : List ℕ) × (drop caret (take 120 (drop off (before ++ behind))) ≡ own ++ left)
at_caret before behind own rest caret off off_is caret_is few is =
    let long : length behind ≡ length own + length rest = ap length is ∙ length-append own rest in
    let fits : caret + length own ≤ 120 =
    room (length before) (length behind) (length own) caret off off_is caret_is few (omega arith) in
    let stays = kept own rest (120 - caret) (omega arith) in
    (stays.0, behind_caret before behind caret off caret_is (omega arith) ∙ ap (take (120 - caret)) is ∙ stays.1)

-- the caret isn't past the text
in_text : (before behind : List ℕ) (caret off : ℕ) → off ≡ cut (length before) (length behind)
    → caret + off ≡ length before
    → caret ≤ length (take 120 (drop off (before ++ behind)))
in_text before behind caret off off_is caret_is =
    let fits : caret + 0 ≤ 120 =
    room (length before) (length behind) 0 caret off off_is caret_is (omega arith) (omega arith) in
    simp (length-take, length-drop, length-append) (omega arith)

less : (b : Bool) (n : ℕ) → cond b (n - 1) n ≤ n
less true n = omega arith
less false n = omega arith

pub under : (source : List ℕ) (octet start stop : ℕ) (text : List ℕ) (caret : ℕ)
    → IsWindow source octet start stop text caret → IsUnder source octet stop text caret
under source octet start stop text caret is = record {
  within = rw is.text_is (in_text (shown_before source octet start) (shown_behind source octet stop) caret is.cut_off
      is.cut_is is.caret_is);
  under = λ below.
      let shorter = less (nat_lt octet stop && slice_index source (stop - 1) == 13) stop in
      let end : without_return source octet stop ≤ length source = omega arith in
      let begun = first_shown source octet (without_return source octet stop) below end in
      rw is.text_is (at_caret (shown_before source octet start) (shown_behind source octet stop)
      (shown (slice_index source octet)) begun.0
      caret is.cut_off is.cut_is is.caret_is (shown_length (slice_index source octet)) begun.1);
}
