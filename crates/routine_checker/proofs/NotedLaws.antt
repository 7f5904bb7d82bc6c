-- The counts of the pieces of which many are taken.
use Rattle.std.proofs.Common.{◌≡◌, ◌<◌, ◌≤◌, ◌+◌, ◌-◌, ℕ, zero, suc, List, [], ◌∷◌, ◌++◌, length, length-append, get_or, refl, sym, ap, subst, ◌∙◌, inl, inr, arith}
use Rattle.std.proofs.lemmas.Bool.{cases_eq, cases_lt}
use Rattle.std.proofs.lemmas.List.{get_or-append_right, get_or_append_left}
use Rattle.type_graph.specs.declared.node.Node.{Node}
use Rattle.routine_checker.specs.declared.counts.Piece.{Piece}
use Rattle.routine_checker.specs.declared.noted.Noted.{Noted}
use Rattle.routine_checker.specs.declared.noted.Counts.{Counts}
use Rattle.routine_checker.specs.inner.Kinds.{is_piece_of}
use Rattle.routine_checker.specs.inner.Counts.{pieces_in}
use Rattle.routine_checker.specs.inner.Noted.{AreCounts, AreNoted, IsNoted}

-- ---- the counts of a piece, node by node

pub record NotedUpTo (graph : List Node) (piece : Piece) (counts : List ℕ) (place : ℕ) : Type 0 where
  pub long : length counts ≡ place
  pub noted : IsNoted graph piece counts

pub noted_none : (graph : List Node) (piece : Piece) → NotedUpTo graph piece [] 0
noted_none graph piece = record { long = omega arith; noted = λ number some. absurd (omega (arith, some)) }

only_one : (n k : ℕ) → 1 ≤ k → get_or (n ∷ []) k 0 ≡ 0
only_one n zero far = absurd (omega (arith, far))
only_one n (suc k) far = refl

pub noted_more : (graph : List Node) (piece : Piece) (counts now : List ℕ) (place n : ℕ) → now ≡ counts ++ n ∷ []
    → (0 < n → pieces_in 64 (is_piece_of piece graph) graph place ≡ n) → NotedUpTo graph piece counts place
    → NotedUpTo graph piece now (place + 1)
noted_more graph piece counts now place n push is up = record {
  long = let long = up.long in let longer = ap length push ∙ length-append counts (n ∷ []) in
      omega (arith, long, longer);
  noted = subst (IsNoted graph piece) (sym push) (λ number some. elim (cases_lt number (length counts)) [
    | inl lt ↦
        let old : get_or (counts ++ n ∷ []) number 0 ≡ get_or counts number 0 =
        get_or_append_left counts (n ∷ []) 0 number lt in
        up.noted number (subst (λ k. 0 < k) old some) ∙ sym old
    | inr le ↦ behind number le some
  ]);
}
  where
    behind : (number : ℕ) → length counts ≤ number → 0 < get_or (counts ++ n ∷ []) number 0
        → pieces_in 64 (is_piece_of piece graph) graph number ≡ get_or (counts ++ n ∷ []) number 0
    behind number le some = elim (cases_eq number (length counts)) [
      | inl same ↦
          let none : number - length counts ≡ 0 = omega (arith, same) in
          let here : get_or (counts ++ n ∷ []) number 0 ≡ n =
          get_or-append_right counts (n ∷ []) (length counts) number 0 refl le ∙ ap (λ k. get_or (n ∷ []) k 0) none in
          let at : number ≡ place = same ∙ up.long in
          ap (λ k. pieces_in 64 (is_piece_of piece graph) graph k) at ∙ is (subst (λ k. 0 < k) here some) ∙ sym here
      | inr other ↦
          let far : 1 ≤ number - length counts = omega (arith, le, other) in
          let past : get_or (counts ++ n ∷ []) number 0 ≡ 0 =
          get_or-append_right counts (n ∷ []) (length counts) number 0 refl le
          ∙ only_one n (number - length counts) far in
          absurd (omega (arith, some, past))
    ]

pub noted_all : (graph : List Node) (piece : Piece) (counts : List ℕ) (place : ℕ) → NotedUpTo graph piece counts place
    → IsNoted graph piece counts
noted_all graph piece counts place up = up.noted

-- ---- those that are noted

pub noted_at : (graph : List Node) (counts : Counts) (place : ℕ) (noted : Noted) (piece : Piece)
    → AreCounts graph counts → place < length counts.noted.items
    → noted ≡ get_or counts.noted.items place noted → noted.piece ≡ piece → IsNoted graph piece noted.counts.items
noted_at graph counts place noted piece right within is same =
    subst (λ p. IsNoted graph p noted.counts.items) same
    (subst (AreNoted graph) (sym is) (right.noted place noted within))
