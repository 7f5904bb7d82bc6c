-- The keywords of the code are those of the definition, length by length.
use Rattle.std.proofs.Common.{◌≡◌, ◌∙◌, ℕ, zero, suc, ◌<◌, ◌≤◌, Bool, true, false, ◌&&◌, List, [], ◌∷◌, cond, filter, length, nat_lt, ◌==◌, ap, refl, sym, arith}
use Rattle.std.specs.List.{list_all}
use Rattle.std.proofs.lemmas.Bool.Decides.{nat_tests}
use Rattle.idl_lexer.specs.Words.{keywords}
use Rattle.idl_lexer.proofs.word.keywords_of_len.Goals as goal

-- the numbers below 12, one by one
data IsBelow (n : ℕ) : Type 0 where
  at0 : n ≡ 0 → IsBelow n
  at1 : n ≡ 1 → IsBelow n
  at2 : n ≡ 2 → IsBelow n
  at3 : n ≡ 3 → IsBelow n
  at4 : n ≡ 4 → IsBelow n
  at5 : n ≡ 5 → IsBelow n
  at6 : n ≡ 6 → IsBelow n
  at7 : n ≡ 7 → IsBelow n
  at8 : n ≡ 8 → IsBelow n
  at9 : n ≡ 9 → IsBelow n
  at10 : n ≡ 10 → IsBelow n
  at11 : n ≡ 11 → IsBelow n

below : (n : ℕ) → n < 12 → IsBelow n
below zero lt = at0 refl
below (suc zero) lt = at1 refl
below (suc (suc zero)) lt = at2 refl
below (suc (suc (suc zero))) lt = at3 refl
below (suc (suc (suc (suc zero)))) lt = at4 refl
below (suc (suc (suc (suc (suc zero))))) lt = at5 refl
below (suc (suc (suc (suc (suc (suc zero)))))) lt = at6 refl
below (suc (suc (suc (suc (suc (suc (suc zero))))))) lt = at7 refl
below (suc (suc (suc (suc (suc (suc (suc (suc zero)))))))) lt = at8 refl
below (suc (suc (suc (suc (suc (suc (suc (suc (suc zero))))))))) lt = at9 refl
below (suc (suc (suc (suc (suc (suc (suc (suc (suc (suc zero)))))))))) lt = at10 refl
below (suc (suc (suc (suc (suc (suc (suc (suc (suc (suc (suc zero))))))))))) lt = at11 refl
below (suc (suc (suc (suc (suc (suc (suc (suc (suc (suc (suc (suc n)))))))))))) lt = absurd (omega arith)

pub returns-then-len-lt12 : goal.returns-then-len-lt12
unfolding keywords
returns-then-len-lt12 c =
    elim (below c.args.len c.if-len-lt12.true) [
      | at0 e ↦ rw e refl
      | at1 e ↦ rw e refl
      | at2 e ↦ rw e refl
      | at3 e ↦ rw e refl
      | at4 e ↦ rw e refl
      | at5 e ↦ rw e refl
      | at6 e ↦ rw e refl
      | at7 e ↦ rw e refl
      | at8 e ↦ rw e refl
      | at9 e ↦ rw e refl
      | at10 e ↦ rw e refl
      | at11 e ↦ rw e refl
    ]

other_len : (m n : ℕ) → nat_lt m 12 ≡ true → 12 ≤ n → (m == n) ≡ false
other_len m n short long = grind (arith, nat_tests)

skipped : (k : List ℕ) (r : List (List ℕ)) (n : ℕ) (b rest : Bool) → b ≡ nat_lt (length k) 12 → (b && rest) ≡ true
    → 12 ≤ n → (rest ≡ true → [] ≡ r) → [] ≡ cond (length k == n) (k ∷ r) r
skipped k r n false rest is both long h = cc
skipped k r n true rest is both long h =
    h both ∙ ap (λ b. cond b (k ∷ r) r) (sym (other_len (length k) n (sym is) long))

none_so_long : (ks : List (List ℕ)) (n : ℕ) → 12 ≤ n → list_all (λ k. nat_lt (length k) 12) ks ≡ true
    → [] ≡ filter (λ k. length k == n) ks
none_so_long [] n long all = refl
none_so_long (k ∷ ks) n long all =
    skipped k (filter (λ j. length j == n) ks) n (nat_lt (length k) 12) (list_all (λ j. nat_lt (length j) 12) ks) refl
    all long (none_so_long ks n long)

pub returns-else-len-lt12 : goal.returns-else-len-lt12
unfolding keywords
returns-else-len-lt12 c = none_so_long keywords c.args.len c.if-len-lt12.false refl
