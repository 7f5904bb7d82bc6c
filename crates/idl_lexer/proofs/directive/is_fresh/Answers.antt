use Rattle.std.proofs.Common.{◌≡◌, ◌≢◌, ◌∙◌, ℕ, zero, suc, ◌-◌, ◌<◌, ◌≤◌, Bool, true, ◌⊎◌, inl, inr, List, [], ◌∷◌, length, drop, slice_index, ap, sym, arith}
use Rattle.std.specs.List.{list_all}
use Rattle.std.proofs.lemmas.Bool.{cases_lt}
use Rattle.std.proofs.lemmas.List.{drop-drop}
use Rattle.idl_lexer.specs.Octets.{is_blank}
use Rattle.idl_lexer.specs.Directives.{IsFresh}
use Rattle.idl_lexer.proofs.Inside.{and_true}
use Rattle.idl_lexer.proofs.directive.is_fresh.Goals as goal

all_behind : (p : ℕ → Bool) (n : ℕ) (s : List ℕ) → list_all p s ≡ true → list_all p (drop n s) ≡ true
all_behind p zero s h = h
all_behind p (suc n) [] h = h
all_behind p (suc n) (c ∷ cs) h = all_behind p n cs (and_true (p c) (list_all p cs) h).1

-- no line begins behind the last one
before_last : (s : List ℕ) (start last : ℕ) → (start ≡ 0) ⊎ (slice_index s (start - 1) ≡ 10) → start ≤ length s
    → ((k : ℕ) → last ≤ k → k < length s → slice_index s k ≢ 10) → start ≤ last
before_last s start last (inl first) within none = omega arith
before_last s start last (inr feed) within none = elim (cases_lt last start) [
  | inl less ↦ absurd (none (start - 1) (omega arith) (omega arith) feed)
  | inr le ↦ le
]

fresh_blank : (s rest : List ℕ) (last : ℕ) → rest ≡ drop last s
    → ((k : ℕ) → last ≤ k → k < length s → slice_index s k ≢ 10) → IsFresh s → list_all is_blank rest ≡ true
fresh_blank s rest last cut none f =
    let le : f.start ≤ last = before_last s f.start last f.begins f.within none in
    let place : drop (last - f.start) (drop f.start s) ≡ drop last s = drop-drop (last - f.start) f.start s
    ∙ ap (λ k. drop k s) (omega arith) in
    ap (list_all is_blank) (cut ∙ sym place) ∙ all_behind is_blank (last - f.start) (drop f.start s) f.blank

pub returns : goal.returns
returns c = (
  λ said. record {
    start = c.last_line.result;
    within = c.last_line.ensures.within;
    begins = c.last_line.ensures.begins;
    blank = rw c.split_at.ensures.back at (sym c.are_blank.ensures ∙ said);
  },
  λ f. c.are_blank.ensures ∙ fresh_blank c.args.before.now _ c.last_line.result c.split_at.ensures.back
      c.last_line.ensures.last f,
)
