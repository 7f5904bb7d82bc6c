use Rattle.std.proofs.Common.{◌≡◌, ◌∙◌, ℕ, ◌<◌, ◌≤◌, true, not, List, [], ◌∷◌, Some, None, length, take, slice_index, ap, sym, arith}
use Rattle.std.specs.Char.{is_ascii}
use Rattle.std.specs.List.{list_all}
use Rattle.std.proofs.lemmas.Bool.Decides.{nat_tests}
use Rattle.idl_lexer.specs.declared.token.Kind.TheVariants.{Pragma}
use Rattle.idl_lexer.specs.Octets.{is_line_feed, run}
use Rattle.idl_lexer.specs.Directives.{IsFresh, IsKept, IsSkipped, line_of}
use Rattle.idl_lexer.specs.Gaps.{directive}
use Rattle.idl_lexer.specs.inner.Steps.{IsLexeme}
use Rattle.idl_lexer.proofs.directive.directive.Goals as goal

not_empty : (s : List ℕ) → slice_index s 0 ≡ 35 → 0 < run (λ c. not (is_line_feed c)) s
not_empty [] h = absurd (omega (arith, h))
not_empty (c ∷ cs) h = grind (arith, nat_tests)

-- what the steps tell of the line
record Line (before s text : List ℕ) (n : ℕ) : Type 0 where
  hash : slice_index s 0 ≡ 35
  counted : n ≡ run (λ c. not (is_line_feed c)) s
  front : text ≡ take n s
  front_len : length text ≡ n
  within : n ≤ length s
  fresh : IsFresh before
  ascii : list_all is_ascii text ≡ true

whole : (before s text : List ℕ) (n : ℕ) → Line before s text n → text ≡ line_of s
whole before s text n l = l.front ∙ ap (λ k. take k s) l.counted

kept : (before s text : List ℕ) (n : ℕ) → Line before s text n → IsKept text
    → IsLexeme before s (record { kind = Some Pragma; len = length text })
kept before s text n l form =
    let same : text ≡ line_of s = whole before s text n l in record {
      long = omega (arith, l.counted, l.front_len, not_empty s l.hash);
      within = omega (arith, l.front_len, l.within);
      form = record { fresh = l.fresh; ascii = rw same at l.ascii; form = rw same at form; whole = ap length same };
    }

skipped : (before s text : List ℕ) (n : ℕ) → Line before s text n → IsSkipped text
    → IsLexeme before s (record { kind = None; len = length text })
skipped before s text n l form =
    let same : text ≡ line_of s = whole before s text n l in record {
      long = omega (arith, l.counted, l.front_len, not_empty s l.hash);
      within = omega (arith, l.front_len, l.within);
      form = directive l.fresh (rw same at l.ascii) (rw same at form) (ap length same);
    }

pub returns-then-is_kept-clause-form : goal.returns-then-is_kept-clause-form
returns-then-is_kept-clause-form c =
    rw c.token.ensures (kept _ _ _ c.line_len.result (record {
      hash = c.requires;
      counted = c.line_len.ensures.value;
      front = c.split_at.ensures.front;
      front_len = c.split_at.ensures.front_len;
      within = c.line_len.ensures.within;
      fresh = c.is_fresh.ensures.0 c.if-not-is_fresh.false;
      ascii = sym c.are_ascii.ensures ∙ c.if-not-are_ascii.false;
    }) (c.is_kept.ensures.0 c.if-is_kept.true))

pub returns-then-is_skipped-clause-form : goal.returns-then-is_skipped-clause-form
returns-then-is_skipped-clause-form c =
    rw c.skipped.ensures (skipped _ _ _ c.line_len.result (record {
      hash = c.requires;
      counted = c.line_len.ensures.value;
      front = c.split_at.ensures.front;
      front_len = c.split_at.ensures.front_len;
      within = c.line_len.ensures.within;
      fresh = c.is_fresh.ensures.0 c.if-not-is_fresh.false;
      ascii = sym c.are_ascii.ensures ∙ c.if-not-are_ascii.false;
    }) (c.is_skipped.ensures.0 c.if-is_skipped.true))
