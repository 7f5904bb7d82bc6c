-- How a source that is read up to some place is read further.
use Rattle.std.proofs.Common.{◌≡◌, ◌∙◌, ℕ, zero, suc, ◌+◌, ◌-◌, ◌<◌, ◌≤◌, List, [], ◌∷◌, ◌++◌, Some, None, cond, length, take, drop, slice_range, count_by, length-drop, ap, subst, sym, refl, arith}
use Rattle.std.proofs.Math.Seq.{take-add}
use Rattle.std.proofs.lemmas.List.Elements.{All-append}
use Rattle.std.proofs.lemmas.List.{length-take}
use Rattle.std.proofs.lemmas.List.Sums.{count_by-le-length, sum_by-append}
use Rattle.idl_lexer.specs.declared.token.Token.{Token}
use Rattle.idl_lexer.specs.declared.lexeme.Lexeme.{Lexeme}
use Rattle.idl_lexer.specs.declared.token.Kind.{Kind}
use Rattle.idl_lexer.specs.Octets.{is_line_feed}
use Rattle.idl_lexer.specs.inner.Steps.{IsLexeme}
use Rattle.idl_lexer.specs.Forms.{Begins}
use Rattle.idl_lexer.specs.Gaps.{Skips, none, more}
use Rattle.idl_lexer.specs.Tokens.{HaveLines, LexedPart, StandsIn, end_of, line_at}
use Rattle.idl_lexer.proofs.Inside.{Begins-on_line}

-- a gap grows
pub LexedPart-skip : (source : List ℕ) (from : ℕ) (ts : List Token) (j n k : ℕ) → LexedPart source from ts j
    → Skips (take j source) (drop j source) n → k ≡ j + n → LexedPart source from ts k
LexedPart-skip source from [] j n k gap skip e = more j n k gap skip e
LexedPart-skip source from (t ∷ ts) j n k (gap, stands, rest) skip e =
    (gap, stands, LexedPart-skip source (end_of t) ts j n k rest skip e)

-- a token is added
pub LexedPart-token : (source : List ℕ) (from : ℕ) (ts : List Token) (t : Token) → LexedPart source from ts t.start
    → StandsIn source t → LexedPart source from (ts ++ t ∷ []) (end_of t)
LexedPart-token source from [] t gap stands = (gap, stands, none)
LexedPart-token source from (u ∷ us) t (gap, first, rest) stands =
    (gap, first, LexedPart-token source (end_of u) us t rest stands)

-- what a step has read, up to some place and its line
pub record Reads (source : List ℕ) (tokens : List Token) (at line : ℕ) : Type 0 where
  pub lexed : LexedPart source 0 tokens at
  pub within : at ≤ length source
  pub lines : HaveLines source tokens
  pub counted : line ≡ line_at source at

-- the octets behind a place add their line feeds
line_at-add : (source : List ℕ) (at n : ℕ) → line_at source (at + n)
    ≡ line_at source at + count_by is_line_feed (take n (drop at source))
line_at-add source at n =
    let split : count_by is_line_feed (take (at + n) source)
    ≡ count_by is_line_feed (take at source ++ take n (drop at source)) =
    ap (count_by is_line_feed) (take-add at n source) in
    omega (arith, split, sum_by-append (λ c. cond (is_line_feed c) 1 0) (take at source) (take n (drop at source)))

pub line-le : (source : List ℕ) (tokens : List Token) (at line : ℕ) → Reads source tokens at line → line ≤ at + 1
line-le source tokens at line r =
    omega (arith, r.counted, count_by-le-length is_line_feed (take at source), length-take at source)

-- a token's line is that of its start, and it has no line feed
pub Reads-token :
    (source : List ℕ) (tokens : List Token) (t : Token) (at end line : ℕ)
    → Reads source tokens at line → t.start ≡ at → end_of t ≡ end → t.line ≡ line → at < end → end ≤ length source
    → t.text.now ≡ slice_range source at end → Begins t.kind (take at source) (drop at source) (end - at)
    → Reads source (tokens ++ t ∷ []) end line
Reads-token source tokens t at end line r starts ends counts rises within text form =
    let stands : StandsIn source t = record {
      rises = omega arith;
      within = omega arith;
      text = subst (λ (e : ℕ). t.text.now ≡ slice_range source t.start e) (sym ends) (rw starts text);
      form = subst (λ (e : ℕ). Begins t.kind (take t.start source) (drop t.start source) (e - t.start)) (sym ends)
          (rw starts form);
    } in
    let here : LexedPart source 0 tokens t.start = rw starts r.lexed in
    let flat : count_by is_line_feed (take (end - at) (drop at source)) ≡ 0 =
    Begins-on_line t.kind (take at source) (drop at source) (end - at) (omega (arith, length-drop at source)) form in
    let along : line_at source (at + (end - at)) ≡ line_at source at + 0 =
    line_at-add source at (end - at) ∙ ap (λ k. line_at source at + k) flat in
    let there : line_at source (at + (end - at)) ≡ line_at source end = ap (line_at source) (omega arith) in
    let its : t.line ≡ line_at source t.start = rw starts (counts ∙ r.counted) in record {
      lexed = subst (λ (e : ℕ). LexedPart source 0 (tokens ++ t ∷ []) e) ends
          (LexedPart-token source 0 tokens t here stands);
      within = within;
      lines = All-append (λ (u : Token). u.line ≡ line_at source u.start) tokens (t ∷ []) r.lines (only t its);
      counted = omega (arith, r.counted, along, there);
    }
  where
    only : (t : Token) → t.line ≡ line_at source t.start → HaveLines source (t ∷ [])
    only t h zero d lt = h
    only t h (suc k) d lt = absurd (omega arith)

pub Reads-skip :
    (source : List ℕ) (tokens : List Token) (at n line feeds : ℕ) (front : List ℕ)
    → Reads source tokens at line → Skips (take at source) (drop at source) n → at + n ≤ length source
    → front ≡ take n (drop at source) → feeds ≡ count_by is_line_feed front
    → Reads source tokens (at + n) (line + feeds)
Reads-skip source tokens at n line feeds front r skips within cut feeds_are = record {
  lexed = LexedPart-skip source 0 tokens at n (at + n) r.lexed skips refl;
  within = within;
  lines = r.lines;
  counted = omega (arith, r.counted, line_at-add source at n, feeds_are ∙ ap (count_by is_line_feed) cut);
}

-- what a lexeme says of the source from its place on
pub lexeme_within :
    (source before rest : List ℕ) (l : Lexeme) (at : ℕ)
    → at ≤ length source → rest ≡ drop at source → IsLexeme before rest l → at + l.len ≤ length source
lexeme_within source before rest l at within behind lexeme =
    let fits : l.len ≤ length (drop at source) = rw behind at lexeme.within in
    omega (arith, within, fits, length-drop at source)

pub lexeme_begins :
    (source before rest : List ℕ) (l : Lexeme) (kind : Kind) (at : ℕ)
    → before ≡ take at source → rest ≡ drop at source → IsLexeme before rest l → l.kind ≡ Some kind
    → Begins kind (take at source) (drop at source) (at + l.len - at)
lexeme_begins source before rest l kind at front behind lexeme is =
    let form : Begins kind before rest l.len = rw is at lexeme.form in
    let long : l.len ≡ at + l.len - at = omega arith in
    rw (front, behind, long) at form

pub lexeme_skips :
    (source before rest : List ℕ) (l : Lexeme) (at : ℕ)
    → before ≡ take at source → rest ≡ drop at source → IsLexeme before rest l → l.kind ≡ None
    → Skips (take at source) (drop at source) l.len
lexeme_skips source before rest l at front behind lexeme is = rw (front, behind) at (rw is at lexeme.form)
