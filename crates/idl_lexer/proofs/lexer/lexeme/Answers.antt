use Rattle.std.proofs.Common.{◌≡◌, ◌≢◌, ◌∙◌, ℕ, true, false, not, List, Result, Ok, Err, IfErr, slice_index, ap, sym, arith}
use Rattle.std.specs.Char.{is_ascii_digit}
use Rattle.std.proofs.lemmas.Result.{err_from_is_err_and}
use Rattle.idl_lexer.specs.declared.fault.LexFault.{LexFault}
use Rattle.idl_lexer.specs.declared.fault.Start.{Start}
use Rattle.idl_lexer.specs.declared.lexeme.Lexeme.{Lexeme}
use Rattle.idl_lexer.specs.Punctuation.{is_punctuation, opens_comment}
use Rattle.idl_lexer.specs.Lexemes.{HasNoForm}
use Rattle.idl_lexer.specs.inner.Steps.{HasNoWord}
use Rattle.idl_lexer.specs.Faults.{of_char, of_text, of_word, IsFaultAt, IsWordFault}
use Rattle.idl_lexer.proofs.Alone.{is_mark_of}
use Rattle.idl_lexer.proofs.OneForm.{no_comment_of, none_block, none_char, none_number, none_other, none_text, IsOther}
use Rattle.idl_lexer.proofs.lexer.lexeme.Goals as goal
use Rattle.idl_lexer.proofs.lexer.lexeme.Goals.{in_default-via-in-47-2+else-second-eq42, in_default-via-in_default-1}

pub returns-in_err-block_comment-in-47-2-clause-refused : goal.returns-in_err-block_comment-in-47-2-clause-refused
returns-in_err-block_comment-in-47-2-clause-refused c =
    let p = err_from_is_err_and c.from_residual.result c.from_residual.ensures.1 in
    rw p.1 (none_block c.args.before.now c.args.octets.now (sym c.octet_at-first.ensures ∙ c.in-47.is)
    (sym c.octet_at-second.ensures ∙ c.if-second-eq42.true) c.in_err-block_comment-in-47-2.ensures.refused)

pub returns-in_err-char_literal-in-39-clause-refused : goal.returns-in_err-char_literal-in-39-clause-refused
returns-in_err-char_literal-in-39-clause-refused c =
    let p = err_from_is_err_and c.from_residual-in_err-char_literal-in-39.result
    c.from_residual-in_err-char_literal-in-39.ensures.1 in
    rw p.1 (none_char c.args.before.now c.args.octets.now (sym c.octet_at-first.ensures ∙ c.in-39.is)
    c.in_err-char_literal-in-39.ensures.refused)

pub returns-in_err-text_literal-in-34-clause-refused : goal.returns-in_err-text_literal-in-34-clause-refused
returns-in_err-text_literal-in-34-clause-refused c =
    let p = err_from_is_err_and c.from_residual-in_err-text_literal-in-34.result
    c.from_residual-in_err-text_literal-in-34.ensures.1 in
    rw p.1 (none_text c.args.before.now c.args.octets.now (sym c.octet_at-first.ensures ∙ c.in-34.is)
    c.in_err-text_literal-in-34.ensures.refused)

pub returns-in_err-char_literal-in-39-clause-told : goal.returns-in_err-char_literal-in-39-clause-told
returns-in_err-char_literal-in-39-clause-told c =
    let p = err_from_is_err_and c.from_residual-in_err-char_literal-in-39.result
    c.from_residual-in_err-char_literal-in-39.ensures.1 in
    rw (p.1, p.2) (of_char (sym c.octet_at-first.ensures ∙ c.in-39.is) c.in_err-char_literal-in-39.ensures.told)

pub returns-in_err-text_literal-in-34-clause-told : goal.returns-in_err-text_literal-in-34-clause-told
returns-in_err-text_literal-in-34-clause-told c =
    let p = err_from_is_err_and c.from_residual-in_err-text_literal-in-34.result
    c.from_residual-in_err-text_literal-in-34.ensures.1 in
    rw (p.1, p.2) (of_text (sym c.octet_at-first.ensures ∙ c.in-34.is) c.in_err-text_literal-in-34.ensures.told)

pub returns-in_err-integer-in_default-clause-refused : goal.returns-in_err-integer-in_default-clause-refused
returns-in_err-integer-in_default-clause-refused c =
    let p = err_from_is_err_and c.from_residual-in_err-integer-in_default.result
    c.from_residual-in_err-integer-in_default.ensures.1 in
    let first = ap is_ascii_digit (sym c.octet_at-first.ensures) ∙ sym c.is_ascii_digit.ensures.value
    ∙ c.if-is_ascii_digit.true in
    rw p.1 (none_number c.args.before.now c.args.octets.now first c.in_err-integer-in_default.ensures.refused)

neither : (before s : List ℕ) (r : Result Lexeme LexFault) → IsOther (slice_index s 0) (slice_index s 1)
    → IfErr r (λ _. (n : ℕ) → is_punctuation s n ≡ false) → IfErr r (λ _. HasNoWord s)
    → IfErr r (λ _. HasNoForm before s)
neither before s (Ok l) is no_mark no_word = tt
neither before s (Err f) is no_mark no_word = none_other before s is no_mark no_word

-- from the octets that are read
other : (s : List ℕ) (first second : ℕ) → first ≡ slice_index s 0 → second ≡ slice_index s 1 → IsOther first second
    → IsOther (slice_index s 0) (slice_index s 1)
other s first second e f is = rw (e, f) at is

-- a slash alone is a mark
slash : (a b : ℕ) → a ≡ 47 → opens_comment a b ≡ false → is_mark_of 1 a b ≡ true
slash a b e h = let here : opens_comment 47 b ≡ false = rw e at h in ap (λ x. is_mark_of 1 x b) e ∙ ap not here

told_word : (before s : List ℕ) (start : Start) (r : Result Lexeme LexFault)
    → IsOther (slice_index s 0) (slice_index s 1) → IfErr r (λ _. (n : ℕ) → is_punctuation s n ≡ false)
    → IfErr r (IsWordFault s start) → IfErr r (IsFaultAt before s start)
told_word before s start (Ok l) is no_mark told = tt
told_word before s start (Err f) is no_mark told =
    let no_slash : slice_index s 0 ≢ 47 = λ e. let both : true ≡ false =
    sym (slash (slice_index s 0) (slice_index s 1) e
    (no_comment_of (slice_index s 0) (slice_index s 1) is.line is.block)) ∙ no_mark 1 in cc in
    of_word is.hash no_slash is.quote is.quotes is.digit told

first_octets : (c : goal.After-mark_or_word)
    → IsOther (slice_index c.args.octets.now 0) (slice_index c.args.octets.now 1)
first_octets c =
    let a = c.octet_at-first.result in
    let b = c.octet_at-second.result in
    let digit = sym c.is_ascii_digit.ensures.value ∙ c.if-is_ascii_digit.false in
    let blank = sym c.is_blank_octet.ensures ∙ c.if-is_blank_octet.false in
    let is : IsOther a b = elim c.in_default.branch [
      | in_default-via-in-47-2+else-second-eq42 w ↦
          record {
            hash = omega arith;
            quote = omega arith;
            quotes = omega arith;
            line =
                λ e. w.if-second-eq47.false;
            block = λ e. w.if-second-eq42.false;
            digit = digit;
            blank = blank;
          }
      | in_default-via-in_default-1 w ↦
          record {
            hash = omega arith;
            quote = omega arith;
            quotes = omega arith;
            line = λ e. omega arith;
            block =
                λ e. omega arith;
            digit = digit;
            blank = blank;
          }
    ] in
    other c.args.octets.now a b c.octet_at-first.ensures c.octet_at-second.ensures is

pub returns-in_default-3-clause-refused : goal.returns-in_default-3-clause-refused
returns-in_default-3-clause-refused c =
    neither c.args.before.now c.args.octets.now c.mark_or_word.result (first_octets c) c.mark_or_word.ensures.no_mark
    c.mark_or_word.ensures.no_word

pub returns-in_default-3-clause-told : goal.returns-in_default-3-clause-told
returns-in_default-3-clause-told c =
    told_word c.args.before.now c.args.octets.now c.args.start c.mark_or_word.result (first_octets c)
    c.mark_or_word.ensures.no_mark c.mark_or_word.ensures.told
