use Rattle.std.proofs.Common.{◌≡◌, ◌∙◌, ℕ, ◌+◌, ◌<◌, List, length, take, drop, ap, refl, arith}
use Rattle.std.proofs.lemmas.Result.{err_from_is_err_and}
use Rattle.idl_lexer.specs.Gaps.{none}
use Rattle.idl_lexer.specs.declared.token.Token.{Token}
use Rattle.idl_lexer.specs.declared.fault.LexFault.{LexFault}
use Rattle.idl_lexer.specs.Tokens.{Lexed}
use Rattle.idl_lexer.specs.Lexemes.{HasNoForm}
use Rattle.idl_lexer.specs.Faults.{IsFault, IsFaultAt}
use Rattle.idl_lexer.proofs.Paths.{none_lexed}
use Rattle.std.proofs.lemmas.Bool.{OnFalse_from}
use Rattle.idl_lexer.proofs.Lexing.{Reads, Reads-token, Reads-skip, lexeme_begins, lexeme_skips, lexeme_within}
use Rattle.idl_lexer.proofs.lexer.lex.Goals as goal

pub loop-at-init : goal.loop-at-init
loop-at-init c = rw c.new-tokens.ensures.items
    (record { lexed = none; within = omega arith; lines = λ k d lt. absurd (omega arith); counted = refl })

pub loop-at-preserved-in_ok-add-in-Some : goal.loop-at-preserved-in_ok-add-in-Some
loop-at-preserved-in_ok-add-in-Some c =
    let front = c.split_at.ensures.front ∙ ap (take c.loop-at.at) c.as_bytes-octets.ensures.value in
    let back = c.split_at.ensures.back ∙ ap (drop c.loop-at.at) c.as_bytes-octets.ensures.value in
    let within = lexeme_within c.args.source.now _ _ c.in_ok-found.found c.loop-at.at c.loop-at.invariant.within back
    c.in_ok-found.ensures.form in
    let form = lexeme_begins c.args.source.now _ _ c.in_ok-found.found c.in-Some.kind c.loop-at.at front back
    c.in_ok-found.ensures.form c.in-Some.is in
    rw c.in_ok-add-in-Some.ensures.added
    (Reads-token c.args.source.now c.loop-at.tokens.items c.token.result c.loop-at.at
    (c.loop-at.at + c.in_ok-found.found.len) c.loop-at.line c.loop-at.invariant
    c.token.ensures.start c.token.ensures.stop (c.token.ensures.line ∙ c.in_ok-line-in-Some.ensures.found)
    (omega (arith, c.in_ok-found.ensures.form.long)) within c.token.ensures.text (rw c.token.ensures.kind form))

pub loop-at-preserved : goal.loop-at-preserved
loop-at-preserved c =
    let front = c.split_at.ensures.front ∙ ap (take c.loop-at.at) c.as_bytes-octets.ensures.value in
    let back = c.split_at.ensures.back ∙ ap (drop c.loop-at.at) c.as_bytes-octets.ensures.value in
    let within = lexeme_within c.args.source.now _ _ c.in_ok-found.found c.loop-at.at c.loop-at.invariant.within back
    c.in_ok-found.ensures.form in
    let skips = lexeme_skips c.args.source.now _ _ c.in_ok-found.found c.loop-at.at front back
    c.in_ok-found.ensures.form c.in-None.is in
    Reads-skip c.args.source.now c.loop-at.tokens.items c.loop-at.at c.in_ok-found.found.len c.loop-at.line
    c.line_feeds-line.result _ c.loop-at.invariant
    skips within (c.split_at-in-None.ensures.front ∙ ap (take c.in_ok-found.found.len) back)
    c.line_feeds-line.ensures.value

pub returns-in_err-found-clause-refused : goal.returns-in_err-found-clause-refused
returns-in_err-found-clause-refused c =
    let p = err_from_is_err_and c.from_residual.result c.from_residual.ensures.1 in
    let front = c.split_at.ensures.front ∙ ap (take c.loop-at.at) c.as_bytes-octets.ensures.value in
    let back = c.split_at.ensures.back ∙ ap (drop c.loop-at.at) c.as_bytes-octets.ensures.value in
    let none : (tokens : List Token) → Lexed c.args.source.now tokens → ⊥ =
    λ tokens lexed. none_lexed c.args.source.now _ _ c.loop-at.at c.loop-at.tokens.items tokens front back
    (rw c.as_bytes-octets.ensures.value at c.loop-at-test.true) c.in_err-found.ensures.refused
    c.loop-at.invariant.lexed lexed in
    rw p.1 (OnFalse_from _ _ (λ other. none))

first_fault : (source before rest : List ℕ) (at line : ℕ) (tokens : List Token) (fault : LexFault)
    → before ≡ take at source → rest ≡ drop at source → at < length source → Reads source tokens at line
    → HasNoForm before rest → IsFaultAt before rest (record { line = line; octet = at }) fault → IsFault source fault
first_fault source before rest at line tokens fault front back within reads nothing told = record {
  place = at;
  within = within;
  tokens = tokens;
  read = reads.lexed;
  none = rw (front, back) at nothing;
  told = rw (front, back, reads.counted) at told;
}

pub returns-in_err-found-clause-told : goal.returns-in_err-found-clause-told
returns-in_err-found-clause-told c =
    let p = err_from_is_err_and c.from_residual.result c.from_residual.ensures.1 in
    let front = c.split_at.ensures.front ∙ ap (take c.loop-at.at) c.as_bytes-octets.ensures.value in
    let back = c.split_at.ensures.back ∙ ap (drop c.loop-at.at) c.as_bytes-octets.ensures.value in
    let is : IsFault c.args.source.now c.in_err-found.field-0.0 =
    first_fault c.args.source.now _ _ c.loop-at.at c.loop-at.line c.loop-at.tokens.items _ front back
    (rw c.as_bytes-octets.ensures.value at c.loop-at-test.true) c.loop-at.invariant c.in_err-found.ensures.refused
    c.in_err-found.ensures.told in
    rw (p.1, p.2) (OnFalse_from _ _ (λ other. is))
