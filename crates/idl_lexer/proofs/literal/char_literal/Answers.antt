use Rattle.std.proofs.Common.{◌≡◌, ◌≢◌, ◌∙◌, ℕ, ◌+◌, List, drop, slice_index, ap, sym, refl, arith}
use Rattle.std.proofs.lemmas.Grind.{get_or_after_one}
use Rattle.std.proofs.lemmas.List.{drop-drop, get_or_past}
use Rattle.idl_lexer.specs.declared.fault.LexFault.{LexFault}
use Rattle.idl_lexer.specs.declared.fault.Start.{Start}
use Rattle.idl_lexer.specs.declared.fault.LexFault.TheVariants.{OpenLiteral}
use Rattle.idl_lexer.specs.Literals.{IsCharacter, IsCharLiteral}
use Rattle.idl_lexer.specs.Faults.{character_fault, if_ascii, no_char, open_char, IsCharFault}
use Rattle.idl_lexer.proofs.Characters.{same_len}
use Rattle.idl_lexer.proofs.literal.char_literal.Goals as goal
use Rattle.idl_lexer.proofs.literal.char_literal.Goals.{then-len-inner+else-inner-len-eq39, else-len-inner}

made : (s inner : List ℕ) (len v : ℕ) → slice_index s 0 ≡ 39 → inner ≡ drop 1 s → IsCharacter 39 inner len v
    → slice_index inner len ≡ 39 → IsCharLiteral s (len + 2)
made s inner len v opens behind char closes =
    let after : slice_index s (1 + len) ≡ 39 = sym (get_or_after_one s len 0) ∙ ap (λ t. slice_index t len) (sym behind)
    ∙ closes in record {
      opens = opens;
      value = v;
      inner = len;
      character = rw behind at char;
      closes = ap (slice_index s) (omega arith) ∙ after;
      length = refl;
    }

pub returns-in-Ok-clause-form : goal.returns-in-Ok-clause-form
returns-in-Ok-clause-form c =
    made c.args.octets.now _ _ _ c.requires c.split_at.ensures.back c.in-Ok.ensures.form c.if-inner-len-eq39.true

-- what a character literal has behind its quote
behind : (s inner : List ℕ) (n : ℕ) → inner ≡ drop 1 s → (t : IsCharLiteral s n) → IsCharacter 39 inner t.inner t.value
    × (slice_index inner t.inner ≡ 39)
behind s inner n cut t =
    let closes : slice_index (drop 1 s) t.inner ≡ 39 = get_or_after_one s t.inner 0 ∙ ap (slice_index s) (omega arith)
    ∙ t.closes in
    (rw cut t.character, rw cut closes)

-- a literal has its closing quote behind the character that is read
closed : (s inner : List ℕ) (n len v : ℕ) → inner ≡ drop 1 s → IsCharacter 39 inner len v → IsCharLiteral s n
    → slice_index inner len ≡ 39
closed s inner n len v cut char t =
    let there = behind s inner n cut t in
    ap (slice_index inner) (same_len 39 39 inner len t.inner v t.value char there.0) ∙ there.1

pub returns-in-Ok-2-clause-refused : goal.returns-in-Ok-2-clause-refused
returns-in-Ok-2-clause-refused c n t =
    let inner = c.split_at.result.1.now in
    let quote : slice_index inner c.in-Ok.len ≡ 39 =
    closed c.args.octets.now inner n c.in-Ok.len _ c.split_at.ensures.back c.in-Ok.ensures.form t in
    elim c.if-len-inner.branch [
      | then-len-inner+else-inner-len-eq39 w ↦ w.if-inner-len-eq39.false quote
      | else-len-inner w ↦ omega (arith, quote, get_or_past inner c.in-Ok.len 0 w.if-len-inner.false)
    ]

pub returns-in-Err-clause-refused : goal.returns-in-Err-clause-refused
returns-in-Err-clause-refused c n t =
    let there = behind c.args.octets.now c.split_at.result.1.now n c.split_at.ensures.back t in
    let made = c.in-Err.ensures.complete t.inner t.value there.0 in cc

-- behind the character stands what stands there in the whole
behind_two : (s inner rest : List ℕ) (n : ℕ) → inner ≡ drop 1 s → rest ≡ drop n inner → rest ≡ drop (n + 1) s
behind_two s inner rest n cut back = back ∙ ap (drop n) cut ∙ drop-drop n 1 s ∙ ap (λ k. drop k s) (omega arith)

unclosed_char : (s inner rest : List ℕ) (n v : ℕ) (start : Start) (fault : LexFault) → inner ≡ drop 1 s
    → rest ≡ drop n inner → IsCharacter 39 inner n v → slice_index inner n ≢ 39
    → fault ≡ if_ascii rest (OpenLiteral start.line start.octet) start → IsCharFault s start fault
unclosed_char s inner rest n v start fault cut back char other told =
    let place : slice_index inner n ≡ slice_index s (n + 1) = ap (λ t. slice_index t n) cut ∙ get_or_after_one s n 0
    ∙ ap (slice_index s) (omega arith) in
    open_char n v (rw cut at char) (λ e. other (place ∙ e))
    (told ∙ ap (λ r. if_ascii r (OpenLiteral start.line start.octet) start) (behind_two s inner rest n cut back))

pub returns-in-Ok-2-clause-told : goal.returns-in-Ok-2-clause-told
returns-in-Ok-2-clause-told c =
    let inner = c.split_at.result.1.now in
    let other : slice_index inner c.in-Ok.len ≢ 39 = elim c.if-len-inner.branch [
      | then-len-inner+else-inner-len-eq39 w ↦ w.if-inner-len-eq39.false
      | else-len-inner w ↦ λ e. omega (arith, e, get_or_past inner c.in-Ok.len 0 w.if-len-inner.false)
    ] in
    unclosed_char c.args.octets.now inner _ c.in-Ok.len _ c.args.start _ c.split_at.ensures.back
    c.split_at-in-Ok-2.ensures.back c.in-Ok.ensures.form other c.unclosed.ensures

no_char_there : (s inner : List ℕ) (start : Start) (fault inside : LexFault) → inner ≡ drop 1 s
    → ((n v : ℕ) → IsCharacter 39 inner n v → ⊥) → inside ≡ character_fault 39 inner start
    → fault ≡ if_ascii inner inside start → IsCharFault s start fault
no_char_there s inner start fault inside cut never is told =
    let there : fault ≡ if_ascii inner (character_fault 39 inner start) start =
    told ∙ ap (λ f. if_ascii inner f start) is in
    no_char (λ n v char. never n v (rw cut char)) (there ∙ ap (λ r. if_ascii r (character_fault 39 r start) start) cut)

pub returns-in-Err-clause-told : goal.returns-in-Err-clause-told
returns-in-Err-clause-told c =
    no_char_there c.args.octets.now c.split_at.result.1.now c.args.start _ c.in-Err.fault c.split_at.ensures.back
    (λ n v char. let made = c.in-Err.ensures.complete n v char in cc) c.in-Err.ensures.told c.unclosed-in-Err.ensures
