use Rattle.std.proofs.Common.{◌≡◌, ◌∙◌, ℕ, ◌+◌, ◌-◌, ◌≤◌, ◌≢◌, List, [], ◌∷◌, ◌++◌, drop, length, slice_index, ap, sym, refl, arith}
use Rattle.std.proofs.lemmas.Grind.{common_steps}
use Rattle.std.proofs.lemmas.List.{drop-drop, drop_all, get_or-drop, get_or_past}
use Rattle.std.proofs.lemmas.Result.{err_from_is_err_and}
use Rattle.idl_lexer.specs.declared.fault.LexFault.{LexFault}
use Rattle.idl_lexer.specs.declared.fault.Start.{Start}
use Rattle.idl_lexer.specs.declared.fault.LexFault.TheVariants.{BadEscape}
use Rattle.idl_lexer.specs.Literals.{AreCharacters, ClosedCharacters, none, IsCharacter, plain, letter, octal, hexadecimal, IsTextLiteral}
use Rattle.idl_lexer.specs.Faults.{character_fault, no_more, zero_char, IsTextFault}
use Rattle.idl_lexer.proofs.Characters.{AreCharacters-push, ClosedCharacters-step, Step, Step-at, same_value}
use Rattle.idl_lexer.proofs.literal.text_literal.Goals as goal

inside : (s : List ℕ) (n : ℕ) → IsTextLiteral s n → ClosedCharacters (drop 1 s)
inside s n t = record {
  octets = t.octets;
  inner = t.inner;
  characters = t.characters;
  closes = get_or-drop 1 s t.inner 0 ∙ ap (slice_index s) (omega arith) ∙ t.closes;
}

pub loop-at-init : goal.loop-at-init
loop-at-init c = record {
  read = ([], none (drop 1 c.args.octets.now));
  low = omega arith;
  within = grind (arith, common_steps);
  left = λ n t. inside c.args.octets.now n t;
}

next : (s : List ℕ) (at n v : ℕ) (read : (octets : List ℕ) × AreCharacters 34 (drop 1 s) (at - 1) octets) → 1 ≤ at
    → IsCharacter 34 (drop at s) n v → v ≢ 0 → (octets : List ℕ) × AreCharacters 34 (drop 1 s) (at + n - 1) octets
next s at n v (octets, read) low char other =
    let place : drop (at - 1) (drop 1 s) ≡ drop at s = drop-drop (at - 1) 1 s ∙ ap (λ k. drop k s) (omega arith) in (
      octets ++ v ∷ [],
      AreCharacters-push 34 (drop 1 s) (at - 1) n v (at + n - 1) octets read (rw place char) other
          (omega arith),
    )

-- the character at a place that isn't the closing quote
step_at : (s : List ℕ) (at : ℕ) → slice_index s at ≢ 34 → (left : ClosedCharacters (drop at s))
    → Step (drop at s) left.octets
step_at s at other left =
    ClosedCharacters-step (drop at s) (λ e. other (ap (slice_index s) (omega arith) ∙ sym (get_or-drop at s 0 0) ∙ e))
    left

-- one character further
left_next : (s : List ℕ) (at n v : ℕ) (rest : List ℕ) → slice_index s at ≢ 34 → rest ≡ drop at s
    → IsCharacter 34 rest n v → ClosedCharacters (drop at s) → ClosedCharacters (drop (at + n) s)
left_next s at n v rest other cut char left =
    let step = step_at s at other left in
    let there : ClosedCharacters (drop n (drop at s)) = (Step-at (drop at s) left.octets n v step (rw cut at char)).0 in
    let place : drop n (drop at s) ≡ drop (at + n) s = drop-drop n at s ∙ ap (λ k. drop k s) (omega arith) in
    rw place at there

pub loop-at-preserved : goal.loop-at-preserved
loop-at-preserved c = record {
  read = next c.args.octets.now c.loop-at.at c.in_ok-value.len c.in_ok-value.value c.loop-at.invariant.read
      c.loop-at.invariant.low (rw c.split_at.ensures.back at c.in_ok-value.ensures.form) c.if-value-eq0.false;
  low = omega arith;
  within = omega (arith, c.in_ok-value.ensures.within);
  left = λ n t. left_next c.args.octets.now c.loop-at.at c.in_ok-value.len c.in_ok-value.value _
      c.if-octets-at-ne34.true c.split_at.ensures.back c.in_ok-value.ensures.form (c.loop-at.invariant.left n t);
}

pub returns-in_err-value-clause-refused : goal.returns-in_err-value-clause-refused
returns-in_err-value-clause-refused c =
    let p = err_from_is_err_and c.from_residual.result c.from_residual.ensures.1 in
    rw p.1 (λ n t.
    let left = c.loop-at.invariant.left n t in
    let step = step_at c.args.octets.now c.loop-at.at c.if-octets-at-ne34.true left in
    let char : IsCharacter 34 c.split_at.result.1.now step.len step.value = rw c.split_at.ensures.back step.character in
    let made = c.in_err-value.ensures.complete step.len step.value char in cc)

pub returns-then-value-eq0-clause-refused : goal.returns-then-value-eq0-clause-refused
returns-then-value-eq0-clause-refused c n t =
    let left = c.loop-at.invariant.left n t in
    let step = step_at c.args.octets.now c.loop-at.at c.if-octets-at-ne34.true left in
    let char : IsCharacter 34 c.split_at.result.1.now step.len step.value = rw c.split_at.ensures.back step.character in
    let same : step.value ≡ c.in_ok-value.value =
    same_value 34 34 c.split_at.result.1.now step.len c.in_ok-value.len step.value c.in_ok-value.value char
    c.in_ok-value.ensures.form in
    step.nonzero (same ∙ c.if-value-eq0.true)

-- no characters are closed at the end
open_end : (s : List ℕ) (at : ℕ) → length s ≤ at → ClosedCharacters (drop at s) → ⊥
open_end s at past left =
    let last : slice_index s (at + left.inner) ≡ 34 = sym (get_or-drop at s left.inner 0) ∙ left.closes in
    omega (arith, last, get_or_past s (at + left.inner) 0 (omega arith))

pub returns-else-at-octets-clause-refused : goal.returns-else-at-octets-clause-refused
returns-else-at-octets-clause-refused c n t =
    open_end c.args.octets.now c.loop-at.at c.if-at-octets.false (c.loop-at.invariant.left n t)

whole : (s : List ℕ) (at : ℕ) (read : (octets : List ℕ) × AreCharacters 34 (drop 1 s) (at - 1) octets) → 1 ≤ at
    → slice_index s 0 ≡ 34 → slice_index s at ≡ 34 → IsTextLiteral s (at + 1)
whole s at (octets, read) low opens closes = record {
  opens = opens;
  octets = octets;
  inner = at - 1;
  characters = read;
  closes = ap (slice_index s) (omega arith) ∙ closes;
  length = omega arith;
}

-- ---- which fault is told

next_place : (at : ℕ) → 1 ≤ at → at - 1 + 1 ≡ at
next_place at low = omega arith

no_more_there : (s rest : List ℕ) (at : ℕ) (start : Start) (fault : LexFault)
    (read : (octets : List ℕ) × AreCharacters 34 (drop 1 s) (at - 1) octets) → 1 ≤ at → rest ≡ drop at s
    → slice_index s at ≢ 34 → ((n v : ℕ) → IsCharacter 34 rest n v → ⊥) → fault ≡ character_fault 34 rest start
    → IsTextFault s start fault
no_more_there s rest at start fault (octets, read) low cut other never told =
    let place = next_place at low in
    let here : rest ≡ drop (at - 1 + 1) s = cut ∙ sym (ap (λ k. drop k s) place) in
    no_more (at - 1) octets read (λ e. other (ap (slice_index s) (sym place) ∙ e))
    (λ n v char. never n v (rw here char)) (told ∙ ap (λ r. character_fault 34 r start) here)

pub returns-in_err-value-clause-told : goal.returns-in_err-value-clause-told
returns-in_err-value-clause-told c =
    let p = err_from_is_err_and c.from_residual.result c.from_residual.ensures.1 in
    rw (p.1, p.2)
    (no_more_there c.args.octets.now c.split_at.result.1.now c.loop-at.at c.args.start _ c.loop-at.invariant.read
    c.loop-at.invariant.low c.split_at.ensures.back c.if-octets-at-ne34.true
    (λ n v char. let made = c.in_err-value.ensures.complete n v char in cc) c.in_err-value.ensures.told)

zero_there : (s rest : List ℕ) (at n v : ℕ) (start : Start)
    (read : (octets : List ℕ) × AreCharacters 34 (drop 1 s) (at - 1) octets) → 1 ≤ at → rest ≡ drop at s
    → IsCharacter 34 rest n v → v ≡ 0 → IsTextFault s start (BadEscape start.line start.octet)
zero_there s rest at n v start (octets, read) low cut char zero =
    let here : rest ≡ drop (at - 1 + 1) s = cut ∙ sym (ap (λ k. drop k s) (next_place at low)) in
    let there : IsCharacter 34 (drop (at - 1 + 1) s) n v = rw here at char in
    zero_char (at - 1) n octets read (rw zero at there) refl

pub returns-then-value-eq0-clause-told : goal.returns-then-value-eq0-clause-told
returns-then-value-eq0-clause-told c =
    zero_there c.args.octets.now c.split_at.result.1.now c.loop-at.at c.in_ok-value.len c.in_ok-value.value c.args.start
    c.loop-at.invariant.read c.loop-at.invariant.low c.split_at.ensures.back c.in_ok-value.ensures.form
    c.if-value-eq0.true

nothing_at_end : (n v : ℕ) → IsCharacter 34 [] n v → ⊥
nothing_at_end n v (plain some here is one) = omega arith
nothing_at_end n v (letter b e is two) = omega (arith, b)
nothing_at_end n v (octal m b digits small e) = omega (arith, b)
nothing_at_end n v (hexadecimal m b x digits e) = omega (arith, b)

pub returns-else-at-octets-clause-told : goal.returns-else-at-octets-clause-told
returns-else-at-octets-clause-told c =
    let s = c.args.octets.now in
    let past : [] ≡ drop c.loop-at.at s = sym (drop_all c.loop-at.at s c.if-at-octets.false) in
    no_more_there s [] c.loop-at.at c.args.start _ c.loop-at.invariant.read c.loop-at.invariant.low past
    (λ e. omega (arith, e, get_or_past s c.loop-at.at 0 c.if-at-octets.false)) nothing_at_end refl
