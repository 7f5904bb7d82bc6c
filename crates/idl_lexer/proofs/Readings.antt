-- The literals that are read by rules stand for what the functions of their texts say.
use Rattle.std.proofs.Common.{◌≡◌, ◌∙◌, ◌≢◌, ℕ, zero, suc, ◌<◌, ◌≤◌, false, ◌==◌, List, [], ◌∷◌, length, drop, slice_index, ap, sym, refl, arith}
use Rattle.std.proofs.lemmas.Bool.Decides.{nat_tests}
use Rattle.std.proofs.lemmas.Grind.{get_or_after_one}
use Rattle.std.proofs.lemmas.List.{get_or-drop}
use Rattle.idl_lexer.specs.Literals.{IsCharacter, plain, letter, octal, hexadecimal, AreCharacters, none, more, IsCharLiteral, IsTextLiteral}
use Rattle.idl_lexer.specs.Readings.{reading, character_octet, octets_before_quote, text_octets}
use Rattle.idl_lexer.proofs.Characters.{IsCharacter-reading, no_character}

pub IsCharLiteral-octet : (text : List ℕ) (n : ℕ) (t : IsCharLiteral text n) → character_octet text ≡ t.value
IsCharLiteral-octet text n t = sym (IsCharacter-reading 39 (drop 1 text) t.inner t.value t.character).1

some_octets : (quote : ℕ) (s : List ℕ) (n v : ℕ) → IsCharacter quote s n v → 0 < n
some_octets quote s n v (plain some here is one) = omega arith
some_octets quote s n v (letter b e is two) = omega arith
some_octets quote s n v (octal m b digits small e) = omega arith
some_octets quote s n v (hexadecimal m b x digits e) = omega arith

no_more_octets : (s : List ℕ) (k : ℕ) (vs : List ℕ) → AreCharacters 34 s k vs → length vs ≤ k
no_more_octets s k vs (none s1) = omega arith
no_more_octets s k vs (more s1 n v m k1 vs1 char nz rest e) =
    let one = some_octets 34 s n v char in
    let others = no_more_octets (drop n s) m vs1 rest in
    omega (arith, one, others, e)

no_quote : (c : ℕ) → c ≢ 34 → (c == 34) ≡ false
no_quote c h = grind (arith, nat_tests)

octets_none : (fuel : ℕ) (s : List ℕ) → slice_index s 0 ≡ 34 → octets_before_quote fuel s ≡ []
octets_none zero s quote = refl
octets_none (suc fuel) s quote = rw quote refl

octets_more : (fuel : ℕ) (s : List ℕ) (n v : ℕ) → IsCharacter 34 s n v
    → octets_before_quote (suc fuel) s ≡ v ∷ octets_before_quote fuel (drop n s)
octets_more fuel s n v char =
    let read = IsCharacter-reading 34 s n v char in
    let here : (slice_index s 0 == 34) ≡ false = no_quote (slice_index s 0) (λ e. no_character s n v e char) in
    rw here (ap (λ w. w ∷ octets_before_quote fuel (drop (reading s).len s)) (sym read.1)
    ∙ ap (λ k. v ∷ octets_before_quote fuel (drop k s)) (sym read.0))

octets_of : (fuel : ℕ) (s : List ℕ) (k : ℕ) (vs : List ℕ) → length vs ≤ fuel → AreCharacters 34 s k vs
    → slice_index s k ≡ 34 → octets_before_quote fuel s ≡ vs
octets_of fuel s k vs le (none s1) closes = octets_none fuel s closes
octets_of zero s k vs le (more s1 n v m k1 vs1 char nz rest e) closes = absurd (omega arith)
octets_of (suc fuel) s k vs le (more s1 n v m k1 vs1 char nz rest e) closes =
    let behind : slice_index (drop n s) m ≡ 34 = get_or-drop n s m 0 ∙ ap (slice_index s) (sym e) ∙ closes in
    octets_more fuel s n v char ∙ ap (λ ws. v ∷ ws) (octets_of fuel (drop n s) m vs1 (omega arith) rest behind)

pub IsTextLiteral-octets : (text : List ℕ) (t : IsTextLiteral text (length text)) → text_octets text ≡ t.octets
IsTextLiteral-octets text t =
    let behind : slice_index (drop 1 text) t.inner ≡ 34 = get_or_after_one text t.inner 0
    ∙ ap (slice_index text) (omega arith) ∙ t.closes in
    let short = no_more_octets (drop 1 text) t.inner t.octets t.characters in
    octets_of (length text) (drop 1 text) t.inner t.octets (omega (arith, short, t.length)) t.characters behind
