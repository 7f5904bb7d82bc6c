use Rattle.std.proofs.Common.{◌≡◌, ◌≢◌, ◌∙◌, ℕ, ◌≤◌, false, List, [], ◌∷◌, ◌++◌, ◌==◌, append_assoc, drop, length, take, slice_index, ap, subst, sym, refl, arith}
use Rattle.std.proofs.Math.Logic.{∥∥₁_elim, ∥∥₁_map}
use Rattle.std.proofs.lemmas.Bool.{eqb-true}
use Rattle.std.proofs.lemmas.Bool.Decides.{nat_tests}
use Rattle.std.proofs.lemmas.List.{append-nil, length-take, take-append-le, take_all}
use Rattle.idl_lexer.specs.Literals.{ClosedCharacters, IsCharacter}
use Rattle.idl_lexer.proofs.Characters.{ClosedCharacters-end, ClosedCharacters-step, Step-at}
use Rattle.idl_lexer.proofs.values.push_characters.Goals as goal

no_quote : (c : ℕ) → (c == 34) ≡ false → c ≢ 34
no_quote c h = grind (arith, nat_tests)

pub loop-rest-init : goal.loop-rest-init
loop-rest-init c = record { closed = c.requires; said = λ text. (text, refl); kept = take_all _ _ (omega arith) }

pub unreachable-requires : goal.unreachable-requires
unreachable-requires c =
    let other = no_quote (slice_index c.loop-rest.rest.now 0) (sym c.begins_with_quote.ensures ∙ c.loop-rest-test.true)
    in
    ∥∥₁_elim c.loop-rest.invariant.closed (λ x y. absurd x) (λ closed.
    let step = ClosedCharacters-step c.loop-rest.rest.now other closed in
    let no = c.in-Err.ensures.complete step.len step.value step.character in cc)

-- one step further
closed_next : (s rest : List ℕ) (len value : ℕ) → slice_index s 0 ≢ 34 → rest ≡ drop len s → IsCharacter 34 s len value
    → ClosedCharacters s → ClosedCharacters rest
closed_next s rest len value other cut char closed =
    rw cut (Step-at s closed.octets len value (ClosedCharacters-step s other closed) char).0

said_next : (s rest out out2 whole : List ℕ) (len value : ℕ) → slice_index s 0 ≢ 34 → rest ≡ drop len s
    → IsCharacter 34 s len value → out2 ≡ out ++ value ∷ [] → (left : ClosedCharacters s) → out ++ left.octets ≡ whole
    → (next : ClosedCharacters rest) × (out2 ++ next.octets ≡ whole)
said_next s rest out out2 whole len value other cut char pushed left e =
    let here = Step-at s left.octets len value (ClosedCharacters-step s other left) char in
    let there : (out ++ value ∷ []) ++ here.0.octets ≡ whole = append_assoc out (value ∷ []) here.0.octets
    ∙ ap (λ t. out ++ t) (sym here.1) ∙ e in
    let P : List ℕ → Type 0 = λ r. (next : ClosedCharacters r) × (out2 ++ next.octets ≡ whole) in
    subst P (sym cut) (here.0, ap (λ t. t ++ here.0.octets) pushed ∙ there)

kept_next : (old out out2 : List ℕ) (value : ℕ) → out2 ≡ out ++ value ∷ [] → take (length old) out ≡ old
    → take (length old) out2 ≡ old
kept_next old out out2 value pushed kept =
    let long : length old ≤ length out = omega (arith, length-take (length old) out, ap length kept) in
    ap (take (length old)) pushed ∙ take-append-le (length old) out (value ∷ []) long ∙ kept

pub loop-rest-preserved : goal.loop-rest-preserved
loop-rest-preserved c =
    let other = no_quote (slice_index c.loop-rest.rest.now 0) (sym c.begins_with_quote.ensures ∙ c.loop-rest-test.true)
    in
    record {
      closed = ∥∥₁_map c.loop-rest.invariant.closed
          (λ closed. closed_next c.loop-rest.rest.now _ _ _ other c.split_at.ensures.back c.in-Ok.ensures.form closed);
      said = λ text. let said = c.loop-rest.invariant.said text in
          said_next c.loop-rest.rest.now _ c.loop-rest.out.items _ _ _ _ other c.split_at.ensures.back
          c.in-Ok.ensures.form c.in_ok-push.ensures.items said.0 said.1;
      kept = kept_next _ c.loop-rest.out.items _ _ c.in_ok-push.ensures.items c.loop-rest.invariant.kept;
    }

pub returns-clause-ok : goal.returns-clause-ok
returns-clause-ok c text =
    let at_end = eqb-true (slice_index c.loop-rest.rest.now 0) 34
    (sym c.begins_with_quote.ensures ∙ c.loop-rest-test.false) in
    let said = c.loop-rest.invariant.said text in
    sym (ap (λ t. c.loop-rest.out.items ++ t) (ClosedCharacters-end c.loop-rest.rest.now at_end said.0)
    ∙ append-nil c.loop-rest.out.items) ∙ said.1
