use Rattle.std.proofs.Common.{◌≡◌, ◌∙◌, ℕ, ◌+◌, ◌<◌, Bool, ◌&&◌, List, true, false, cond, drop, length, slice_index, ap, sym, refl, arith}
use Rattle.std.specs.Char.{is_ascii_digit}
use Rattle.std.proofs.lemmas.List.{drop_more}
use Rattle.idl_lexer.specs.Octets.{is_blank}
use Rattle.idl_lexer.specs.Directives.{version_place}
use Rattle.idl_lexer.proofs.directive.version_at.Goals as goal
use Rattle.idl_lexer.proofs.directive.version_at.Goals.{else-blank-via-then-blank+else-begins_with_digit, else-blank-via-else-blank}

-- a step from a place of whose octet and of the next one it is known that they don't begin a version
passed : (s : List ℕ) (at : ℕ) → at < length s → version_place s ≡ at + version_place (drop at s)
    → (is_blank (slice_index s at) && is_ascii_digit (slice_index (drop (at + 1) s) 0)) ≡ false
    → version_place s ≡ at + 1 + version_place (drop (at + 1) s)
passed s at lt place fails =
    let there : version_place s ≡ at + (1 + version_place (drop (at + 1) s)) =
    place ∙ ap (λ t. at + version_place t) (drop_more s at 0 lt)
    ∙ ap (λ b. at + cond b 1 (1 + version_place (drop (at + 1) s))) fails in
    omega (arith, there)

first_fails : (a b : Bool) → a ≡ false → (a && b) ≡ false
first_fails a b h = ap (λ x. x && b) h

second_fails : (a b : Bool) → b ≡ false → (a && b) ≡ false
second_fails true b h = h
second_fails false b h = refl

pub loop-at-preserved : goal.loop-at-preserved
loop-at-preserved c = record {
  within = omega arith;
  place = elim c.else-blank.branch [
    | else-blank-via-then-blank+else-begins_with_digit w ↦
        passed c.args.octets.now c.loop-at.at c.loop-at-test.true c.loop-at.invariant.place
        (second_fails (is_blank (slice_index c.args.octets.now c.loop-at.at))
        (is_ascii_digit (slice_index (drop (c.loop-at.at + 1) c.args.octets.now) 0))
        (rw (← w.split_at.ensures.back) (sym w.begins_with_digit.ensures ∙ w.if-begins_with_digit.false)))
    | else-blank-via-else-blank w ↦
        passed c.args.octets.now c.loop-at.at c.loop-at-test.true c.loop-at.invariant.place
        (first_fails (is_blank (slice_index c.args.octets.now c.loop-at.at))
        (is_ascii_digit (slice_index (drop (c.loop-at.at + 1) c.args.octets.now) 0))
        (sym c.is_blank_octet-blank.ensures ∙ w.if-blank.false))
  ];
}
