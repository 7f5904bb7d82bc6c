use Rattle.std.proofs.Common.{◌≡◌, ◌<◌, ◌+◌, ◌++◌, ◌∷◌, ◌∙◌, ◌&&◌, suc, true, false, [], ap, arith, drop, length, map, subst, sym}
use Rattle.std.proofs.Math.Seq.{drop-cons}
use Rattle.idl_lexer.specs.Tokens.{parts_of}
use Rattle.type_faults.specs.Parts.{is_in_part, is_left_out, seen_as, without}
use Rattle.type_faults.proofs.Leaving.{left_step, mode_room, parts_room}
use Rattle.type_faults.proofs.parts.left_of.Goals as goal
use Rattle.type_faults.proofs.parts.left_of.Goals.{then-is_within, else-is_within}

pub loop-token-preserved : goal.loop-token-preserved
loop-token-preserved c =
    let tokens = c.args.tokens.now in
    let kept = c.args.kept in
    let refused = c.args.refused.now in
    let i = c.loop-token.token-index in
    let s = c.loop-token.scan in
    let t = c.token-item.result in
    let ls = c.loop-token.left.items in
    let x = c.seen_or_pragma.result in
    let rest = drop (i + 1) tokens in
    let lt : i < length tokens = c.loop-token-test.true in
    let behind : suc i ≡ i + 1 = omega arith in
    let split : drop i tokens ≡ t ∷ rest =
    drop-cons tokens i t lt ∙ ap (λ y. y ∷ drop (suc i) tokens) (sym c.token-item.is)
    ∙ ap (λ k. t ∷ drop k tokens) behind in
    let out : c.if-is_within.is_left_out ≡ (is_in_part s.mode (parts_of t) && is_left_out kept refused s.parts) =
    elim c.if-is_within.branch [
      | then-is_within w ↦
          let inside : is_in_part s.mode (parts_of t) ≡ true = sym c.is_within.ensures ∙ w.if-is_within.true in
          rw inside (w.is_left_out-is ∙ w.is_out-is_left_out.ensures)
      | else-is_within w ↦
          let outside : is_in_part s.mode (parts_of t) ≡ false = sym c.is_within.ensures ∙ w.if-is_within.false in
          rw outside (w.is_left_out-is ∙ w.if-is_within.false)
    ] in
    let as_seen : parts_of x ≡ seen_as (is_in_part s.mode (parts_of t) && is_left_out kept refused s.parts)
    (parts_of t) =
    subst (λ b. parts_of x ≡ seen_as b (parts_of t)) out c.seen_or_pragma.ensures in
    let pushed : c.push.new.self.items ≡ ls ++ x ∷ [] = c.in_ok-push.ensures.items in
    record {
      said =
          ap (λ us. map parts_of us ++ without kept refused c.after-scan.result (map parts_of rest)) pushed
          ∙ ap (λ z. map parts_of (ls ++ x ∷ []) ++ without kept refused z (map parts_of rest)) c.after-scan.ensures
          ∙ left_step kept refused s ls t x rest as_seen
          ∙ ap (λ us. map parts_of ls ++ without kept refused s (map parts_of us)) (sym split)
          ∙ c.loop-token.invariant.said;
      depth = rw c.after-scan.ensures (omega (arith, mode_room s.mode (parts_of t), c.loop-token.invariant.depth));
      parts = rw c.after-scan.ensures (omega (arith, parts_room s (parts_of t), c.loop-token.invariant.parts));
    }
