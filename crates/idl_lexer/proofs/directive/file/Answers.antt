use Rattle.std.proofs.Common.{◌≡◌, ◌∙◌, ℕ, ◌+◌, List, drop, slice_index, ap, sym, arith}
use Rattle.idl_lexer.specs.Directives.{none, plain, hidden, IsFile}
use Rattle.idl_lexer.proofs.Files.{at_quote, behind_one, behind_two, not_past, whole_rest, IsRest}
use Rattle.idl_lexer.proofs.directive.file.Goals as goal
use Rattle.idl_lexer.proofs.directive.file.Goals.{then-octets-at-eq92, else-octets-at-eq92}
use Rattle.idl_lexer.proofs.directive.file.Goals.{then-loop-at-test+else-octets-at-ne34, else-loop-at-test}

pub loop-at-init : goal.loop-at-init
loop-at-init c = record { read = none; left = λ rest f. whole_rest c.args.octets.now rest f }

pub loop-at-preserved : goal.loop-at-preserved
loop-at-preserved c =
    elim c.if-octets-at-eq92.branch [
      | then-octets-at-eq92 w ↦ record {
        read = hidden c.loop-at.at _ c.loop-at.invariant.read w.if-octets-at-eq92.true
            (ap (λ k. c.loop-at.at + k) w.at-is);
        left = λ rest f. rw w.at-is
            (behind_two c.args.octets.now f.last c.loop-at.at f.closes w.if-octets-at-eq92.true
            (c.loop-at.invariant.left rest f));
      }
      | else-octets-at-eq92 w ↦ record {
        read = plain c.loop-at.at _ c.loop-at.invariant.read c.if-octets-at-ne34.true w.if-octets-at-eq92.false
            (ap (λ k. c.loop-at.at + k) w.at-is);
        left = λ rest f. rw w.at-is
            (behind_one c.args.octets.now f.last c.loop-at.at f.closes c.if-octets-at-ne34.true
            w.if-octets-at-eq92.false (c.loop-at.invariant.left rest f));
      }
    ]

same_rest : (s rest other : List ℕ) (at : ℕ) → slice_index s at ≡ 34 → rest ≡ drop (at + 1) s → (f : IsFile s other)
    → IsRest s f.last at → other ≡ rest
same_rest s rest other at quote cut f left =
    f.rest ∙ sym (ap (λ k. drop (k + 1) s) (at_quote s f.last at quote left)) ∙ sym cut

pub returns-then-at-octets-clause-one : goal.returns-then-at-octets-clause-one
returns-then-at-octets-clause-one c rest f =
    let quote : slice_index c.args.octets.now c.loop-at.at ≡ 34 = elim c.loop-at-test.branch [
      | then-loop-at-test+else-octets-at-ne34 w ↦ w.if-octets-at-ne34.false
      | else-loop-at-test w ↦ absurd (omega arith)
    ] in
    same_rest c.args.octets.now _ rest c.loop-at.at quote c.split_at.ensures.back f (c.loop-at.invariant.left rest f)

pub returns-else-at-octets-clause-none : goal.returns-else-at-octets-clause-none
returns-else-at-octets-clause-none c rest f =
    not_past c.args.octets.now f.last c.loop-at.at f.closes c.if-at-octets.false (c.loop-at.invariant.left rest f)
