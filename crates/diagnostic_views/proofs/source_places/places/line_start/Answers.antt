use Rattle.std.proofs.Common.{◌≡◌, ◌<◌, ◌∙◌, ap, sym, drop, length, inr, arith}
use Rattle.std.specs.List.{position_or_len}
use Rattle.diagnostic_views.proofs.Feeds.{is_feed, next_line, no_line}
use Rattle.diagnostic_views.proofs.source_places.places.line_start.Goals as goal

pub returns-then-end-left : goal.returns-then-end-left
returns-then-end-left c =
    let rest : c.split_at.result.1.now ≡ drop c.loop-number.start c.args.source.now = c.split_at.ensures.back in
    let end : position_or_len is_feed (drop c.loop-number.start c.args.source.now)
    ≡ length (drop c.loop-number.start c.args.source.now) =
    ap (position_or_len is_feed) (sym rest) ∙ sym c.line_len-end.ensures.value ∙ c.if-end-left.true ∙ ap length rest in
    let counted = no_line c.args.source.now c.loop-number.number c.loop-number.start c.loop-number.invariant.begun end
    in
    let less : c.loop-number.number < c.args.line = c.loop-number-test.true in
    inr (omega arith)

pub loop-number-preserved : goal.loop-number-preserved
loop-number-preserved c =
    let rest : c.split_at.result.1.now ≡ drop c.loop-number.start c.args.source.now = c.split_at.ensures.back in
    let end : c.line_len-end.result ≡ position_or_len is_feed (drop c.loop-number.start c.args.source.now) =
    c.line_len-end.ensures.value ∙ ap (position_or_len is_feed) rest in
    let size = ap length rest in
    let within = c.line_len-end.ensures.within in
    let apart = c.if-end-left.false in
    let ends : position_or_len is_feed (drop c.loop-number.start c.args.source.now) < length
    (drop c.loop-number.start c.args.source.now) = omega arith in
    let less : c.loop-number.number < c.args.line = c.loop-number-test.true in
    record {
      begun = rw end (next_line c.args.source.now c.loop-number.number c.loop-number.start c.loop-number.invariant.begun
          ends);
      within = omega arith;
    }
