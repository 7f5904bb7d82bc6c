use Rattle.std.proofs.Common.{◌≡◌, ◌∙◌, ◌<◌, length, ap, arith}
use Rattle.scoped_names.proofs.Passed.{left_on}
use Rattle.scoped_names.proofs.reader.Reader.hear_left.Goals as goal

pub loop-number-preserved : goal.loop-number-preserved
loop-number-preserved c =
    let st = c.args.self.now in
    let k = c.loop-number.number in
    let count : c.len-number-end.result ≡ length st.entries = c.len-number-end.ensures.count
    ∙ ap length c.table.ensures in
    let lt : k < length st.entries = omega arith in
    record {
      remains = left_on st c.args.faults.now c.loop-number.faults c.hear_open.new.faults k lt
          c.loop-number.invariant.remains c.in_ok-hear_open.ensures.heard;
      most = c.in_ok-hear_open.ensures.most ∙ c.loop-number.invariant.most;
    }
