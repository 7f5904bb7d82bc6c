use Rattle.std.proofs.Common.{◌≡◌, ◌<◌, ◌+◌, length, length-append, [], ◌∷◌, ap, ◌∙◌, arith}
use Rattle.std.proofs.lemmas.Result.{err_from_is_err_and}
use Rattle.table_file.proofs.ListReads.{next_fails, one_more}
use Rattle.table_file.proofs.lists.read_run.Goals as goal

pub returns-in_err-item : goal.returns-in_err-item
returns-in_err-item g c =
    let p = err_from_is_err_and c.from_residual-in_err-item.result c.from_residual-in_err-item.ensures.1 in
    let long = c.items.invariant.long in
    let test = c.items-test.true in
    let room : length c.items.items.items < c.args.count = omega (arith, long, test) in
    rw (p.1, p.2) (next_fails c.args.count g.T.Part.spelled g.met.T.Part.is_code c.items.items.items
    c.in_err-item.field-0.0 _ _ _ room c.items.invariant.so_far c.in_err-item.ensures)

pub items-preserved : goal.items-preserved
items-preserved g c =
    let long = c.items.invariant.long in
    let test = c.items-test.true in
    let room : length c.items.items.items < c.args.count = omega (arith, long, test) in
    let push = c.in_ok-push.ensures.items in
    let longer : length c.push.new.self.items ≡ length c.items.items.items + 1 =
    ap length push ∙ length-append c.items.items.items (c.in_ok-item.item ∷ []) in
    record {
      long = omega (arith, long, longer);
      so_far = one_more c.args.count g.T.Part.spelled g.met.T.Part.is_code c.items.items.items c.push.new.self.items
          c.in_ok-item.item _ _ _ room push c.items.invariant.so_far c.in_ok-item.ensures;
    }
