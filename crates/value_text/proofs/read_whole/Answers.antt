use Rattle.std.proofs.lemmas.Result.{err_from_is_err_and}
use Rattle.json.specs.Reads.{token_of}
use Rattle.idl_value.specs.View.{tree_of}
use Rattle.value_text.proofs.Refusals.{refuses, refuses_weaker, whole_refused, more_behind}
use Rattle.value_text.proofs.read_whole.Goals as goal

pub returns-in_err-value-clause-refused : goal.returns-in_err-value-clause-refused
returns-in_err-value-clause-refused c =
    let p = err_from_is_err_and c.from_residual.result c.from_residual.ensures.1 in
    rw (p.1, p.2) (refuses_weaker _
    (whole_refused c.args.types.now.names.now c.args.types.now.graph.now c.args.node c.args.cursor.now
    (token_of c.next-token.result) c.next-token.new.self c.next-token.ensures)
    c.in_err-value.ensures.refused)

pub returns-in_err-end-clause-refused : goal.returns-in_err-end-clause-refused
returns-in_err-end-clause-refused c =
    let p = err_from_is_err_and c.from_residual-in_err-end.result c.from_residual-in_err-end.ensures.1 in
    rw (p.1, p.2) (refuses _
    (more_behind c.args.types.now.names.now c.args.types.now.graph.now c.args.node c.args.cursor.now
    (token_of c.next-token.result) c.next-token.new.self c.next-token.ensures
    (tree_of c.in_ok-value.value) c.read_value.new.cursor c.in_ok-value.ensures.read c.in_err-end.ensures.refused))
