use Rattle.std.proofs.Common.{arith, drop, length, length-drop, ◌≤◌, ◌-◌}
use Rattle.idl_lexer.proofs.Inside.{cut_behind}
use Rattle.idl_lexer.proofs.Alone.{HasForm-cut}
use Rattle.idl_lexer.proofs.lexer.token.Goals as goal

pub range-requires-clause-end_boundary : goal.range-requires-clause-end_boundary
range-requires-clause-end_boundary c =
    cut_behind c.args.source.now c.args.start c.args.end c.args.kind _ c.utf8.source c.requires.rises c.requires.within
    c.requires.form

pub invariant_of-result : goal.invariant_of-result
invariant_of-result c =
    let fits : c.args.end - c.args.start ≤ length (drop c.args.start c.args.source.now) =
    omega (arith, length-drop c.args.start c.args.source.now) in
    record {
      form = rw c.range.ensures.value
          (HasForm-cut c.args.kind _ (drop c.args.start c.args.source.now) (c.args.end - c.args.start) (omega arith)
          fits c.requires.form);
    }
