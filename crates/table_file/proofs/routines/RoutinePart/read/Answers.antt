use Rattle.std.proofs.lemmas.Result.{err_from_is_err_and}
use Rattle.marshal_program.specs.declared.instr.Routine.{Routine}
use Rattle.table_file.specs.inner.PartCodes.{routine_fields, spelled_routine_fields}
use Rattle.table_file.proofs.ReadLaws.{via_fails, via_reads}
use Rattle.table_file.proofs.routines.RoutinePart.read.Goals as goal

pub returns-in_err-node : goal.returns-in_err-node
returns-in_err-node c =
    let p = err_from_is_err_and c.from_residual.result c.from_residual.ensures.1 in
    rw (p.1, p.2) (via_fails spelled_routine_fields routine_fields _ _ _ c.in_err-node.ensures)

pub returns : goal.returns
returns c =
    let x : Routine = record {
      node = c.in_ok-node.node;
      entry = c.in_ok-node.entry;
      exits = c.in_ok-node.exits;
      rank =
          c.in_ok-node.rank;
      code = c.in_ok-node.code;
    } in
    via_reads spelled_routine_fields routine_fields x _ _ c.in_ok-node.ensures
