use Rattle.std.proofs.lemmas.Result.{err_from_is_err_and}
use Rattle.type_model.specs.declared.signatures.Operation.{Operation}
use Rattle.table_file.specs.inner.PartCodes.{operation_fields, spelled_operation_fields}
use Rattle.table_file.proofs.ReadLaws.{via_fails, via_reads}
use Rattle.table_file.proofs.signatures.OperationPart.read.Goals as goal

pub returns-in_err-name : goal.returns-in_err-name
returns-in_err-name c =
    let p = err_from_is_err_and c.from_residual.result c.from_residual.ensures.1 in
    rw (p.1, p.2) (via_fails spelled_operation_fields operation_fields _ _ _ c.in_err-name.ensures)

pub returns : goal.returns
returns c =
    let x : Operation = record {
      name = c.in_ok-name.name;
      oneway = c.in_ok-name.oneway;
      request =
          c.in_ok-name.request;
      reply = c.in_ok-name.reply;
      exceptions = c.in_ok-name.exceptions;
    } in
    via_reads spelled_operation_fields operation_fields x _ _ c.in_ok-name.ensures
