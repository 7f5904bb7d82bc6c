use Rattle.std.proofs.lemmas.Result.{err_from_is_err_and}
use Rattle.type_model.specs.declared.signatures.Interface.{Interface}
use Rattle.table_file.specs.inner.PartCodes.{interface_fields, spelled_interface_fields}
use Rattle.table_file.proofs.ReadLaws.{via_fails, via_reads}
use Rattle.table_file.proofs.signatures.InterfacePart.read.Goals as goal

pub returns-in_err-name : goal.returns-in_err-name
returns-in_err-name c =
    let p = err_from_is_err_and c.from_residual.result c.from_residual.ensures.1 in
    rw (p.1, p.2) (via_fails spelled_interface_fields interface_fields _ _ _ c.in_err-name.ensures)

pub returns : goal.returns
returns c =
    let x : Interface = record {
      name = c.in_ok-name.name;
      id = c.in_ok-name.id;
      bases =
          c.in_ok-name.bases;
      operations = c.in_ok-name.operations;
    } in
    via_reads spelled_interface_fields interface_fields x _ _ c.in_ok-name.ensures
