use Rattle.std.proofs.Common.{List, sym, ap, ◌∙◌}
use Rattle.table_file.specs.Table.{TableParts}
use Rattle.type_model.specs.declared.signatures.Interface.{Interface}
use Rattle.type_model.specs.ModelRules.{Parts}
use Rattle.command_words.specs.Requests.{reference_parts_of}
use Rattle.command_tables.specs.References.{interface_named}
use Rattle.command_tables.proofs.References.{refused}
use Rattle.command_tables.proofs.reference.reference_line.Goals as goal

pub returns-in-Err-clause-refused : goal.returns-in-Err-clause-refused
returns-in-Err-clause-refused c =
    let interfaces = c.interfaces.ensures.value ∙ ap (λ (m : Parts). m.interfaces) (c.model.ensures.value
    ∙ ap (λ (t : TableParts). t.model) c.table.ensures.value) in
    refused c.args.table.now.model (reference_parts_of c.args.wanted.now) c.in-Some.key.now c.in-Some.name.now
    c.as_str-id.result.now
    c.in-Some-interface_named.interface.now c.in-Err.fault c.from.result c.from.ensures c.in-Some.ensures.found
    (ap (λ (l : List Interface). interface_named c.in-Some.name.now l) (sym interfaces)
    ∙ sym c.in-Some-interface_named.ensures)
    c.as_str-id.ensures c.in-Err.ensures.refused
