use Rattle.std.proofs.Common.{◌≡◌, sym, Some}
use Rattle.reference_texts.specs.References.{reference_of}
use Rattle.call_commands.specs.Choices.{choice_of, chosen}
use Rattle.call_commands.proofs.Endings.{text_called}
use Rattle.call_commands.proofs.command.call_text.Goals as goal

pub returns-in-Some : goal.returns-in-Some
returns-in-Some g c =
    let chosen_is : chosen c.args.types.now.table.now.model c.args.types.now.names.now (reference_of c.args.ior).type_id
    c.args.ask.now.operation.now
    ≡ Some (choice_of c.in-Some.choice) =
    rw (sym c.as_slice-id.ensures.value, sym c.as_bytes-word.ensures.value) (sym c.in-Some.ensures.is) in
    text_called _ _ _ _ _ _ _ c.args.types.now c.called.result chosen_is c.called.ensures
