use Rattle.std.proofs.Common.{◌∙◌, sym, length, All}
use Rattle.std.proofs.lemmas.Bool.{true≢false}
use Rattle.type_model.specs.ModelRules.{IsInterface, IsOperation}
use Rattle.type_model.proofs.model.are_declared.Goals as goal
use Rattle.type_model.proofs.model.are_declared.Goals.{then-are_interfaces, else-are_interfaces}

pub returns-then-are_operations : goal.returns-then-are_operations
returns-then-are_operations c =
    let before : All (IsInterface (length c.args.operations.now)) c.args.interfaces.now
    × All (IsOperation c.args.nodes.now c.args.names.now (length c.args.exceptions.now)) c.args.operations.now =
    elim c.if-are_interfaces.branch [
      | then-are_interfaces w ↦ (
        c.are_interfaces.ensures.0 w.if-are_interfaces.true,
        w.are_operations.ensures.0 (sym w.value-is ∙ c.if-are_operations.true),
      )
      | else-are_interfaces w ↦
          absurd (true≢false (sym c.if-are_operations.true ∙ w.value-is ∙ w.if-are_interfaces.false))
    ] in (
      λ h. record {
        each_interface = before.0;
        each_operation = before.1;
        each_exception =
            c.are_exceptions.ensures.0 h;
      },
      λ h. c.are_exceptions.ensures.1 h.each_exception,
    )
