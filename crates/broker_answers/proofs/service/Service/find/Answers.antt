use Rattle.std.proofs.Common.{◌≡◌, ◌∙◌, sym, ap, subst, option_map, refl}
use Rattle.type_model.specs.ModelRules.{Parts}
use Rattle.table_file.specs.Table.{TableParts}
use Rattle.giop_messages.specs.Messages.{asked_of}
use Rattle.broker_answers.specs.Objects.{Served}
use Rattle.broker_answers.specs.Findings.{AsksWhetherGone, Finds, IsFor, IsOwn, IsReading}
use Rattle.broker_answers.specs.inner.FindingSteps.{IsTypeAsked, finding_of}
use Rattle.broker_answers.proofs.Cases.{both_ways, called, if_ok, not_named, not_read, type_found}
use Rattle.broker_answers.proofs.Lookups.{interface_there}
use Rattle.broker_answers.proofs.service.Service.find.Goals as goal

pub unreachable-requires : goal.unreachable-requires
unreachable-requires c =
    interface_there c.args.self.now.model c.args.self.now.objects
    (option_map (λ k. k.items) c.args.request.now.key) c.in-Some.object c.interface_of.ensures.rules
    (sym c.object_with.ensures ∙ c.in-Some.is)
    (sym c.interface_of.ensures.is ∙ ap (option_map (λ i. i.now)) c.in_default-interface_of.is)

pub returns-then-is_called-clause-finds : goal.returns-then-is_called-clause-finds
returns-then-is_called-clause-finds c =
    let served = c.args.self.now in
    let asked = asked_of c.args.request.now in
    let object = c.in-Some.object in
    let interface = c.in-Some-interface_of.interface.now in
    let is_for : IsFor served asked object interface = record {
      object_is = sym c.object_with.ensures ∙ c.in-Some.is;
      interface_is = sym c.interface_of.ensures.is ∙ ap (option_map (λ i. i.now)) c.in-Some-interface_of.is;
    } in
    if_ok c.type_asked.result (λ f. IsTypeAsked interface asked (finding_of f)) (λ f. Finds served asked (finding_of f))
    (λ f h. type_found served asked object interface (finding_of f) is_for
    (c.is_called.ensures.0 c.if-is_called.true) h) c.type_asked.ensures.asked

pub returns-then-is_called-2-clause-finds : goal.returns-then-is_called-2-clause-finds
returns-then-is_called-2-clause-finds c =
    AsksWhetherGone c.in-Some.object c.in-Some-interface_of.interface.now
    (record {
      object_is = sym c.object_with.ensures ∙ c.in-Some.is;
      interface_is = sym c.interface_of.ensures.is ∙ ap (option_map (λ i. i.now)) c.in-Some-interface_of.is;
    }) (c.is_called-2.ensures.0 c.if-is_called-2.true) refl

pub returns-in_default-operation_named-clause-finds : goal.returns-in_default-operation_named-clause-finds
returns-in_default-operation_named-clause-finds c =
    let served = c.args.self.now in
    let asked = asked_of c.args.request.now in
    let object = c.in-Some.object in
    let interface = c.in-Some-interface_of.interface.now in
    let is_for : IsFor served asked object interface = record {
      object_is = sym c.object_with.ensures ∙ c.in-Some.is;
      interface_is = sym c.interface_of.ensures.is ∙ ap (option_map (λ i. i.now)) c.in-Some-interface_of.is;
    } in
    let own : IsOwn asked = record {
      no_is_a = λ e. both_ways c.is_called.result (c.is_called.ensures.1 e) c.if-is_called.false;
      no_non_existent = λ e. both_ways c.is_called-2.result (c.is_called-2.ensures.1 e) c.if-is_called-2.false;
    } in
    let model_is : c.model-model.result.now ≡ served.model =
    c.model-model.ensures.value ∙ ap (λ (t : TableParts). t.model) c.table.ensures.value
    ∙ ap (λ (s : Served). s.model) c.self.view_is in
    not_named served asked object interface c.model-model.result.now c.as_slice-name.result.now is_for own model_is
    c.as_slice-name.ensures.value c.in_default-operation_named.ensures.missing

pub returns-in-Some-2-clause-finds : goal.returns-in-Some-2-clause-finds
returns-in-Some-2-clause-finds c =
    let served = c.args.self.now in
    let asked = asked_of c.args.request.now in
    let object = c.in-Some.object in
    let interface = c.in-Some-interface_of.interface.now in
    let number = c.in-Some-operation_named.number in
    let operation = c.in-Some-operation_named.operation.now in
    let is_for : IsFor served asked object interface = record {
      object_is = sym c.object_with.ensures ∙ c.in-Some.is;
      interface_is = sym c.interface_of.ensures.is ∙ ap (option_map (λ i. i.now)) c.in-Some-interface_of.is;
    } in
    let own : IsOwn asked = record {
      no_is_a = λ e. both_ways c.is_called.result (c.is_called.ensures.1 e) c.if-is_called.false;
      no_non_existent = λ e. both_ways c.is_called-2.result (c.is_called-2.ensures.1 e) c.if-is_called-2.false;
    } in
    let model_is : c.model-model.result.now ≡ served.model =
    c.model-model.ensures.value ∙ ap (λ (t : TableParts). t.model) c.table.ensures.value
    ∙ ap (λ (s : Served). s.model) c.self.view_is in
    let read = subst (λ (s : Served). IsReading s.model.graph asked operation.request
    (option_map (λ t. t.items) c.in_ok-arguments.field-0)) c.self.view_is c.in_ok-arguments.ensures in
    called served asked object number interface operation c.model-model.result.now c.as_slice-name.result.now
    c.in-Some-2.arguments.items is_for own model_is c.as_slice-name.ensures.value
    c.in-Some-operation_named.ensures.found
    (subst (λ tape. IsReading served.model.graph asked operation.request (option_map (λ t. t.items) tape))
    c.in-Some-2.is read)

pub returns-in-None-clause-finds : goal.returns-in-None-clause-finds
returns-in-None-clause-finds c =
    let served = c.args.self.now in
    let asked = asked_of c.args.request.now in
    let object = c.in-Some.object in
    let interface = c.in-Some-interface_of.interface.now in
    let number = c.in-Some-operation_named.number in
    let operation = c.in-Some-operation_named.operation.now in
    let is_for : IsFor served asked object interface = record {
      object_is = sym c.object_with.ensures ∙ c.in-Some.is;
      interface_is = sym c.interface_of.ensures.is ∙ ap (option_map (λ i. i.now)) c.in-Some-interface_of.is;
    } in
    let own : IsOwn asked = record {
      no_is_a = λ e. both_ways c.is_called.result (c.is_called.ensures.1 e) c.if-is_called.false;
      no_non_existent = λ e. both_ways c.is_called-2.result (c.is_called-2.ensures.1 e) c.if-is_called-2.false;
    } in
    let model_is : c.model-model.result.now ≡ served.model =
    c.model-model.ensures.value ∙ ap (λ (t : TableParts). t.model) c.table.ensures.value
    ∙ ap (λ (s : Served). s.model) c.self.view_is in
    let read = subst (λ (s : Served). IsReading s.model.graph asked operation.request
    (option_map (λ t. t.items) c.in_ok-arguments.field-0)) c.self.view_is c.in_ok-arguments.ensures in
    not_read served asked object number interface operation c.model-model.result.now c.as_slice-name.result.now
    is_for own model_is c.as_slice-name.ensures.value c.in-Some-operation_named.ensures.found
    (subst (λ tape. IsReading served.model.graph asked operation.request (option_map (λ t. t.items) tape))
    c.in-None.is read)
