-- What is spelled at the front of octets is one thing alone: the laws of a model, a program and their parts.
use Rattle.std.proofs.Common.{ℕ, Bool, List, Option, refl, arith}
use Rattle.type_model.specs.declared.signatures.Interface.{Interface}
use Rattle.type_model.specs.declared.signatures.Operation.{Operation}
use Rattle.type_model.specs.declared.signatures.Exception.{Exception}
use Rattle.type_model.specs.ModelRules.{Parts}
use Rattle.type_graph.specs.declared.node.Node.{Node}
use Rattle.marshal_program.specs.declared.instr.Instr.{Instr}
use Rattle.marshal_program.specs.declared.instr.Routine.{Routine}
use Rattle.table_file.specs.Octets.{spelled_octet, spelled_word, spelled_flag, spelled_run, spelled_list, spelled_pair, spelled_text}
use Rattle.table_file.specs.Spelling.{spelled_node, spelled_name, spelled_interface, spelled_operation, spelled_exception, spelled_model, spelled_instr, spelled_routine, spelled_program}
use Rattle.table_file.specs.inner.Codes.{IsCode, via_code, pair_code, octet_code, flag_code, word_code}
use Rattle.table_file.specs.inner.ListCodes.{list_code, run_code, text_code}
use Rattle.table_file.specs.inner.NodeCode.{node_code}
use Rattle.table_file.specs.inner.InstrCode.{instr_code}

pub name_code : IsCode spelled_name
name_code = pair_code spelled_text spelled_word text_code word_code

-- an interface as pairs
abbrev pub InterfaceFields : Type 0
InterfaceFields = List ℕ × (List ℕ × (List (List ℕ) × List ℕ))

abbrev pub interface_fields : Interface → InterfaceFields
interface_fields x = (x.name, (x.id, (x.bases, x.operations)))

abbrev pub spelled_interface_fields : InterfaceFields → Option (List ℕ)
spelled_interface_fields =
    spelled_pair spelled_text
    (spelled_pair spelled_text (spelled_pair (spelled_list spelled_text) (spelled_list spelled_word)))

pub interface_code : IsCode spelled_interface
interface_code = via_code spelled_interface_fields interface_fields
    (λ x. record { name = x.0; id = x.1.0; bases = x.1.1.0; operations = x.1.1.1 }) (λ x. refl)
    (pair_code spelled_text
    (spelled_pair spelled_text (spelled_pair (spelled_list spelled_text) (spelled_list spelled_word))) text_code
    (pair_code spelled_text (spelled_pair (spelled_list spelled_text) (spelled_list spelled_word)) text_code
    (pair_code (spelled_list spelled_text) (spelled_list spelled_word) (list_code spelled_text text_code)
    (list_code spelled_word word_code))))

-- an operation as pairs
abbrev pub OperationFields : Type 0
OperationFields = List ℕ × (Bool × (ℕ × (ℕ × List ℕ)))

abbrev pub operation_fields : Operation → OperationFields
operation_fields x = (x.name, (x.oneway, (x.request, (x.reply, x.exceptions))))

abbrev pub spelled_operation_fields : OperationFields → Option (List ℕ)
spelled_operation_fields =
    spelled_pair spelled_text
    (spelled_pair spelled_flag (spelled_pair spelled_word (spelled_pair spelled_word (spelled_list spelled_word))))

pub operation_code : IsCode spelled_operation
operation_code = via_code spelled_operation_fields operation_fields
    (λ x. record { name = x.0; oneway = x.1.0; request = x.1.1.0; reply = x.1.1.1.0; exceptions = x.1.1.1.1 })
    (λ x. refl)
    (pair_code spelled_text
    (spelled_pair spelled_flag
    (spelled_pair spelled_word (spelled_pair spelled_word (spelled_list spelled_word)))) text_code
    (pair_code spelled_flag
    (spelled_pair spelled_word (spelled_pair spelled_word (spelled_list spelled_word))) flag_code
    (pair_code spelled_word (spelled_pair spelled_word (spelled_list spelled_word)) word_code
    (pair_code spelled_word (spelled_list spelled_word) word_code (list_code spelled_word word_code)))))

-- an exception as pairs
abbrev pub ExceptionFields : Type 0
ExceptionFields = List ℕ × (List ℕ × ℕ)

abbrev pub exception_fields : Exception → ExceptionFields
exception_fields x = (x.name, (x.id, x.frame))

abbrev pub spelled_exception_fields : ExceptionFields → Option (List ℕ)
spelled_exception_fields = spelled_pair spelled_text (spelled_pair spelled_text spelled_word)

pub exception_code : IsCode spelled_exception
exception_code = via_code spelled_exception_fields exception_fields
    (λ x. record { name = x.0; id = x.1.0; frame = x.1.1 }) (λ x. refl)
    (pair_code spelled_text (spelled_pair spelled_text spelled_word) text_code
    (pair_code spelled_text spelled_word text_code word_code))

-- a model as pairs
abbrev pub ModelFields : Type 0
ModelFields = List Node × (List (List ℕ × ℕ) × (List Interface × (List Operation × List Exception)))

abbrev pub model_fields : Parts → ModelFields
model_fields x = (x.graph, (x.names, (x.interfaces, (x.operations, x.exceptions))))

abbrev pub spelled_model_fields : ModelFields → Option (List ℕ)
spelled_model_fields = spelled_pair (spelled_list spelled_node) (spelled_pair (spelled_list spelled_name)
    (spelled_pair (spelled_list spelled_interface)
    (spelled_pair (spelled_list spelled_operation) (spelled_list spelled_exception))))

pub model_fields_code : IsCode spelled_model_fields
model_fields_code =
    let operations = spelled_pair (spelled_list spelled_operation) (spelled_list spelled_exception) in
    let interfaces = spelled_pair (spelled_list spelled_interface) operations in
    let names = spelled_pair (spelled_list spelled_name) interfaces in
    pair_code (spelled_list spelled_node) names (list_code spelled_node node_code)
    (pair_code (spelled_list spelled_name) interfaces (list_code spelled_name name_code)
    (pair_code (spelled_list spelled_interface) operations (list_code spelled_interface interface_code)
    (pair_code (spelled_list spelled_operation) (spelled_list spelled_exception)
    (list_code spelled_operation operation_code) (list_code spelled_exception exception_code))))

pub model_code : IsCode spelled_model
model_code = via_code spelled_model_fields model_fields
    (λ x. record {
      graph = x.0;
      names = x.1.0;
      interfaces = x.1.1.0;
      operations = x.1.1.1.0;
      exceptions =
          x.1.1.1.1;
    }) (λ x. refl) model_fields_code

-- a routine as pairs
abbrev pub RoutineFields : Type 0
RoutineFields = ℕ × (ℕ × (List ℕ × (ℕ × List Instr)))

abbrev pub routine_fields : Routine → RoutineFields
routine_fields x = (x.node, (x.entry, (x.exits, (x.rank, x.code))))

abbrev pub spelled_routine_fields : RoutineFields → Option (List ℕ)
spelled_routine_fields =
    spelled_pair spelled_word
    (spelled_pair spelled_octet
    (spelled_pair (spelled_run 8 spelled_octet) (spelled_pair spelled_word (spelled_list spelled_instr))))

pub exits_code : IsCode (spelled_run 8 spelled_octet)
exits_code = run_code 8 spelled_octet (omega arith) octet_code

pub routine_code : IsCode spelled_routine
routine_code =
    let ranked = spelled_pair spelled_word (spelled_list spelled_instr) in
    let exits = spelled_pair (spelled_run 8 spelled_octet) ranked in
    let entry = spelled_pair spelled_octet exits in
    via_code spelled_routine_fields routine_fields
    (λ x. record { node = x.0; entry = x.1.0; exits = x.1.1.0; rank = x.1.1.1.0; code = x.1.1.1.1 }) (λ x. refl)
    (pair_code spelled_word entry word_code
    (pair_code spelled_octet exits octet_code
    (pair_code (spelled_run 8 spelled_octet) ranked exits_code
    (pair_code spelled_word (spelled_list spelled_instr) word_code (list_code spelled_instr instr_code)))))

pub program_code : IsCode spelled_program
program_code = list_code spelled_routine routine_code
