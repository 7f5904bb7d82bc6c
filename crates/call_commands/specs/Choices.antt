-- Which operation a word names for an object: one of a table's, or one that every object has (ISO/IEC 19500-1, Object
-- Reference Operations; ISO/IEC 19500-2, GIOP message formats: operation).
use Rattle.std.specs.Prelude.{ℕ, Bool, false, if◌then◌else◌, List, [], Option, Some, None, option_map, slice_get, codes}
use Rattle.std.specs.Str.{bytes_eq}
use Rattle.type_model.specs.declared.signatures.Operation.{Operation}
use Rattle.type_model.specs.ModelRules.{Parts}
use Rattle.giop_types.specs.GiopModel.{giop_model}
use Rattle.giop_types.specs.GiopNodes.{boolean_result_node, id_argument_node}
use Rattle.type_model.specs.Operations.{operation_of}
use Rattle.command_texts.specs.Bodies.{Labels}
use Rattle.call_commands.specs.declared.choice.Choice.{Choice as Chosen}

-- an operation, with the types of its frames, the names of their parts, and the name that a request carries
pub record Choice : Type 0 where
  pub model : Parts
  pub labels : Labels
  pub name : List ℕ
  pub request : ℕ
  pub reply : ℕ
  pub exceptions : List ℕ
  pub oneway : Bool

abbrev pub choice_of : Chosen → Choice
choice_of choice = record {
  model = choice.table.now.model;
  labels = choice.names.now;
  name = choice.name.now;
  request = choice.request;
  reply = choice.reply;
  exceptions = choice.exceptions.now;
  oneway = choice.oneway;
}

abbrev pub of_operation : Parts → Labels → Operation → Choice
of_operation model labels operation = record {
  model = model;
  labels = labels;
  name = operation.name;
  request = operation.request;
  reply = operation.reply;
  exceptions = operation.exceptions;
  oneway = operation.oneway;
}

-- the operation of a number
abbrev pub of_table : Parts → Labels → ℕ → Option Choice
of_table model labels number = option_map (of_operation model labels) (slice_get model.operations number)

-- one that every object has, which answers with a boolean
abbrev pub own_as : List ℕ → ℕ → Choice
own_as name request = record {
  model = giop_model;
  labels = [];
  name = name;
  request = request;
  reply = boolean_result_node;
  exceptions = [];
  oneway = false;
}

-- `_is_a` of a repository id, and `_non_existent`, whose arguments are the empty frame (28)
abbrev pub own : List ℕ → Option Choice
own word =
    if bytes_eq word (codes "_is_a") then Some (own_as (codes "_is_a") id_argument_node)
    else if bytes_eq word (codes "_non_existent") then Some (own_as (codes "_non_existent") 28)
    else None

-- by whether the table has one
abbrev pub chosen_at : Option ℕ → Parts → Labels → List ℕ → Option Choice
chosen_at (Some number) model labels word = of_table model labels number
chosen_at None model labels word = own word

-- for an object whose reference has the id
abbrev pub chosen : Parts → Labels → List ℕ → List ℕ → Option Choice
chosen model labels id word = chosen_at (operation_of model id word) model labels word
