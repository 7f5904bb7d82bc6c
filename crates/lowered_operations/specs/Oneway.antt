-- Which operations may be oneway (ISO/IEC 19500-1, operation declaration).
use Rattle.std.specs.Option.{option_or}
use Rattle.std.specs.Prelude.{Bool, true, false, if◌then◌else◌, List, [], ◌∷◌, Option, Some, None, Result, Ok, Err}
use Rattle.idl_tree.specs.declared.definitions.Direction.{Direction}
use Rattle.idl_tree.specs.declared.names.Listed.{Listed}
use Rattle.idl_tree.specs.declared.names.ScopedName.{ScopedName}
use Rattle.idl_tree.specs.declared.types.ParamType.{ParamType}
use Rattle.idl_tree.specs.declared.definitions.Direction.TheVariants.{In, Out, InOut}
use Rattle.idl_tree.specs.declared.definitions.Param.{Param}
use Rattle.idl_tree.specs.declared.definitions.Operation.{Operation}
use Rattle.idl_tree.specs.Lists.{parts}
use Rattle.idl_tree.specs.Starts.{leaf_at}
use Rattle.lowered_types.specs.declared.fault.FirstAnswer.{FirstAnswer}
use Rattle.lowered_types.specs.declared.fault.FirstAnswer.TheVariants.{Parameter, Exceptions, Result as ResultAnswer}
use Rattle.lowered_types.specs.declared.fault.BuildFault.{BuildFault}
use Rattle.lowered_types.specs.declared.fault.BuildFault.TheVariants.{Types}
use Rattle.lowered_types.specs.declared.fault.TypeFault.TheVariants.{BadOneway}

-- the parts of a list that may be absent
abbrev pub parts_of : {T : Type 0} → Option (Listed T) → List T
parts_of None = []
parts_of (Some l) = parts l

abbrev pub is_in : Direction → Bool
is_in In = true
is_in Out = false
is_in InOut = false

-- ---- what an operation answers, in the order of reading

abbrev pub result_answer : Option ParamType → Option FirstAnswer
result_answer None = None
result_answer (Some t) = Some ResultAnswer

-- the first parameter that isn't an `in` one
abbrev pub param_answer : List Param → Option FirstAnswer
param_answer [] = None
param_answer (p ∷ ps) = (if is_in p.direction then param_answer ps else Some (Parameter (leaf_at p.identifier)))

abbrev pub raises_answer : Option (Listed ScopedName) → Option FirstAnswer
raises_answer None = None
raises_answer (Some names) = Some Exceptions

-- the first of these, if it answers anything
abbrev pub answer_of : Operation → Option FirstAnswer
answer_of o =
    option_or (result_answer o.result_type) (option_or (param_answer (parts_of o.params)) (raises_answer o.raises))

abbrev pub answer_test : Operation → Option FirstAnswer → Result (Unit {0}) BuildFault
answer_test o None = Ok tt
answer_test o (Some answer) = Err (Types (BadOneway (leaf_at o.identifier) answer))

-- only an operation that answers nothing is oneway
abbrev pub oneway_test : Operation → Result (Unit {0}) BuildFault
oneway_test o = (if o.is_oneway then answer_test o (answer_of o) else Ok tt)
