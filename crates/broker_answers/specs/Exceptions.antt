-- The system exceptions that are raised here (ISO/IEC 19500-1, standard exceptions).
use Rattle.std.specs.Prelude.{ℕ, pos, List, ◌++◌, codes}
use Rattle.type_graph.specs.declared.width.Width.TheVariants.{Four}
use Rattle.type_graph.specs.declared.width.Order.TheVariants.{Big}
use Rattle.type_graph.specs.Words.{word}
use Rattle.giop_types.specs.TapeParts.{counted}
use Rattle.broker_answers.specs.declared.exception.BrokerException.{BrokerException}
use Rattle.broker_answers.specs.declared.exception.BrokerException.TheVariants.{ObjectNotExist, BadOperation, Marshal, NoImplement, Unknown, Internal}

abbrev pub exception_id : BrokerException → List ℕ
exception_id ObjectNotExist = codes "IDL:omg.org/CORBA/OBJECT_NOT_EXIST:1.0"
exception_id BadOperation = codes "IDL:omg.org/CORBA/BAD_OPERATION:1.0"
exception_id Marshal = codes "IDL:omg.org/CORBA/MARSHAL:1.0"
exception_id NoImplement = codes "IDL:omg.org/CORBA/NO_IMPLEMENT:1.0"
exception_id Unknown = codes "IDL:omg.org/CORBA/UNKNOWN:1.0"
exception_id Internal = codes "IDL:omg.org/CORBA/INTERNAL:1.0"

-- 1 that the operation wasn't called, 2 that it may have been (completion_status)
abbrev pub completion : BrokerException → ℕ
completion ObjectNotExist = 1
completion BadOperation = 1
completion Marshal = 1
completion NoImplement = 1
completion Unknown = 2
completion Internal = 2

-- the tape of its body, whose minor code is 0 (own)
abbrev pub exception_tape : BrokerException → List ℕ
exception_tape exception =
    (counted (exception_id exception) ++ word Big Four (pos 0)) ++ word Big Four (pos (completion exception))
