-- The ids of system exceptions.
use Rattle.std.proofs.Common.{◌<◌, ◌^◌, length, arith}
use Rattle.broker_answers.specs.declared.exception.BrokerException.{BrokerException}
use Rattle.broker_answers.specs.declared.exception.BrokerException.TheVariants.{ObjectNotExist, BadOperation, Marshal, NoImplement, Unknown, Internal}
use Rattle.broker_answers.specs.Exceptions.{exception_id}

pub id_is_short : (e : BrokerException) → length (exception_id e) < 2 ^ 32
id_is_short ObjectNotExist = omega arith
id_is_short BadOperation = omega arith
id_is_short Marshal = omega arith
id_is_short NoImplement = omega arith
id_is_short Unknown = omega arith
id_is_short Internal = omega arith
