-- The operations, exceptions and interfaces of a specification's model.
use Rattle.std.specs.Prelude.{ℕ, suc, ◌+◌, List, [], ◌∷◌, map, Option, Some, None}
use Rattle.type_model.specs.declared.signatures.Interface.{Interface}
use Rattle.type_model.specs.declared.signatures.Operation.{Operation}
use Rattle.type_model.specs.declared.signatures.Exception.{Exception}
use Rattle.name_table.specs.Entry.{Entry}
use Rattle.scoped_names.specs.RepositoryIds.{repository_id}
use Rattle.scoped_names.specs.FileNames.{FileNames}
use Rattle.lowered_operations.specs.declared.signature.Signature.{Signature}
use Rattle.lowered_operations.specs.declared.signature.Offered.{Offered}
use Rattle.model_builder.specs.Naming.{mark_of, marked, name_of}

-- the reply's frame comes behind that of the request
abbrev pub operation_of : List Entry → Signature → Operation
operation_of es s = record {
  name = marked es (mark_of s.role) s.entry;
  oneway = s.is_oneway;
  request = s.request;
  reply = s.request + 1;
  exceptions = s.raises;
}

abbrev pub id_of : FileNames → ℕ → List ℕ
id_of names e = repository_id names.entries names.rules e

-- an exception by its entry and its frame
abbrev pub exception_of : FileNames → ℕ × ℕ → Exception
exception_of names x = record { name = name_of names.entries x.0; id = id_of names x.0; frame = x.1 }

abbrev pub interface_of : FileNames → ℕ → Offered → Interface
interface_of names e o = record {
  name = name_of names.entries e;
  id = id_of names e;
  bases = map (id_of names) o.bases;
  operations = o.operations;
}

-- of each entry from this one on the interface that it is, if it is a defined one
abbrev pub interfaces_from : FileNames → ℕ → List (Option Offered) → List Interface
interfaces_from names e [] = []
interfaces_from names e (None ∷ rest) = interfaces_from names (suc e) rest
interfaces_from names e (Some o ∷ rest) = interface_of names e o ∷ interfaces_from names (suc e) rest
