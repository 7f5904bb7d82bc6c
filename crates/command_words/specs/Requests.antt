-- What is asked of a table.
use Rattle.std.specs.Prelude.{ℕ, List}
use Rattle.type_graph.specs.declared.width.Order.{Order}
use Rattle.command_words.specs.declared.requests.reference.ReferenceRequest.{ReferenceRequest}
use Rattle.command_words.specs.declared.requests.value.ValueRequest.{ValueRequest}
use Rattle.command_words.specs.declared.requests.value.Way.{Way}

-- one value to marshal: its tape or octets in hexadecimal, or its text
pub record Ask : Type 0 where
  pub way : Way
  pub name : List ℕ
  pub order : Order
  pub pos : ℕ
  pub input : List ℕ

abbrev pub ask_of : ValueRequest → List ℕ → Ask
ask_of request input = record {
  way = request.way;
  name = request.name.now;
  order = request.order;
  pos = request.pos;
  input = input;
}

-- a reference to print
pub record ReferenceParts : Type 0 where
  pub host : List ℕ
  pub port : ℕ
  pub object : List ℕ

abbrev pub reference_parts_of : ReferenceRequest → ReferenceParts
reference_parts_of wanted = record { host = wanted.host.now; port = wanted.port; object = wanted.object.now }
