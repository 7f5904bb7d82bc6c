-- Ids of exceptions, on the way.
use Rattle.std.specs.Prelude.{◌≡◌, ℕ, List, ◌++◌, None}
use Rattle.type_graph.specs.Words.{reading}
use Rattle.type_graph.specs.Encoding.{Means}
use Rattle.type_model.specs.declared.signatures.Exception.{Exception}
use Rattle.type_model.specs.ModelRules.{Parts}
use Rattle.giop_types.specs.GiopNodes.{giop_nodes, id_argument_node}
use Rattle.giop_messages.specs.Messages.{Answered}
use Rattle.type_model.specs.Exceptions.{exception_with}
use Rattle.command_texts.specs.Outcomes.{BeginsWithId, IsRaised}

-- the body begins with an id that has this tape
pub record IsIdTape (answered : Answered) (tape : List ℕ) : Type 0 where
  pub front : List ℕ
  pub rest : List ℕ
  pub octets_are : answered.body ≡ front ++ rest
  pub means : Means giop_nodes (reading answered.order) 64 id_argument_node answered.body_at tape front

-- the frame of the exception that is raised
pub record IsFrameOfRaised (model : Parts) (exceptions : List ℕ) (answered : Answered) (frame : ℕ) : Type 0 where
  pub exception : Exception
  pub raised : IsRaised model exceptions answered exception
  pub frame_is : frame ≡ exception.frame

-- no exception has the id
pub record IsUnknown (model : Parts) (exceptions : List ℕ) (answered : Answered) : Type 0 where
  pub id : List ℕ
  pub id_is : BeginsWithId answered.order answered.body_at answered.body id
  pub none : exception_with model id exceptions ≡ None
