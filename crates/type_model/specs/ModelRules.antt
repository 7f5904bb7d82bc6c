-- What makes a graph, names, interfaces, operations and exceptions a model.
use Rattle.std.specs.Prelude.{◌≡◌, ℕ, ◌<◌, List, length, slice_get, IsSomeAnd, All, Some}
use Rattle.type_graph.specs.declared.node.Node.{Node}
use Rattle.type_graph.specs.declared.node.Node.TheVariants.{Text, Frame}
use Rattle.type_model.specs.declared.signatures.Interface.{Interface}
use Rattle.type_model.specs.declared.signatures.Operation.{Operation}
use Rattle.type_model.specs.declared.signatures.Exception.{Exception}
use Rattle.type_graph.specs.GraphRules.{IsGraph}
use Rattle.type_model.specs.Names.{AreNames, IsNamed}

-- the parts of a model
pub record Parts : Type 0 where
  pub graph : List Node
  pub names : List (List ℕ × ℕ)
  pub interfaces : List Interface
  pub operations : List Operation
  pub exceptions : List Exception

abbrev pub parts_of : List Node → List (List ℕ × ℕ) → List Interface → List Operation → List Exception → Parts
parts_of graph names interfaces operations exceptions = record {
  graph = graph;
  names = names;
  interfaces = interfaces;
  operations = operations;
  exceptions = exceptions;
}

abbrev pub IsFrame : Node → Type 0
IsFrame (Frame members) = Unit {0}
IsFrame node = ⊥

-- the first of the members is the unbounded text
abbrev pub IsIdFirst : List Node → Node → Type 0
IsIdFirst graph (Frame members) = IsSomeAnd (slice_get members 0) (λ number. slice_get graph number ≡ Some (Text 0))
IsIdFirst graph node = ⊥

-- the number is that of a frame that begins with a repository id
pub record BeginsWithId (graph : List Node) (number : ℕ) : Type 0 where
  pub first : IsSomeAnd (slice_get graph number) (IsIdFirst graph)

-- the number is that of a frame that has a name
pub record IsNamedFrame (graph : List Node) (names : List (List ℕ × ℕ)) (number : ℕ) : Type 0 where
  pub frame : IsSomeAnd (slice_get graph number) IsFrame
  pub named : IsNamed names number

-- the operations of an interface are among all operations, of which there are so many
abbrev pub IsInterface : ℕ → Interface → Type 0
IsInterface count interface = All (λ number. number < count) interface.operations

-- its frames are named, and its exceptions are among all exceptions, of which there are so many
pub record IsOperation (graph : List Node) (names : List (List ℕ × ℕ)) (count : ℕ)
    (operation : Operation) : Type 0 where
  pub request : IsNamedFrame graph names operation.request
  pub reply : IsNamedFrame graph names operation.reply
  pub raises : All (λ number. number < count) operation.exceptions

pub record IsException (graph : List Node) (names : List (List ℕ × ℕ)) (exception : Exception) : Type 0 where
  pub frame : IsNamedFrame graph names exception.frame
  pub id : BeginsWithId graph exception.frame

-- what the interfaces, operations and exceptions over a graph with names keep
pub record AreDeclared (graph : List Node) (names : List (List ℕ × ℕ))
    (interfaces : List Interface) (operations : List Operation) (exceptions : List Exception) : Type 0 where
  pub each_interface : All (IsInterface (length operations)) interfaces
  pub each_operation : All (IsOperation graph names (length exceptions)) operations
  pub each_exception : All (IsException graph names) exceptions

-- The rules of a model.
pub record IsModel (parts : Parts) : Type 0 where
  pub graph : IsGraph parts.graph
  pub names : AreNames (length parts.graph) parts.names
  pub declared : AreDeclared parts.graph parts.names parts.interfaces parts.operations parts.exceptions
