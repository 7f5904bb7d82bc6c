use Rattle.std.proofs.Common.{◌≡◌, ◌<◌, ℕ, length, Some, slice_get}
use Rattle.type_graph.specs.Walks.{height_of}
use Rattle.type_graph.specs.Heights.{AreKnown}
use Rattle.type_graph.proofs.heights.find_heights.Given as goal

abbrev pub invariant-loop-number : goal.invariant-loop-number
invariant-loop-number l = record {
  known : AreKnown l.graph l.known;
  long : length l.heights.items ≡ l.number;
  told : (place : ℕ) → place < l.number → slice_get l.heights.items place ≡ Some (height_of l.graph place);
}
