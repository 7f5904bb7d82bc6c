-- Structures that are object references.
use Rattle.std.proofs.Common.{◌≡◌, ℕ, List, [], ◌∷◌, true, refl}
use Rattle.std.proofs.lemmas.Bool.{false≢true}
use Rattle.type_graph.specs.declared.node.Node.{Node}
use Rattle.type_graph.specs.Value.{Tree, Number, Bytes, Items, Choice, Trees, FitAll}
use Rattle.value_text.specs.Shape.{is_reference}
use Rattle.value_text.specs.Printed.{reference_text}
use Rattle.value_text.specs.Stringified.{Stringifies, FitsObject}
use Rattle.value_text.proofs.Alike.{to_object, from_object}
use Rattle.value_text.proofs.Spelled.{printed_spelled}
use Rattle.value_text.specs.Texts.{refers}

-- they have the shape
pub shaped : (graph : List Node) (labels : List (List ℕ)) (members : List ℕ) → refers graph labels members ≡ true
    → is_reference graph members ≡ true
shaped graph [] members e = e
shaped graph (label ∷ labels) members e = absurd (false≢true e)

-- what is printed of one spells it
pub printed_one : (graph : List Node) (labels : List (List ℕ)) (members : List ℕ) (values : Trees) (depth : ℕ)
    → refers graph labels members ≡ true
    → FitAll graph members values depth → Stringifies (reference_text values) (Items values)
printed_one graph labels members values depth e fits =
    printed_spelled values depth (to_object graph members (shaped graph labels members e) values depth fits)

pub object_fits : (graph : List Node) (labels : List (List ℕ)) (members : List ℕ) (values : Trees) (depth : ℕ)
    → refers graph labels members ≡ true
    → FitsObject (Items values) depth → FitAll graph members values depth
object_fits graph labels members values depth e fits =
    from_object graph members (shaped graph labels members e) values depth fits

pub fits_object : (graph : List Node) (labels : List (List ℕ)) (members : List ℕ) (values : Trees) (depth : ℕ)
    → refers graph labels members ≡ true
    → FitAll graph members values depth → FitsObject (Items values) depth
fits_object graph labels members values depth e fits =
    to_object graph members (shaped graph labels members e) values depth fits

-- it has members
pub object_members : (value : Tree) (depth : ℕ) → FitsObject value depth → (values : Trees) × (value ≡ Items values)
object_members (Items values) depth fits = (values, refl)
object_members (Number n) depth fits = absurd fits
object_members (Bytes text) depth fits = absurd fits
object_members (Choice label values) depth fits = absurd fits
