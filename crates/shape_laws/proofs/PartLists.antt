-- What is made of lists part by part: of lists of one shape it is the same, where it is of parts of one shape.
use Rattle.std.proofs.Common.{◌≡◌, [], ◌∷◌, Option, Some, None, Result, refl}
use Rattle.idl_tree.specs.declared.names.Listed.{Listed}
use Rattle.scoped_names.specs.Reading.{◌>>◌}
use Rattle.lowered_types.specs.declared.fault.BuildFault.{BuildFault}
use Rattle.lowered_types.specs.Faults.{each}
use Rattle.lowered_operations.specs.Oneway.{parts_of}
use Rattle.idl_tree.specs.Shapes.{Shape, optional_shape, list_shape, listed_shape}

-- what is said of parts of one shape is the same
abbrev pub Same : {T S : Type 0} → (T → Shape) → (T → S) → (T → S) → Type 0
Same {T = T} part f g = (x y : T) → part x ≡ part y → f x ≡ g y

-- one part behind another
pub each_same : {S T : Type 0} (part : T → Shape) (f g : S → T → Result S BuildFault)
    → ((s : S) → Same part (f s) (g s))
    → (s : S) → Same (list_shape part) (each f s) (each g s)
each_same part f g one s [] [] h = refl
each_same part f g one s (x ∷ xs) (y ∷ ys) h =
    let first : part x ≡ part y = cc in
    let rest : list_shape part xs ≡ list_shape part ys = cc in
    λ i. one s x y first i >> λ next. each_same part f g one next xs ys rest i
each_same part f g one s xs ys h = absurd cc

-- lists that may be absent
pub parts_of_shape : {T : Type 0} (part : T → Shape) (a b : Option (Listed T))
    → optional_shape (listed_shape part) a ≡ optional_shape (listed_shape part) b
    → list_shape part (parts_of a) ≡ list_shape part (parts_of b)
parts_of_shape part None None h = refl
parts_of_shape part (Some a) (Some b) h = cc
parts_of_shape part a b h = absurd cc
