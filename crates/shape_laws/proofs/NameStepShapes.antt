-- When what two steps ask of names is alike: the shapes of what they name are.
use Rattle.std.proofs.Common.{◌≡◌, List, [], ◌∷◌, ◌++◌, map, refl, sym, ap₂, ◌∙◌}
use Rattle.std.proofs.lemmas.List.{map-append}
use Rattle.std.specs.List.{flat_map}
use Rattle.idl_tree.specs.Lists.{parts}
use Rattle.idl_tree.specs.declared.names.Listed.{Listed}
use Rattle.idl_tree.specs.declared.kinds.EntryKind.{EntryKind}
use Rattle.name_steps.specs.Steps.{Step}
use Rattle.name_steps.specs.Steps as Told
use Rattle.idl_tree.specs.Shapes.{Shape, leaf_shape, list_shape, listed_shape, name_shape, expr_shape}
use Rattle.idl_tree.specs.TypeShapes.{type_shape, declarator_shape}
use Rattle.idl_tree.specs.DefinitionShapes.{const_shape}

-- a step, of which each part is its shape
pub data StepShape : Type 0 where
  Declares : EntryKind → Shape → StepShape
  DeclaresEnum : Shape → StepShape
  DeclaresEnumerator : Shape → StepShape
  DeclaresTypedef : Shape → Shape → StepShape
  IsNew : Shape → StepShape
  DeclaresConst : Shape → StepShape
  DeclaresFeature : EntryKind → Shape → StepShape
  HasMember : Shape → StepShape
  IsUndefined : Shape → StepShape
  HasBase : Shape → Shape → StepShape
  Enters : Shape → StepShape
  Defines : Shape → StepShape
  Leaves : StepShape
  NamesType : Shape → StepShape
  NamesException : Shape → StepShape
  HasWorth : Shape → StepShape
  IsSize : Shape → StepShape
  Says : Shape → StepShape

abbrev pub step_shape : Step → StepShape
step_shape (Told.Declares kind l) = Declares kind (leaf_shape l)
step_shape (Told.DeclaresEnum l) = DeclaresEnum (leaf_shape l)
step_shape (Told.DeclaresEnumerator l) = DeclaresEnumerator (leaf_shape l)
step_shape (Told.DeclaresTypedef t d) = DeclaresTypedef (type_shape t) (declarator_shape d)
step_shape (Told.IsNew l) = IsNew (leaf_shape l)
step_shape (Told.DeclaresConst c) = DeclaresConst (const_shape c)
step_shape (Told.DeclaresFeature kind l) = DeclaresFeature kind (leaf_shape l)
step_shape (Told.HasMember l) = HasMember (leaf_shape l)
step_shape (Told.IsUndefined l) = IsUndefined (leaf_shape l)
step_shape (Told.HasBase l name) = HasBase (leaf_shape l) (name_shape name)
step_shape (Told.Enters l) = Enters (leaf_shape l)
step_shape (Told.Defines l) = Defines (leaf_shape l)
step_shape Told.Leaves = Leaves
step_shape (Told.NamesType name) = NamesType (name_shape name)
step_shape (Told.NamesException name) = NamesException (name_shape name)
step_shape (Told.HasWorth e) = HasWorth (expr_shape e)
step_shape (Told.IsSize e) = IsSize (expr_shape e)
step_shape (Told.Says l) = Says (leaf_shape l)

-- lists of steps of one shape
pub record Alike (a b : List Step) : Type 0 where
  pub by : map step_shape a ≡ map step_shape b

pub none : Alike [] []
none = record { by = refl }

pub led : (s t : Step) {a b : List Step} → step_shape s ≡ step_shape t → Alike a b → Alike (s ∷ a) (t ∷ b)
led s t h k = record { by = ap₂ (λ x xs. x ∷ xs) h k.by }

pub single : (s t : Step) → step_shape s ≡ step_shape t → Alike (s ∷ []) (t ∷ [])
single s t h = led s t h none

pub joined : {a b c d : List Step} → Alike a b → Alike c d → Alike (a ++ c) (b ++ d)
joined {a = a} {b = b} {c = c} {d = d} h k = record {
  by = map-append step_shape a c ∙ ap₂ (λ x y. x ++ y) h.by k.by ∙ sym (map-append step_shape b d);
}

-- ---- the steps of lists of parts

-- where parts of one shape have steps of one shape
abbrev pub Keeps : {T : Type 0} → (T → Shape) → (T → List Step) → (T → List Step) → Type 0
Keeps {T = T} part f g = (x y : T) → part x ≡ part y → Alike (f x) (g y)

pub flat_alike : {T : Type 0} (part : T → Shape) (f g : T → List Step) → Keeps part f g
    → (xs ys : List T) → list_shape part xs ≡ list_shape part ys → Alike (flat_map f xs) (flat_map g ys)
flat_alike part f g same [] [] h = none
flat_alike part f g same (x ∷ xs) (y ∷ ys) h = joined (same x y cc) (flat_alike part f g same xs ys cc)
flat_alike part f g same xs ys h = absurd cc

pub flat_parts : {T : Type 0} (part : T → Shape) (f g : T → List Step) → Keeps part f g
    → (a b : Listed T) → listed_shape part a ≡ listed_shape part b → Alike (flat_map f (parts a)) (flat_map g (parts b))
flat_parts part f g same a b h = flat_alike part f g same (parts a) (parts b) cc

-- one step of each part
pub map_alike : {T : Type 0} (part : T → Shape) (f g : T → Step)
    → ((x y : T) → part x ≡ part y → step_shape (f x) ≡ step_shape (g y))
    → (xs ys : List T) → list_shape part xs ≡ list_shape part ys → Alike (map f xs) (map g ys)
map_alike part f g same [] [] h = none
map_alike part f g same (x ∷ xs) (y ∷ ys) h = led (f x) (g y) (same x y cc) (map_alike part f g same xs ys cc)
map_alike part f g same xs ys h = absurd cc

pub map_parts : {T : Type 0} (part : T → Shape) (f g : T → Step)
    → ((x y : T) → part x ≡ part y → step_shape (f x) ≡ step_shape (g y))
    → (a b : Listed T) → listed_shape part a ≡ listed_shape part b → Alike (map f (parts a)) (map g (parts b))
map_parts part f g same a b h = map_alike part f g same (parts a) (parts b) cc
