-- The parts of an object that are there so far: beside the list of the values stands one of their texts.
use Rattle.std.specs.Prelude.{ℕ, List, [], ◌∷◌, Option, Some, None}

module _ {X T : Type 0} (Says : ℕ → X → T → Type 0) where
  -- a part of this number and its text, or neither
  abbrev pub IsSlot : ℕ → Option X → Option T → Type 0
  IsSlot number None None = Unit {0}
  IsSlot number (Some value) (Some text) = Says number value text
  IsSlot number slot text = ⊥

  -- one for each number
  abbrev pub AreSlots : List ℕ → List (Option X) → List (Option T) → Type 0
  AreSlots [] [] [] = Unit {0}
  AreSlots (number ∷ numbers) (slot ∷ slots) (text ∷ texts) = IsSlot number slot text × AreSlots numbers slots texts
  AreSlots numbers slots texts = ⊥

  -- every part is there
  abbrev pub AreParts : List ℕ → List X → List T → Type 0
  AreParts [] [] [] = Unit {0}
  AreParts (number ∷ numbers) (value ∷ values) (text ∷ texts) = Says number value text × AreParts numbers values texts
  AreParts numbers values texts = ⊥

-- the names and texts of those that are there
abbrev pub given : {T : Type 0} → List (List ℕ) → List (Option T) → List (List ℕ × T)
given (label ∷ labels) (Some text ∷ texts) = (label, text) ∷ given labels texts
given (label ∷ labels) (None ∷ texts) = given labels texts
given labels texts = []
