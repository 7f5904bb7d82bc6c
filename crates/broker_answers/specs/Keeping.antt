-- A keeper of attributes: what it says to calls, and what it keeps.
use Rattle.std.specs.Prelude.{ℕ, List, [], ◌∷◌, cond, nat_eq, map, slice_index_or, slice_set}
use Rattle.type_model.specs.ModelRules.{Parts}
use Rattle.broker_answers.specs.Objects.{Objects}
use Rattle.broker_answers.specs.Servants.{Call, Said, Done, NoImplement}
use Rattle.broker_answers.specs.declared.attribute_keeper.action.Action.{Action}
use Rattle.broker_answers.specs.declared.attribute_keeper.action.Action.TheVariants.{Get, Set, Empty, Echo, Nothing}
use Rattle.broker_answers.specs.Attributes.{first_tapes, getters_of, operations_at, with_actions}

-- of each object what its operations do, by their numbers, and the tapes of its attributes
pub record Keeping : Type 0 where
  pub actions : List (List (ℕ × Action))
  pub tapes : List (List (List ℕ))

abbrev pub keeping : List (List (ℕ × Action)) → List (List (List ℕ)) → Keeping
keeping actions tapes = record { actions = actions; tapes = tapes }

-- ---- at first

abbrev pub actions_of : Parts → List ℕ → List (ℕ × Action)
actions_of model numbers = with_actions model (getters_of model numbers) numbers

abbrev pub zeros_of : Parts → List ℕ → List (List ℕ)
zeros_of model numbers = first_tapes model (getters_of model numbers)

-- what the operations of each object do
abbrev pub all_actions : Parts → Objects → List (List (ℕ × Action))
all_actions model objects = map (λ object. actions_of model (operations_at model object.1)) objects

-- for each attribute of each object a tape of zeros
abbrev pub all_zeros : Parts → Objects → List (List (List ℕ))
all_zeros model objects = map (λ object. zeros_of model (operations_at model object.1)) objects

abbrev pub first_keeping : Parts → Objects → Keeping
first_keeping model objects = keeping (all_actions model objects) (all_zeros model objects)

-- ---- a call

-- what an operation does; nothing serves one that an object hasn't
abbrev pub action_in : List (ℕ × Action) → ℕ → Action
action_in [] number = Nothing
action_in (row ∷ rows) number = cond (nat_eq row.0 number) row.1 (action_in rows number)

-- what a call does; a place past the last object has no operations
abbrev pub action : Keeping → Call → Action
action kept call = action_in (slice_index_or kept.actions call.object []) call.operation

abbrev pub tapes_at : Keeping → ℕ → List (List ℕ)
tapes_at kept object = slice_index_or kept.tapes object []

-- the tape of an attribute of an object
abbrev pub tape_at : Keeping → ℕ → ℕ → List ℕ
tape_at kept object attribute = slice_index_or (tapes_at kept object) attribute []

-- an attribute of an object has another tape; all else stays
abbrev pub with_tape : Keeping → ℕ → ℕ → List ℕ → Keeping
with_tape kept object attribute tape =
    keeping kept.actions (slice_set kept.tapes object (slice_set (tapes_at kept object) attribute tape))

abbrev pub said : Keeping → Call → Action → Said
said kept call (Get attribute) = Done (tape_at kept call.object attribute)
said kept call (Set attribute) = Done []
said kept call Empty = Done []
said kept call Echo = Done call.arguments
said kept call Nothing = NoImplement

abbrev pub kept_after : Keeping → Call → Action → Keeping
kept_after kept call (Set attribute) = with_tape kept call.object attribute call.arguments
kept_after kept call action = kept

-- how a keeper acts
abbrev pub says : Keeping → Call → Said
says kept call = said kept call (action kept call)

abbrev pub after : Keeping → Call → Keeping
after kept call = kept_after kept call (action kept call)
