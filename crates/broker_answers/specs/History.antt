-- The tape of an attribute after calls.
use Rattle.std.specs.Prelude.{ℕ, Bool, cond, ◌&&◌, nat_eq, List, [], ◌∷◌, ◌++◌, slice_get, codes}
use Rattle.std.specs.List.{list_any}
use Rattle.std.specs.Option.{option_map_or}
use Rattle.broker_answers.specs.Objects.{Served, has_name}
use Rattle.broker_answers.specs.Servants.{Call}
use Rattle.broker_answers.specs.Attributes.{operations_at}
use Rattle.broker_answers.specs.Keeping.{Keeping, after}

-- the operations of the object at a place
abbrev pub operations_served : Served → ℕ → List ℕ
operations_served s object = option_map_or (λ o. operations_at s.model o.1) (slice_get s.objects object) []

-- whether an operation of the object is named `_set_x`, of the attribute x
abbrev pub is_setter : Served → ℕ → List ℕ → ℕ → Bool
is_setter s object attribute number =
    list_any (λ other. nat_eq other number) (operations_served s object)
    && has_name (codes "_set_" ++ attribute) (slice_get s.model.operations number)

-- whether a call sets the attribute of the object
abbrev pub sets : Served → ℕ → List ℕ → Call → Bool
sets s object attribute call = nat_eq call.object object && is_setter s object attribute call.operation

-- the argument of the last of the calls that sets, and where none does the tape before them
abbrev pub last_set : (Call → Bool) → List ℕ → List Call → List ℕ
last_set sets tape [] = tape
last_set sets tape (call ∷ calls) = last_set sets (cond (sets call) call.arguments tape) calls

-- a keeper after calls, one after another
abbrev pub after_all : Keeping → List Call → Keeping
after_all kept [] = kept
after_all kept (call ∷ calls) = after_all (after kept call) calls
