-- What the types, exceptions and frames of a specification are called in its model (the names are our own): the names
-- of the scopes around a declaration from the outermost, its own the last, with `::` between them. The frame of a
-- request has the name of its operation with `/in` behind it, that of a reply with `/out`.
use Rattle.std.specs.Prelude.{ℕ, suc, ◌+◌, List, [], ◌∷◌, ◌++◌, length, codes, Option, Some, None, slice_get}
use Rattle.std.specs.List.{flat_map, range_with_len}
use Rattle.name_table.specs.Entry.{Entry, around, name_in}
use Rattle.scoped_names.specs.RepositoryIds.{names_to}
use Rattle.lowered_types.specs.declared.place.Place.{Place}
use Rattle.lowered_types.specs.declared.place.Place.TheVariants.{Typed, Raised, Called, Got, GotAndSet}
use Rattle.lowered_types.specs.Lowered.{Lowered, place_of}
use Rattle.lowered_operations.specs.declared.signature.Role.{Role}
use Rattle.lowered_operations.specs.declared.signature.Role.TheVariants.{Operation, Getting, Setting}

-- the scopes around an entry
abbrev pub scopes_of : List Entry → ℕ → List (List ℕ)
scopes_of es e = names_to es e (around es (suc e))

abbrev pub with_colons : List (List ℕ) → List ℕ
with_colons names = flat_map (λ n. n ++ codes "::") names

-- what an operation is called on the wire (ISO/IEC 19500-2, operation names of attributes), by what stands before its
-- name
abbrev pub mark_of : Role → List ℕ
mark_of Operation = []
mark_of Getting = codes "_get_"
mark_of Setting = codes "_set_"

abbrev pub marked : List Entry → List ℕ → ℕ → List ℕ
marked es mark e = mark ++ name_in (slice_get es e)

-- the name of an entry, with what stands before its own name and behind it
abbrev pub called : List Entry → List ℕ → ℕ → List ℕ → List ℕ
called es mark e end = with_colons (scopes_of es e) ++ marked es mark e ++ end

abbrev pub name_of : List Entry → ℕ → List ℕ
name_of es e = called es [] e []

-- the frames of a request and its reply
abbrev pub frames_of : List Entry → Role → ℕ → ℕ → List (List ℕ × ℕ)
frames_of es role e request =
    (called es (mark_of role) e (codes "/in"), request) ∷ (called es (mark_of role) e (codes "/out"), request + 1) ∷ []

abbrev pub names_of_place : List Entry → ℕ → Option Place → List (List ℕ × ℕ)
names_of_place es e None = []
names_of_place es e (Some (Typed n)) = (name_of es e, n) ∷ []
names_of_place es e (Some (Raised frame place)) = (name_of es e, frame) ∷ []
names_of_place es e (Some (Called request)) = frames_of es Operation e request
names_of_place es e (Some (Got request)) = frames_of es Getting e request
names_of_place es e (Some (GotAndSet request)) = frames_of es Getting e request ++ frames_of es Setting e (request + 2)

abbrev pub names_at : List Entry → Lowered → ℕ → List (List ℕ × ℕ)
names_at es w e = names_of_place es e (place_of w e)

-- those of all entries, in order of declaration
abbrev pub names_of : List Entry → Lowered → List (List ℕ × ℕ)
names_of es w = flat_map (names_at es w) (range_with_len 0 (length es))
