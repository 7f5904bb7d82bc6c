-- Parts that are added to a list.
use Rattle.std.proofs.Common.{◌≡◌, ◌∙◌, ◌++◌, ◌∷◌, [], ◌≤◌, ◌<◌, ℕ, List, length, length-append, ap, sym, arith}
use Rattle.std.specs.Prelude.{Result, Ok, Err, IfOk}
use Rattle.std.specs.List.{flat_map}
use Rattle.idl_tree.specs.Pieces.{Seen, Piece}
use Rattle.idl_tree.specs.Levels.{highest}
use Rattle.definition_reader.specs.inner.Reading.{Parsed, Continued, Added}
use Rattle.definition_reader.proofs.Parts.{part_then}
use Rattle.definition_reader.proofs.Pairs.{spelled_as}
use Rattle.definition_reader.proofs.Reading.{one_more, one_more_level}

-- a list with one more part
pub longer : {T : Type 0} (yield : T → List Piece) (levels : T → ℕ) (room : ℕ) (a b c : List Seen) (xs ys : List T)
    → Continued a (flat_map yield xs) b → Added yield levels room xs ys b c → Continued a (flat_map yield ys) c
longer yield levels room a b c xs ys front one = one_more yield a b c xs ys one.part front one.spells one.is

pub longer_level : {T : Type 0} (yield : T → List Piece) (levels : T → ℕ) (room : ℕ) (b c : List Seen) (xs ys : List T)
    → highest levels xs ≤ room → Added yield levels room xs ys b c → highest levels ys ≤ room
longer_level yield levels room b c xs ys most one = one_more_level levels room xs ys one.part most one.few one.is

-- a list is not empty then
pub some_more : {T : Type 0} (yield : T → List Piece) (levels : T → ℕ) (room : ℕ) (b c : List Seen) (xs ys : List T)
    → Added yield levels room xs ys b c → 0 < length ys
some_more yield levels room b c xs ys one = omega (arith, ap length one.is ∙ length-append xs (one.part ∷ []))

-- a part that was read and is added
pub added : {T V E : Type 0} (yield : T → List Piece) (levels : T → ℕ) (room : ℕ) (a b : List Seen)
    (before after : List T) (part : T) (r : Result V E)
    → Parsed a (yield part) b → levels part ≤ room → IfOk r (λ _. after ≡ before ++ part ∷ [])
    → IfOk r (λ _. Added yield levels room before after a b)
added yield levels room a b before after part (Ok v) spelled few is =
    record { part = part; is = is; spells = spelled; few = few }
added yield levels room a b before after part (Err e) spelled few is = tt

-- the same, where a mark is taken then
pub added_ended : {T V E : Type 0} (yield : T → List Piece) (levels : T → ℕ) (room : ℕ) (a b c : List Seen)
    (front end : List Piece) (before after : List T) (part : T) (r : Result V E)
    → Parsed a front b → yield part ≡ front ++ end → levels part ≤ room → after ≡ before ++ part ∷ []
    → IfOk r (λ _. Parsed b end c)
    → IfOk r (λ _. Added yield levels room before after a c)
added_ended yield levels room a b c front end before after part (Ok v) spelled e few is ended =
    record { part = part; is = is; spells = spelled_as (sym e) (part_then spelled ended); few = few }
added_ended yield levels room a b c front end before after part (Err e') spelled e few is ended = tt
