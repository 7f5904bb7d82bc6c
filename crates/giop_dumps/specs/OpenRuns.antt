-- The runs of fragments that are open in a direction, and what a message of GIOP 1.2 makes of them (ISO/IEC 19500-2,
-- GIOP message formats: Fragment, CancelRequest). Pieces of several messages may stand between one another. A rule
-- marked (own) is this project's.
use Rattle.std.specs.Prelude.{◌≡◌, ℕ, ◌+◌, ◌-◌, ◌≤◌, Bool, true, false, ◌&&◌, ◌||◌, List, length, Option, Some, None}
use Rattle.std.specs.Prelude.{nat_eq, nat_lt, nat_le, All, sum_by, if◌then◌else◌}
use Rattle.std.specs.Ordering.{nat_cmp}
use Rattle.std.specs.BTreeMap.{insert_entry, is_at}
use Rattle.std.specs.Map.{lookup, remove_entry, values_of}
use Rattle.giop_messages.specs.Heads.{flags_in, fragment_type, goes_on, max_size}
use Rattle.giop_messages.specs.Framing.{added, begun, cancels, id_in, type_in}

-- An open run: the place of its last piece in the direction, and the message that it would be if nothing more came.
pub record Open : Type 0 where
  pub last : ℕ
  pub octets : List ℕ

abbrev pub open_at : ℕ → List ℕ → Open
open_at place octets = record { last = place; octets = octets }

-- it has a number, and no more octets than a message has
pub record IsReadable (octets : List ℕ) : Type 0 where
  pub numbered : 16 ≤ length octets
  pub limited : length octets ≤ 12 + max_size

-- those of a direction, by their numbers, which rise
abbrev pub Runs : Type 0
Runs = List (ℕ × Open)

abbrev pub run_of : ℕ → Runs → Option Open
run_of id runs = lookup (is_at (nat_cmp id)) runs

abbrev pub without : ℕ → Runs → Runs
without id runs = remove_entry (is_at (nat_cmp id)) runs

abbrev pub with_run : ℕ → Open → Runs → Runs
with_run id run runs = insert_entry nat_cmp runs id run

-- how many octets they have
abbrev pub held : Runs → ℕ
held runs = sum_by (λ run. length run.octets) (values_of runs)

-- at most so many runs, and octets of them, are open in a direction (own)
abbrev pub max_open : ℕ
max_open = 64

abbrev pub max_held : ℕ
max_held = 4194304

pub record AreWithin (runs : Runs) : Type 0 where
  pub few : length runs ≤ max_open
  pub small : held runs ≤ max_held

-- so, and how many octets they have
pub record AreHeld (runs : Runs) (count : ℕ) : Type 0 where
  pub counted : count ≡ held runs
  pub within : AreWithin runs

-- whether one more of so many octets may be open
abbrev pub has_room : ℕ → Runs → Bool
has_room len runs = nat_lt (length runs) max_open && nat_le (held runs + len) max_held

-- the last piece of no run stands before that of this one
pub record IsOldest (id : ℕ) (runs : Runs) : Type 0 where
  pub run : Open
  pub there : run_of id runs ≡ Some run
  pub oldest : All (λ one. run.last ≤ one.1.last) runs

-- whether a place is before that of the oldest so far, of which the number and the place are told
abbrev pub is_before : ℕ → Option (ℕ × ℕ) → Bool
is_before place None = true
is_before place (Some oldest) = nat_lt place oldest.1

-- The oldest are let go of, one by one, until one more of so many octets may be open (own).
pub data MakesRoom (len : ℕ) : Runs → Runs → Type 0 where
  HasRoom : (runs : Runs) → has_room len runs ≡ true → MakesRoom len runs runs
  LetsGo : (id : ℕ) (runs after : Runs) → has_room len runs ≡ false → IsOldest id runs
      → MakesRoom len (without id runs) after → MakesRoom len runs after

-- a run is open behind its piece at a place, beside others as far as there is room for it
pub record Opens (place id : ℕ) (octets : List ℕ) (others after : Runs) : Type 0 where
  pub kept : Runs
  pub room : MakesRoom (length octets) others kept
  pub after_is : after ≡ with_run id (open_at place octets) kept

-- a message that is none: it has no number
abbrev pub is_short : List ℕ → Bool
is_short message = nat_lt (length message) 16

abbrev pub is_fragment : List ℕ → Bool
is_fragment message = nat_eq (type_in message) fragment_type

-- whether fragments follow
abbrev pub is_followed : List ℕ → Bool
is_followed message = goes_on (flags_in message)

-- with the fragment the run would have more octets than any message
abbrev pub is_long : List ℕ → List ℕ → Bool
is_long run fragment = nat_lt (12 + max_size) (length run + (length fragment - 16))

-- A fragment of the run with its number. A run that gets too long is given up, and so is its fragment.
pub record Follows (place : ℕ) (fragment : List ℕ) (run : Open) (others after : Runs) : Type 0 where
  pub long : is_long run.octets fragment ≡ true → after ≡ others
  pub last : is_long run.octets fragment ≡ false → is_followed fragment ≡ false → after ≡ others
  pub more : is_long run.octets fragment ≡ false → is_followed fragment ≡ true
      → Opens place (id_in fragment) (added run.octets fragment) others after

-- a fragment of no run changes none
abbrev pub Continues : ℕ → List ℕ → Runs → Option Open → Runs → Type 0
Continues place fragment runs None after = after ≡ runs
Continues place fragment runs (Some run) after = Follows place fragment run (without (id_in fragment) runs) after

abbrev pub is_cancelled : Option Open → List ℕ → Bool
is_cancelled None message = false
is_cancelled (Some run) message = cancels run.octets message

-- what a message leaves that is no piece
abbrev pub left_by : List ℕ → Runs → Runs
left_by message runs = if is_cancelled (run_of (id_in message) runs) message then without (id_in message) runs else runs

-- The runs that are open behind a message at a place. A first piece takes the place of a run with its number (own).
pub record IsBehind (place : ℕ) (message : List ℕ) (runs after : Runs) : Type 0 where
  pub fragment : is_fragment message ≡ true → is_short message ≡ false
      → Continues place message runs (run_of (id_in message) runs) after
  pub first : is_fragment message ≡ false → is_followed message ≡ true → is_short message ≡ false
      → Opens place (id_in message) (begun message) (without (id_in message) runs) after
  pub whole : is_fragment message ≡ false → is_followed message ≡ false → after ≡ left_by message runs
  pub short : (is_fragment message || is_followed message) ≡ true → is_short message ≡ true → after ≡ runs

-- the message that the last of its pieces makes whole
abbrev pub joined : Option Open → List ℕ → Option (List ℕ)
joined None fragment = None
joined (Some run) fragment =
    if is_long run.octets fragment || is_followed fragment then None else Some (added run.octets fragment)

-- the whole message that is told where a message stands: itself, or the one that its pieces are
abbrev pub whole_at : List ℕ → Runs → Option (List ℕ)
whole_at message runs =
    if is_fragment message then (if is_short message then None else joined (run_of (id_in message) runs) message)
    else if is_followed message then None
    else Some message
