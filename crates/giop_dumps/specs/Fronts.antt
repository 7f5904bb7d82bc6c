-- Where messages of GIOP 1.0 to 1.2 stand in the octets of a direction (ISO/IEC 19500-2, GIOP message header).
use Rattle.std.specs.Prelude.{ℕ, ◌+◌, ◌≤◌, Bool, not, ◌&&◌, List, length, nat_eq, nat_lt, slice_index, if◌then◌else◌}
use Rattle.giop_messages.specs.declared.fault.FramingFault.TheVariants.{NotGiop, Version}
use Rattle.giop_messages.specs.Heads.{is_giop, max_size, size_in}
use Rattle.giop_dumps.specs.declared.front.Front.{Front}
use Rattle.giop_dumps.specs.declared.front.Front.TheVariants.{More, Message, Older, Long, Lost}

abbrev pub is_of_1 : List ℕ → Bool
is_of_1 octets = nat_eq (slice_index octets 4) 1 && nat_lt (slice_index octets 5) 3

-- a message with so many octets behind its head
abbrev pub sized : List ℕ → ℕ → Front
sized octets size =
    if nat_lt max_size size then Long (12 + size)
    else if nat_lt (length octets) (12 + size) then More
    else if nat_eq (slice_index octets 5) 2 then Message (12 + size)
    else Older (12 + size)

-- as many octets are there as are told of
abbrev pub IsWithin : List ℕ → Front → Type 0
IsWithin octets More = Unit {0}
IsWithin octets (Message count) = (12 ≤ count) × (count ≤ length octets) × (count ≤ 12 + max_size)
IsWithin octets (Older count) = (12 ≤ count) × (count ≤ length octets)
IsWithin octets (Long count) = (12 ≤ length octets) × (12 ≤ count)
IsWithin octets (Lost fault) = 12 ≤ length octets

-- Of all versions the letters, the version, the order and the size stand at the same places.
abbrev pub front_of : List ℕ → Front
front_of octets =
    if nat_lt (length octets) 12 then More
    else if not (is_giop octets) then Lost NotGiop
    else if not (is_of_1 octets) then Lost Version
    else sized octets (size_in octets)
