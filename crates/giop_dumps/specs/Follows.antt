-- The text that `tshark -q -z follow,tcp,raw,N` prints of a connection: a rule, lines about it of which the last is
-- that of its second node, the octets that went in digits, those of the second node behind a tab, and a rule.
use Rattle.std.specs.Prelude.{ℕ, ◌-◌, Bool, List, codes, drop, take, length, nat_eq, slice_index, if◌then◌else◌}
use Rattle.std.specs.Prelude.{Option, Some, None, option_map, Result, Ok, Err}
use Rattle.std.specs.List.{starts_with}
use Rattle.hex.specs.Hex.{decode_of}
use Rattle.hex.specs.declared.FromHexError.{FromHexError}
use Rattle.giop_dumps.specs.declared.captures.follow.Side.{Side}
use Rattle.giop_dumps.specs.declared.captures.follow.Side.TheVariants.{First, Second}
use Rattle.giop_dumps.specs.declared.captures.follow.Stage.{Stage}
use Rattle.giop_dumps.specs.declared.captures.follow.Stage.TheVariants.{Before, Head, Body, Behind}
use Rattle.giop_dumps.specs.declared.captures.follow.Piece.{Piece}
use Rattle.giop_dumps.specs.declared.captures.follow.Followed.{Followed}

-- octets of a direction
abbrev pub Passed : Type 0
Passed = Side × List ℕ

-- what a line says: where the next one stands, and the octets that it has
abbrev pub Said : Type 0
Said = Stage × Option Passed

abbrev pub is_rule : List ℕ → Bool
is_rule line = starts_with nat_eq line (codes "====")

abbrev pub names_second : List ℕ → Bool
names_second line = starts_with nat_eq line (codes "Node 1:")

abbrev pub is_second : List ℕ → Bool
is_second line = starts_with nat_eq line (codes "\t")

abbrev pub of_digits : Side → Result (List ℕ) FromHexError → Option Passed
of_digits side (Ok octets) = Some (side, octets)
of_digits side (Err fault) = None

-- the octets that digits are
abbrev pub piece_of : Side → List ℕ → Option Passed
piece_of side digits = of_digits side (decode_of digits)

-- the octets of a line
abbrev pub piece_in : List ℕ → Option Passed
piece_in line = if is_second line then piece_of Second (drop 1 line) else piece_of First line

abbrev pub with_piece : Option Passed → Option Said
with_piece None = None
with_piece (Some piece) = Some (Body, Some piece)

abbrev pub in_body : List ℕ → Option Said
in_body line = if is_rule line then Some (Behind, None) else with_piece (piece_in line)

-- a line without its end, a line feed with or without a carriage return before it; the line feed isn't there any more
abbrev pub bare : List ℕ → List ℕ
bare line = if nat_eq (slice_index line (length line - 1)) 13 then take (length line - 1) line else line

-- What a line says that stands in a stage of the text; none where it is no line of that stage. Blank lines may stand
-- before and behind the rules.
abbrev pub follows : Stage → List ℕ → Option Said
follows Before line =
    if nat_eq (length line) 0 then Some (Before, None) else if is_rule line then Some (Head, None) else None
follows Head line = if names_second line then Some (Body, None) else Some (Head, None)
follows Body line = in_body line
follows Behind line = if nat_eq (length line) 0 then Some (Behind, None) else None

-- ---- what was read of a line

abbrev pub passed_of : Piece → Passed
passed_of piece = (piece.side, piece.octets.items)

abbrev pub followed_of : Followed → Said
followed_of said = (said.stage, option_map passed_of said.piece)
