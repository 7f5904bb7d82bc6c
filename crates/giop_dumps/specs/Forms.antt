-- The form of a capture, by its first octets.
use Rattle.std.specs.Prelude.{ℕ, Bool, ◌||◌, List, [], ◌∷◌, length, nat_eq, nat_lt, codes, if◌then◌else◌, Option, Some, None}
use Rattle.std.specs.List.{starts_with}
use Rattle.giop_dumps.specs.declared.captures.form.CaptureForm.{CaptureForm}
use Rattle.giop_dumps.specs.declared.captures.form.CaptureForm.TheVariants.{Octets, Text}

-- the letters of GIOP, as far as there are octets
abbrev pub is_front_of_giop : List ℕ → Bool
is_front_of_giop front =
    if nat_lt (length front) 4 then starts_with nat_eq (codes "GIOP") front else starts_with nat_eq front (codes "GIOP")

-- a file of packets begins so, as pcapng has it (Section Header Block)
abbrev pub is_pcapng : List ℕ → Bool
is_pcapng front = starts_with nat_eq front (codes "\n\r\r\n")

-- a text begins with a blank line, or with a rule
abbrev pub begins_text : List ℕ → Bool
begins_text [] = nat_eq 0 1
begins_text (first ∷ rest) = nat_eq first 10 || nat_eq first 13 || nat_eq first 61

abbrev pub form_in : List ℕ → Option CaptureForm
form_in front =
    if is_front_of_giop front then Some Octets
    else if is_pcapng front then None
    else if begins_text front then Some Text
    else None
