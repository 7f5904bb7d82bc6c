-- How the checker follows a routine: the work that is left and the positions that are possible, from instruction to
-- instruction.
use Rattle.std.specs.Prelude.{ℕ, zero, suc, ◌*◌, ◌^◌, Bool, true, false, not, ◌&&◌, ◌||◌, eqb, ltb, is_some, ℤ}
use Rattle.std.specs.Prelude.{List, [], ◌∷◌, length, Option, Some, None, Result, Ok, Err, slice_get, slice_index_or}
use Rattle.std.specs.Prelude.{bit_or, if◌then◌else◌}
use Rattle.std.specs.List.{list_all, list_any}
use Rattle.type_graph.specs.declared.width.Width.{Width}
use Rattle.type_graph.specs.declared.width.Width.TheVariants.{One, Four}
use Rattle.type_graph.specs.declared.node.Node.{Node}
use Rattle.type_graph.specs.Words.{octets_in, words_of, wider}
use Rattle.type_graph.specs.Value.{number_width}
use Rattle.type_graph.specs.Walks.{lead_of}
use Rattle.marshal_program.specs.declared.instr.Disc.{Disc}
use Rattle.marshal_program.specs.declared.instr.Disc.TheVariants as discs
use Rattle.marshal_program.specs.declared.instr.Instr.{Instr}
use Rattle.marshal_program.specs.declared.instr.Instr.TheVariants.{Align, Octets, Words, Bools, EnumWord, Text}
use Rattle.marshal_program.specs.declared.instr.Instr.TheVariants.{SeqOctets, SeqBools, SeqWords, SeqOf, Times, Call, Switch}
use Rattle.marshal_program.specs.declared.instr.Routine.{Routine}
use Rattle.marshal_program.specs.Does.{node_of}
use Rattle.marshal_program.specs.ProgramRules.{arms_of}
use Rattle.marshal_program.specs.Served.{served_by}
use Rattle.routine_checker.specs.declared.fault.RoutinePlace.{RoutinePlace}
use Rattle.routine_checker.specs.declared.fault.CheckFault.{CheckFault}
use Rattle.routine_checker.specs.declared.fault.CheckFault.TheVariants.{WrongWork, WrongPadding, EntryOutside, ExitsTooSmall}
use Rattle.routine_checker.specs.declared.fault.CheckFault.TheVariants.{NoRoutine, NamedEntryNotFull}
use Rattle.routine_checker.specs.Sets.{has, is_within, moved, left, closure, gaps_agree, gaps_serve, multiples}
use Rattle.routine_checker.specs.Taking.{taken, is_done_within, is_piece, pieces}

-- ---- what a routine says of itself; a number of none says nothing

abbrev pub entry_of : Option Routine → ℕ
entry_of None = 0
entry_of (Some routine) = routine.entry

abbrev pub exits_of : Option Routine → List ℕ
exits_of None = []
exits_of (Some routine) = routine.exits

abbrev pub node_in : Option Routine → ℕ
node_in None = 0
node_in (Some routine) = routine.node

abbrev pub entry_at : List Routine → ℕ → ℕ
entry_at program routine = entry_of (slice_get program routine)

abbrev pub exits_at : List Routine → ℕ → List ℕ
exits_at program routine = exits_of (slice_get program routine)

-- the first alignment of the routine's node
abbrev pub lead_at : List Node → List Routine → ℕ → Width
lead_at graph program routine = lead_of graph (node_in (slice_get program routine))

-- ---- one instruction

-- the work that is left, the positions that are possible in front of the gap that is made, and that gap
pub record Judged : Type 0 where
  pub work : List ℕ
  pub places : ℕ
  pub gap : Width

-- behind the count of a sequence, or an enumerator
abbrev pub counted : ℕ → ℕ
counted places = moved places Four 4

-- behind the gap that is made
abbrev pub behind_gap : ℕ → Width → ℕ
behind_gap places gap = moved places gap 0

-- where the elements of a sequence may start, when the first starts at one of the places
abbrev pub starts : List Routine → ℕ → ℕ → ℕ
starts program routine places = closure 8 (exits_at program routine) places

-- behind a discriminator
abbrev pub chosen_from : Disc → ℕ → ℕ
chosen_from disc places = moved places (number_width (node_of disc)) (octets_in (number_width (node_of disc)))

-- where a routine may start that is done n times, and where it ends
unfoldable pub enters_times : ℕ → ℕ → List ℕ → ℕ → Bool
enters_times zero entry exits places = true
enters_times (suc n) entry exits places = is_within places entry && enters_times n entry exits (left places exits)

unfoldable pub times_left : ℕ → List ℕ → ℕ → ℕ
times_left zero exits places = places
times_left (suc n) exits places = times_left n exits (left places exits)

-- the starts of elements are entries of their routine, and where one ends the next may start
abbrev pub enters_elements : ℕ → List ℕ → ℕ → Bool
enters_elements entry exits from = is_within from entry && is_within (left from exits) from

-- the routines that the instruction names are entered where they may be
abbrev pub enters : List Routine → Instr → ℕ → Width → Bool
enters program (SeqOf bound first routine) places gap =
    enters_elements (entry_at program routine) (exits_at program routine)
    (starts program routine (behind_gap (counted places) first))
enters program (Times n routine) places gap =
    enters_times n (entry_at program routine) (exits_at program routine) (behind_gap places gap)
enters program (Call routine) places gap = is_within (behind_gap places gap) (entry_at program routine)
enters program (Switch disc arms otherwise) places gap =
    list_all (λ routine. is_within (chosen_from disc places) (entry_at program routine)) (arms_of arms otherwise)
enters program instr places gap = true

-- the gaps are those that belong there
abbrev pub pads : List Node → List Routine → Instr → ℕ → Width → Bool
pads graph program (Align to) places gap = true
pads graph program (Octets n) places gap = gaps_agree places gap One
pads graph program (Words width n) places gap = gaps_agree places gap width
pads graph program (Bools n) places gap = gaps_agree places gap One
pads graph program (EnumWord limit) places gap = gaps_agree places gap Four
pads graph program (Text bound) places gap = gaps_agree places gap Four
pads graph program (SeqOctets bound) places gap = gaps_agree places gap Four
pads graph program (SeqBools bound) places gap = gaps_agree places gap Four
pads graph program (SeqWords width first bound) places gap =
    gaps_agree places gap Four && gaps_agree (counted places) first width
pads graph program (SeqOf bound first routine) places gap =
    gaps_agree places gap Four && gaps_serve (counted places) first (lead_at graph program routine)
pads graph program (Times n routine) places gap = gaps_serve places gap (lead_at graph program routine)
pads graph program (Call routine) places gap = gaps_serve places gap (lead_at graph program routine)
pads graph program (Switch disc arms otherwise) places gap = gaps_agree places gap (number_width (node_of disc))

-- how many values a discriminator has
abbrev pub values_of : Disc → ℕ
values_of discs.Char = 256
values_of discs.Boolean = 2
values_of (discs.Word width signed) = words_of width
values_of (discs.Enum n) = n

-- the places where no member follows: none where there is a default, or a label for each value
abbrev pub memberless : Disc → List (ℤ × ℕ) → Option ℕ → ℕ → ℕ
memberless disc arms otherwise places =
    if is_some otherwise || not (ltb (length arms) (values_of disc)) then 0 else places

-- where one of the routines ends
abbrev pub left_by : List Routine → ℕ → List ℕ → ℕ
left_by program places [] = 0
left_by program places (routine ∷ routines) =
    bit_or (left places (exits_at program routine)) (left_by program places routines)

-- the positions behind the instruction
abbrev pub ends : List Routine → Instr → ℕ → Width → ℕ
ends program (Align to) places gap = places
ends program (Octets n) places gap = moved places One n
ends program (Words width n) places gap = moved places width (n * octets_in width)
ends program (Bools n) places gap = moved places One n
ends program (EnumWord limit) places gap = counted places
ends program (Text bound) places gap = 255
ends program (SeqOctets bound) places gap = 255
ends program (SeqBools bound) places gap = 255
ends program (SeqWords width first bound) places gap = bit_or (counted places) (multiples width)
ends program (SeqOf bound first routine) places gap =
    bit_or (counted places)
    (left (starts program routine (behind_gap (counted places) first)) (exits_at program routine))
ends program (Times n routine) places gap = times_left n (exits_at program routine) (behind_gap places gap)
ends program (Call routine) places gap = left (behind_gap places gap) (exits_at program routine)
ends program (Switch disc arms otherwise) places gap =
    bit_or (left_by program (chosen_from disc places) (arms_of arms otherwise))
    (memberless disc arms otherwise (chosen_from disc places))

-- the work is judged first, then the entries, then the gaps
abbrev pub tested : RoutinePlace → ℕ → Bool → Bool → Judged → Result Judged CheckFault
tested at n false padded next = Err (EntryOutside at n)
tested at n true false next = Err (WrongPadding at n)
tested at n true true next = Ok next

abbrev pub worked : List Node → List Routine → RoutinePlace → ℕ → Instr → Judged → Option (List ℕ)
    → Result Judged CheckFault
worked graph program at n instr state None = Err (WrongWork at n)
worked graph program at n instr state (Some rest) =
    tested at n (enters program instr state.places state.gap) (pads graph program instr state.places state.gap)
    (record { work = rest; places = ends program instr state.places state.gap; gap = One })

-- The instruction with a number. A gap is judged with the instruction behind it; two in a row are the wider one.
unfoldable pub step : List Node → List Routine → RoutinePlace → ℕ → Instr → Judged → Result Judged CheckFault
step graph program at n (Align to) state =
    Ok (record { work = state.work; places = state.places; gap = wider state.gap to })
step graph program at n instr state =
    worked graph program at n instr state (taken (pieces instr) (is_piece graph program instr) graph state.work)

-- ---- a routine, a program

abbrev pub followed_by : (Judged → Result Judged CheckFault) → Result Judged CheckFault → Result Judged CheckFault
followed_by further (Err fault) = Err fault
followed_by further (Ok state) = further state

-- the instructions from a number on
abbrev pub followed : List Node → List Routine → RoutinePlace → ℕ → List Instr → Judged → Result Judged CheckFault
followed graph program at n [] state = Ok state
followed graph program at n (instr ∷ code) state =
    followed_by (followed graph program at (suc n) code) (step graph program at n instr state)

-- The end of the code: nothing is left, the gap that is made is none, the positions are among the exits.
abbrev pub end_fault : Bool → Bool → Bool → RoutinePlace → ℕ → ℕ → Option CheckFault
end_fault false padded within at n entry = Some (WrongWork at n)
end_fault true false within at n entry = Some (WrongPadding at n)
end_fault true true false at n entry = Some (ExitsTooSmall at entry)
end_fault true true true at n entry = None

abbrev pub ended : List Node → RoutinePlace → Routine → ℕ → Result Judged CheckFault → Option CheckFault
ended graph at routine entry (Err fault) = Some fault
ended graph at routine entry (Ok state) =
    end_fault (is_done_within 64 graph state.work) (gaps_agree state.places state.gap One)
    (is_within state.places (slice_index_or routine.exits entry 0)) at (length routine.code) entry

-- a routine from one of its entries
abbrev pub entry_fault : List Node → List Routine → RoutinePlace → Routine → ℕ → Option CheckFault
entry_fault graph program at routine entry =
    ended graph at routine entry
    (followed graph program at 0 routine.code (record { work = routine.node ∷ []; places = 2 ^ entry; gap = One }))

abbrev pub or_else : Option CheckFault → Option CheckFault → Option CheckFault
or_else None other = other
or_else (Some fault) other = Some fault

-- from the entries below n, which rise
abbrev pub entries_fault : List Node → List Routine → RoutinePlace → Routine → ℕ → Option CheckFault
entries_fault graph program at routine zero = None
entries_fault graph program at routine (suc n) =
    or_else (entries_fault graph program at routine n)
    (if has routine.entry n then entry_fault graph program at routine n else None)

-- the node has to be there
unfoldable pub routine_fault : List Node → List Routine → RoutinePlace → Routine → Option CheckFault
routine_fault graph program at routine =
    if ltb routine.node (length graph) then entries_fault graph program at routine 8 else Some (WrongWork at 0)

abbrev pub place_of : ℕ → ℕ → RoutinePlace
place_of which number = record { program = which; routine = number }

-- the routines from a number on, in the first or second program
abbrev pub routines_fault : ℕ → List Node → List Routine → ℕ → List Routine → Option CheckFault
routines_fault which graph program number [] = None
routines_fault which graph program number (routine ∷ routines) =
    or_else (routine_fault graph program (place_of which number) routine)
    (routines_fault which graph program (suc number) routines)

-- the first fault of a program
abbrev pub program_fault : ℕ → List Node → List Routine → Option CheckFault
program_fault which graph program = routines_fault which graph program 0 program

-- ---- names

-- some routine is one of the node
abbrev pub has_routine : List Routine → ℕ → Bool
has_routine program node = list_any (λ routine. eqb routine.node node) program

abbrev pub name_fault_by : Bool → Bool → ℕ → Option CheckFault
name_fault_by true some node = None
name_fault_by false true node = Some (NamedEntryNotFull node)
name_fault_by false false node = Some (NoRoutine node)

-- a node that is asked for by name has a routine that may start everywhere
abbrev pub name_fault : List Routine → ℕ → Option CheckFault
name_fault program node = name_fault_by (is_some (served_by program node)) (has_routine program node) node
