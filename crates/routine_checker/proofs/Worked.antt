-- Programs worked out by hand, with the first fault of each: what the definitions of the checker say of them.
use Rattle.std.proofs.Common.{◌≡◌, ℕ, ◌+◌, ◌%◌, ◌^◌, true, false, pos, List, [], ◌∷◌, map, replicate, Some, None, refl}
use Rattle.type_graph.specs.declared.width.Width.TheVariants.{One, Two, Four, Eight}
use Rattle.type_graph.specs.declared.node.Node.{Node}
use Rattle.type_graph.specs.declared.node.Node.TheVariants as nodes
use Rattle.type_graph.specs.Walks.{lead_within}
use Rattle.marshal_program.specs.declared.instr.Disc.TheVariants as discs
use Rattle.marshal_program.specs.declared.instr.Instr.{Instr}
use Rattle.marshal_program.specs.declared.instr.Instr.TheVariants.{Align, Octets, Words, EnumWord, Text}
use Rattle.marshal_program.specs.declared.instr.Instr.TheVariants.{SeqOctets, SeqWords, SeqOf, Times, Call, Switch}
use Rattle.marshal_program.specs.declared.instr.Routine.{Routine}
use Rattle.marshal_program.specs.Plain.{plain_program}
use Rattle.marshal_program.specs.Joined.{joined_code, joined_program}
use Rattle.routine_checker.specs.declared.fault.CheckFault.TheVariants.{WrongWork, WrongPadding, EntryOutside, ExitsTooSmall, NoRoutine, NamedEntryNotFull}
use Rattle.routine_checker.specs.Sets.{each_place, gathered, closure}
use Rattle.routine_checker.specs.Taking.{taken, taken_within, is_done_within, is_one}
use Rattle.routine_checker.specs.Steps.{enters_times, times_left, step, routine_fault, program_fault, name_fault, place_of}

-- a routine that may start everywhere, with the same exits for each entry
abbrev full : ℕ → ℕ → List Instr → Routine
full node exits code = record { node = node; entry = 255; exits = replicate 8 exits; rank = 0; code = code }

-- a routine that may start and end everywhere
abbrev free : ℕ → List Instr → Routine
free node code = full node 255 code

-- ---- a structure of an octet, an unsigned long and a string

abbrev small : List Node
small = nodes.Octet ∷ nodes.Integer Four false ∷ nodes.Text 0 ∷ nodes.Struct (0 ∷ 1 ∷ 2 ∷ []) ∷ []

small_whole : program_fault 0 small (free 3 (Octets 1 ∷ Align Four ∷ Words Four 1 ∷ Align Four ∷ Text 0 ∷ []) ∷ [])
    ≡ None
unfolding routine_fault step taken taken_within each_place gathered is_done_within
small_whole = refl

-- behind the unsigned long no gap is due
small_one_gap : program_fault 0 small (free 3 (Octets 1 ∷ Align Four ∷ Words Four 1 ∷ Text 0 ∷ []) ∷ []) ≡ None
unfolding routine_fault step taken taken_within each_place gathered is_done_within
small_one_gap = refl

small_no_gap : program_fault 0 small (free 3 (Octets 1 ∷ Words Four 1 ∷ Align Four ∷ Text 0 ∷ []) ∷ [])
    ≡ Some (WrongPadding (place_of 0 0) 1)
unfolding routine_fault step taken taken_within each_place gathered is_done_within
small_no_gap = refl

small_gap_to_eight : program_fault 0 small
    (free 3 (Octets 1 ∷ Align Eight ∷ Words Four 1 ∷ Align Four ∷ Text 0 ∷ []) ∷ [])
    ≡ Some (WrongPadding (place_of 0 0) 2)
unfolding routine_fault step taken taken_within each_place gathered is_done_within
small_gap_to_eight = refl

small_gap_at_end : program_fault 0 small
    (free 3 (Octets 1 ∷ Align Four ∷ Words Four 1 ∷ Align Four ∷ Text 0 ∷ Align Four ∷ []) ∷ [])
    ≡ Some (WrongPadding (place_of 0 0) 6)
unfolding routine_fault step taken taken_within each_place gathered is_done_within
small_gap_at_end = refl

-- two gaps in a row are the wider one
small_two_gaps : program_fault 0 small (free 3 (Octets 1 ∷ Align Two ∷ Align Four ∷ Words Four 1 ∷ Text 0 ∷ []) ∷ [])
    ≡ None
unfolding routine_fault step taken taken_within each_place gathered is_done_within
small_two_gaps = refl

small_cut : program_fault 0 small (free 3 (Octets 1 ∷ Align Four ∷ Words Four 1 ∷ []) ∷ [])
    ≡ Some (WrongWork (place_of 0 0) 3)
unfolding routine_fault step taken taken_within each_place gathered is_done_within
small_cut = refl

small_of_another : program_fault 0 small (free 2 (Octets 1 ∷ Align Four ∷ Words Four 1 ∷ Align Four ∷ Text 0 ∷ []) ∷ [])
    ≡ Some (WrongWork (place_of 0 0) 0)
unfolding routine_fault step taken taken_within each_place gathered is_done_within
small_of_another = refl

-- a node that is not in the graph
small_of_none : program_fault 0 small (free 4 (Octets 1 ∷ Align Four ∷ Words Four 1 ∷ Align Four ∷ Text 0 ∷ []) ∷ [])
    ≡ Some (WrongWork (place_of 0 0) 0)
unfolding routine_fault step taken taken_within each_place gathered is_done_within
small_of_none = refl

small_unnamed : name_fault [] 3 ≡ Some (NoRoutine 3)
small_unnamed = refl

-- from positions 3 and 7 no gap is due in front of the unsigned long
abbrev small_some : List Routine
small_some = record {
  node = 3;
  entry = 0x88;
  exits = replicate 8 255;
  rank = 0;
  code =
      Octets 1 ∷ Words Four 1 ∷ Align Four ∷ Text 0 ∷ [];
} ∷ []

small_some_entries : program_fault 0 small small_some ≡ None
unfolding routine_fault step taken taken_within each_place gathered is_done_within
small_some_entries = refl

small_some_named : name_fault small_some 3 ≡ Some (NamedEntryNotFull 3)
small_some_named = refl

-- the routine of the text in the place of the unsigned long
small_calls_another : program_fault 0 small
    (free 3 (Octets 1 ∷ Call 1 ∷ Align Four ∷ Text 0 ∷ []) ∷ free 2 (Align Four ∷ Text 0 ∷ []) ∷ [])
    ≡ Some (WrongWork (place_of 0 0) 1)
unfolding routine_fault step taken taken_within each_place gathered is_done_within
small_calls_another = refl

-- ---- numbers, alone and in a sequence

-- an unsigned long without its gap
long_alone : program_fault 0 (nodes.Integer Four false ∷ []) (free 0 (Words Four 1 ∷ []) ∷ [])
    ≡ Some (WrongPadding (place_of 0 0) 0)
unfolding routine_fault step taken taken_within each_place gathered is_done_within
long_alone = refl

-- at the end a gap that is always empty
long_gap_at_end : program_fault 0 (nodes.Integer Four false ∷ [])
    (free 0 (Align Four ∷ Words Four 1 ∷ Align Two ∷ []) ∷ []) ≡ None
unfolding routine_fault step taken taken_within each_place gathered is_done_within
long_gap_at_end = refl

-- a sequence of long longs
abbrev longs : List Node
longs = nodes.Integer Eight true ∷ nodes.Seq 0 0 ∷ []

longs_whole : program_fault 0 longs (free 1 (Align Four ∷ SeqWords Eight Eight 0 ∷ []) ∷ []) ≡ None
unfolding routine_fault step taken taken_within each_place gathered is_done_within is_one
longs_whole = refl

-- behind the count a gap to 8 is due, where there is an element
longs_no_gap : program_fault 0 longs (free 1 (Align Four ∷ SeqWords Eight One 0 ∷ []) ∷ [])
    ≡ Some (WrongPadding (place_of 0 0) 1)
unfolding routine_fault step taken taken_within each_place gathered is_done_within is_one
longs_no_gap = refl

longs_gap_at_count : program_fault 0 longs (free 1 (Align Eight ∷ SeqWords Eight Eight 0 ∷ []) ∷ [])
    ≡ Some (WrongPadding (place_of 0 0) 1)
unfolding routine_fault step taken taken_within each_place gathered is_done_within is_one
longs_gap_at_count = refl

-- ---- members in runs

-- two octets and six more in an array; a long, an unsigned long and three longs in an array; a long long, a short, a string, a long
abbrev mixed : List Node
mixed = nodes.Octet ∷ nodes.Integer Four true ∷ nodes.Integer Four false ∷ nodes.Integer Eight true
    ∷ nodes.Integer Two true ∷ nodes.Text 0 ∷ nodes.Array 0 6 ∷ nodes.Array 1 3
    ∷ nodes.Struct (0 ∷ 0 ∷ 6 ∷ 1 ∷ 2 ∷ 7 ∷ 3 ∷ 4 ∷ 5 ∷ 1 ∷ []) ∷ []

mixed_runs : program_fault 0 mixed
    (free 8 (Octets 8 ∷ Align Four ∷ Words Four 5 ∷ Align Eight ∷ Words Eight 1 ∷ Words Two 1 ∷ Align Four ∷ Text 0
    ∷ Align Four ∷ Words Four 1 ∷ []) ∷ []) ≡ None
unfolding routine_fault step taken taken_within each_place gathered is_done_within
mixed_runs = refl

mixed_run_too_long : program_fault 0 mixed (free 8 (Octets 9 ∷ []) ∷ []) ≡ Some (WrongWork (place_of 0 0) 0)
unfolding routine_fault step taken taken_within each_place gathered is_done_within
mixed_run_too_long = refl

-- a short, an unsigned short, a long, an octet and a character
abbrev pairs : List Node
pairs = nodes.Integer Two true ∷ nodes.Integer Two false ∷ nodes.Integer Four true ∷ nodes.Octet ∷ nodes.Char
    ∷ nodes.Struct (0 ∷ 1 ∷ 2 ∷ 3 ∷ 4 ∷ []) ∷ []

pairs_joined : joined_code pairs (nodes.Struct (0 ∷ 1 ∷ 2 ∷ 3 ∷ 4 ∷ [])) ≡ Align Two ∷ Words Two 2 ∷ Align Four
    ∷ Words Four 1 ∷ Octets 2 ∷ []
pairs_joined = refl

pairs_pass : program_fault 0 pairs (joined_program pairs) ≡ None
unfolding routine_fault step taken taken_within each_place gathered is_done_within
pairs_pass = refl

pairs_named : name_fault (joined_program pairs) 5 ≡ None
pairs_named = refl

-- ---- a type that holds itself in a sequence

-- an octet, a sequence of the structure itself, a long
abbrev tree : List Node
tree = nodes.Octet ∷ nodes.Integer Four true ∷ nodes.Struct (0 ∷ 3 ∷ 1 ∷ []) ∷ nodes.Seq 2 0 ∷ []

abbrev tree_code : List Instr
tree_code = Octets 1 ∷ Align Four ∷ SeqOf 0 One 0 ∷ Words Four 1 ∷ []

-- if its elements may end everywhere a gap is due behind them
tree_gap : program_fault 0 tree (free 2 (Octets 1 ∷ Align Four ∷ SeqOf 0 One 0 ∷ Align Four ∷ Words Four 1 ∷ []) ∷ [])
    ≡ None
unfolding routine_fault step taken taken_within each_place gathered is_done_within closure lead_within
tree_gap = refl

tree_no_gap : program_fault 0 tree (free 2 tree_code ∷ []) ≡ Some (WrongPadding (place_of 0 0) 3)
unfolding routine_fault step taken taken_within each_place gathered is_done_within closure lead_within
tree_no_gap = refl

-- they all end at multiples of 4
tree_fours : program_fault 0 tree (full 2 0x11 tree_code ∷ []) ≡ None
unfolding routine_fault step taken taken_within each_place gathered is_done_within closure lead_within
tree_fours = refl

tree_eights : program_fault 0 tree (full 2 0x01 tree_code ∷ []) ≡ Some (ExitsTooSmall (place_of 0 0) 0)
unfolding routine_fault step taken taken_within each_place gathered is_done_within closure lead_within
tree_eights = refl

tree_nowhere : program_fault 0 tree (full 2 0x00 tree_code ∷ []) ≡ Some (ExitsTooSmall (place_of 0 0) 0)
unfolding routine_fault step taken taken_within each_place gathered is_done_within closure lead_within
tree_nowhere = refl

-- ---- elements that start at multiples of 8

-- a long long and two longs; a sequence of these
abbrev records : List Node
records = nodes.Integer Eight true ∷ nodes.Integer Four true ∷ nodes.Struct (0 ∷ 1 ∷ 1 ∷ []) ∷ nodes.Seq 2 0 ∷ []

-- the structure, wherever it starts
abbrev record_routine : List ℕ → Routine
record_routine exits = record {
  node = 2;
  entry = 255;
  exits = exits;
  rank = 0;
  code =
      Align Eight ∷ Words Eight 1 ∷ Words Four 2 ∷ [];
}

-- the structure from a multiple of 8
abbrev element_routine : Routine
element_routine = record {
  node = 2;
  entry = 0x01;
  exits = 0x01 ∷ 0 ∷ 0 ∷ 0 ∷ 0 ∷ 0 ∷ 0 ∷ 0 ∷ [];
  rank = 0;
  code =
      Words Eight 1 ∷ Words Four 2 ∷ [];
}

abbrev records_routine : Instr → Routine
records_routine elements =
    record {
      node = 3;
      entry = 255;
      exits = 0x11 ∷ 0x01 ∷ 0x01 ∷ 0x01 ∷ 0x01 ∷ 0x11 ∷ 0x11 ∷ 0x11 ∷ [];
      rank = 0;
      code =
          Align Four ∷ elements ∷ [];
    }

records_whole : program_fault 0 records
    (record_routine (replicate 8 0x01) ∷ records_routine (SeqOf 0 Eight 2) ∷ element_routine ∷ []) ≡ None
unfolding routine_fault step taken taken_within each_place gathered is_done_within closure lead_within
records_whole = refl

records_exit : program_fault 0 records
    (record_routine (0x01 ∷ 0x01 ∷ 0x01 ∷ 0x02 ∷ 0x01 ∷ 0x01 ∷ 0x01 ∷ 0x01 ∷ []) ∷ records_routine (SeqOf 0 Eight 2)
    ∷ element_routine ∷ []) ≡ Some (ExitsTooSmall (place_of 0 0) 3)
unfolding routine_fault step taken taken_within each_place gathered is_done_within closure lead_within
records_exit = refl

records_no_gap : program_fault 0 records
    (record_routine (replicate 8 0x01) ∷ records_routine (SeqOf 0 One 2) ∷ element_routine ∷ [])
    ≡ Some (EntryOutside (place_of 0 1) 1)
unfolding routine_fault step taken taken_within each_place gathered is_done_within closure lead_within
records_no_gap = refl

-- ---- programs that deceive

-- an enumeration of 3
one_more_enumerator : program_fault 0 (nodes.Enum 3 ∷ []) (free 0 (Align Four ∷ EnumWord 4 ∷ []) ∷ [])
    ≡ Some (WrongWork (place_of 0 0) 1)
unfolding routine_fault step taken taken_within each_place gathered is_done_within
one_more_enumerator = refl

octet_as_boolean : program_fault 0 (nodes.Boolean ∷ []) (free 0 (Octets 1 ∷ []) ∷ [])
    ≡ Some (WrongWork (place_of 0 0) 0)
unfolding routine_fault step taken taken_within each_place gathered is_done_within
octet_as_boolean = refl

-- a union with a short at TRUE, and no default
abbrev maybe : List Node
maybe = nodes.Boolean ∷ nodes.Integer Two true ∷ nodes.Union 0 ((pos 1, 1) ∷ []) None ∷ []

abbrev maybe_short : Routine
maybe_short = free 1 (Align Two ∷ Words Two 1 ∷ [])

maybe_default : program_fault 0 maybe (free 2 (Switch discs.Boolean ((pos 1, 1) ∷ []) (Some 1) ∷ []) ∷ maybe_short ∷ [])
    ≡ Some (WrongWork (place_of 0 0) 0)
unfolding routine_fault step taken taken_within each_place gathered is_done_within
maybe_default = refl

maybe_whole : program_fault 0 maybe (free 2 (Switch discs.Boolean ((pos 1, 1) ∷ []) None ∷ []) ∷ maybe_short ∷ [])
    ≡ None
unfolding routine_fault step taken taken_within each_place gathered is_done_within lead_within
maybe_whole = refl

-- a sequence of octets of at most 4
octets_without_bound : program_fault 0 (nodes.Octet ∷ nodes.Seq 0 4 ∷ []) (free 1 (Align Four ∷ SeqOctets 0 ∷ []) ∷ [])
    ≡ Some (WrongWork (place_of 0 0) 1)
unfolding routine_fault step taken taken_within each_place gathered is_done_within is_one
octets_without_bound = refl

-- two words for a number and an enumerator
enum_as_word : program_fault 0 (nodes.Integer Four false ∷ nodes.Enum 3 ∷ nodes.Struct (0 ∷ 1 ∷ []) ∷ [])
    (free 2 (Align Four ∷ Words Four 2 ∷ []) ∷ []) ≡ Some (WrongWork (place_of 0 0) 1)
unfolding routine_fault step taken taken_within each_place gathered is_done_within
enum_as_word = refl

-- the short at FALSE
maybe_other_label : program_fault 0 maybe (free 2 (Switch discs.Boolean ((pos 0, 1) ∷ []) None ∷ []) ∷ maybe_short ∷ [])
    ≡ Some (WrongWork (place_of 0 0) 0)
unfolding routine_fault step taken taken_within each_place gathered is_done_within
maybe_other_label = refl

-- at TRUE a union instead of the short
maybe_other_node : program_fault 0 maybe (free 2 (Switch discs.Boolean ((pos 1, 0) ∷ []) None ∷ []) ∷ maybe_short ∷ [])
    ≡ Some (WrongWork (place_of 0 0) 0)
unfolding routine_fault step taken taken_within each_place gathered is_done_within
maybe_other_node = refl

-- ---- where octets may end

-- positions n octets further than the entry, modulo 8
abbrev further : ℕ → List ℕ
further n = map (λ p. 2 ^ ((p + n) % 8)) (0 ∷ 1 ∷ 2 ∷ 3 ∷ 4 ∷ 5 ∷ 6 ∷ 7 ∷ [])

abbrev ending : ℕ → List ℕ → List Instr → Routine
ending node exits code = record { node = node; entry = 255; exits = exits; rank = 0; code = code }

-- a union with an octet at each value
abbrev either : List Node
either = nodes.Boolean ∷ nodes.Octet ∷ nodes.Union 0 ((pos 0, 1) ∷ (pos 1, 1) ∷ []) None ∷ []

-- a member follows always
either_ends : program_fault 0 either
    (ending 2 (further 2) (Switch discs.Boolean ((pos 0, 1) ∷ (pos 1, 1) ∷ []) None ∷ [])
    ∷ ending 1 (further 1) (Octets 1 ∷ []) ∷ []) ≡ None
unfolding routine_fault step taken taken_within each_place gathered is_done_within
either_ends = refl

-- a union with an octet at TRUE
abbrev one_of_two : List Node
one_of_two = nodes.Boolean ∷ nodes.Octet ∷ nodes.Union 0 ((pos 1, 1) ∷ []) None ∷ []

-- at FALSE it ends behind the discriminator
no_member_ends : program_fault 0 one_of_two
    (ending 2 (further 2) (Switch discs.Boolean ((pos 1, 1) ∷ []) None ∷ []) ∷ ending 1 (further 1) (Octets 1 ∷ [])
    ∷ []) ≡ Some (ExitsTooSmall (place_of 0 0) 0)
unfolding routine_fault step taken taken_within each_place gathered is_done_within
no_member_ends = refl

-- five octets
abbrev five : List Node
five = nodes.Octet ∷ nodes.Array 0 5 ∷ []

five_times : program_fault 0 five (ending 1 (further 5) (Times 5 1 ∷ []) ∷ ending 0 (further 1) (Octets 1 ∷ []) ∷ [])
    ≡ None
unfolding routine_fault step taken taken_within each_place gathered is_done_within enters_times times_left lead_within
five_times = refl

-- as if it were done once
five_times_once : program_fault 0 five
    (ending 1 (further 1) (Times 5 1 ∷ []) ∷ ending 0 (further 1) (Octets 1 ∷ []) ∷ [])
    ≡ Some (ExitsTooSmall (place_of 0 0) 0)
unfolding routine_fault step taken taken_within each_place gathered is_done_within enters_times times_left lead_within
five_times_once = refl

-- a text may end anywhere
text_behind_text : program_fault 0 (nodes.Text 0 ∷ nodes.Struct (0 ∷ 0 ∷ []) ∷ [])
    (free 1 (Align Four ∷ Text 0 ∷ Text 0 ∷ []) ∷ []) ≡ Some (WrongPadding (place_of 0 0) 2)
unfolding routine_fault step taken taken_within each_place gathered is_done_within
text_behind_text = refl

-- ---- a plain program

-- an enumeration, an octet, a string, an array, a sequence, a union, a frame of members and an empty one
abbrev kinds : List Node
kinds = nodes.Enum 3 ∷ nodes.Octet ∷ nodes.Text 0 ∷ nodes.Array 0 4 ∷ nodes.Seq 3 10
    ∷ nodes.Union 0 ((pos 0, 1) ∷ (pos 2, 2) ∷ []) None ∷ nodes.Frame (4 ∷ 5 ∷ []) ∷ nodes.Frame [] ∷ []

kinds_pass : program_fault 0 kinds (plain_program kinds) ≡ None
unfolding routine_fault step taken taken_within each_place gathered is_done_within closure enters_times times_left
    lead_within
kinds_pass = refl

kinds_named : name_fault (plain_program kinds) 7 ≡ None
kinds_named = refl
